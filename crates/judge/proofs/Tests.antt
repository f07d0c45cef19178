-- Each test of the code is the condition of its verdict, by the bridge; where a test fails, the condition is decided, so the verdict's own
-- condition holds.
use mathlib.Core.Path.{◌≡◌, sym}
use mathlib.Core.Bool.{Bool, true, false, not}
use mathlib.Core.List.{List}
use mathlib.Core.Logic.{◌⊎◌, inl, inr}
use Prim.Native.Nat.{ℕ}
use Rattle.logic.specs.Tests.{Decides}
use Rattle.logic.proofs.Decide.{holds-or-not, reworded}
use Rattle.sets.specs.declared.Pair.{Pair}
use Rattle.masks.specs.declared.Bounds.{Bounds}
use Rattle.masks.specs.Views.{Level, Lined, Uncrossed}
use Rattle.masks.proofs.Booleans.{refused, granted, decides-false}
use Rattle.bridge.specs.Answers.{MaskAnswers, MaskBodies}
use Rattle.bridge.proofs.Views.{answers-same, bodies-same, unranked-same}
use Rattle.admissible.specs.Admissible.{Minimal, Undominated, Stands, Unexceeded}
use Rattle.meaning.specs.Books.{Book, Lawful}
use Rattle.meaning.specs.Views.{Answers, RankedWithin, View}
use Rattle.meaning.specs.Resolutions.{Dominated, Verdict, no_answer_set, ranked_within, body_unsatisfied, dominated, not_minimal, resolution}
use Rattle.meaning.proofs.Ranks.{decides-within}
use Rattle.meaning.proofs.Twins.{decides-dominated, decides-exceeded}
use Rattle.meaning.proofs.Laws.{verdict-only}
use Rattle.resolution.specs.Rooted.{Rooted}
use Rattle.resolution.proofs.Resolutions.{minimal-same, stands_same, undominated-same, unexceeded-same}
use Rattle.judge.specs.Judged.{Judged, Free, Smallest}

-- What is decided and not refuted holds.
must : {P : Type 0} → P ⊎ (P → ⊥) → ((P → ⊥) → ⊥) → P
must (inl p) n = p
must (inr q) n = absurd (n q)

-- ---- verdict 2: by P lines, then by Q lines
module _ {P Q : Type 0} (c : Bool) (d : Decides c P) where
  pub one-fails : not c ≡ true → Decides false (P × Q)
  one-fails e = decides-false (λ x. refused d e x.0)

  pub one_holds : not c ≡ false → (u : Bool) → Decides u Q → Decides u (P × Q)
  one_holds e u k = record { yes = λ h. (granted d e, k.yes h); no = λ h x. k.no h x.1 }

module _ (ws : List ℕ) (n : ℕ) (ranks : List ℕ) (root : Bounds) (p : Pair) where
  -- ---- the tests of verdicts 4 and 5, by lines or without
  module _ (u : Bool) where
    pub free-lined : Decides u (Stands ws n ranks root p) → Free ws n ranks root p u
    free-lined d = record { tells = λ b r. let f = stands_same b ws n ranks root r p in reworded d f.0 f.1 }

    pub free-plain : (Lined ws n → ⊥) → Decides u (Undominated ws n ranks root p.taken) → Free ws n ranks root p u
    free-plain l d = record { tells = λ b r. let f = undominated-same b ws n ranks root r l p in reworded d f.0 f.1 }

    pub smallest-lined : Decides u (Unexceeded ws n ranks root p.taken) → Smallest ws n ranks root p u
    smallest-lined d = record { tells = λ b r z. let f = unexceeded-same b ws n ranks root r p in reworded d f.0 f.1 }

    pub smallest-plain : (Lined ws n → ⊥) → Decides u (Minimal ws n ranks root p.taken) → Smallest ws n ranks root p u
    smallest-plain l d = record { tells = λ b r z. let f = minimal-same b ws n ranks root r l p z in reworded d f.0 f.1 }

  -- ---- verdicts 1, 2 and 3
  given : (k : ℕ) → ((b : Book) → Rooted b ws n ranks root → Lawful b p → Verdict b p k) → Judged ws n ranks root p k
  given k f = record { is = λ b r l. sym (verdict-only b p l k (f b r l)) }

  module _ (a : Bool) (da : Decides a (MaskAnswers ws n p)) where
    pub judged-1 : not a ≡ true → Judged ws n ranks root p 1
    judged-1 e = given 1 (λ b r l. no_answer_set (λ x. refused da e ((answers-same b ws n r.packs p).1 x)))

    module _ (ea : not a ≡ false) (c : Bool) (dc : Decides c (Level ranks p.taken × (Lined ws n → Uncrossed ws n ranks p))) where
      answers_of : (b : Book) → Rooted b ws n ranks root → Answers b p
      answers_of b r = (answers-same b ws n r.packs p).0 (granted da ea)

      pub judged-2 : not c ≡ true → Judged ws n ranks root p 2
      judged-2 e = given 2 (λ b r l. ranked_within (answers_of b r)
          (must (holds-or-not (decides-within b p)) (λ x. refused dc e ((unranked-same b ws n r.packs p ranks r.ranked l).1 x))))

      module _ (ec : not c ≡ false) (s : Bool) (ds : Decides s (MaskBodies ws n p)) where
        unranked-of : (b : Book) → Rooted b ws n ranks root → Lawful b p → RankedWithin b p → ⊥
        unranked-of b r l = (unranked-same b ws n r.packs p ranks r.ranked l).0 (granted dc ec)

        pub judged-3 : not s ≡ true → Judged ws n ranks root p 3
        judged-3 e = given 3 (λ b r l. body_unsatisfied (answers_of b r) (unranked-of b r l) (λ x. refused ds e ((bodies-same b ws n r.packs p).1 x)))

        -- All three tests passed: the pair is a view.
        module _ (es : not s ≡ false) where
          view_of : (b : Book) → Rooted b ws n ranks root → Lawful b p → View b p
          view_of b r l = record {
            lawful = l;
            answers = answers_of b r;
            unranked = unranked-of b r l;
            bodies = (bodies-same b ws n r.packs p).0 (granted ds es);
          }

          module _ (u : Bool) (du : Free ws n ranks root p u) where
            pub judged-4 : not u ≡ true → Judged ws n ranks root p 4
            judged-4 e = given 4 (λ b r l. dominated (view_of b r l) (must (holds-or-not (decides-dominated b p)) (refused (du.tells b r) e)))

            module _ (eu : not u ≡ false) (m : Bool) (dm : Smallest ws n ranks root p m) where
              unbeaten : (b : Book) → Rooted b ws n ranks root → Dominated b p → ⊥
              unbeaten b r = granted (du.tells b r) eu

              pub judged-5 : not m ≡ true → Judged ws n ranks root p 5
              judged-5 e = given 5 (λ b r l. not_minimal (view_of b r l) (unbeaten b r) (must (holds-or-not (decides-exceeded b p)) (refused (dm.tells b r (unbeaten b r)) e)))

              pub judged-0 : not m ≡ false → Judged ws n ranks root p 0
              judged-0 e = given 0 (λ b r l. resolution (record { view = view_of b r l; undominated = unbeaten b r; minimal = granted (dm.tells b r (unbeaten b r)) e }))
