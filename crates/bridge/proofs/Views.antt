-- The views of the search are the views of the definitions; so are their parts, answer sets, levels and bodies, one by one.
-- Each part is one condition on every rule, on masks and on entries, carried from the words to the book's lists (Rules).
use mathlib.Core.Path.{◌≡◌, refl}
use mathlib.Core.List.{List, ◌++◌}
use mathlib.Core.Logic.{◌↔◌, ⊎_elim}
use Prim.Native.Nat.{ℕ}
use native.Mathlib.Nat.{le_refl}
use Rattle.logic.specs.Lists.{Every}
use Rattle.logic.proofs.Members.{every_map, among-left}
use Rattle.sets.specs.declared.Pair.{Pair}
use Rattle.sets.specs.Sets.{bit_of, Within, Apart}
use Rattle.sets.specs.Pairs.{Sub, Off}
use Rattle.sets.proofs.Words.{contained-within, separate-apart, apart-separate}
use Rattle.sets.proofs.Pairs.{sub_trans}
use Rattle.meaning.specs.Literals.{pos, neg, Conclusions, is_in, ◌⊆◌, Consistent}
use Rattle.meaning.specs.Rules.{Rule, Satisfied}
use Rattle.meaning.specs.AnswerSets.{reduct, Closed, Breaks}
use Rattle.meaning.specs.Preferences.{counting}
use Rattle.meaning.specs.Books.{Book, Lawful, conclusions, applied}
use Rattle.meaning.proofs.Closed.{every_two}
use Rattle.meaning.specs.Views.{Answers, ranking, RankedWithin, Bodies, View}
use Rattle.meaning.proofs.Conditions.{ranked-more, within-plain}
use Rattle.masks.specs.Views.{Fires, MaskClosed, Taken, Level, Lined, Uncrossed, MaskView}
use Rattle.bridge.specs.Packed.{Tagged, masks_of, Packs}
use Rattle.bridge.specs.Ranks.{RanksOf}
use Rattle.bridge.specs.Answers.{MaskAnswers, MaskBodies}
use Rattle.bridge.proofs.Entries.{in_one, fires-are, heads-are}
use Rattle.bridge.proofs.Reducts.{closed-reduct, Strictly, strictly-asks, strictly-unbroken, asks-strictly}
use Rattle.bridge.proofs.Rules.{IfUsed, IfTaken, rules-same, exceptions-same}
use Rattle.bridge.proofs.Levels.{cleared-same}
use Rattle.bridge.proofs.Lines.{lined-or-plain, uncrossed-same}

-- A view of the search is its four parts.
pub view-parts : (ws : List ℕ) (n : ℕ) (ranks : List ℕ) (v : Pair)
    → MaskView ws n ranks v ↔ (MaskAnswers ws n v × Level ranks v.taken × MaskBodies ws n v × (Lined ws n → Uncrossed ws n ranks v))
view-parts ws n ranks v = (
  λ x. (
    record { coherent = x.coherent; rules = λ k h. record { closed = (x.rules k h).closed }; minimal = x.minimal },
    x.level,
    λ k h. record { met = (x.rules k h).met },
    x.lined,
  ),
  λ y. record {
    coherent = y.0.coherent;
    rules = λ k h. record { closed = (y.0.rules k h).closed; met = (y.2 k h).met };
    minimal = y.0.minimal;
    level = y.1;
    lined = y.3;
  },
)

module _ (b : Book) (ws : List ℕ) (n : ℕ) (pk : Packs b ws n) (p : Pair) where
  abbrev s : Conclusions
  s = conclusions p

  -- ---- each rule
  fires-body : (x : Tagged) → Fires (masks_of x) p p ↔ (Within x.own p.taken × Satisfied s x.rule.body)
  fires-body x = let k = fires-are x p p in (
    λ f. let h = k.0 f in (h.0, record { needs = h.2; bars = h.1 }),
    λ h. k.1 (h.0, h.1.bars, h.1.needs),
  )

  closed_is : (c : Pair) → c.taken ≡ p.taken → (x : Tagged) → (Fires (masks_of x) p c → Off (masks_of x).head c → ⊥) ↔ IfUsed (Strictly s (conclusions c)) p.taken x
  closed_is c e x = let k = fires-are x p c in let h = heads-are x c in (
    λ f i o m. h.0 (f (k.1 (rw e i, o, m))),
    λ f y. let g = k.0 y in h.1 (f (rw e at g.0) g.1 g.2),
  )

  met-is : (x : Tagged) → (Taken (masks_of x) p → Fires (masks_of x) p p) ↔ IfTaken (λ r. Satisfied s r.body) p.taken x
  unfolding masks_of
  met-is x = let k = fires-body x in (λ f n. k.0 (f n), λ f n. k.1 (f n))

  -- ---- all rules
  pub closed_same : (c : Pair) → c.taken ≡ p.taken → MaskClosed ws n p c ↔ Every (Strictly s (conclusions c)) (b.plain ++ applied b p)
  closed_same c e = rules-same b ws n pk p.taken (λ r. Fires r p c → Off r.head c → ⊥) (Strictly s (conclusions c)) (closed_is c e)

  -- Verdict 3: every body in T is satisfied.
  pub bodies-same : MaskBodies ws n p ↔ Bodies b p
  bodies-same =
      let e = exceptions-same b ws n pk p.taken (λ r. Taken r p → Fires r p p) (λ r. Satisfied s r.body) met-is in
      (λ x. e.0 (λ k h. (x k h).met), λ y k h. record { met = e.1 y k h })

  -- ---- minimal sets
  sub_of : (c : Pair) → c.taken ≡ p.taken → s ⊆ conclusions c → Sub p c
  unfolding is_in
  sub_of c e f = record {
    held = contained-within p.held c.held (λ i. f (pos i));
    denied = contained-within p.denied c.denied (λ i. f (neg i));
    taken = λ i. rw e (le_refl (bit_of p.taken i));
  }

  sub_in : (c : Pair) → c.taken ≡ p.taken → conclusions c ⊆ s → Sub c p
  unfolding is_in
  sub_in c e f = record {
    held = contained-within c.held p.held (λ i. f (pos i));
    denied = contained-within c.denied p.denied (λ i. f (neg i));
    taken = λ i. rw e (le_refl (bit_of p.taken i));
  }

  in-sub : (c : Pair) → Sub c p → conclusions c ⊆ s
  in-sub c f l m = (in_one l p).0 (sub_trans ((in_one l c).1 m) f)

  abbrev rs : List Rule
  rs = b.plain ++ applied b p

  -- Where S breaks no constraint, the closed sets within S are those of the masks.
  closed-within : (t : Conclusions) → t ⊆ s → Every (λ r. Breaks s r.body r.heads → ⊥) rs → Closed (reduct s rs) t → Every (Strictly s t) rs
  closed-within t f u h = every_two (asks-strictly s t f) rs ((closed-reduct s t rs).0 h) u

  within-closed : (t : Conclusions) → Every (Strictly s t) rs → Closed (reduct s rs) t
  within-closed t h = (closed-reduct s t rs).1 (every_map (strictly-asks s t) rs h)

  coherent-same : Apart p.held p.denied ↔ Consistent s
  unfolding is_in
  coherent-same = (apart-separate p.held p.denied, separate-apart p.held p.denied)

  -- Verdict 1: S is an answer set of the plain rules with those of T added.
  pub answers-same : MaskAnswers ws n p ↔ Answers b p
  answers-same = (
    λ x. let h = (closed_same p refl).0 (λ k i. (x.rules k i).closed) in let u = every_map (strictly-unbroken s) rs h in
        record {
          consistent = coherent-same.0 x.coherent;
          minimal = record {
            closed = within-closed s h;
            minimal = λ t g f l m. let c : Pair = record { taken = p.taken; held = t.held; denied = t.denied } in
                (in_one l c).0 (sub_trans ((in_one l p).1 m) (x.minimal c refl (sub_in c refl f) ((closed_same c refl).1 (closed-within t f u g))));
          };
          unbroken = u;
        },
    λ y. record {
      coherent = coherent-same.1 y.consistent;
      rules = λ k h. record { closed = (closed_same p refl).1 (closed-within s (λ l m. m) y.unbroken y.minimal.closed) k h };
      minimal = λ c e f h. sub_of c e (y.minimal.minimal (conclusions c) (within-closed (conclusions c) ((closed_same c e).0 h)) (in-sub c f));
    },
  )

  module _ (ranks : List ℕ) (o : RanksOf b ranks) (l : Lawful b p) where
    -- Verdict 2: no member of T outranks a member.
    pub unranked-same : (Level ranks p.taken × (Lined ws n → Uncrossed ws n ranks p)) ↔ (RankedWithin b p → ⊥)
    unranked-same = let q = cleared-same b ranks o p.taken p.taken l.exceptions in let u = uncrossed-same b ws n pk.lines ranks o p in (
      λ x r. ⊎_elim (λ y. u.0 (x.1 y) r) (λ e. q.0 x.0 ((within-plain b e p).0 r)) (lined-or-plain b ws n pk.lines),
      λ f. (
        q.1 (λ r. f (ranked-more b.preferences (ranking b p) (λ k m. among-left k b.preferences (counting s b.conditional) m) (λ i m. m) r)),
        λ y. u.1 f,
      ),
    )

    -- A lawful pair is a view of the search exactly where it is a view.
    pub view-same : MaskView ws n ranks p ↔ View b p
    view-same = let q = view-parts ws n ranks p in (
      λ x. let y = q.0 x in record { lawful = l; answers = answers-same.0 y.0; unranked = unranked-same.0 (y.1, y.3); bodies = bodies-same.0 y.2 },
      λ y. let u = unranked-same.1 y.unranked in q.1 (answers-same.1 y.answers, u.0, bodies-same.1 y.bodies, u.1),
    )
