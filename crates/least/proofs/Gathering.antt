-- The rows say what the rules say: a rule that cannot ask is answered by every set below, and one that can is answered where its row is.
use mathlib.Core.Path.{◌≡◌, refl, ◌∙◌}
use mathlib.Core.Bool.{Bool, true, false, not}
use mathlib.Core.List.{List}
use Prim.Native.Nat.{ℕ, ◌+◌, ◌*◌, ◌<◌, ◌≤◌}
use native.Mathlib.Nat.{le_refl, le_trans}
use native.Mathlib.Omega.{arith}
use lib.ListN.{length, get_or, set, length-set}
use lib.Seq.{get_or-set_same, get_or-set_other}
use borrow.Author.Count.{below_more}
use Rattle.logic.specs.Tests.{Decides}
use Rattle.logic.proofs.Decide.{reworded}
use Rattle.sets.specs.declared.Pair.{Pair}
use Rattle.sets.specs.Pairs.{Sub, Off, meet_of}
use Rattle.sets.proofs.Words as N
use Rattle.sets.proofs.Pairs.{sub_refl, off-sub, off-sym}
use Rattle.masks.specs.declared.Masks.{Masks}
use Rattle.masks.specs.declared.Bounds.{Bounds}
use Rattle.masks.specs.Views.{masks_at, Fires}
use Rattle.masks.proofs.Booleans.{refused, granted, decides-false}
use Rattle.bounds.specs.Sound.{In}
use Rattle.least.specs.declared.rows.Row.{Row}
use Rattle.least.specs.Founded.{Answers, AnswersAll}
use Rattle.least.specs.Rows.{row_at, put_at, row_of, CanAsk, Unanswered, AnswersRow, under, Gathered}

-- ---- a row that is put
module _ (rs : List ℕ) (k : ℕ) (r : Row) where
  abbrev one : List ℕ
  one = set rs (k * 4) r.need.held

  abbrev two : List ℕ
  two = set one (k * 4 + 1) r.need.denied

  abbrev three : List ℕ
  three = set two (k * 4 + 2) r.head.held

  abbrev four : List ℕ
  four = set three (k * 4 + 3) r.head.denied

  not_last : (p : ℕ) → (p ≡ k * 4 + 3 → ⊥) → get_or four p 0 ≡ get_or three p 0
  not_last p f = get_or-set_other three (k * 4 + 3) p r.head.denied 0 f

  not_third : (p : ℕ) → (p ≡ k * 4 + 2 → ⊥) → get_or three p 0 ≡ get_or two p 0
  not_third p f = get_or-set_other two (k * 4 + 2) p r.head.held 0 f

  not-second : (p : ℕ) → (p ≡ k * 4 + 1 → ⊥) → get_or two p 0 ≡ get_or one p 0
  not-second p f = get_or-set_other one (k * 4 + 1) p r.need.denied 0 f

  elsewhere : (p : ℕ) → p < k * 4 → get_or four p 0 ≡ get_or rs p 0
  elsewhere p h =
      not_last p (λ e. omega arith) ∙ not_third p (λ e. omega arith) ∙ not-second p (λ e. omega arith)
      ∙ get_or-set_other rs (k * 4) p r.need.held 0 (λ e. omega arith)

  pub put-else : (j : ℕ) → j < k → row_at (put_at rs k r) j ≡ row_at rs j
  unfolding row_at put_at
  put-else j h = rw (elsewhere (j * 4) (omega arith), elsewhere (j * 4 + 1) (omega arith), elsewhere (j * 4 + 2) (omega arith), elsewhere (j * 4 + 3) (omega arith)) refl

  module _ (h : k * 4 + 4 ≤ length rs) where
    first : get_or four (k * 4) 0 ≡ r.need.held
    first = not_last _ (λ e. omega arith) ∙ not_third _ (λ e. omega arith) ∙ not-second _ (λ e. omega arith) ∙ get_or-set_same rs (k * 4) r.need.held 0 (omega arith)

    second : get_or four (k * 4 + 1) 0 ≡ r.need.denied
    second = not_last _ (λ e. omega arith) ∙ not_third _ (λ e. omega arith) ∙ get_or-set_same one (k * 4 + 1) r.need.denied 0 (simp length-set (omega arith))

    third : get_or four (k * 4 + 2) 0 ≡ r.head.held
    third = not_last _ (λ e. omega arith) ∙ get_or-set_same two (k * 4 + 2) r.head.held 0 (simp length-set (omega arith))

    fourth : get_or four (k * 4 + 3) 0 ≡ r.head.denied
    fourth = get_or-set_same three (k * 4 + 3) r.head.denied 0 (simp length-set (omega arith))

    pub put-there : row_at (put_at rs k r) k ≡ record {
      need = record { taken = 0; held = r.need.held; denied = r.need.denied };
      head = record { taken = 0; held = r.head.held; denied = r.head.denied };
    }
    unfolding row_at put_at
    put-there = rw (first, second, third, fourth) refl

-- ---- a rule and its row
module _ {r : Masks} {b : Bounds} where
  pub mute : (CanAsk r b → ⊥) → (c : Pair) → Answers r b c
  mute f c a o = f (record { possible = a.possible; headed = a.headed; apart = off-sub a.needed (sub_refl _) (off-sym o) })

  module _ (s : CanAsk r b) (z : r.head.taken ≡ 0) {c : Pair} (i : In (under b) c) where
    pub row-said : Answers r b c → AnswersRow (row_of r b) c
    unfolding row_of meet_of
    row-said f = record {
      answers = λ u. f
          (record { possible = s.possible; headed = s.headed; needed = record { held = u.needed.held; denied = u.needed.denied; taken = λ j. le_trans (N.and_r r.need.taken b.lo.taken j) (i.lo.taken j) } })
          (record { held = N.off-of-meet _ _ _ i.hi.held u.lacks.held; denied = N.off-of-meet _ _ _ i.hi.denied u.lacks.denied; taken = rw z (N.none-off _) });
    }

    pub row-meant : AnswersRow (row_of r b) c → Answers r b c
    unfolding row_of meet_of
    row-meant h a o = h.answers (record {
      needed = record { held = a.needed.held; denied = a.needed.denied; taken = N.none-sub _ };
      lacks = record {
        held = N.off-sub _ _ _ _ (N.and_l _ _) (λ j. le_refl _) o.held;
        denied = N.off-sub _ _ _ _ (N.and_l _ _) (λ j. le_refl _) o.denied;
        taken = N.none-off _;
      };
    })

-- ---- the tests
module _ (r : Masks) (b : Bounds) (w : Bool) (d : Decides w (Off r.head b.lo)) where
  pub asks-headless : w ≡ true → Decides false (CanAsk r b)
  asks-headless e = decides-false (λ a. a.headed (d.yes e))

  module _ (e : w ≡ false) (u : Bool) (f : Decides u (Fires r b.lo b.hi)) where
    pub asks-idle : not u ≡ true → Decides false (CanAsk r b)
    asks-idle g = decides-false (λ a. refused f g a.possible)

    pub asks-apart : not u ≡ false → (m : Pair) → m ≡ meet_of r.need b.lo → (o : Bool) → Decides o (Off m r.head) → Decides o (CanAsk r b)
    asks-apart g m em o h = reworded h (λ p. record { possible = granted f g; headed = d.no e; apart = rw em at p }) (λ a. rw em a.apart)

module _ (r : Row) (c : Pair) (w : Bool) (d : Decides w (Off r.head c)) where
  pub unanswered-has : not w ≡ true → Decides false (Unanswered r c)
  unanswered-has e = decides-false (λ u. refused d e u.lacks)

  pub unanswered-need : not w ≡ false → (o : Bool) → Decides o (Sub r.need c) → Decides o (Unanswered r c)
  unanswered-need e o h = reworded h (λ s. record { needed = s; lacks = granted d e }) (λ u. u.needed)

-- ---- the gathering
pub gathered_none : (ws : List ℕ) (b : Bounds) (rs : List ℕ) → Gathered ws 0 b rs 0
gathered_none ws b rs = record { few = le_refl 0; said = λ c i a. record { each = λ j h. absurd (omega arith) }; meant = λ c i a j h. absurd (omega arith) }

module _ (ws : List ℕ) (k : ℕ) (b : Bounds) (rs : List ℕ) (m : ℕ) (g : Gathered ws k b rs m) (r : Masks) (e : r ≡ masks_at ws k) (w : Bool) (d : Decides w (CanAsk r b)) where
  fewer : {c : Pair} → AnswersAll ws (k + 1) b c → AnswersAll ws k b c
  fewer a j h = a j (omega arith)

  pub gathered-mute : w ≡ false → Gathered ws (k + 1) b rs m
  gathered-mute q = record {
    few = let f = g.few in omega arith;
    said = λ c i a. g.said c i (fewer a);
    meant = λ c i a. below_more (λ j. Answers (masks_at ws j) b c) k (g.meant c i a) (rw e at (mute (d.no q) c));
  }

  module _ (q : w ≡ true) (h : m * 4 + 4 ≤ length rs) (o : Row) (eo : o ≡ row_of r b) (rs' : List ℕ) (e' : rs' ≡ put_at rs m o) where
    headless : r.head.taken ≡ 0
    unfolding masks_at
    headless = rw e refl

    old : (j : ℕ) → j < m → row_at rs' j ≡ row_at rs j
    old j l = rw e' (put-else rs m o j l)

    new : row_at rs' m ≡ row_of r b
    unfolding row_of
    new = rw (e', eo) (put-there rs m (row_of r b) h)

    pub gathered-put : Gathered ws (k + 1) b rs' (m + 1)
    gathered-put = record {
      few = let f = g.few in omega arith;
      said = λ c i a. record {
        each = below_more (λ j. AnswersRow (row_at rs' j) c) m (λ j l. rw (old j l) ((g.said c i (fewer a)).each j l))
            (rw new (row-said (d.yes q) headless i (rw e (a k (omega arith)))));
      };
      meant = λ c i a. below_more (λ j. Answers (masks_at ws j) b c) k
          (g.meant c i (record { each = λ j l. rw (old j l) at (a.each j (omega arith)) }))
          (rw e at (row-meant (d.yes q) headless i (rw new at (a.each m (omega arith)))));
    }

pub gathered-done : (ws : List ℕ) (k : ℕ) (b : Bounds) (rs : List ℕ) (m n : ℕ) → k ≤ n → n ≤ k → Gathered ws k b rs m → Gathered ws n b rs m
gathered-done ws k b rs m n h l g = let e : n ≡ k = omega arith in rw e g
