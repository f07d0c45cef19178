-- Each step on bounds loses no set that answers the rows.
use mathlib.Core.Path.{◌≡◌}
use Rattle.std.specs.Prelude.{Some, None}
use mathlib.Core.Bool.{Bool, true, false}
use mathlib.Core.List.{List}
use mathlib.Core.Logic.{⊎_elim}
use Prim.Native.Nat.{ℕ, ◌-◌, ◌<◌, ◌≤◌}
use native.Mathlib.Omega.{arith}
use Rattle.logic.specs.Tests.{Decides}
use Rattle.sets.specs.declared.Pair.{Pair}
use Rattle.sets.specs.Pairs.{Sub, Off, meet_of, minus_of, Atom}
use Rattle.sets.proofs.Digits.{lt-or-le}
use Rattle.sets.proofs.Pairs.{sub_refl, sub_trans, join-sub, join-l, meet-sub, meet-l, sub-of-minus, off-sub, off-sym, off-of-meet}
use Rattle.masks.specs.declared.Bounds.{Bounds}
use Rattle.bounds.specs.Sound.{Keeps, into_of, out_of, narrow_of}
use Rattle.bounds.proofs.Steps.{keeps-less, in-into, in-out}
use Rattle.least.specs.declared.rows.Row.{Row}
use Rattle.least.specs.Rows.{row_at, Unanswered, AnswersRow, AnswersRows}
use Rattle.least.specs.Search.{Has, Lacks, Lowered, Asking}

module _ (head : Pair) (x y : Bounds) where
  pub given-none : (w : Bool) → Decides w (Off head x.hi) → w ≡ true → Keeps (Has head) x y
  given-none w d e = record { kept = λ c k i. absurd (k.some (off-sub (sub_refl _) i.hi (d.yes e))) }

  pub given-one : (m : Pair) (w : Bool) → m ≡ meet_of head x.hi → (w ≡ true → Atom m) → w ≡ true → y ≡ into_of x m → Keeps (Has head) x y
  given-one m w em a ew ey =
      rw ey (record { kept = λ c k i. in-into (⊎_elim (λ (s : Sub m c). s) (λ (s : Off m c). absurd (k.some (off-of-meet head x.hi i.hi (rw em at s)))) (a ew c)) i })

  pub lacking-one : (m : Pair) (w : Bool) → m ≡ minus_of head x.lo → (w ≡ true → Atom m) → w ≡ true → y ≡ out_of x m → Keeps (Lacks head) x y
  lacking-one m w em a ew ey =
      rw ey (record { kept = λ c k i. in-out (off-sym (⊎_elim (λ (s : Sub m c). absurd (k.fails (sub-of-minus head x.lo (rw em at s) i.lo))) (λ (s : Off m c). s) (a ew c))) i })

module _ (r : Row) (x y : Bounds) where
  pub step_given : (t : Bool) → Decides t (Sub r.need x.lo) → t ≡ true → Keeps (Has r.head) x y → Keeps (AnswersRow r) x y
  step_given t d e k = record { kept = λ c q i. k.kept c (record { some = λ o. q.answers (record { needed = sub_trans (d.yes e) i.lo; lacks = o }) }) i }

  pub step-lacking : (t : Bool) → Decides t (Off r.head x.hi) → t ≡ true → Keeps (Lacks r.need) x y → Keeps (AnswersRow r) x y
  step-lacking t d e k = record { kept = λ c q i. k.kept c (record { fails = λ s. q.answers (record { needed = s; lacks = off-sub (sub_refl _) i.hi (d.yes e) }) }) i }

module _ {rs : List ℕ} {m : ℕ} where
  pub by_row : {x y : Bounds} (k : ℕ) (r : Row) → k < m → r ≡ row_at rs k → Keeps (AnswersRow r) x y → Keeps (AnswersRows rs m) x y
  by_row k r h e = keeps-less (λ c w. rw e (w.each k h))

  pub narrowed : (x y z : Bounds) → Keeps (AnswersRows rs m) x y → z ≡ narrow_of x y → Lowered rs m x z
  unfolding narrow_of
  narrowed x y z f e =
      rw e (record {
        keeps = record { kept = λ c w i. let j = f.kept c w i in record { lo = join-sub i.lo j.lo; hi = meet-sub i.hi j.hi } };
        lo = join-l _ _;
        hi = meet-l _ _;
      })

-- ---- which row asks, from the last
-- The set c answers the rows from k to m.
pub record AnswersFrom (rs : List ℕ) (k m : ℕ) (c : Pair) : Type 0 where
  pub each : (j : ℕ) → k ≤ j → j < m → AnswersRow (row_at rs j) c

module _ (rs : List ℕ) (m : ℕ) (c : Pair) where
  pub answers-none : AnswersFrom rs m m c
  answers-none = record { each = λ j h l. absurd (omega arith) }

  module _ (k : ℕ) (h : 0 < k) (r : Row) (w : Bool) (e : r ≡ row_at rs (k - 1)) (d : Decides w (Unanswered r c)) where
    pub answers-turn : AnswersFrom rs k m c → w ≡ false → AnswersFrom rs (k - 1) m c
    answers-turn f q = record {
      each = λ j g l. ⊎_elim
          (λ (x : j < k). let i : j ≡ k - 1 = omega arith in let a : AnswersRow r c = record { answers = d.no q } in rw i (rw e at a))
          (λ (x : k ≤ j). f.each j x l) (lt-or-le j k);
    }

    pub asking-here : k ≤ m → w ≡ true → Asking rs m c (Some (k - 1))
    asking-here l q = record { none = λ i. cc; one = λ j i. let f : k - 1 ≡ j = cc in (omega arith, rw f at (rw e at (d.yes q))) }

  pub asking-none : (k : ℕ) → k ≤ 0 → AnswersFrom rs k m c → Asking rs m c None
  asking-none k h f = record { none = λ i. record { each = λ j l. f.each j (omega arith) l }; one = λ j i. cc }
