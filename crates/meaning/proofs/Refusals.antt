-- The refusal of a pair is the first that applies: its tests decide the conditions of document 01, so there is one answer.
use mathlib.Core.Path.{◌≡◌, refl}
use mathlib.Core.Bool.{Bool, true, false}
use mathlib.Core.Logic.{◌⊎◌, inl, inr, ⊎_elim}
use Prim.Native.Nat.{ℕ, ◌^◌, ◌<◌}
use native.Mathlib.Omega.{arith}
use lib.Dec.{ltb}
use lib.ListN.{length}
use Rattle.logic.specs.Tests.{Decides, both}
use Rattle.logic.proofs.Decide.{holds, fails, decides_and, decides-lt}
use Rattle.sets.specs.declared.Pair.{Pair}
use Rattle.meaning.specs.Literals.{Consistent}
use Rattle.meaning.specs.Books.{Book, conclusions, Lawful, PairRefused, past_exceptions, past_statements, shared}
use Rattle.meaning.specs.Twins.Verdicts.{apart, pair_turned, pair_refusal}
use Rattle.meaning.proofs.Twins.{decides-apart}

module _ (b : Book) (p : Pair) where
  -- The three tests.
  within-exceptions : Decides (ltb p.taken (2 ^ length b.exceptions)) (p.taken < 2 ^ length b.exceptions)
  within-exceptions = decides-lt _ _

  within-statements : Decides (both (ltb p.held (2 ^ b.statements)) (ltb p.denied (2 ^ b.statements))) ((p.held < 2 ^ b.statements) × (p.denied < 2 ^ b.statements))
  within-statements = decides_and (decides-lt _ _) (decides-lt _ _)

  nothing-shared : p.held < 2 ^ b.statements → Decides (apart b.statements (conclusions p)) (Consistent (conclusions p))
  nothing-shared h = decides-apart b.statements (conclusions p) h

  -- The pair is lawful and its refusal 0, or it is refused with the number.
  pub lawful-or-refused : (Lawful b p × (pair_refusal b p ≡ 0)) ⊎ PairRefused b p (pair_refusal b p)
  unfolding pair_refusal pair_turned
  lawful-or-refused =
      go (ltb p.taken (2 ^ length b.exceptions)) (both (ltb p.held (2 ^ b.statements)) (ltb p.denied (2 ^ b.statements)))
      (apart b.statements (conclusions p)) within-exceptions within-statements nothing-shared
    where
      go : (t s a : Bool) → Decides t (p.taken < 2 ^ length b.exceptions) → Decides s ((p.held < 2 ^ b.statements) × (p.denied < 2 ^ b.statements))
          → (p.held < 2 ^ b.statements → Decides a (Consistent (conclusions p))) → (Lawful b p × (pair_turned t s a ≡ 0)) ⊎ PairRefused b p (pair_turned t s a)
      go false s a x y z = inr (past_exceptions (x.no refl))
      go true false a x y z = inr (past_statements (x.yes refl) (y.no refl))
      go true true false x y z = let w = y.yes refl in inr (shared (x.yes refl) w.0 w.1 ((z w.0).no refl))
      go true true true x y z = let w = y.yes refl in inl (record { exceptions = x.yes refl; held = w.0; denied = w.1; apart = (z w.0).yes refl }, refl)

  -- A refusal that applies is the one that is computed.
  pub refusal-one : (k : ℕ) → PairRefused b p k → pair_refusal b p ≡ k
  unfolding pair_refusal pair_turned
  refusal-one k (past_exceptions n) = rw (fails within-exceptions n) refl
  refusal-one k (past_statements t n) = rw (holds within-exceptions t, fails within-statements n) refl
  refusal-one k (shared t h d n) = rw (holds within-exceptions t, holds within-statements (h, d), fails (nothing-shared h) n) refl

  pub lawful-none : Lawful b p → pair_refusal b p ≡ 0
  unfolding pair_refusal pair_turned
  lawful-none l = rw (holds within-exceptions l.exceptions, holds within-statements (l.held, l.denied), holds (nothing-shared l.held) l.apart) refl

  -- A lawful pair is not refused, and one that is not lawful is.
  pub lawful-kept : Lawful b p → (k : ℕ) → PairRefused b p k → ⊥
  lawful-kept l k (past_exceptions n) = n l.exceptions
  lawful-kept l k (past_statements t n) = n (l.held, l.denied)
  lawful-kept l k (shared t h d n) = n l.apart

  pub unlawful-refused : (Lawful b p → ⊥) → PairRefused b p (pair_refusal b p)
  unlawful-refused n = ⊎_elim (λ l. absurd (n l.0)) (λ r. r) lawful-or-refused

  -- A pair that no refusal applies to is lawful.
  never-zero : (k : ℕ) → PairRefused b p k → k ≡ 0 → ⊥
  never-zero k (past_exceptions n) e = omega arith
  never-zero k (past_statements t n) e = omega arith
  never-zero k (shared t h d n) e = omega arith

  pub none-lawful : pair_refusal b p ≡ 0 → Lawful b p
  none-lawful e = ⊎_elim (λ l. l.0) (λ r. absurd (never-zero (pair_refusal b p) r e)) lawful-or-refused
