-- The code's tests of a pair are document 01's conditions: a bit past k is a number not below 2 ^ k, a shared bit a common member.
use mathlib.Core.Path.{◌≡◌, sym}
use Prim.Native.Nat.{ℕ, ◌+◌, ◌*◌, ◌/◌, ◌%◌, ◌^◌, ◌<◌}
use native.Mathlib.Nat.{div-eq_of_lt, mod-lt}
use native.Mathlib.Omega.{arith}
use lib.Bits.{bit_and}
use lib.Pow.{split, pow_pos}
use Rattle.sets.specs.declared.Pair.{Pair}
use Rattle.sets.proofs.Words.{and_none, none-and, apart-separate, separate-apart}
use Rattle.meaning.specs.Literals.{is_in}
use Rattle.meaning.specs.Books.{past_exceptions, past_statements, shared}
use Rattle.meaning.proofs.Refusals.{refusal-one, lawful-none}
use Rattle.lawful.specs.declared.Unlawful.{Unlawful}
use Rattle.lawful.specs.declared.Unlawful.TheVariants.{PastExceptions, PastStatements, Shared}
use Rattle.lawful.specs.Refusals.{Refuses, number}

-- A number with no digit from place k on is below 2 ^ k, and the other way round.
small : (a k : ℕ) → a / 2 ^ k ≡ 0 → a < 2 ^ k
small a k e = let s : 0 * 2 ^ k + a % 2 ^ k ≡ a = rw e at (split a k) in omega (arith, mod-lt a (pow_pos k))

large : (a k : ℕ) → (a / 2 ^ k ≡ 0 → ⊥) → a < 2 ^ k → ⊥
large a k n l = n (div-eq_of_lt l)

module _ (s x : ℕ) (p : Pair) where
  pub past-x : (p.taken / 2 ^ x ≡ 0 → ⊥) → Refuses s x p 12
  past-x n = record { refusal = λ b es ex. sym (refusal-one b p 12 (past_exceptions (rw ex (large p.taken x n)))) }

  module _ (t : p.taken / 2 ^ x ≡ 0) where
    pub past-held : (p.held / 2 ^ s ≡ 0 → ⊥) → Refuses s x p 13
    past-held n = record { refusal = λ b es ex. sym (refusal-one b p 13 (past_statements (rw ex (small p.taken x t)) (rw es (λ l. large p.held s n l.0)))) }

    pub past-denied : (p.denied / 2 ^ s ≡ 0 → ⊥) → Refuses s x p 13
    past-denied n = record { refusal = λ b es ex. sym (refusal-one b p 13 (past_statements (rw ex (small p.taken x t)) (rw es (λ l. large p.denied s n l.1)))) }

    module _ (h : p.held / 2 ^ s ≡ 0) (d : p.denied / 2 ^ s ≡ 0) where
      pub both-signs : (bit_and p.held p.denied ≡ 0 → ⊥) → Refuses s x p 14
      unfolding is_in
      both-signs n = record {
        refusal = λ b es ex.
            sym (refusal-one b p 14 (shared (rw ex (small p.taken x t)) (rw es (small p.held s h)) (rw es (small p.denied s d))
            (λ c. n (none-and p.held p.denied (separate-apart p.held p.denied c)))));
      }

      pub none-applies : bit_and p.held p.denied ≡ 0 → Refuses s x p 0
      unfolding is_in
      none-applies e = record {
        refusal = λ b es ex.
            sym (lawful-none b p (record {
              exceptions = rw ex (small p.taken x t);
              held = rw es (small p.held s h);
              denied = rw es (small p.denied s d);
              apart = apart-separate p.held p.denied (and_none p.held p.denied e);
            }));
      }

-- No refusal has the number 0.
pub numbered : (u : Unlawful) → number u ≡ 0 → ⊥
numbered PastExceptions e = omega arith
numbered PastStatements e = omega arith
numbered Shared e = omega arith
