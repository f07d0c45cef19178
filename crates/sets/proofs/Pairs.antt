-- The laws of sets on the three words of a pair at once: all that the search needs to know of sets.
use mathlib.Core.Path.{◌≡◌, refl, ap, ◌∙◌}
use mathlib.Core.Bool.{Bool, true, false, not, ◌&&◌}
use borrow.Author.Tests.{eq-eqb}
use mathlib.Core.Logic.{inl, inr, ⊎_elim}
use Prim.Native.Nat.{ℕ, ◌^◌}
use native.Mathlib.Nat.{le_refl, le_trans}
use native.Mathlib.Omega.{arith}
use lib.Bits.{bit_and, bit_or}
use lib.Dec.{eqb}
use Rattle.logic.specs.Tests.{Decides}
use Rattle.logic.proofs.Decide.{decided}
use Rattle.sets.specs.declared.Pair.{Pair}
use Rattle.sets.specs.Sets.{without}
use Rattle.sets.specs.Pairs.{Sub, Off, join_of, meet_of, minus_of, Atom}
use Rattle.sets.proofs.Words as N
use Rattle.sets.proofs.Words.{decide, single, none-sub, none-off, minus-zero, zero_minus, and_none, none-and, or-zero}

-- ---- tests
-- the three words of a test
or-none : (x y z : ℕ) → bit_or (bit_or x y) z ≡ 0 → (x ≡ 0) × ((y ≡ 0) × (z ≡ 0))
or-none x y z e = let p = or-zero (bit_or x y) z e in let q = or-zero x y p.0 in (q.0, (q.1, p.1))

none_or : (x y z : ℕ) → x ≡ 0 → y ≡ 0 → z ≡ 0 → bit_or (bit_or x y) z ≡ 0
none_or x y z p q r = rw (p, q, r)

pub within-is : (a b : Pair) → Decides (eqb (bit_or (bit_or (without a.held b.held) (without a.denied b.denied)) (without a.taken b.taken)) 0) (Sub a b)
within-is a b =
    decide _ (Sub a b)
    (λ e. let p = or-none _ _ _ e in record { held = minus-zero _ _ p.0; denied = minus-zero _ _ p.1.0; taken = minus-zero _ _ p.1.1 })
    (λ f. none_or _ _ _ (zero_minus _ _ f.held) (zero_minus _ _ f.denied) (zero_minus _ _ f.taken))

pub apart-is : (a b : Pair) → Decides (eqb (bit_or (bit_or (bit_and a.held b.held) (bit_and a.denied b.denied)) (bit_and a.taken b.taken)) 0) (Off a b)
apart-is a b =
    decide _ (Off a b)
    (λ e. let p = or-none _ _ _ e in record { held = and_none _ _ p.0; denied = and_none _ _ p.1.0; taken = and_none _ _ p.1.1 })
    (λ f. none_or _ _ _ (none-and _ _ f.held) (none-and _ _ f.denied) (none-and _ _ f.taken))

pub pair : (a b : Pair) → a.held ≡ b.held → a.denied ≡ b.denied → a.taken ≡ b.taken → a ≡ b
pair a b p q r i = record { held = p i; denied = q i; taken = r i }

-- What `==` computes decides whether two pairs are equal.
pub equal-is : {a b : Pair} {o : Bool} → o ≡ (eqb a.taken b.taken && (eqb a.held b.held && eqb a.denied b.denied)) → Decides o (a ≡ b)
equal-is {a} {b} {o} e = rw e (decided yes (λ f. rw f (cc (eq-eqb b.taken b.taken refl, eq-eqb b.held b.held refl, eq-eqb b.denied b.denied refl))))
  where
    yes : (eqb a.taken b.taken && (eqb a.held b.held && eqb a.denied b.denied)) ≡ true → a ≡ b
    yes f = grind arith

-- The same of `!=`.
pub equal-not : {a b : Pair} {o : Bool} → o ≡ not (eqb a.taken b.taken && (eqb a.held b.held && eqb a.denied b.denied)) → Decides (not o) (a ≡ b)
equal-not {a} {b} {o} e = equal-is (ap (λ (x : Bool). not x) e ∙ twice (eqb a.taken b.taken && (eqb a.held b.held && eqb a.denied b.denied)))
  where
    twice : (x : Bool) → not (not x) ≡ x
    twice true = refl
    twice false = refl

-- ---- laws
pub sub_refl : (a : Pair) → Sub a a
sub_refl a = record { held = λ i. le_refl _; denied = λ i. le_refl _; taken = λ i. le_refl _ }

pub sub_trans : {a b c : Pair} → Sub a b → Sub b c → Sub a c
sub_trans f g = record { held = λ i. le_trans (f.held i) (g.held i); denied = λ i. le_trans (f.denied i) (g.denied i); taken = λ i. le_trans (f.taken i) (g.taken i) }

pub join-sub : {a b t : Pair} → Sub a t → Sub b t → Sub (join_of a b) t
unfolding join_of
join-sub f g = record { held = N.sub-or _ _ _ f.held g.held; denied = N.sub-or _ _ _ f.denied g.denied; taken = N.sub-or _ _ _ f.taken g.taken }

pub join-l : (a b : Pair) → Sub a (join_of a b)
unfolding join_of
join-l a b = record { held = N.or_l a.held b.held; denied = N.or_l a.denied b.denied; taken = N.or_l a.taken b.taken }

pub join-r : (a b : Pair) → Sub b (join_of a b)
unfolding join_of
join-r a b = record { held = N.or_r a.held b.held; denied = N.or_r a.denied b.denied; taken = N.or_r a.taken b.taken }

pub meet-sub : {a b t : Pair} → Sub t a → Sub t b → Sub t (meet_of a b)
unfolding meet_of
meet-sub f g = record { held = N.sub-and _ _ _ f.held g.held; denied = N.sub-and _ _ _ f.denied g.denied; taken = N.sub-and _ _ _ f.taken g.taken }

pub meet-l : (a b : Pair) → Sub (meet_of a b) a
unfolding meet_of
meet-l a b = record { held = N.and_l a.held b.held; denied = N.and_l a.denied b.denied; taken = N.and_l a.taken b.taken }

pub meet-r : (a b : Pair) → Sub (meet_of a b) b
unfolding meet_of
meet-r a b = record { held = N.and_r a.held b.held; denied = N.and_r a.denied b.denied; taken = N.and_r a.taken b.taken }

pub sub-minus : {v b m : Pair} → Sub v b → Off v m → Sub v (minus_of b m)
unfolding minus_of
sub-minus f g = record { held = N.sub-minus _ _ _ f.held g.held; denied = N.sub-minus _ _ _ f.denied g.denied; taken = N.sub-minus _ _ _ f.taken g.taken }

pub minus-sub : (a b : Pair) → Sub (minus_of a b) a
unfolding minus_of
minus-sub a b = record { held = N.minus-sub a.held b.held; denied = N.minus-sub a.denied b.denied; taken = N.minus-sub a.taken b.taken }

pub minus-off : (a b : Pair) → Off (minus_of a b) b
unfolding minus_of
minus-off a b = record { held = N.minus-off a.held b.held; denied = N.minus-off a.denied b.denied; taken = N.minus-off a.taken b.taken }

pub sub-of-minus : (a b : Pair) {t : Pair} → Sub (minus_of a b) t → Sub b t → Sub a t
unfolding minus_of
sub-of-minus a b f g = record { held = N.sub-of-minus a.held b.held _ f.held g.held; denied = N.sub-of-minus a.denied b.denied _ f.denied g.denied; taken = N.sub-of-minus a.taken b.taken _ f.taken g.taken }

pub off-sub : {a b c d : Pair} → Sub a b → Sub c d → Off b d → Off a c
off-sub f g h = record { held = N.off-sub _ _ _ _ f.held g.held h.held; denied = N.off-sub _ _ _ _ f.denied g.denied h.denied; taken = N.off-sub _ _ _ _ f.taken g.taken h.taken }

pub off-sym : {a b : Pair} → Off a b → Off b a
off-sym f = record { held = λ i. let q = f.held i in omega arith; denied = λ i. let q = f.denied i in omega arith; taken = λ i. let q = f.taken i in omega arith }

pub off-of-meet : (a h : Pair) {v : Pair} → Sub v h → Off (meet_of a h) v → Off a v
unfolding meet_of
off-of-meet a h f g = record { held = N.off-of-meet a.held _ h.held f.held g.held; denied = N.off-of-meet a.denied _ h.denied f.denied g.denied; taken = N.off-of-meet a.taken _ h.taken f.taken g.taken }

-- ---- one member
pub atom-held : (k : ℕ) → Atom (record { held = 2 ^ k; denied = 0; taken = 0 })
atom-held k v =
    ⊎_elim (λ f. inl (record { held = f; denied = none-sub v.denied; taken = none-sub v.taken }))
    (λ f. inr (record { held = f; denied = none-off v.denied; taken = none-off v.taken })) (single k v.held)

pub atom-denied : (k : ℕ) → Atom (record { held = 0; denied = 2 ^ k; taken = 0 })
atom-denied k v =
    ⊎_elim (λ f. inl (record { held = none-sub v.held; denied = f; taken = none-sub v.taken }))
    (λ f. inr (record { held = none-off v.held; denied = f; taken = none-off v.taken })) (single k v.denied)

pub atom-taken : (k : ℕ) → Atom (record { held = 0; denied = 0; taken = 2 ^ k })
atom-taken k v =
    ⊎_elim (λ f. inl (record { held = none-sub v.held; denied = none-sub v.denied; taken = f }))
    (λ f. inr (record { held = none-off v.held; denied = none-off v.denied; taken = f })) (single k v.taken)

-- equal sets
pub sub-both : {a b : Pair} → Sub a b → Sub b a → a ≡ b
sub-both {a} {b} f g = pair a b (N.both_ways _ _ f.held g.held) (N.both_ways _ _ f.denied g.denied) (N.both_ways _ _ f.taken g.taken)
