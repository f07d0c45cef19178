-- The lawful pairs are the coherent ones within the root bounds.
-- A set is below 2 to the power k exactly where it is within the numbers 1 to k.
use mathlib.Core.Path.{◌≡◌, ◌∙◌}
use mathlib.Core.Logic.{◌↔◌}
use Prim.Native.Nat.{ℕ, ◌^◌, ◌<◌}
use native.Mathlib.Nat.{mod-eq_of_lt}
use native.Mathlib.Omega.{arith}
use lib.Bits.{bit_and, and_mask}
use lib.ListN.{length}
use lib.Pow.{pow_pos}
use Rattle.sets.specs.declared.Pair.{Pair}
use Rattle.sets.specs.Sets.{Within, Apart}
use Rattle.sets.proofs.Words.{none-sub, and_r, sub-le, apart-separate}
use Rattle.meaning.specs.Literals.{is_in}
use Rattle.meaning.specs.Books.{Book, Lawful}
use Rattle.bounds.specs.Sound.{In}
use Rattle.bridge.specs.Roots.{up_to, root_of}

below-full : (a k : ℕ) → (a < 2 ^ k) ↔ Within a (up_to k)
below-full a k = (
  λ h. let e : bit_and a (up_to k) ≡ a = and_mask a k ∙ mod-eq_of_lt h in rw e at (and_r a (up_to k)),
  λ f. omega (arith, sub-le a (up_to k) f, pow_pos k),
)

pub lawful-in : (b : Book) (p : Pair) → Lawful b p → In (root_of b) p
unfolding root_of
lawful-in b p l = record {
  lo = record { held = none-sub p.held; denied = none-sub p.denied; taken = none-sub p.taken };
  hi = record {
    held = (below-full p.held b.statements).0 l.held;
    denied = (below-full p.denied b.statements).0 l.denied;
    taken = (below-full p.taken (length b.exceptions)).0 l.exceptions;
  };
}

pub in-lawful : (b : Book) (p : Pair) → In (root_of b) p → Apart p.held p.denied → Lawful b p
unfolding root_of is_in
in-lawful b p i o = record {
  exceptions = (below-full p.taken (length b.exceptions)).1 i.hi.taken;
  held = (below-full p.held b.statements).1 i.hi.held;
  denied = (below-full p.denied b.statements).1 i.hi.denied;
  apart = apart-separate p.held p.denied o;
}
