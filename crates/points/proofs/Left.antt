-- What Set and Drop leave is a store again.
use mathlib.Core.Path.{◌≡◌, refl}
use mathlib.Core.Bool.{true}
use mathlib.Core.List.{List, [], ◌∷◌}
use Prim.Native.Nat.{ℕ, ◌≤◌}
use native.Mathlib.Omega.{arith}
use lib.ListN.{length}
use Rattle.sets.specs.declared.Pair.{Pair}
use Rattle.entry.specs.Names.{is_name, before, compare_to}
use Rattle.points.specs.Points.{Entry, packed, Fits}
use Rattle.points.specs.Stores.{set_in, drop_in}
use Rattle.points.proofs.Places.{name-long}
use Rattle.points.proofs.Maps.{every_set, every_drop, rising-set, rising-drop, drop-most}
use Rattle.points.proofs.Tested.{Tested}

pub nil-before : (n : List ℕ) → length n ≡ 8 → before [] n ≡ true
unfolding before compare_to
nil-before [] h = absurd (omega arith)
nil-before (b ∷ bs) h = refl

pub set-store : (bs : List ℕ) (es : List Entry) (n : List ℕ) (p : Pair) → Tested bs es → is_name n ≡ true → Fits p → length (set_in es n p) ≤ 32 → Tested (packed (set_in es n p)) (set_in es n p)
set-store bs es n p s h f l = record {
  bytes = refl;
  few = l;
  named = every_set (λ (e : Entry). is_name e.name ≡ true) es n p h s.named;
  rising = rising-set [] es n p (nil-before n (name-long n h)) s.rising;
  fits = every_set (λ (e : Entry). Fits e.pair) es n p f s.fits;
}

pub drop-store : (bs : List ℕ) (es : List Entry) (n : List ℕ) → Tested bs es → Tested (packed (drop_in es n)) (drop_in es n)
drop-store bs es n s = record {
  bytes = refl;
  few = let a = s.few in let b = drop-most es n in omega arith;
  named = every_drop (λ (e : Entry). is_name e.name ≡ true) es n s.named;
  rising = rising-drop [] es n s.rising;
  fits = every_drop (λ (e : Entry). Fits e.pair) es n s.fits;
}
