-- Bounds split by a member that is open: each half is within the whole and smaller, so a search by halves ends.
-- The sums of the two ends come closer in either half.
use mathlib.Core.Path.{◌≡◌}
use Prim.Native.Nat.{ℕ, ◌-◌, ◌<◌}
use native.Mathlib.Omega.{arith}
use Rattle.sets.specs.declared.Pair.{Pair}
use Rattle.sets.specs.Pairs.{Sub, Off, join_of, minus_of}
use Rattle.sets.proofs.Pairs.{sub_refl, sub_trans, join-l, join-r, minus-sub, minus-off, off-sub, off-sym}
use Rattle.masks.specs.declared.Bounds.{Bounds}
use Rattle.masks.proofs.Sums.{total, total-le, total-lt}
use Rattle.bounds.specs.Sound.{In, into_of, out_of}

-- What the upper end has more than the lower, as a number.
abbrev pub room : Bounds → ℕ
room b = total b.hi - total b.lo

-- The bounds c are within b, and m is something that is open in c.
module _ {b c : Bounds} {m : Pair} (lo : Sub b.lo c.lo) (hi : Sub c.hi b.hi) (ordered : Sub c.lo c.hi) (some : Off m m → ⊥) (inside : Sub m (minus_of c.hi c.lo)) where
  in-hi : Sub m c.hi
  in-hi = sub_trans inside (minus-sub _ _)

  off-lo : Off m c.lo
  off-lo = off-sub inside (sub_refl _) (minus-off _ _)

  wide : total c.lo < total c.hi
  wide = total-lt ordered (λ q. some (off-sub in-hi (sub_refl m) (off-sym (rw q at off-lo))))

  pub half_out : (p : Bounds) → p ≡ out_of c m → room p < room b
  unfolding out_of
  half_out p ep =
      rw ep (let a : total (minus_of c.hi m) < total c.hi = total-lt (minus-sub _ _) (λ q. some (off-sub in-hi (sub_refl m) (rw q at (minus-off c.hi m)))) in
      omega (arith, wide, total-le lo, total-le hi))

  pub half-into : (p : Bounds) → p ≡ into_of c m → room p < room b
  unfolding into_of
  half-into p ep =
      rw ep (let a : total c.lo < total (join_of c.lo m) = total-lt (join-l _ _) (λ q. some (off-sub (sub_refl m) (rw (← q) at (join-r c.lo m)) off-lo)) in
      omega (arith, wide, total-le lo, total-le hi))

-- What is in a half is in the whole.
module _ {b c : Bounds} (m : Pair) (lo : Sub b.lo c.lo) (hi : Sub c.hi b.hi) {v : Pair} where
  pub out-whole : In (out_of c m) v → In b v
  unfolding out_of
  out-whole y = record { lo = sub_trans lo y.lo; hi = sub_trans y.hi (sub_trans (minus-sub _ _) hi) }

  pub into-whole : In (into_of c m) v → In b v
  unfolding into_of
  into-whole y = record { lo = sub_trans lo (sub_trans (join-l _ _) y.lo); hi = sub_trans y.hi hi }
