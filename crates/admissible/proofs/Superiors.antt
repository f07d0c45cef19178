-- A set of exceptions is undominated exactly where no view takes an exception that outranks a member; and what both tests decide.
-- One probe for each exception that outranks a member, with that exception in the lower end.
use mathlib.Core.Path.{◌≡◌, refl, sym}
use mathlib.Core.Bool.{Bool, true, false, not}
use mathlib.Core.List.{List}
use Prim.Native.Nat.{ℕ, ◌<◌}
use lib.Bits.{bit_and}
use lib.ListN.{length, get_or}
use Rattle.logic.specs.Tests.{Decides}
use Rattle.logic.proofs.Decide.{clash}
use Rattle.sets.specs.declared.Pair.{Pair}
use Rattle.sets.proofs.Words.{and_none, none-and, none-sub, single-has}
use Rattle.sets.proofs.Pairs.{sub_trans, join-l, join-r}
use Rattle.masks.specs.declared.Bounds.{Bounds}
use Rattle.masks.proofs.Booleans.{refused, decides-true, decides-false}
use Rattle.bounds.specs.Singles.{one_of}
use Rattle.bounds.specs.Sound.{into_of}
use Rattle.bounds.proofs.Singles.{has-place}
use Rattle.bounds.proofs.Steps.{in-into}
use Rattle.std.specs.Prelude.{Option, Some, None, is_some}
use Rattle.probe.specs.Probes.{Probed}
use Rattle.admissible.specs.Admissible.{UndominatedAt, Undominated}

module _ (ws : List ℕ) (n : ℕ) (ranks : List ℕ) (root : Bounds) (taken rank a : ℕ) where
  pub free-apart : bit_and rank taken ≡ 0 → Decides true (UndominatedAt ws n ranks root taken rank a)
  free-apart e = decides-true (record { free = λ v w x h. and_none rank taken e })

  module _ (m : Pair) (em : m ≡ one_of 2 a) (b : Bounds) (eb : b ≡ into_of root m) (r : Option Pair) (p : Probed ws n ranks b r) where
    -- A view that is found takes the exception at place a.
    free-found : (u : Pair) → (bit_and rank taken ≡ 0 → ⊥) → r ≡ Some u → Decides false (UndominatedAt ws n ranks root taken rank a)
    unfolding into_of one_of
    free-found u z er = decides-false (λ k.
        let f = rw (eb, em) at (p.found u er) in
        z (none-and rank taken (k.free u f.0 (record { lo = sub_trans (join-l _ _) f.1.lo; hi = f.1.hi })
        (single-has a u.taken (sub_trans (join-r _ _) f.1.lo).taken))))

    free-none : r ≡ None → Decides true (UndominatedAt ws n ranks root taken rank a)
    unfolding one_of
    free-none er = decides-true (record {
      free = λ v w x o. absurd (p.none er v w (rw (eb, em) (in-into (record { held = none-sub _; denied = none-sub _; taken = has-place a v.taken o }) x)));
    })

  -- Whether a view is found decides.
  pub free-asked : (bit_and rank taken ≡ 0 → ⊥) → (m : Pair) → m ≡ one_of 2 a → (b : Bounds) → b ≡ into_of root m → (x : Option Pair) → Probed ws n ranks b x
      → (r : Bool) → is_some x ≡ not r → Decides r (UndominatedAt ws n ranks root taken rank a)
  free-asked z m em b eb None p true q = free-none m em b eb None p refl
  free-asked z m em b eb None p false q = absurd (clash q)
  free-asked z m em b eb (Some u) p true q = absurd (clash (sym q))
  free-asked z m em b eb (Some u) p false q = free-found m em b eb (Some u) p u z refl

-- ---- all exceptions
abbrev pub UndominatedTo : List ℕ → ℕ → List ℕ → Bounds → ℕ → ℕ → Type 0
UndominatedTo ws n ranks root taken k = (a : ℕ) → a < k → UndominatedAt ws n ranks root taken (get_or ranks a 0) a

-- One exception that some view takes against the set is enough.
module _ (ws : List ℕ) (n : ℕ) (ranks : List ℕ) (root : Bounds) (taken k : ℕ) (b : Bool) (d : Decides b (UndominatedAt ws n ranks root taken (get_or ranks k 0) k)) where
  pub undominated-lost : k < length ranks → not b ≡ true → Decides false (Undominated ws n ranks root taken)
  undominated-lost h q = decides-false (λ m. refused d q (record { free = m.free k h }))

-- ---- both
