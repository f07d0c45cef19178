-- A store by the tests of names: what the proofs handle. That it is a store in the request's words is in proofs/Means.
use mathlib.Core.Path.{◌≡◌}
use mathlib.Core.Bool.{true}
use mathlib.Core.List.{List, [], ◌∷◌}
use Prim.Native.Nat.{ℕ, ◌≤◌}
use lib.ListN.{length}
use Rattle.logic.specs.Lists.{Every}
use Rattle.entry.specs.Names.{is_name, before}
use Rattle.points.specs.Points.{Entry, packed, Fits}

-- Strictly ascending, the first after a.
unfoldable pub Rising : List ℕ → List Entry → Type 0
Rising a [] = Unit {0}
Rising a (e ∷ es) = (before a e.name ≡ true) × Rising e.name es

pub record Tested (bs : List ℕ) (es : List Entry) : Type 0 where
  pub bytes : bs ≡ packed es
  pub few : length es ≤ 32
  pub named : Every (λ (e : Entry). is_name e.name ≡ true) es
  pub rising : Rising [] es
  pub fits : Every (λ (e : Entry). Fits e.pair) es
