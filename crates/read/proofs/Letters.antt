-- The search for the kind with a letter: what is left to look at, from here, gives the final answer.
-- One lemma for each way out of the loop over the kinds, and one for its turn.
use mathlib.Core.Path.{◌≡◌, refl}
use mathlib.Core.Bool.{Bool, true, false}
use Prim.Native.Nat.{ℕ, suc, ◌+◌, ◌<◌, ◌≤◌}
use native.Mathlib.Numerals.{add-one}
use lib.Dec.{eqb}
use lib.ListN.{drop, drop_of_length-le}
use lib.Seq.{drop-cons}
use borrow.Author.Tests.{eq-eqb, ne_eqb}
use Rattle.logic.specs.Tests.{pick}
use Rattle.book.specs.Kinds.{kinds, kind, unknown, none}
use Rattle.text.specs.Lines.{seek, kind_for}
use Rattle.book.proofs.Counts.{many}

pub seek-start : (b next : ℕ) → seek b next (drop next kinds) ≡ kind_for next b
unfolding kind_for
seek-start b next = refl

module _ (b next k : ℕ) (h : k < none) (inv : seek b k (drop k kinds) ≡ kind_for next b) (x : ℕ) (ex : x ≡ (kind k).letter) where
  opened : pick (eqb x b) k (pick (kind k).row (seek b (suc k) (drop (suc k) kinds)) none) ≡ kind_for next b
  unfolding seek kind
  opened = rw ex (rw (drop-cons kinds k unknown (rw many h)) at inv)

  pub seek-here : x ≡ b → k ≡ kind_for next b
  unfolding pick
  seek-here f = rw (eq-eqb x b f) at opened

  module _ (f : x ≡ b → ⊥) (r : Bool) (er : r ≡ (kind k).row) where
    pub seek_stop : r ≡ false → none ≡ kind_for next b
    unfolding pick
    seek_stop g = rw (ne_eqb x b f, ← er, g) at opened

    pub seek-next : r ≡ true → seek b (k + 1) (drop (k + 1) kinds) ≡ kind_for next b
    unfolding pick
    seek-next g = rw (add-one k) (rw (ne_eqb x b f, ← er, g) at opened)

pub seek-end : (b next k : ℕ) → none ≤ k → seek b k (drop k kinds) ≡ kind_for next b → none ≡ kind_for next b
unfolding seek
seek-end b next k h inv = rw (drop_of_length-le kinds {i = k} (rw many h)) at inv
