-- The state from line to line: what each return of the functions on it is by the definitions.
-- A kind that was looked up is rewritten by its place.
use mathlib.Core.Path.{◌≡◌, refl}
use mathlib.Core.Bool.{Bool, true, false}
use mathlib.Core.List.{List}
use Prim.Native.Nat.{ℕ, ◌+◌}
use native.Mathlib.Numerals.{add-one}
use lib.IntN.{ℤ}
use lib.ListN.{get_or, set}
use borrow.Author.Tests.{eq-eqb, ne_eqb}
use Rattle.std.specs.Prelude.{Ok, Err}
use Rattle.logic.specs.Tests.{pick}
use Rattle.book.specs.declared.Shape.{Shape}
use Rattle.book.specs.Kinds.{kind, none}
use Rattle.text.specs.declared.State.{State}
use Rattle.text.specs.declared.Refusal.{Refusal}
use Rattle.cursor.specs.declared.Cursor.{Cursor}
use Rattle.text.specs.Reading.{after, step, shape_of, refusal}
use Rattle.read.specs.Storing.{step_with, end_of}

module _ (x : Bool) (k : ℕ) (e : x ≡ (kind k).row) where
  module _ (st : State) (n : ℕ) where
    pub step_row : x ≡ true → record { next = k; statements = n; counts = set st.counts k (get_or st.counts k 0 + 1); rows = st.rows + 1 } ≡ step_with st k n
    unfolding step_with after pick
    step_row f = rw (← e, f, add-one, add-one)

    pub step_other : x ≡ false → record { next = k + 1; statements = n; counts = set st.counts k (get_or st.counts k 0 + 1); rows = st.rows } ≡ step_with st k n
    unfolding step_with after pick
    step_other f = rw (← e, f, add-one, add-one)

module _ (st : State) (c : Cursor) where
  pub end_refused : (r : Refusal) → (st.next ≡ none → ⊥) → r ≡ refusal 3 c.line → Err r ≡ end_of st c
  unfolding end_of pick
  end_refused r f e = rw (ne_eqb st.next none f, e)

  pub end-found : (s : Shape) → st.next ≡ none → s ≡ shape_of st → Ok (s, c) ≡ end_of st c
  unfolding end_of pick
  end-found s e f = rw (eq-eqb st.next none e, f)

-- The state after a line whose n is known is the state after that line.
pub step-with : (st : State) (k : ℕ) (vs : List ℤ) → step_with st k (step st k vs).statements ≡ step st k vs
unfolding step_with step
step-with st k vs = refl
