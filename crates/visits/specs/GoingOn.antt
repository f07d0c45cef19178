-- Going on from a name (document 02, request (h)): 'Going on from it in the same book lists what follows; an unlawful pair meets 12 to 14.' It is
-- After, and a listing, from the pair that Go gives.
use Rattle.std.specs.Prelude.{ℕ, ◌≡◌, List, Result, Err}
use Rattle.std.proofs.Math.Option.{some}
use Rattle.sets.specs.declared.Pair.{Pair}
use Rattle.meaning.specs.Order.{at}
use Rattle.meaning.specs.Listings.{Answer, refused}
use Rattle.answers.specs.Operations.{Told, after_answer}
use Rattle.answers.specs.Operations.Told.{told, turned}
use Rattle.text.specs.declared.Refusal.{Refusal}
use Rattle.text.specs.Reading.{refusal as refusal_of}
use Rattle.calls.specs.declared.Handed.{Handed}
use Rattle.calls.specs.Calls.{Runs}
use Rattle.points.specs.Stores.{store_of, go_told}
use Rattle.points.specs.Calls.{Note, last_set, LeftBy}

-- One step: the refusal of Go, or After with Go's pair.
unfoldable pub on_gone : List ℕ → Told Pair → Answer
on_gone text (told p) = after_answer text p
on_gone text (turned q line) = refused q line

unfoldable pub go_on_answer : List ℕ → List ℕ → List ℕ → Answer
go_on_answer text store name = on_gone text (go_told (store_of store) name)

-- A listing: where Go is refused, the refusal, and the slices as they were; else all that demand 3 says of a listing that begins after Go's pair.
pub record Stayed (q line : ℕ) (ans ans' out out' : List ℕ) (r : Result Handed Refusal) : Type 0 where
  pub refusal : r ≡ Err (refusal_of q line)
  pub answers : ans' ≡ ans
  pub pairs : out' ≡ out

abbrev pub Listed : (text ns ans ans' out out' : List ℕ) (r : Result Handed Refusal) → Told Pair → Type 0
Listed text ns ans ans' out out' r (told p) = Runs text ns (at p) ans ans' out out' r
Listed text ns ans ans' out out' r (turned q line) = Stayed q line ans ans' out out' r

-- And where the store is what noted calls have left from an empty store, Go's pair is the one last set under the name and not dropped since.
pub record ListsOn (text store name ns ans ans' out out' : List ℕ) (r : Result Handed Refusal) : Type 0 where
  pub listed : Listed text ns ans ans' out out' r (go_told (store_of store) name)
  pub from_last_set : (h : List Note) → LeftBy h store → (p : Pair) → last_set name h ≡ some p → Runs text ns (at p) ans ans' out out' r
