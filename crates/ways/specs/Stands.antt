-- Where the program stands after a part.
use Rattle.std.specs.Prelude.{ℕ, ◌-◌, ◌≤◌, List, ◌≡◌, length, Result, Ok, Err, Option, Some, None, IfOk}
use Rattle.sets.specs.declared.Pair.{Pair}
use Rattle.book.specs.declared.Shape.{Shape}
use Rattle.answers.specs.Ways.{ways_of}
use Rattle.listing.specs.Parts.{part_lines, Midway}
use Rattle.ways.specs.declared.Stand.{Stand}
use Rattle.ways.specs.declared.streams.Output.{Output}

-- If no write failed, the output has taken all bytes that the documents have `ways` print for the text.
abbrev pub Printed : {E : Type 0} → List ℕ → Result Output E → Type 0
Printed bs r = IfOk r (λ (to : Output). to.taken ≡ length (ways_of bs))

-- After a part before which m lines were left: if more is to come, the listing goes on from the pair after the bytes taken; else all were taken.
pub record Stood (bs ws ranks : List ℕ) (s : Shape) (m : ℕ) (x : Stand) : Type 0 where
  pub fewer : (p : Pair) → x.next ≡ Some p → part_lines ≤ m
  pub goes_on : (p : Pair) → x.next ≡ Some p → Midway bs ws ranks x.to.taken s p (m - part_lines)
  pub ends : x.next ≡ None → x.to.taken ≡ length (ways_of bs)

-- Where it stands after a part with this pair to go on from: where the part was sent, at the output then; else nowhere, and the answer is what failed.
abbrev pub stand_after : {E : Type 0} → Option Pair → Result Output E → Result Stand E
stand_after x (Ok to) = Ok (record { to = to; next = x })
stand_after x (Err e) = Err e
