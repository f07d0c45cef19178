-- What `ways` prints, whole: the first part that `begin` leaves in its buffer and, as long as a part says that the listing goes on, the parts
-- that `go_on` leaves from the same prepared book, its pair and the lines that are left, one after the other, are what the documents have `ways`
-- print for the text, refusals included: `claim`. Idea: what was printed so far, `done`, lacks what is listed from the last pair on.
use mathlib.Core.Path.{◌≡◌, sym, ◌∙◌, ap}
use Rattle.std.specs.Prelude.{Some, None}
use mathlib.Core.List.{List, ◌++◌, append_assoc}
use Prim.Native.Nat.{ℕ, ◌-◌}
use lib.IntN.{ℤ}
use lib.ListN.{take}
use Rattle.sets.specs.declared.Pair.{Pair}
use Rattle.book.specs.declared.Shape.{Shape}
use Rattle.text.specs.Reading.{read_text}
use Rattle.text.specs.Reading.Outcome.{accepted}
use Rattle.meaning.specs.Meant.{book_of}
use Rattle.meaning.specs.Order.{at}
use Rattle.answers.specs.Ways.{ways_of, listed, most_lines, Counted}
use Rattle.answers.proofs.Counted.{ways-counted}
use Rattle.listing.specs.declared.Part.{Part}
use Rattle.listing.specs.declared.Begun.{Begun}
use Rattle.listing.specs.Parts.{part_lines, Begins, GoesOn, Lists}
use Rattle.listing.proofs.begin.Statement as begin
use Rattle.listing.proofs.begin.Met as begin-met
use Rattle.listing.proofs.go_on.Statement as go_on
use Rattle.listing.proofs.go_on.Met as go-on-met

module _ (bs ws ranks done : List ℕ) (s : Shape) (p : Pair) (m : ℕ) (g : GoesOn bs ws ranks done s p m) (o : List ℕ) (r : Part) (l : Lists s ws ranks (at p) m o r) where
  part-ends : r.next ≡ None → done ++ take r.bytes o ≡ ways_of bs
  part-ends e = ap (λ (x : List ℕ). done ++ x) (l.whole g.ready.rows g.ready.loaded g.ready.lawful e) ∙ g.rest

  pub part-goes-on : (q : Pair) → r.next ≡ Some q → GoesOn bs ws ranks (done ++ take r.bytes o) s q (m - part_lines)
  part-goes-on q e = record {
    ready = record { rows = g.ready.rows; loaded = g.ready.loaded; lawful = l.lawful g.ready.rows g.ready.loaded g.ready.lawful q e };
    rest =
        append_assoc done (take r.bytes o) (listed (book_of s g.ready.rows) (m - part_lines) (at q))
        ∙ ap (λ (x : List ℕ). done ++ x) (l.front g.ready.rows g.ready.loaded g.ready.lawful q e)
        ∙ g.rest;
  }

-- What `go_on` leaves in its buffer, part after part, from a pair on with m lines left, until a part says that the listing does not go on: all
-- that they print is xs.
pub data Continued (s : Shape) (ws ranks : List ℕ) : Pair → ℕ → List ℕ → Type 0 where
  last-part : (p : Pair) (m : ℕ) (o : List ℕ) (r : Part) → Lists s ws ranks (at p) m o r → r.next ≡ None → Continued s ws ranks p m (take r.bytes o)
  one-part : (p q : Pair) (m : ℕ) (o : List ℕ) (r : Part) (xs : List ℕ) → Lists s ws ranks (at p) m o r → r.next ≡ Some q → Continued s ws ranks q (m - part_lines) xs
      → Continued s ws ranks p m (take r.bytes o ++ xs)

-- What `begin` leaves for a text, and what then `go_on` leaves from the same prepared book, its pair and the lines that are left: xs in all.
pub data Written (bs : List ℕ) : List ℕ → Type 0 where
  at_once : (ws ranks o : List ℕ) (r : Begun) → Begins bs ws ranks o r → r.next ≡ None → Written bs (take r.bytes o)
  in_parts : (ws ranks o : List ℕ) (r : Begun) (s : Shape) (p : Pair) (xs : List ℕ) → Begins bs ws ranks o r → r.next ≡ Some (s, p)
      → Continued s ws ranks p (most_lines - part_lines) xs → Written bs (take r.bytes o ++ xs)

continued-is : (bs ws ranks : List ℕ) (s : Shape) (p : Pair) (m : ℕ) (xs done : List ℕ) → GoesOn bs ws ranks done s p m → Continued s ws ranks p m xs → done ++ xs ≡ ways_of bs
continued-is bs ws ranks s p m xs done g (last-part q n o r l e) = part-ends bs ws ranks done s p m g o r l e
continued-is bs ws ranks s p m xs done g (one-part a q n o r ys l e c) =
    sym (append_assoc done (take r.bytes o) ys)
    ∙ continued-is bs ws ranks s q (m - part_lines) ys (done ++ take r.bytes o) (part-goes-on bs ws ranks done s p m g o r l q e) c

-- All that is written is what the documents have `ways` print.
written_is : (bs xs : List ℕ) → Written bs xs → xs ≡ ways_of bs
written_is bs xs (at_once ws ranks o r b e) = b.whole e
written_is bs xs (in_parts ws ranks o r s p ys b e c) = continued-is bs ws ranks s p (most_lines - part_lines) ys (take r.bytes o) (b.more s p e) c

-- And of an accepted text its closing line says how many lines stand above.
written-counts : (bs xs : List ℕ) (s : Shape) (ws : List ℤ) → read_text bs ≡ accepted s ws → Written bs xs → Counted xs
written-counts bs xs s ws e w = rw (written_is bs xs w) (ways-counted bs s ws e)

pub record Claim (M : Type 1) : Type 2 where
  pub begin-meets : begin.statement M
  pub go-on-meets : go_on.statement M
  pub whole : (bs xs : List ℕ) → Written bs xs → xs ≡ ways_of bs
  pub counts : (bs xs : List ℕ) (s : Shape) (ws : List ℤ) → read_text bs ≡ accepted s ws → Written bs xs → Counted xs

pub claim : {M : Type 1} → Claim M
claim = record { begin-meets = begin-met.met; go-on-meets = go-on-met.met; whole = written_is; counts = written-counts }
