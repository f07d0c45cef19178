-- What each return of Line is by its definition: the text's refusal, the pair's, 15, or the line in front of the lent slice.
use mathlib.Core.Path.{◌≡◌, refl, sym, ap, ◌∙◌}
use mathlib.Core.List.{List}
use Prim.Native.Nat.{ℕ, ◌<◌, ◌≤◌}
use native.Mathlib.Omega.{arith}
use lib.IntN.{ℤ}
use lib.ListN.{length, take, drop, length-append}
use lib.Seq.{sets, take_at, length-take-le}
use borrow.Author.Tests.{lt-ltb, le-ltb}
use Rattle.logic.specs.Tests.{pick}
use Rattle.sets.specs.declared.Pair.{Pair}
use Rattle.book.specs.declared.Shape.{Shape}
use Rattle.text.specs.declared.Refusal.{Refusal}
use Rattle.std.specs.Prelude.{Result, Ok, Err}
use Rattle.std.specs.Result.{result_unwrap_or}
use Rattle.text.specs.Reading.{read_text, over, refusal}
use Rattle.text.specs.Reading.Outcome.{accepted, refused}
use Rattle.book.specs.Counts.{row_numbers}
use Rattle.book.proofs.Counts.{exceptions-in}
use Rattle.text.specs.ALines.{line_fields, a_line}
use Rattle.text.proofs.Lent.{over-sets}
use Rattle.read.specs.Storing.{outcome_of}
use Rattle.read.specs.Parsing.{Parsing}
use Rattle.meaning.specs.Meant.{book_of}
use Rattle.meaning.specs.Twins.Verdicts.{pair_refusal}
use Rattle.meaning.proofs.Meant.{exceptions-count}
use Rattle.answers.specs.Operations.{Told, told, turned, told_of, length_of, counted, on_text, unless_down, line_in, room_for, line_answer, left}
use Rattle.answers.proofs.Listed.{unless-other, unless-none}
use Rattle.lawful.specs.Refusals.{Refuses}
use Rattle.line.specs.Parts.{line_bytes}
use Rattle.line.specs.Promise.{Met, part_of, part_length}
use Rattle.line.proofs.PutLaws.{line-length}

-- ---- the book of an accepted text
pub few-statements : (bs : List ℕ) (r : Result Shape Refusal) (rows : List ℤ) (s : Shape) → Parsing bs r rows → r ≡ Ok s → s.statements < 64
few-statements bs r rows s g e = omega (arith, (g.facts s e).limits.statements)

pub few-exceptions : (bs : List ℕ) (r : Result Shape Refusal) (rows : List ℤ) (s : Shape) → Parsing bs r rows → r ≡ Ok s → s.exceptions < 64
few-exceptions bs r rows s g e = omega (arith, exceptions-in s (g.facts s e).limits)

-- ---- refusals
-- A refusal that is the definition's leaves the slice as it was.
turned-met : (bs : List ℕ) (p : Pair) (l : List ℕ) (q : Refusal) → line_answer bs p (length l) ≡ turned q.number q.line → Met bs p l (Err q) l
unfolding told_of counted left
turned-met bs p l q e = record { answer = rw e; slice = rw e }

told-met : (bs : List ℕ) (p : Pair) (l m xs : List ℕ) (k : ℕ) → line_answer bs p (length l) ≡ told xs → k ≡ length xs → m ≡ over l xs → Met bs p l (Ok k) m
unfolding told_of counted left
told-met bs p l m xs k e ek em = record { answer = rw (e, ek); slice = rw e em }

module _ (bs : List ℕ) (r : Result Shape Refusal) (rows : List ℤ) (g : Parsing bs r rows) (p : Pair) (l : List ℕ) where
  pub line-unread : (q : Refusal) → r ≡ Err q → Met bs p l (Err q) l
  unfolding outcome_of line_answer on_text
  line-unread q e = let f : read_text bs ≡ refused q.number q.line = sym (rw e at g.is) in turned-met bs p l q (rw f refl)

  module _ (s : Shape) (e : r ≡ Ok s) where
    read_is : read_text bs ≡ accepted s (take (row_numbers s) rows)
    unfolding outcome_of
    read_is = sym (rw e at g.is)

    module _ (k : ℕ) (c : Refuses s.statements s.exceptions p k) where
      same : k ≡ pair_refusal (book_of s (take (row_numbers s) rows)) p
      unfolding book_of
      same = c.refusal (book_of s (take (row_numbers s) rows)) refl (exceptions-count s (take (row_numbers s) rows))

      -- The line of the pair in the book that was read.
      here : List ℕ
      here = line_in (book_of s (take (row_numbers s) rows)) p

      answer-is : line_answer bs p (length l) ≡ unless_down turned k (room_for (length l) here)
      unfolding line_answer on_text here
      answer-is = rw read_is (ap (λ (j : ℕ). unless_down turned j (room_for (length l) (line_in (book_of s (take (row_numbers s) rows)) p))) (sym same))

      pub line-unlawful : (k ≡ 0 → ⊥) → Met bs p l (Err (refusal k 0)) l
      line-unlawful n = turned-met bs p l (refusal k 0) (answer-is ∙ unless-other turned k (room_for (length l) here) n)

      module _ (z : k ≡ 0) (w : ℕ) (ew : w ≡ line_fields s.exceptions) where
        here-is : here ≡ a_line w s.statements p
        unfolding here book_of
        here-is = rw ew (ap (λ (x : ℕ). a_line (line_fields x) s.statements p) (exceptions-count s (take (row_numbers s) rows)))

        room-is : line_answer bs p (length l) ≡ room_for (length l) (a_line w s.statements p)
        room-is = rw (← here-is) (answer-is ∙ unless-none turned k (room_for (length l) here) z)

        pub line-short : (m : ℕ) → m ≡ line_bytes w s.statements → length l < m → Met bs p l (Err (refusal 15 0)) l
        unfolding room_for pick
        line-short m em h = turned-met bs p l (refusal 15 0) (room-is ∙ rw (lt-ltb (length l) (length (a_line w s.statements p)) (omega (arith, line-length w s.statements p))))

        pub line-whole : (m : ℕ) (l' : List ℕ) → m ≡ line_bytes w s.statements → m ≤ length l → l' ≡ sets l 0 (a_line w s.statements p) → Met bs p l (Ok m) l'
        unfolding room_for pick
        line-whole m l' em h e =
            let f = line-length w s.statements p in
            told-met bs p l l' (a_line w s.statements p) m
            (room-is ∙ rw (le-ltb (length l) (length (a_line w s.statements p)) (omega (arith, f)))) (em ∙ sym f) (e ∙ over-sets l (a_line w s.statements p) (omega (arith, f)))

-- ---- the part that holds the line
pub length-is : (w : Result ℕ Refusal) → result_unwrap_or w 0 ≡ part_length (length_of w)
unfolding told_of part_length
length-is (Ok k) = refl
length-is (Err q) = refl

part-told : (l k : List ℕ) (a : Told (List ℕ)) (n : ℕ) → k ≡ left (λ (x : List ℕ). x) l a → n ≡ part_length (counted a) → (take n k ≡ part_of a) × (n ≤ length k)
unfolding left over part_length counted part_of
part-told l k (told xs) n ek en = rw (ek, en) (take_at xs (drop (length xs) l) (length xs) refl, rw (length-append xs (drop (length xs) l)) (omega arith))
part-told l k (turned q line) n ek en = rw en (refl, omega arith)

module _ (bs : List ℕ) (p : Pair) (l k : List ℕ) (w : Result ℕ Refusal) (n : ℕ) (g : Met bs p l w k) (e : n ≡ part_length (length_of w)) where
  part : (take n k ≡ part_of (line_answer bs p (length l))) × (n ≤ length k)
  part = part-told l k (line_answer bs p (length l)) n g.slice (e ∙ ap part_length g.answer)

  pub part-is : take n k ≡ part_of (line_answer bs p (length l))
  part-is = part.0

  pub part-long : n ≡ length (take n k)
  part-long = sym (length-take-le n k part.1)
