-- What Judge, First, After, a page and Line answer on every input (document 01, 'Six operations'): the text's refusal first, then the pair's,
-- then that of the lent buffer, then the answer.
use Rattle.std.specs.Prelude.{ℕ, zero, suc, ◌/◌, ◌≡◌, List, ltb, length, Option, Some, None, Result, Ok, Err}
use Rattle.logic.specs.Tests.{pick}
use Rattle.sets.specs.declared.Pair.{Pair}
use Rattle.sets.specs.Pairs.{flat}
use Rattle.text.specs.Reading.{Outcome, read_text, over}
use Rattle.text.specs.Reading.Outcome.{accepted, refused as unread}
use Rattle.text.specs.ALines.{line_fields, a_line}
use Rattle.meaning.specs.Books.{Book}
use Rattle.meaning.specs.Meant.{book_of}
use Rattle.meaning.specs.Order.{start, at}
use Rattle.meaning.specs.Listings.{Answer, found, end, refused, Operation, first, after}
use Rattle.meaning.specs.Twins.Verdicts.{pair_refusal, verdict}
use Rattle.meaning.specs.Twins.Next.{next_from, page_from}
use Rattle.text.specs.declared.Refusal.{Refusal}

-- ---- the paper's answers
-- A number or list that an operation answers, or a refusal's number and line.
pub data Told (A : Type 0) : Type 0 where
  told : A → Told A
  turned : ℕ → ℕ → Told A

-- The paper's answer of each case of First's and After's: the pair, End, the refusal's number and line.
unfoldable pub answer_of : Result (Option Pair) Refusal → Answer
answer_of (Ok (Some p)) = found p
answer_of (Ok None) = end
answer_of (Err q) = refused q.number q.line

-- Of any other operation's: what it gives, the refusal's number and line.
unfoldable pub told_of : {A : Type 0} → Result A Refusal → Told A
told_of (Ok x) = told x
told_of (Err q) = turned q.number q.line

-- Of Judge's: the verdict's number.
abbrev pub verdict_of : Result ℕ Refusal → Told ℕ
verdict_of r = told_of r

-- Of a page's and of Line's: how many pairs, how many bytes.
abbrev pub count_of : Result ℕ Refusal → Told ℕ
count_of r = told_of r

abbrev pub length_of : Result ℕ Refusal → Told ℕ
length_of r = told_of r

-- A list that was told is answered by its length.
unfoldable pub counted : {A : Type 0} → Told (List A) → Told ℕ
counted (told xs) = told (length xs)
counted (turned q line) = turned q line

-- ---- on a text, and on a pair after the text
-- The refusal of the text with its line, or what the accepted book gives.
unfoldable pub on_text : {A : Type 0} → (ℕ → ℕ → A) → (Book → A) → Outcome → A
on_text down on (unread q line) = down q line
on_text down on (accepted s ws) = on (book_of s ws)

-- A refusal whose number is not 0, with line 0, or the rest.
unfoldable pub unless_down : {A : Type 0} → (ℕ → ℕ → A) → ℕ → A → A
unless_down down zero x = x
unless_down down (suc k) x = down (suc k) 0

-- First.
unfoldable pub first_answer : List ℕ → Answer
first_answer bs = on_text refused (λ b. next_from b start) (read_text bs)

-- After.
unfoldable pub after_answer : List ℕ → Pair → Answer
after_answer bs p = on_text refused (λ b. unless_down refused (pair_refusal b p) (next_from b (at p))) (read_text bs)

-- Judge.
unfoldable pub judge_answer : List ℕ → Pair → Told ℕ
judge_answer bs p = on_text turned (λ b. unless_down turned (pair_refusal b p) (told (verdict b p))) (read_text bs)

-- The first pairs, as many as a lent slice of m numbers has room for, three numbers each.
unfoldable pub first_page : List ℕ → ℕ → Told (List Pair)
first_page bs m = on_text turned (λ b. told (page_from b (m / 3) start)) (read_text bs)

unfoldable pub page_after : List ℕ → Pair → ℕ → Told (List Pair)
page_after bs p m = on_text turned (λ b. unless_down turned (pair_refusal b p) (told (page_from b (m / 3) (at p)))) (read_text bs)

-- How many fields for exceptions the lines of a book have: the book's own number of exceptions says it, not how many a pair takes.
abbrev pub fields_in : Book → ℕ
fields_in b = line_fields (length b.exceptions)

-- The line of a pair in a book.
abbrev pub line_in : Book → Pair → List ℕ
line_in b p = a_line (fields_in b) b.statements p

-- Line, into a lent buffer of m bytes: 15 last.
unfoldable pub room_for : ℕ → List ℕ → Told (List ℕ)
room_for m l = pick (ltb m (length l)) (turned 15 0) (told l)

unfoldable pub line_answer : List ℕ → Pair → ℕ → Told (List ℕ)
line_answer bs p m = on_text turned (λ b. unless_down turned (pair_refusal b p) (room_for m (line_in b p))) (read_text bs)

-- ---- lent slices
-- What an operation leaves in a lent slice: what it was told in front and the rest as it was; after a refusal all of it.
unfoldable pub left : {A : Type 0} → (A → List ℕ) → List ℕ → Told A → List ℕ
left f l (told x) = over l (f x)
left f l (turned q line) = l

-- What a page answers and leaves: how many pairs, and the pairs in front of the lent slice.
pub record PageMet (t : Told (List Pair)) (o o' : List ℕ) (r : Result ℕ Refusal) : Type 0 where
  pub count : count_of r ≡ counted t
  pub filled : o' ≡ left flat o t

-- ---- a listing
-- What First and After answer for a text, as a listing asks them; they lend no buffer, so the room does not matter.
unfoldable pub asks : List ℕ → Operation → ℕ → Answer
asks bs first room = first_answer bs
asks bs (after p) room = after_answer bs p
