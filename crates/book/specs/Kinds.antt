-- The kinds of line (document 01, 'A book and its lines'; document 02, (e), (g)), a row of data each, and what follows from the rows and the limits.
use Rattle.std.specs.Prelude.{ℕ, ◌+◌, ◌-◌, ◌*◌, ◌/◌, ◌^◌, true, false, List, [], ◌∷◌, ◌++◌, ℤ, pos, neg_ℤ, get_or, take, drop, replicate}
use Rattle.logic.specs.Tests.{pick}
use Rattle.book.specs.declared.Kind.{Kind}
use Rattle.book.specs.declared.Content.{Content}
use Rattle.book.specs.declared.Content.TheVariants.{Edition, Statements, Literal, Exception, Total}
use Rattle.book.specs.declared.Fault.{Fault}
use Rattle.book.specs.declared.Fault.TheVariants.{TooLong, OutOfRange, Edition as WrongEdition, TooMany, NoHead, TooManyConditionals, TooManyAlternatives, FewHeads}
use Rattle.book.specs.Limits as limit

-- How many fields a line has: an R or X line head, needed entries, barred entries; an O line three heads, then these; a P line two; a Q line
-- these two, needed entries, barred entries. The most that a line has.
abbrev pub entries_each : ℕ
entries_each = 4

abbrev pub heads_each : ℕ
heads_each = 3

abbrev pub rule_fields : ℕ
rule_fields = 1 + entries_each + entries_each

abbrev pub alternative_fields : ℕ
alternative_fields = heads_each + entries_each + entries_each

abbrev pub preference_fields : ℕ
preference_fields = 2

abbrev pub conditional_fields : ℕ
conditional_fields = preference_fields + entries_each + entries_each

abbrev pub widest : ℕ
widest = alternative_fields

-- How many numbers such lines give to the number table.
abbrev pub rule_numbers : ℕ
rule_numbers = rule_fields

abbrev pub alternative_numbers : ℕ
alternative_numbers = alternative_fields

abbrev pub preference_numbers : ℕ
preference_numbers = preference_fields

abbrev pub conditional_numbers : ℕ
conditional_numbers = conditional_fields

-- The kinds in the order in which they stand in a text: B, R, O, X, P, Q, Z. A kind says: its letter, a byte; how many fields it has, and where
-- in the list of contents they begin; how many numbers of the number table it gives; how many such lines a book may have, and the refusal of
-- one over; whether it is a row of the table, which Z counts; how many of its first fields are heads, how many of these must be filled (not 0),
-- and the refusal where fewer are; where its count stands in front of the table's rows, n having place 0 (for B and Z, which have no count, 0 too).
unfoldable pub kinds : List Kind
kinds =
    record { letter = 66; fields = 2; from = 0; numbers = 0; limit = 1; over = TooMany; row = false; heads = 0; filled = 0; unfilled = NoHead; count = 0 }
    ∷ record { letter = 82; fields = rule_fields; from = 2; numbers = rule_numbers; limit = limit.plain; over = TooMany; row = true; heads = 1; filled = 0; unfilled = NoHead; count = 1 }
    ∷ record { letter = 79; fields = alternative_fields; from = 2; numbers = alternative_numbers; limit = limit.alternatives; over = TooManyAlternatives; row = true; heads = heads_each; filled = 2; unfilled = FewHeads; count = 5 }
    ∷ record { letter = 88; fields = rule_fields; from = 2; numbers = rule_numbers; limit = limit.exceptions; over = TooMany; row = true; heads = 1; filled = 1; unfilled = NoHead; count = 2 }
    ∷ record { letter = 80; fields = preference_fields; from = 13; numbers = preference_numbers; limit = limit.preferences; over = TooMany; row = true; heads = 0; filled = 0; unfilled = NoHead; count = 3 }
    ∷ record { letter = 81; fields = conditional_fields; from = 13; numbers = conditional_numbers; limit = limit.conditionals; over = TooManyConditionals; row = true; heads = 0; filled = 0; unfilled = NoHead; count = 4 }
    ∷ record { letter = 90; fields = 1; from = 23; numbers = 0; limit = 1; over = TooMany; row = false; heads = 0; filled = 0; unfilled = NoHead; count = 0 }
    ∷ []

-- What the fields hold: those of B; of O, heads, needed and barred entries, and of R and X, which have the first nine of these; of Q, the two of
-- P, then needed and barred entries; of Z.
unfoldable pub contents : List Content
contents = Edition ∷ Statements ∷ (replicate alternative_fields Literal ++ (Exception ∷ Exception ∷ (replicate (entries_each + entries_each) Literal ++ (Total ∷ []))))

-- What the fields of a line of the kind hold, left to right.
unfoldable pub fields_of : Kind → List Content
fields_of x = take x.fields (drop x.from contents)

-- What the numbers hold that such a line gives to the number table: those of its first fields.
unfoldable pub numbers_of : Kind → List Content
numbers_of x = take x.numbers (drop x.from contents)

-- The places of the kinds in that list.
abbrev pub first : ℕ
first = 0

abbrev pub plain : ℕ
plain = 1

abbrev pub alternative : ℕ
alternative = 2

abbrev pub exception : ℕ
exception = 3

abbrev pub preference : ℕ
preference = 4

abbrev pub conditional : ℕ
conditional = 5

abbrev pub last : ℕ
last = 6

-- How many kinds there are: the place of no kind.
abbrev pub none : ℕ
none = 7

-- A line of no kind.
unfoldable pub unknown : Kind
unknown = record { letter = 0; fields = 0; from = 0; numbers = 0; limit = 0; over = TooLong; row = false; heads = 0; filled = 0; unfilled = TooLong; count = 0 }

-- The kind at a place.
unfoldable pub kind : ℕ → Kind
kind k = get_or kinds k unknown

-- The bytes of a line with its line feed: the letter, four columns a field, the line feed.
unfoldable pub bytes : Kind → ℕ
bytes x = 2 + 4 * x.fields

-- The sum over kinds of a number that each has, as often as its limit.
unfoldable pub most : (Kind → ℕ) → List Kind → ℕ
most f [] = 0
most f (x ∷ xs) = x.limit * f x + most f xs

-- The longest text: every line that a book may have.
unfoldable pub longest : ℕ
longest = most bytes kinds

-- Room for the numbers of any text as it is read: each takes four bytes, and a line that is refused may have its numbers stored too.
abbrev pub room : ℕ
room = longest / 4 + widest

-- A line is counted by Z if it is a row of the table. The most lines that Z counts.
unfoldable pub row_once : Kind → ℕ
row_once x = pick x.row 1 0

unfoldable pub most_rows : ℕ
most_rows = most row_once kinds

-- How many numbers stand before the rows of a number table: n, and the count of each kind of row.
abbrev pub front : ℕ
front = 1 + (none - 2)

-- The longest number table: these numbers, and the rows.
unfoldable pub longest_table : ℕ
longest_table = front + most (λ x. x.numbers) kinds

-- How many sets of exceptions there are.
abbrev pub set_count : ℕ
set_count = 2 ^ limit.exceptions

-- The most rules: plain ones, those with alternatives, exceptions.
abbrev pub rules : ℕ
rules = limit.plain + limit.alternatives + limit.exceptions

-- From where to where a field's number lies, and the refusal where it does not.
pub record Range : Type 0 where
  pub low : ℤ
  pub high : ℤ
  pub fault : Fault

-- What a field may hold in a book of n statements.
unfoldable pub range_of : Content → ℕ → Range
range_of Edition n = record { low = pos 1; high = pos 1; fault = WrongEdition }
range_of Statements n = record { low = pos 1; high = pos limit.statements; fault = OutOfRange }
range_of Literal n = record { low = neg_ℤ (pos n); high = pos n; fault = OutOfRange }
range_of Exception n = record { low = pos 1; high = pos limit.exceptions; fault = OutOfRange }
range_of Total n = record { low = pos 0; high = pos most_rows; fault = OutOfRange }
