-- The places of the index: four words for each of 192 rows; the word about circles; the first rules of 64 conclusions held and 64 denied;
-- the rule after each of 256 with the same head; the word that says whether the chains are whole; how many rules are in chains;
-- the rows of 64 conclusions held and 64 denied; the word about circles and alternatives.
use Rattle.std.specs.Prelude.{ℕ, ◌+◌, ◌*◌}

abbrev pub circle_place : ℕ
circle_place = 192 * 4

abbrev pub first_place : ℕ
first_place = circle_place + 1

abbrev pub next_place : ℕ
next_place = first_place + 128

abbrev pub whole_place : ℕ
whole_place = next_place + 256

abbrev pub cut_place : ℕ
cut_place = whole_place + 1

abbrev pub rows_place : ℕ
rows_place = cut_place + 1

abbrev pub index_length : ℕ
index_length = rows_place + 128 + 1

-- The first rule with the conclusion at place i of word s for its head, and the rule after rule k with the same head.
abbrev pub first_at : ℕ → ℕ → ℕ
first_at s i = first_place + (s * 64 + i)

abbrev pub next_at : ℕ → ℕ
next_at k = next_place + k

-- The row of the conclusion at place i of word s.
abbrev pub row_at : ℕ → ℕ → ℕ
row_at s i = rows_place + (s * 64 + i)
