-- The starred small books of document 01, K1 to K14, two books of our own that pin the order of pairs, the case of (e) and four books with O lines, as one computed table;
-- proofs/Shown says what it means in the words of the definitions.
use Prim.Native.Nat.{ℕ}
use lib.IntN.{ℤ, negsuc}
use lib.IntN as Z
use mathlib.Core.Bool.{true}
use mathlib.Core.Path.{◌≡◌, refl}
use mathlib.Core.List.{List, [], ◌∷◌}
use Rattle.logic.specs.Tests.{concat_map, cons_if, every, keep, some}
use Rattle.sets.specs.Sets.{member, size, size_to}
use Rattle.sets.specs.declared.Pair.{Pair}
use Rattle.book.specs.Kinds.{kinds, kind}
use Rattle.book.specs.Counts.{counts_of, all_counts, count_at, sum_to}
use Rattle.meaning.specs.Literals.{Literal, pos, neg, is_in}
use Rattle.meaning.specs.Rules.{Rule, satisfied}
use Rattle.meaning.specs.Preferences.{counting, same_step, in_both}
use Rattle.meaning.specs.AnswerSets.{some_in, struck, reduct}
use Rattle.meaning.specs.Books.{taken_from}
use Rattle.meaning.specs.Meant.{entry, number, entries_at, rule_at, rules_at, preferences_at, condition_at, conditional_at, book_of}
use Rattle.meaning.specs.Order.{value_of, value}
use Rattle.meaning.specs.Twins.Closure.{add_to, add, add_heads, keep_back, take_out, close_by, empty, closure}
use Rattle.meaning.specs.Twins.Verdicts.{breaks, apart, same, given, follows, closed, no_smaller, up_to, minimal, answer_set, rank_rule, rank_rules, outranks, ranked_in, is_ranked_within, dominates, lawful, answers, bodies, view, below, pairs, views, contained_to, proper_subset, dominated_by, exceeded_by, verdict, unbeaten, resolutions_among, resolutions}
use Rattle.meaning.specs.Twins.Tables.{differs_from, before, ascending, same_pair, Example, same_members, right}

-- A rule with these heads; a rule with one head; that with an empty body; a constraint.
abbrev among : List Literal → List Literal → List Literal → Rule
among hs n b = record { heads = hs; body = record { needed = n; barred = b } }

abbrev rule : Literal → List Literal → List Literal → Rule
rule h n b = among (h ∷ []) n b

abbrev fact : Literal → Rule
fact l = rule l [] []

abbrev never : List Literal → List Literal → Rule
never n b = among [] n b

abbrev facts : List ℕ → List Rule
facts [] = []
facts (i ∷ is) = fact (pos i) ∷ facts is

-- A pair: taken, held, denied.
abbrev pair : ℕ → ℕ → ℕ → Pair
pair t h d = record { taken = t; held = h; denied = d }

-- A book of n statements, all its resolutions in order, and the verdicts on some pairs.
abbrev example : ℕ → List Rule → List Rule → List (ℕ × ℕ) → List Pair → List (Pair × ℕ) → Example
example n rs xs ps found judged = record { book = record { statements = n; plain = rs; exceptions = xs; preferences = ps; conditional = [] }; found = found; judged = judged }

-- K1: no rules.
abbrev k1 : Example
k1 = example 1 [] [] [] (pair 0 0 0 ∷ []) []

-- K2: a constraint with an empty body.
abbrev k2 : Example
k2 = example 1 (never [] [] ∷ []) [] [] [] []

-- K3: +2 if not -1.
abbrev k3 : Example
k3 = example 2 (rule (pos 2) [] (neg 1 ∷ []) ∷ []) [] [] (pair 0 2 0 ∷ []) []

-- K4: +1 if not +2; +2 if not +1.
abbrev k4 : Example
k4 = example 2 (rule (pos 1) [] (pos 2 ∷ []) ∷ rule (pos 2) [] (pos 1 ∷ []) ∷ []) [] [] (pair 0 2 0 ∷ pair 0 1 0 ∷ []) []

-- K5: +1 if +1.
abbrev k5 : Example
k5 = example 1 (rule (pos 1) (pos 1 ∷ []) [] ∷ []) [] [] (pair 0 0 0 ∷ []) ((pair 0 1 0, 1) ∷ [])

-- K6: the facts +1 and -1.
abbrev k6 : Example
k6 = example 1 (fact (pos 1) ∷ fact (neg 1) ∷ []) [] [] [] []

-- K7: a constraint, not +1, not +2; +3 if +1; X1 +1; X2 +2. K8: K7 with P 1 2.
abbrev k7-plain : List Rule
k7-plain = never [] (pos 1 ∷ pos 2 ∷ []) ∷ rule (pos 3) (pos 1 ∷ []) [] ∷ []

abbrev k7 : Example
k7 = example 3 k7-plain (facts (1 ∷ 2 ∷ [])) [] (pair 1 5 0 ∷ pair 2 2 0 ∷ []) ((pair 3 7 0, 5) ∷ [])

abbrev k8 : Example
k8 = example 3 k7-plain (facts (1 ∷ 2 ∷ [])) ((1, 2) ∷ []) (pair 1 5 0 ∷ []) ((pair 2 2 0, 4) ∷ (pair 3 7 0, 2) ∷ [])

-- K9: the views with {1, 4} and {2, 3} dominate each other.
abbrev k9 : Example
k9 =
    example 4 (never [] (pos 1 ∷ pos 2 ∷ []) ∷ never [] (pos 3 ∷ pos 4 ∷ []) ∷ never (pos 1 ∷ pos 3 ∷ []) [] ∷ never (pos 2 ∷ pos 4 ∷ []) [] ∷ [])
    (facts (1 ∷ 2 ∷ 3 ∷ 4 ∷ [])) ((1, 2) ∷ (3, 4) ∷ []) [] ((pair 9 9 0, 4) ∷ (pair 6 6 0, 4) ∷ [])

-- K10: an exception that outranks itself.
abbrev k10 : Example
k10 = example 1 (never [] (pos 1 ∷ []) ∷ []) (facts (1 ∷ [])) ((1, 1) ∷ []) [] ((pair 1 1 0, 2) ∷ [])

-- K11: X1 +1; X2 +2 if -1; constraint not +1.
abbrev k11 : Example
k11 = example 2 (never [] (pos 1 ∷ []) ∷ []) (fact (pos 1) ∷ rule (pos 2) (neg 1 ∷ []) [] ∷ []) [] (pair 1 1 0 ∷ []) ((pair 3 1 0, 3) ∷ [])

-- K12: X1 and X2 both +1; constraint not +1.
abbrev k12 : Example
k12 = example 1 (never [] (pos 1 ∷ []) ∷ []) (facts (1 ∷ 1 ∷ [])) [] (pair 1 1 0 ∷ pair 2 1 0 ∷ []) []

-- K13: a chain of preferences, P 1 2 and P 2 3; constraints not +1, not +3; +2.
abbrev k13 : Example
k13 = example 3 (never [] (pos 1 ∷ pos 3 ∷ []) ∷ never (pos 2 ∷ []) [] ∷ []) (facts (1 ∷ 2 ∷ 3 ∷ [])) ((1, 2) ∷ (2, 3) ∷ []) (pair 1 1 0 ∷ []) ((pair 4 4 0, 4) ∷ [])

-- K14: the view with {2} is smaller, and dominated.
abbrev k14 : Example
k14 = example 3 (never [] (pos 1 ∷ pos 2 ∷ []) ∷ never (pos 1 ∷ []) (pos 3 ∷ []) ∷ []) (facts (1 ∷ 2 ∷ 3 ∷ [])) ((1, 2) ∷ []) (pair 5 5 0 ∷ []) ((pair 2 2 0, 4) ∷ [])

-- Not of document 01, whose books leave the order of pairs open. Held comes before denied.
abbrev held_first : Example
held_first = example 1 (rule (pos 1) [] (neg 1 ∷ []) ∷ rule (neg 1) [] (pos 1 ∷ []) ∷ []) [] [] (pair 0 1 0 ∷ pair 0 0 1 ∷ []) []

-- One exception comes before two, though its number is larger.
abbrev fewer-first : Example
fewer-first = example 3 (never [] (pos 1 ∷ pos 3 ∷ []) ∷ never [] (pos 2 ∷ pos 3 ∷ []) ∷ []) (facts (1 ∷ 2 ∷ 3 ∷ [])) [] (pair 4 4 0 ∷ pair 3 3 0 ∷ []) []

-- Document 02, (e): Xi gives +i, i=1 to 3; constraint not +1, not +3; Q 3 1 barred +2.
abbrev e1 : Example
e1 = record {
  book = record { statements = 3; plain = never [] (pos 1 ∷ pos 3 ∷ []) ∷ []; exceptions = facts (1 ∷ 2 ∷ 3 ∷ []); preferences = []; conditional = record { line = (3, 1); body = record { needed = []; barred = pos 2 ∷ [] } } ∷ [] };
  found = pair 4 4 0 ∷ pair 3 3 0 ∷ [];
  judged = (pair 1 1 0, 4) ∷ (pair 5 5 0, 2) ∷ (pair 6 6 0, 5) ∷ (pair 7 7 0, 5) ∷ [];
}

-- Document 02, (g). O1: +1 or +2: one of the two, not both.
abbrev o1 : Example
o1 = example 2 (among (pos 1 ∷ pos 2 ∷ []) [] [] ∷ []) [] [] (pair 0 2 0 ∷ pair 0 1 0 ∷ []) ((pair 0 3 0, 1) ∷ [])

-- O2: +1 or +2; each gives the other. Both are held: two alternatives in S, because something needs each.
abbrev o2 : Example
o2 = example 2 (rule (pos 1) (pos 2 ∷ []) [] ∷ rule (pos 2) (pos 1 ∷ []) [] ∷ among (pos 1 ∷ pos 2 ∷ []) [] [] ∷ []) [] [] (pair 0 3 0 ∷ []) ((pair 0 1 0, 1) ∷ [])

-- O3: +1 or +2; +1 or -3: at least one head of each, and no more than is asked for.
abbrev o3 : Example
o3 =
    example 3 (among (pos 1 ∷ pos 2 ∷ []) [] [] ∷ among (pos 1 ∷ neg 3 ∷ []) [] [] ∷ []) [] [] (pair 0 2 4 ∷ pair 0 1 0 ∷ [])
    ((pair 0 1 4, 1) ∷ (pair 0 3 4, 1) ∷ [])

-- O4: +1, +2 or -2 if not -1; constraint not +3; X1 +3 if +1; X2 +3 if -2; P 2 1.
abbrev o4 : Example
o4 =
    example 3 (never [] (pos 3 ∷ []) ∷ among (pos 1 ∷ pos 2 ∷ neg 2 ∷ []) [] (neg 1 ∷ []) ∷ []) (rule (pos 3) (pos 1 ∷ []) [] ∷ rule (pos 3) (neg 2 ∷ []) [] ∷ []) ((2, 1) ∷ [])
    (pair 2 4 2 ∷ []) ((pair 1 5 0, 4) ∷ (pair 0 2 0, 1) ∷ (pair 3 5 2, 1) ∷ [])

unfoldable pub table : List Example
table = k1 ∷ k2 ∷ k3 ∷ k4 ∷ k5 ∷ k6 ∷ k7 ∷ k8 ∷ k9 ∷ k10 ∷ k11 ∷ k12 ∷ k13 ∷ k14 ∷ held_first ∷ fewer-first ∷ e1 ∷ o1 ∷ o2 ∷ o3 ∷ o4 ∷ []

-- Every example of the table is right, computed.
pub all_right : every right table ≡ true
unfolding table counting same_step in_both size size_to value_of cons_if every right member is_in some_in struck reduct taken_from value some keep concat_map add_to add add_heads keep_back take_out close_by empty closure satisfied breaks apart same given follows closed no_smaller up_to minimal answer_set rank_rule rank_rules outranks ranked_in is_ranked_within dominates lawful answers bodies view below pairs views contained_to proper_subset dominated_by exceeded_by verdict unbeaten resolutions_among resolutions differs_from before ascending same_pair same_members
all_right = refl

-- ---- a number table
-- K8 as document 01's number table has it: n and the counts are the shape, these are the rows.
abbrev k8-rows : List ℤ
k8-rows =
    Z.pos 0 ∷ Z.pos 0 ∷ Z.pos 0 ∷ Z.pos 0 ∷ Z.pos 0 ∷ Z.pos 1 ∷ Z.pos 2 ∷ Z.pos 0 ∷ Z.pos 0
    ∷ Z.pos 3 ∷ Z.pos 1 ∷ Z.pos 0 ∷ Z.pos 0 ∷ Z.pos 0 ∷ Z.pos 0 ∷ Z.pos 0 ∷ Z.pos 0 ∷ Z.pos 0
    ∷ Z.pos 1 ∷ Z.pos 0 ∷ Z.pos 0 ∷ Z.pos 0 ∷ Z.pos 0 ∷ Z.pos 0 ∷ Z.pos 0 ∷ Z.pos 0 ∷ Z.pos 0
    ∷ Z.pos 2 ∷ Z.pos 0 ∷ Z.pos 0 ∷ Z.pos 0 ∷ Z.pos 0 ∷ Z.pos 0 ∷ Z.pos 0 ∷ Z.pos 0 ∷ Z.pos 0
    ∷ Z.pos 1 ∷ Z.pos 2 ∷ []

-- Its rows stand for the book K8.
pub k8-meant : book_of (record { statements = 3; plain = 2; exceptions = 2; preferences = 1; conditionals = 0; alternatives = 0 }) k8-rows ≡ k8.book
unfolding book_of preferences_at conditional_at number rules_at rule_at entries_at entry sum_to count_at all_counts counts_of kind kinds
k8-meant = refl

-- The case of document 02, (e), in the same way: its last row is that of a Q line.
abbrev e1-rows : List ℤ
e1-rows =
    Z.pos 0 ∷ Z.pos 0 ∷ Z.pos 0 ∷ Z.pos 0 ∷ Z.pos 0 ∷ Z.pos 1 ∷ Z.pos 3 ∷ Z.pos 0 ∷ Z.pos 0
    ∷ Z.pos 1 ∷ Z.pos 0 ∷ Z.pos 0 ∷ Z.pos 0 ∷ Z.pos 0 ∷ Z.pos 0 ∷ Z.pos 0 ∷ Z.pos 0 ∷ Z.pos 0
    ∷ Z.pos 2 ∷ Z.pos 0 ∷ Z.pos 0 ∷ Z.pos 0 ∷ Z.pos 0 ∷ Z.pos 0 ∷ Z.pos 0 ∷ Z.pos 0 ∷ Z.pos 0
    ∷ Z.pos 3 ∷ Z.pos 0 ∷ Z.pos 0 ∷ Z.pos 0 ∷ Z.pos 0 ∷ Z.pos 0 ∷ Z.pos 0 ∷ Z.pos 0 ∷ Z.pos 0
    ∷ Z.pos 3 ∷ Z.pos 1 ∷ Z.pos 0 ∷ Z.pos 0 ∷ Z.pos 0 ∷ Z.pos 0 ∷ Z.pos 2 ∷ Z.pos 0 ∷ Z.pos 0 ∷ Z.pos 0 ∷ []

pub e1-meant : book_of (record { statements = 3; plain = 1; exceptions = 3; preferences = 0; conditionals = 1; alternatives = 0 }) e1-rows ≡ e1.book
unfolding book_of preferences_at condition_at conditional_at number rules_at rule_at entries_at entry sum_to count_at all_counts counts_of kind kinds
e1-meant = refl

-- The book O4 in the same way: its O row stands after its R row.
abbrev o4-rows : List ℤ
o4-rows =
    Z.pos 0 ∷ Z.pos 0 ∷ Z.pos 0 ∷ Z.pos 0 ∷ Z.pos 0 ∷ Z.pos 3 ∷ Z.pos 0 ∷ Z.pos 0 ∷ Z.pos 0
    ∷ Z.pos 1 ∷ Z.pos 2 ∷ negsuc 1 ∷ Z.pos 0 ∷ Z.pos 0 ∷ Z.pos 0 ∷ Z.pos 0 ∷ negsuc 0 ∷ Z.pos 0 ∷ Z.pos 0 ∷ Z.pos 0
    ∷ Z.pos 3 ∷ Z.pos 1 ∷ Z.pos 0 ∷ Z.pos 0 ∷ Z.pos 0 ∷ Z.pos 0 ∷ Z.pos 0 ∷ Z.pos 0 ∷ Z.pos 0
    ∷ Z.pos 3 ∷ negsuc 1 ∷ Z.pos 0 ∷ Z.pos 0 ∷ Z.pos 0 ∷ Z.pos 0 ∷ Z.pos 0 ∷ Z.pos 0 ∷ Z.pos 0
    ∷ Z.pos 2 ∷ Z.pos 1 ∷ []

pub o4-meant : book_of (record { statements = 3; plain = 1; exceptions = 2; preferences = 1; conditionals = 0; alternatives = 1 }) o4-rows ≡ o4.book
unfolding book_of preferences_at conditional_at number rules_at rule_at entries_at entry sum_to count_at all_counts counts_of kind kinds
o4-meant = refl
