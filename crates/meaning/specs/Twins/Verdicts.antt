-- The definitions once more, as tests that compute; proofs/Twins shows that each decides its definition.
use Rattle.std.specs.Prelude.{ℕ, zero, suc, ◌^◌, Bool, true, false, not, List, [], ◌∷◌, ◌++◌, eqb, ltb, length}
use Rattle.logic.specs.Tests.{both, concat_map, every, keep, some}
use Rattle.sets.specs.Sets.{member}
use Rattle.sets.specs.declared.Pair.{Pair}
use Rattle.meaning.specs.Literals.{Literal, pos, neg, Conclusions, is_in}
use Rattle.meaning.specs.Rules.{Body, Rule, satisfied}
use Rattle.meaning.specs.Preferences.{in_both}
use Rattle.meaning.specs.AnswerSets.{reduct}
use Rattle.meaning.specs.Books.{Book, conclusions, applied}
use Rattle.meaning.specs.Views.{ranking}
use Rattle.meaning.specs.Twins.Closure.{closure}

-- S breaks the constraint.
unfoldable pub breaks : Conclusions → Body → List Literal → Bool
breaks s b [] = satisfied s b
breaks s b (l ∷ ls) = false

-- No statement from 1 to k is both held and denied.
unfoldable pub apart : ℕ → Conclusions → Bool
apart zero s = true
apart (suc k) s = elim (not (is_in (pos (suc k)) s)) [ true ↦ apart k s | false ↦ elim (not (is_in (neg (suc k)) s)) [ true ↦ apart k s | false ↦ false ] ]

unfoldable pub same : Conclusions → Conclusions → Bool
same s t = elim (eqb s.held t.held) [ true ↦ eqb s.denied t.denied | false ↦ false ]

-- The numbers below k.
unfoldable pub below : ℕ → List ℕ
below zero = []
below (suc k) = k ∷ below k

-- The numbers from 1 to k that are in a are in c.
unfoldable pub contained_to : ℕ → ℕ → ℕ → Bool
contained_to zero a c = true
contained_to (suc k) a c = elim (not (member (suc k) a)) [ true ↦ contained_to k a c | false ↦ elim (member (suc k) c) [ true ↦ contained_to k a c | false ↦ false ] ]

-- At least one of the heads is in t; t is closed.
unfoldable pub given : List Literal → Conclusions → Bool
given [] t = true
given (l ∷ ls) t = some (λ k. is_in k t) (l ∷ ls)

unfoldable pub follows : Conclusions → Rule → Bool
follows t r = elim (every (λ l. is_in l t) r.body.needed) [ true ↦ given r.heads t | false ↦ true ]

unfoldable pub closed : List Rule → Conclusions → Bool
closed rs t = every (follows t) rs

-- t is no closed proper subset of s.
unfoldable pub no_smaller : List Rule → Conclusions → Conclusions → Bool
no_smaller rs s t =
    elim (contained_to t.held t.held s.held) [ false ↦ true | true ↦ elim (contained_to t.denied t.denied s.denied) [ false ↦ true | true ↦ elim (closed rs t) [ false ↦ true | true ↦ same t s ] ] ]

-- All sets whose numbers are not larger than those of s: its subsets are among them.
unfoldable pub up_to : Conclusions → List Conclusions
up_to s = concat_map (λ h. concat_map (λ d. record { held = h; denied = d } ∷ []) (below (suc s.denied))) (below (suc s.held))

unfoldable pub minimal : List Rule → Conclusions → Bool
minimal rs s = elim (closed rs s) [ true ↦ every (no_smaller rs s) (up_to s) | false ↦ false ]

-- A consistent S is an answer set of the rules.
unfoldable pub answer_set : List Rule → Conclusions → Bool
answer_set rs s = elim (minimal (reduct s rs) s) [ true ↦ every (λ r. not (breaks s r.body r.heads)) rs | false ↦ false ]

-- The line x, y as a rule: whatever leads from a to x leads to y.
unfoldable pub rank_rule : ℕ → ℕ × ℕ → Rule
rank_rule a l = record { heads = pos (suc l.1) ∷ []; body = record { needed = elim (eqb l.0 a) [ true ↦ [] | false ↦ pos (suc l.0) ∷ [] ]; barred = [] } }

unfoldable pub rank_rules : ℕ → List (ℕ × ℕ) → List Rule
rank_rules a [] = []
rank_rules a (l ∷ ls) = rank_rule a l ∷ rank_rules a ls

-- a outranks b.
unfoldable pub outranks : List (ℕ × ℕ) → ℕ → ℕ → Bool
outranks ls a b = is_in (pos (suc b)) (closure (rank_rules a ls))

-- Some member of t outranks some member of u: a chain begins with a line and ends with one.
unfoldable pub ranked_in : List (ℕ × ℕ) → ℕ → ℕ → Bool
ranked_in ls t u =
    some (λ (l : ℕ × ℕ). elim (member l.0 t) [ true ↦ some (λ (m : ℕ × ℕ). elim (member m.1 u) [ true ↦ outranks ls l.0 m.1 | false ↦ false ]) ls | false ↦ false ]) ls

-- T has a member beside one that outranks it.
unfoldable pub is_ranked_within : Book → Pair → Bool
is_ranked_within b p = ranked_in (ranking b p) p.taken p.taken

-- p dominates q.
unfoldable pub dominates : Book → Pair → Pair → Bool
dominates b p q = ranked_in (in_both (ranking b p) (ranking b q)) p.taken q.taken

unfoldable pub lawful : Book → Pair → Bool
lawful b p =
    elim (ltb p.taken (2 ^ length b.exceptions)) [ true ↦ elim (ltb p.held (2 ^ b.statements)) [ true ↦ elim (ltb p.denied (2 ^ b.statements)) [ true ↦ apart b.statements (conclusions p) | false ↦ false ] | false ↦ false ] | false ↦ false ]

-- The first refusal of a pair by its three tests; 0 where all pass.
unfoldable pub pair_turned : Bool → Bool → Bool → ℕ
pair_turned false s a = 12
pair_turned true false a = 13
pair_turned true true false = 14
pair_turned true true true = 0

-- The refusal of a pair; 0 where it is lawful.
unfoldable pub pair_refusal : Book → Pair → ℕ
pair_refusal b p = pair_turned (ltb p.taken (2 ^ length b.exceptions)) (both (ltb p.held (2 ^ b.statements)) (ltb p.denied (2 ^ b.statements))) (apart b.statements (conclusions p))

unfoldable pub answers : Book → Pair → Bool
answers b p = answer_set (b.plain ++ applied b p) (conclusions p)

unfoldable pub bodies : Book → Pair → Bool
bodies b p = every (λ r. satisfied (conclusions p) r.body) (applied b p)

unfoldable pub view : Book → Pair → Bool
view b p =
    elim (lawful b p) [ true ↦ elim (answers b p) [ true ↦ elim (not (is_ranked_within b p)) [ true ↦ bodies b p | false ↦ false ] | false ↦ false ] | false ↦ false ]

-- All pairs within the book's numbers.
unfoldable pub pairs : Book → List Pair
pairs b =
    concat_map (λ t. concat_map (λ h. concat_map (λ d. record { taken = t; held = h; denied = d } ∷ []) (below (2 ^ b.statements))) (below (2 ^ b.statements))) (below (2 ^ length b.exceptions))

-- All views.
unfoldable pub views : Book → List Pair
views b = keep (view b) (pairs b)

unfoldable pub proper_subset : ℕ → ℕ → Bool
proper_subset a c = elim (contained_to a a c) [ true ↦ not (eqb a c) | false ↦ false ]

-- Among the views given, one dominates the pair; one that none of them dominates has a smaller T.
unfoldable pub dominated_by : Book → List Pair → Pair → Bool
dominated_by b vs p = some (λ q. dominates b q p) vs

unfoldable pub exceeded_by : Book → List Pair → Pair → Bool
exceeded_by b vs p = some (λ (q : Pair). elim (proper_subset q.taken p.taken) [ true ↦ not (dominated_by b vs q) | false ↦ false ]) vs

-- The verdict on a lawful pair.
unfoldable pub verdict : Book → Pair → ℕ
verdict b p =
    elim (answers b p) [
      | false ↦ 1
      | true ↦
          elim (is_ranked_within b p) [
            | true ↦ 2
            | false ↦
                elim (bodies b p) [
                  | false ↦ 3
                  | true ↦
                      elim (dominated_by b (views b) p) [
                        | true ↦ 4
                        | false ↦
                            elim (exceeded_by b (views b) p) [ true ↦ 5 | false ↦ 0 ]
                      ]
                ]
          ]
    ]

-- The pair is neither dominated by one of the views nor has one that none of them dominates a smaller T.
unfoldable pub unbeaten : Book → List Pair → Pair → Bool
unbeaten b vs p = elim (not (dominated_by b vs p)) [ true ↦ not (exceeded_by b vs p) | false ↦ false ]

-- All resolutions.
unfoldable pub resolutions_among : Book → List Pair → List Pair
resolutions_among b vs = keep (unbeaten b vs) vs

unfoldable pub resolutions : Book → List Pair
resolutions b = resolutions_among b (views b)
