-- Views and domination (source 000, named in Published, Definitions 5 and 6).
use Rattle.std.specs.Prelude.{ℕ, true, ◌≡◌, List, ◌++◌}
use Rattle.logic.specs.Lists.{Every}
use Rattle.sets.specs.Sets.{member}
use Rattle.sets.specs.declared.Pair.{Pair}
use Rattle.meaning.specs.Rules.{Satisfied}
use Rattle.meaning.specs.AnswerSets.{AnswerSet}
use Rattle.meaning.specs.Preferences.{counting, in_both, Outranks}
use Rattle.meaning.specs.Books.{Book, Lawful, conclusions, applied}

-- S is an answer set of the plain rules with those of T added.
abbrev pub Answers : Book → Pair → Type 0
Answers b p = AnswerSet (b.plain ++ applied b p) (conclusions p)

-- The lines that rank in the pair's S: the P lines, and the Q lines whose body S satisfies.
abbrev pub ranking : Book → Pair → List (ℕ × ℕ)
ranking b p = b.preferences ++ counting (conclusions p) b.conditional

-- By the preference lines, some member of the set t outranks some member of the set u.
pub record Ranked (lines : List (ℕ × ℕ)) (t u : ℕ) : Type 0 where
  pub upper : ℕ
  pub lower : ℕ
  pub upper_in : member upper t ≡ true
  pub lower_in : member lower u ≡ true
  pub outranks : Outranks lines upper lower

-- T has a member beside one that outranks it in S; the two may be equal.
abbrev pub RankedWithin : Book → Pair → Type 0
RankedWithin b p = Ranked (ranking b p) p.taken p.taken

-- By the steps given in both sets, some a in the T of p outranks some b in the T of q: where both are views, p dominates q (Definition 6).
abbrev pub Dominates : Book → Pair → Pair → Type 0
Dominates b p q = Ranked (in_both (ranking b p) (ranking b q)) p.taken q.taken

-- Every body in T is satisfied by S.
abbrev pub Bodies : Book → Pair → Type 0
Bodies b p = Every (λ r. Satisfied (conclusions p) r.body) (applied b p)

-- The pair is a view (Definition 5).
pub record View (b : Book) (p : Pair) : Type 0 where
  pub lawful : Lawful b p
  pub answers : Answers b p
  pub unranked : RankedWithin b p → ⊥
  pub bodies : Bodies b p
