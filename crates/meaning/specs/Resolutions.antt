-- Resolutions and verdicts (sources in Published: 000, Definition 7; 003, Definition 2.8).
use Rattle.std.specs.Prelude.{ℕ}
use Rattle.sets.specs.Sets.{ProperSubset}
use Rattle.sets.specs.declared.Pair.{Pair}
use Rattle.meaning.specs.Books.{Book}
use Rattle.meaning.specs.Views.{Answers, RankedWithin, Bodies, View, Dominates}

-- Some view dominates the pair.
pub record Dominated (b : Book) (p : Pair) : Type 0 where
  pub other : Pair
  pub view : View b other
  pub dominates : Dominates b other p

-- Some undominated view's T is a proper subset of the pair's T.
pub record Exceeded (b : Book) (p : Pair) : Type 0 where
  pub other : Pair
  pub view : View b other
  pub undominated : Dominated b other → ⊥
  pub smaller : ProperSubset other.taken p.taken

-- The pair is a resolution: a view that no view dominates and such that no undominated view's T is a proper subset of its T.
pub record Resolution (b : Book) (p : Pair) : Type 0 where
  pub view : View b p
  pub undominated : Dominated b p → ⊥
  pub minimal : Exceeded b p → ⊥

-- The verdict on a lawful pair: the first that applies of 1, 2, 3, 4, 5, and 0 where none does.
pub data Verdict (b : Book) (p : Pair) : ℕ → Type 0 where
  no_answer_set : (Answers b p → ⊥) → Verdict b p 1
  ranked_within : Answers b p → RankedWithin b p → Verdict b p 2
  body_unsatisfied : Answers b p → (RankedWithin b p → ⊥) → (Bodies b p → ⊥) → Verdict b p 3
  dominated : View b p → Dominated b p → Verdict b p 4
  not_minimal : View b p → (Dominated b p → ⊥) → Exceeded b p → Verdict b p 5
  resolution : Resolution b p → Verdict b p 0
