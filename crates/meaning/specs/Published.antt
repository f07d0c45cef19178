-- The published form of a resolution: source 000 (M. Balduccini, CR-MODELS: An Inference Engine for CR-Prolog), Definition 7, and source 003 (the same, Computing Answer Sets of CR-Prolog Programs, 2006), Definition 2.8.
use Rattle.sets.specs.Sets.{ProperSubset}
use Rattle.sets.specs.declared.Pair.{Pair}
use Rattle.meaning.specs.Books.{Book}
use Rattle.meaning.specs.Views.{View, Dominates}

-- A candidate answer set: a view that no view dominates (Definition 7).
pub record Candidate (b : Book) (p : Pair) : Type 0 where
  pub view : View b p
  pub undominated : (q : Pair) → View b q → Dominates b q p → ⊥

-- A candidate such that no candidate's T is a proper subset of its T (Definition 2.8).
pub record Chosen (b : Book) (p : Pair) : Type 0 where
  pub candidate : Candidate b p
  pub minimal : (q : Pair) → Candidate b q → ProperSubset q.taken p.taken → ⊥
