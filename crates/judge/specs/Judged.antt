-- The verdict that is answered for a pair of a prepared book.
use Rattle.std.specs.Prelude.{ℕ, ◌≡◌, Bool, List}
use Rattle.logic.specs.Tests.{Decides}
use Rattle.sets.specs.declared.Pair.{Pair}
use Rattle.masks.specs.declared.Bounds.{Bounds}
use Rattle.meaning.specs.Books.{Book, Lawful}
use Rattle.meaning.specs.Resolutions.{Dominated, Exceeded}
use Rattle.meaning.specs.Twins.Verdicts.{verdict}
use Rattle.resolution.specs.Rooted.{Rooted}
use Rattle.judge.specs.declared.Judgement.{Judgement}
use Rattle.judge.specs.declared.Judgement.TheVariants.{Resolution, NoAnswerSet, RankedWithin, BodyUnsatisfied, Dominated as Dominated_, NotMinimal}

-- The number is the verdict on the pair in every book of these words and ranks in which it is lawful.
pub record Judged (ws : List ℕ) (n : ℕ) (ranks : List ℕ) (root : Bounds) (p : Pair) (r : ℕ) : Type 0 where
  pub is : (b : Book) → Rooted b ws n ranks root → Lawful b p → r ≡ verdict b p

-- In every book of these words and ranks the test tells whether the pair is not dominated.
pub record Free (ws : List ℕ) (n : ℕ) (ranks : List ℕ) (root : Bounds) (p : Pair) (r : Bool) : Type 0 where
  pub tells : (b : Book) → Rooted b ws n ranks root → Decides r (Dominated b p → ⊥)

-- In every such book where it is not dominated the test tells whether no undominated view has a proper subset of its exceptions.
pub record Smallest (ws : List ℕ) (n : ℕ) (ranks : List ℕ) (root : Bounds) (p : Pair) (r : Bool) : Type 0 where
  pub tells : (b : Book) → Rooted b ws n ranks root → (Dominated b p → ⊥) → Decides r (Exceeded b p → ⊥)

-- The number of a verdict.
abbrev pub number_of : Judgement → ℕ
number_of Resolution = 0
number_of NoAnswerSet = 1
number_of RankedWithin = 2
number_of BodyUnsatisfied = 3
number_of Dominated_ = 4
number_of NotMinimal = 5
