-- Bounds that have the views of a book.
use Rattle.std.specs.Prelude.{ℕ, List}
use Rattle.sets.specs.declared.Pair.{Pair}
use Rattle.masks.specs.declared.Bounds.{Bounds}
use Rattle.masks.specs.Views.{MaskView}
use Rattle.bounds.specs.Sound.{In}
use Rattle.meaning.specs.Books.{Book}
use Rattle.meaning.specs.Views.{View}
use Rattle.bridge.specs.Packed.{Packs}
use Rattle.bridge.specs.Ranks.{RanksOf}

-- The words and the ranks are those of the book, and the views within root are its views.
pub record Rooted (b : Book) (ws : List ℕ) (n : ℕ) (ranks : List ℕ) (root : Bounds) : Type 0 where
  pub packs : Packs b ws n
  pub ranked : RanksOf b ranks
  pub holds : (v : Pair) → View b v → MaskView ws n ranks v × In root v
  pub only : (v : Pair) → MaskView ws n ranks v → In root v → View b v
