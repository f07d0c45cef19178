use Rattle.book.specs.Kinds.{kinds, most, bytes, longest}
use mathlib.Core.Path.{refl}
use Rattle.book.specs.Shapes.{empty_shape, empty_book}
use Rattle.book.proofs.Book.empty.Goals as goal

pub returns : goal.returns
unfolding empty_book empty_shape longest most bytes kinds
returns c = refl
