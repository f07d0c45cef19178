use Rattle.book.specs.Kinds.{kinds, bytes, row_once, most, longest, most_rows, longest_table}
use mathlib.Core.Path.{refl}
use Rattle.logic.specs.Tests.{pick}
use Rattle.book.specs.Shapes.{limits}
use Rattle.book.proofs.Book.limits.Goals as goal

pub returns : goal.returns
unfolding limits kinds bytes row_once most longest most_rows longest_table pick
returns c = refl
