use mathlib.Core.Path.{ap}
use native.Mathlib.Omega.{arith}
use borrow.Author.Rules.{rules}
use Rattle.cursor.specs.declared.Cursor.{Cursor}
use Rattle.std.proofs.lemmas.Result.{err_from_is_err_and}
use Rattle.read.proofs.Going.{alone-more, alone-refused, alone-whole}
use Rattle.read.proofs.read_lines.Goals as goal

pub read_book-requires : goal.read_book-requires
read_book-requires c = (omega (arith, ap (λ (x : Cursor). x.at) c.first.ensures), omega (arith, ap (λ (x : Cursor). x.line) c.first.ensures), c.requires.0, c.requires.1, search rules)

pub returns-then-c-text : goal.returns-then-c-text
returns-then-c-text c = alone-more _ c.read_book.result _ _ c.first.ensures c.read_book.ensures c.requires.1 c.in_ok-s.s c.in_ok-s.c _ (search rules) (search rules) c.of.ensures

pub returns-in_err-s : goal.returns-in_err-s
returns-in_err-s c =
    let p = err_from_is_err_and c.from_residual.result c.from_residual.ensures.1 in
    rw (p.1, p.2) (alone-refused _ c.read_book.result _ _ c.first.ensures c.read_book.ensures c.requires.1 _ (search rules))

pub returns : goal.returns
returns c = alone-whole _ c.read_book.result _ _ c.first.ensures c.read_book.ensures c.requires.1 _ c.in_ok-s.c (search rules) (omega arith)
