use borrow.Author.Rules.{rules}
use Rattle.book.specs.Faults.{numbered}
use Rattle.book.proofs.Faults.{numbered-ok, numbered-err}
use Rattle.read.proofs.FieldLaws.{number-misspelt, number-outside, number-inside}
use Rattle.std.proofs.lemmas.Result.{err_from_is_err_and}
use Rattle.read.proofs.read_number.Goals as goal

pub returns-in_err-v : goal.returns-in_err-v
returns-in_err-v c =
    let p = err_from_is_err_and c.from_residual.result c.from_residual.ensures.1 in
    rw (p.1, p.2) (number-misspelt _ (numbered c.read_field.result) _ _ c.read_field.ensures (numbered-err _ _ c.in_err-v.was))

pub returns-in_err-check_number : goal.returns-in_err-check_number
returns-in_err-check_number c = let p = err_from_is_err_and c.from_residual-in_err-check_number.result c.from_residual-in_err-check_number.ensures.1 in rw (p.1, p.2) (number-outside _ (numbered c.read_field.result) _ c.in_ok-v.v (numbered c.check_number.result) c.read_field.ensures (numbered-ok _ _ c.in_ok-v.was) (search rules) c.check_number.ensures _ (numbered-err _ _ c.in_err-check_number.was))

pub returns : goal.returns
returns c = number-inside _ (numbered c.read_field.result) _ c.in_ok-v.v (numbered c.check_number.result) c.read_field.ensures (numbered-ok _ _ c.in_ok-v.was) (search rules) c.check_number.ensures (numbered-ok _ _ c.in_ok-check_number.was)
