use Rattle.std.proofs.lemmas.Result.{err_from_is_err_and}
use native.Mathlib.Omega.{arith}
use mathlib.Core.Path.{refl}
use Rattle.lawful.proofs.Tests.{numbered}
use Rattle.line.proofs.Whole.{few-statements, few-exceptions, line-unread, line-unlawful, line-short, line-whole}
use borrow.Author.Rules.{rules}
use Rattle.line.proofs.line.Goals as goal

pub returns-in_err-s : goal.returns-in_err-s
returns-in_err-s c =
    let p = err_from_is_err_and c.from_residual.result c.from_residual.ensures.1 in
    rw (p.1, p.2) (line-unread _ _ _ c.parse.ensures _ _ _ (search rules))

pub check-requires : goal.check-requires
check-requires c =
    let s = c.in_ok-s.s in
    (few-statements _ _ _ s c.parse.ensures (search rules), omega (arith, few-exceptions _ _ _ s c.parse.ensures (search rules)))

pub returns-in_err-check : goal.returns-in_err-check
returns-in_err-check c =
    let p = err_from_is_err_and c.from_residual-in_err-check.result c.from_residual-in_err-check.ensures.1 in
    rw (p.1, p.2) (line-unlawful _ _ _ c.parse.ensures _ _ c.in_ok-s.s (search rules) _ c.in_err-check.ensures (numbered _))

pub line_bytes-m-requires : goal.line_bytes-m-requires
line_bytes-m-requires c = (omega (arith, c.line_fields-w.ensures.1), omega (arith, few-statements _ _ _ c.in_ok-s.s c.parse.ensures (search rules)))

pub returns-then-buf-m : goal.returns-then-buf-m
returns-then-buf-m c =
    rw c.of.ensures (line-short _ _ _ c.parse.ensures _ _ c.in_ok-s.s (search rules) 0 c.in_ok-check.ensures refl _ c.line_fields-w.ensures.0 _ c.line_bytes-m.ensures (search rules))

pub put_line-requires : goal.put_line-requires
put_line-requires c =
    (omega (arith, c.line_fields-w.ensures.1), omega (arith, few-statements _ _ _ c.in_ok-s.s c.parse.ensures (search rules)), omega (arith, c.line_bytes-m.ensures))

pub returns : goal.returns
returns c =
    line-whole _ _ _ c.parse.ensures _ _ c.in_ok-s.s (search rules) 0 c.in_ok-check.ensures refl _ c.line_fields-w.ensures.0 _ _ c.line_bytes-m.ensures (omega arith) c.put_line.ensures
