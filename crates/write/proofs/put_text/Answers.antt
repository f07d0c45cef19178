use native.Mathlib.Omega.{arith}
use Rattle.write.proofs.PutLaws.{rows_long, first-fields, last-fields, first_short, last_fits, last-short, text-put}
use Rattle.write.proofs.put_text.Goals as goal

pub put_line-requires : goal.put_line-requires
put_line-requires c = (omega arith, first_short _ c.requires.0, first-fields, omega (arith, rows_long c.args.s c.args.t.now c.requires.2, c.requires.3))

pub put_rows-requires : goal.put_rows-requires
put_rows-requires c = (c.requires.1, c.requires.2, omega (arith, rows_long c.args.s c.args.t.now c.requires.2, c.requires.3, c.line_bytes.ensures, c.put_line.auto.buf))

pub overflow_cast-z : goal.overflow_cast-z
overflow_cast-z c = omega (arith, last_fits c.args.s _ c.requires.0 c.total.ensures)

pub overflow_sub-text_bytes : goal.overflow_sub-text_bytes
overflow_sub-text_bytes c = omega (arith, rows_long c.args.s c.args.t.now c.requires.2, c.text_bytes.ensures, c.line_bytes-2.ensures)

pub put_line-requires-2 : goal.put_line-requires-2
put_line-requires-2 c = (omega arith, last-short c.args.s _ c.requires.0 c.total.ensures, last-fields, omega (arith, rows_long c.args.s c.args.t.now c.requires.2, c.requires.3, c.text_bytes.ensures, c.line_bytes-2.ensures, c.put_line.auto.buf, c.put_rows.auto.buf))

pub returns : goal.returns
returns c = text-put _ _ _ _ c.args.s c.args.t.now _ _ _ _ c.requires.0 c.requires.2 c.line_bytes.ensures c.line_bytes-2.ensures c.text_bytes.ensures c.total.ensures c.put_line.ensures c.put_rows.ensures c.put_line-2.ensures
