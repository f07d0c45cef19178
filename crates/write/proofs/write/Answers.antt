use native.Mathlib.Omega.{arith}
use borrow.Author.Rules.{rules}
use Rattle.std.proofs.lemmas.Result.{err_from_is_err_and}
use Rattle.write.proofs.Whole.{write-refused, table-bounded, numbers-short, table-long, write-short, write-whole}
use Rattle.write.proofs.write.Goals as goal

pub text_bytes-n-requires : goal.text_bytes-n-requires
text_bytes-n-requires c =
    let test_table = c.test_table in
    let args = c.args in
    table-bounded args.table.now args.buf.now test_table.result test_table.ensures c.in_ok-s.s (search rules)

pub returns-then-buf-n : goal.returns-then-buf-n
returns-then-buf-n c =
    let text-bytes = c.text_bytes-n in
    let test_table = c.test_table in
    write-short _ _ test_table.result test_table.ensures c.in_ok-s.s (search rules) text-bytes.result _ text-bytes.ensures (search rules) c.of.ensures

pub put_text-requires : goal.put_text-requires
put_text-requires c =
    let text-bytes = c.text_bytes-n in
    let test_table = c.test_table in
    let args = c.args in
    (table-bounded args.table.now args.buf.now test_table.result test_table.ensures c.in_ok-s.s (search rules), numbers-short args.table.now args.buf.now test_table.result test_table.ensures c.in_ok-s.s (search rules), table-long args.table.now args.buf.now test_table.result test_table.ensures c.in_ok-s.s (search rules), omega (arith, text-bytes.ensures))

pub returns-in_err-s : goal.returns-in_err-s
returns-in_err-s c =
    let p = err_from_is_err_and c.from_residual.result c.from_residual.ensures.1 in
    let test_table = c.test_table in
    rw (p.1, p.2) (write-refused _ _ test_table.result test_table.ensures _ (search rules))

pub returns : goal.returns
returns c =
    let put-text = c.put_text in
    let text-bytes = c.text_bytes-n in
    let test_table = c.test_table in
    write-whole _ _ test_table.result test_table.ensures c.in_ok-s.s (search rules) text-bytes.result _ text-bytes.ensures (omega arith) put-text.ensures
