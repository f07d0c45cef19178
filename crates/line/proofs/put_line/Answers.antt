use native.Mathlib.Omega.{arith}
use lib.ListN.{length-set}
use Rattle.line.proofs.PutLaws.{count-short, line-put}
use Rattle.line.proofs.put_line.Goals as goal

pub put_columns-requires : goal.put_columns-requires
put_columns-requires c = (count-short _ _ c.size.ensures, simp length-set (omega arith))

pub returns : goal.returns
returns c = line-put _ _ _ c.args.w c.args.n c.args.p c.size.result c.requires.2 c.size.ensures c.put_columns.ensures c.put_taken.ensures _ c.put_marks.ensures
