use mathlib.Core.Path.{ap, ◌∙◌}
use native.Mathlib.Omega.{arith}
use lib.ListN.{length, set}
use Rattle.logic.proofs.Stores.{putting-next, putting-end}
use Rattle.answers.proofs.Copies.{all-put}
use Rattle.line.proofs.PutLaws.{marks-are, marks-length}
use Rattle.line.proofs.put_marks.Goals as goal

pub loop-i-preserved : goal.loop-i-preserved
loop-i-preserved c =
    let loop = c.loop-i in
    putting-next _ _ _ _ loop.buf _ loop.i loop.invariant (omega arith) _ _ (ap (set loop.buf _) c.mark.ensures) (omega arith)

pub returns : goal.returns
returns c =
    let s = c.args.buf.now in
    let loop = c.loop-i in
    let end = putting-end _ _ _ _ _ _ loop.i _ loop.invariant (omega arith) (marks-are c.args.p (length s) 0) in
    end.0 ∙ all-put s _ (marks-length c.args.p (length s))
