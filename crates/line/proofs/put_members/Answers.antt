use mathlib.Core.Path.{◌∙◌}
use native.Mathlib.Omega.{arith}
use Rattle.logic.proofs.Stores.{putting-start, putting-end}
use Rattle.line.specs.Parts.{taken_of}
use Rattle.line.proofs.PutLaws.{member-put, member-skipped, taken-are, fields-bytes}
use Rattle.line.proofs.put_members.Goals as goal
use Rattle.line.proofs.put_members.Goals.{then-member, else-member}

pub loop-i-init : goal.loop-i-init
loop-i-init c = (omega arith, putting-start _ _ _ _ _ (omega arith))

pub member-requires : goal.member-requires
member-requires c = (omega arith, omega arith)

pub put_columns-requires : goal.put_columns-requires
put_columns-requires c = (omega arith, omega arith)

pub loop-i-preserved : goal.loop-i-preserved
loop-i-preserved c =
    let member = c.member in
    let loop = c.loop-i in
    elim c.if-member.branch [
      | then-member w ↦ (
        omega (arith, w.k-is),
        member-put _ _ _ loop.buf _ _ loop.i loop.invariant.1 (omega arith) member.result member.ensures _ _ w.if-member.true (w.buf-is ∙ w.put_columns.ensures) (omega (arith, w.k-is)),
      )
      | else-member w ↦ (
        omega (arith, w.k-is),
        member-skipped _ _ _ loop.buf _ _ loop.i loop.invariant.1 (omega arith) member.result member.ensures _ _ w.if-member.false w.buf-is (omega (arith, w.k-is)),
      )
    ]

pub returns : goal.returns
returns c =
    let args = c.args in
    let loop = c.loop-i in
    let all = putting-end _ _ _ _ _ _ loop.i _ loop.invariant.1 (omega arith) (taken-are args.taken args.w) in
    (all.0, omega (arith, all.1, fields-bytes (taken_of args.w args.taken)), omega arith)
