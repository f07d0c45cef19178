use Rattle.line.proofs.PutLaws.{mark-held, mark-denied, mark-absent}
use borrow.Author.Rules.{rules}
use Rattle.line.proofs.mark.Goals as goal

pub returns-then-member : goal.returns-then-member
returns-then-member c =
    let member = c.member in
    let args = c.args in
    mark-held args.p args.i _ member.ensures (search rules)

pub returns-then-member-2 : goal.returns-then-member-2
returns-then-member-2 c =
    let member2 = c.member-2 in
    let member = c.member in
    let args = c.args in
    mark-denied args.p args.i _ member.ensures _ member2.ensures (search rules) (search rules)

pub returns : goal.returns
returns c =
    let member2 = c.member-2 in
    let member = c.member in
    let args = c.args in
    mark-absent args.p args.i _ member.ensures _ member2.ensures (search rules) (search rules)
