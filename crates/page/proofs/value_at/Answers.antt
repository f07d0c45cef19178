use Rattle.std.proofs.Common.{true, rules}
use Rattle.page.proofs.Statements.{value-held, value-denied, value-absent}
use Rattle.page.proofs.value_at.Goals as goal

pub returns-then-member : goal.returns-then-member
returns-then-member c = value-held _ _ _ true c.member.ensures (search rules)

pub returns-then-member-2 : goal.returns-then-member-2
returns-then-member-2 c = value-denied _ _ _ _ c.member.ensures c.member-else-member.ensures (search rules) (search rules)

pub returns-else-member-2 : goal.returns-else-member-2
returns-else-member-2 c = value-absent _ _ _ _ c.member.ensures c.member-else-member.ensures (search rules) (search rules)
