use Rattle.probe.proofs.Attempts.{asked-has, asked-lacks}
use Rattle.std.proofs.Common.{rules}
use Rattle.probe.proofs.ask.Goals as goal

pub returns-in-Has : goal.returns-in-Has
returns-in-Has c = asked-has c.attempt.ensures _ (search rules)

pub returns-in-Lacks : goal.returns-in-Lacks
returns-in-Lacks c = asked-lacks c.attempt.ensures c.in-Lacks.field-0 c.in-Lacks.is
