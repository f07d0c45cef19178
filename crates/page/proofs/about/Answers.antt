use Rattle.std.proofs.Common.{arith}
use Rattle.page.proofs.Statements.{about-is}
use Rattle.page.proofs.about.Goals as goal

pub returns : goal.returns
returns c = about-is _ (omega arith)
