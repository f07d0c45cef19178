use Rattle.fields.proofs.Columns.{minus-is}
use Rattle.fields.proofs.minus_in.Goals as goal

pub returns : goal.returns
returns c = minus-is _ _ _
