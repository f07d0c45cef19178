use Rattle.fields.proofs.Columns.{all_same}
use Rattle.fields.proofs.columns_are.Goals as goal

pub returns : goal.returns
returns c = all_same _ _ _ _ _ _ c.column.result c.column-2.result c.column-3.result c.column-4.result c.column.ensures c.column-2.ensures c.column-3.ensures c.column-4.ensures
