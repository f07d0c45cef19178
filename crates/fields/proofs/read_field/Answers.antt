use mathlib.Core.Path.{sym, ◌∙◌}
use Rattle.fields.proofs.Columns.{at-columns}
use Rattle.fields.proofs.read_field.Goals as goal

pub returns : goal.returns
returns c = c.spell.ensures ∙ sym (at-columns c.args.text.now c.args.at)
