use mathlib.Core.Path.{sym, ◌∙◌}
use Rattle.prepare.proofs.Ranking.{extended-yes, extended-no}
use Rattle.prepare.proofs.extend.Goals as goal

pub returns-then-member : goal.returns-then-member
returns-then-member c = extended-yes _ _ _ (sym c.member.ensures ∙ c.if-member.true)

pub returns : goal.returns
returns c = extended-no _ _ _ (sym c.member.ensures ∙ c.if-member.false)
