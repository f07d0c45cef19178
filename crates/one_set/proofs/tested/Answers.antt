use Rattle.one_set.proofs.Plans.{admits-surpassed, admits-tested, admits-known}
use Rattle.std.proofs.Common.{rules}
use Rattle.one_set.proofs.tested.Goals as goal

pub returns-then-is_marked : goal.returns-then-is_marked
returns-then-is_marked c = λ u h. admits-surpassed _ _ _ _ u _ _ _ h _ c.mark_surpassed.ensures (c.is_marked.ensures.yes (search rules))

pub returns-then-known : goal.returns-then-known
returns-then-known c = λ u h. admits-known _ _ _ _ u _ _ _ h _ c.mark_surpassed.ensures (search rules) (c.is_marked.ensures.no (search rules)) _ c.undominated.ensures

pub returns : goal.returns
returns c = λ u h. admits-tested _ _ _ _ u _ _ _ h _ c.mark_surpassed.ensures _ c.admissible.ensures
