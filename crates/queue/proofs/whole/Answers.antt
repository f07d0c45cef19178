use Rattle.bounds.proofs.Steps.{keeps_then, by_level, by_lines, by-rules}
use Rattle.queue.proofs.whole.Goals as goal

pub returns-then-ne : goal.returns-then-ne
returns-then-ne c = keeps_then (by_level c.levels.ensures) (by_lines c.unlinked-o.ensures)

pub returns-then-index-eq0 : goal.returns-then-index-eq0
returns-then-index-eq0 c = keeps_then (by_level c.levels.ensures) (by_lines c.unlinked-o.ensures)

pub returns : goal.returns
returns c = keeps_then (keeps_then (by_level c.levels.ensures) (by_lines c.unlinked-o.ensures)) (by-rules c.upper.ensures)
