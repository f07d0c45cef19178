use Rattle.std.proofs.Common.{◌-◌, ◌/◌, ◌<◌}
use Rattle.marking.specs.Marks.{Marked, Spans}
use Rattle.marking.proofs.Marks.{Reached}
use Rattle.marking.proofs.mark_range.Given as goal

abbrev pub invariant-loop-w : goal.invariant-loop-w
invariant-loop-w l = Marked l.initial.marks (Reached l.s l.w) l.marks × (l.w < l.end → Spans (l.s.lo / 64) (l.s.hi / 64) l.w)

abbrev pub decreases-loop-w : goal.decreases-loop-w
decreases-loop-w l = l.end - l.w
