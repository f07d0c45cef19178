use Rattle.std.proofs.Common.{◌-◌}
use Rattle.page.specs.Pages.{GoneOn}
use Rattle.page.proofs.ahead.Given as goal

abbrev pub invariant-loop-i : goal.invariant-loop-i
invariant-loop-i l = GoneOn l.n l.left l.node (record { pair = l.pair; left = l.n - l.i })
