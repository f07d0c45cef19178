use mathlib.Core.Path.{sym}
use lib.Seq.{length-take-le}
use Rattle.engine.proofs.own.Goals as goal

pub slice_bounds-result-end : goal.slice_bounds-result-end
slice_bounds-result-end c = sym (length-take-le c.args.x c.args.ranks.now c.requires)
