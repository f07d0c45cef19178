use Rattle.sets.specs.Sets.{size}
use Rattle.sets.proofs.Digits.{ones-size}
use Rattle.sets.proofs.size.Goals as goal

pub returns : goal.returns
unfolding size
returns c = ones-size 64 c.args.a c.ranges.a.fits
