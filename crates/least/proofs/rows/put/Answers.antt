use mathlib.Core.Path.{refl}
use Rattle.least.specs.Rows.{put_at}
use Rattle.least.proofs.rows.put.Goals as goal

pub returns : goal.returns
unfolding put_at
returns c = refl
