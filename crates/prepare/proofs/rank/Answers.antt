use native.Mathlib.Omega.{arith}
use Rattle.prepare.proofs.Ranking.{ranks-of}
use Rattle.prepare.proofs.rank.Goals as goal

pub returns : goal.returns
returns c = let e = c.lines.auto.ranks in let x = c.requires.1 in ranks-of _ _ _ _ _ _ c.requires.0 (omega arith) (omega arith) (omega arith) c.lines.ensures c.close.ensures
