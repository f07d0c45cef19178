use mathlib.Core.Path.{refl}
use native.Mathlib.Omega.{arith}
use Rattle.points.proofs.Moves.{inserted}
use Rattle.points.proofs.insert.Goals as goal

pub returns : goal.returns
returns c = inserted c.args.store.now c.requires.0 c.args.at c.requires.1 c.args.name.bytes c.args.p c.copy_from_slice.new.self _ _ _ c.put_pair.new.s (omega arith) c.copy_from_slice.ensures.after c.copy_from_slice-2.ensures.after refl c.copy_from_slice-3.ensures.after c.put_pair.ensures
