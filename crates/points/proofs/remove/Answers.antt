use mathlib.Core.Path.{refl}
use Rattle.points.proofs.Moves.{removed}
use Rattle.points.proofs.remove.Goals as goal

pub returns : goal.returns
returns c = removed c.args.store.now c.requires.0 c.args.at c.requires.1 c.copy_from_slice.new.self c.copy_from_slice-2.new.self _ c.fill.new.self _ c.copy_from_slice.ensures.after c.copy_from_slice-2.ensures.after refl (c.fill.ensures.after (λ y e. e)) refl
