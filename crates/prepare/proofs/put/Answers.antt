use native.Mathlib.Omega.{arith}
use mathlib.Core.Path.{refl}
use Rattle.prepare.specs.Packing.{words_of}
use Rattle.prepare.proofs.Stores.{part-stored}
use Rattle.prepare.proofs.put.Goals as goal

pub returns : goal.returns
unfolding words_of
returns c = part-stored c.args.words.now (words_of c.args.r) _ _ _ _ refl (rw c.copy_from_slice.ensures.after refl) (omega arith) (omega (arith, c.requires))
