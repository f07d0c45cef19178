use native.Mathlib.Omega.{arith}
use Rattle.walk.proofs.Places.{full-there, own-part, past_fits, span-is}
use Rattle.walk.proofs.spanned.Goals as goal

pub overflow_sub-all : goal.overflow_sub-all
overflow_sub-all c = full-there _ c.requires

pub place_of-requires : goal.place_of-requires
place_of-requires c = (omega (arith, c.requires), own-part c.args.x c.requires c.args.root.lo.taken)

pub place_of-requires-2 : goal.place_of-requires-2
place_of-requires-2 c = (omega (arith, c.requires), own-part c.args.x c.requires c.args.root.hi.taken)

pub overflow_add-result : goal.overflow_add-result
overflow_add-result c = record { fits = past_fits _ c.requires c.args.root _ _ c.place_of.ensures c.place_of-2.ensures }

pub returns : goal.returns
returns c = span-is _ c.requires c.args.root _ _ c.place_of.ensures c.place_of-2.ensures
