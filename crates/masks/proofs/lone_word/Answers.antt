use Rattle.std.proofs.Common.{rules, arith}
use Rattle.std.proofs.lemmas.Grind.{common_steps}
use Rattle.sets.proofs.Sizes.{one-member-most}
use Rattle.masks.proofs.lone_word.Goals as goal

pub returns : goal.returns
returns c e = one-member-most _ (search rules) (grind (arith, common_steps, e))
