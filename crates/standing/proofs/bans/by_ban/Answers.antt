use native.Mathlib.Omega.{arith}
use Rattle.standing.proofs.Barring.{ban-void, ban-shut}
use borrow.Author.Rules.{rules}
use Rattle.standing.proofs.bans.by_ban.Goals as goal

pub returns-then-f-low-ne0 : goal.returns-then-f-low-ne0
returns-then-f-low-ne0 c = ban-void _ _ _ _ _ _ _ _ c.reach-f.ensures _ (search rules) (omega (arith, c.reach-f.type_inv))

pub returns : goal.returns
returns c = ban-shut _ _ _ _ _ _ _ _ c.reach-f.ensures c.args.may _ _ c.out-o.ensures c.shut.ensures
