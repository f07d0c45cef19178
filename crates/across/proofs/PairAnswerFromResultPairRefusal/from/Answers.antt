use borrow.Author.Rules.{rules}
use Rattle.across.proofs.Across.{gone-is}
use Rattle.across.proofs.PairAnswerFromResultPairRefusal.from.Goals as goal

pub returns : goal.returns
returns c = gone-is c.args.went _ _ (λ p e. search rules) (λ q e. search rules) c.from.ensures
