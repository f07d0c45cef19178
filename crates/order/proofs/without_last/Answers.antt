use Rattle.order.proofs.Shares.{share-fits, without-last}
use Rattle.order.proofs.without_last.Goals as goal

pub overflow_mul-result : goal.overflow_mul-result
overflow_mul-result c = record { fits = share-fits _ _ _ c.requires.1 c.requires.3 }

pub returns : goal.returns
returns c = without-last _ _ _ c.requires.0 c.requires.2 c.requires.3
