use Rattle.order.proofs.Shares.{share-fits, next-size}
use Rattle.order.proofs.of_next_size.Goals as goal

pub overflow_mul-result : goal.overflow_mul-result
overflow_mul-result c = record { fits = share-fits _ _ _ c.requires.0 c.requires.2 }

pub returns : goal.returns
returns c = next-size _ _ _ c.requires.1 c.requires.2
