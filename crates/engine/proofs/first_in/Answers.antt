use lib.Pow.{pow_pos}
use Rattle.engine.proofs.first_in.Goals as goal

pub page_in-requires : goal.page_in-requires
page_in-requires c = (c.requires, pow_pos _)
