use Rattle.entry.proofs.Leaves.{rest_is}
use Rattle.entry.proofs.Numbers.{pair_is}
use Rattle.entry.proofs.pair_at.Goals as goal

pub returns : goal.returns
returns c =
    let s = c.args.s.now in
    pair_is s _ _ _ c.word_at.ensures (rw (rest_is s 8) at c.word_at-2.ensures) (rw (rest_is s 16) at c.word_at-3.ensures)
