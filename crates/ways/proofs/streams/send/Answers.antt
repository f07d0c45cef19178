use Rattle.ways.proofs.Stands.{next-write}
use Rattle.ways.proofs.streams.send.Goals as goal

pub write_next-got-requires : goal.write_next-got-requires
write_next-got-requires c =
    let loop = c.loop-done in
    let args = c.args in
    next-write _ args.bytes.now _ args.to.taken loop.done loop.invariant.1 loop.invariant.0 c.requires.0 c.requires.1
