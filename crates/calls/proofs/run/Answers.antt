use Rattle.calls.proofs.Calls.{room-enough, made_all}
use Rattle.calls.proofs.run.Goals as goal

pub make_calls-requires : goal.make_calls-requires
make_calls-requires c = room-enough _ _ _ c.in_ok-check.ensures

pub returns : goal.returns
returns c =
    let room = room-enough _ _ _ c.in_ok-check.ensures in
    (c.in_ok-check.ensures, made_all _ _ _ _ _ _ _ _ room.0 room.1 c.make_calls.ensures)
