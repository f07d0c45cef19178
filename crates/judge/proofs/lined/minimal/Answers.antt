use Rattle.judge.proofs.lined.minimal.Goals as goal

pub returns : goal.returns
returns c = (c.unexceeded.ensures (c.nothing-memory.ensures _ _ _ _)).1
