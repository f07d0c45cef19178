use Rattle.judge.proofs.lined.undominated.Goals as goal

pub returns : goal.returns
returns c = (c.stands.ensures (c.nothing-memory.ensures _ _ _ _)).1
