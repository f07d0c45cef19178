use Rattle.probe.proofs.Attempts.{probed-within}
use Rattle.probe.proofs.probe_shaved.Goals as goal

pub returns : goal.returns
returns c = probed-within c.propagate-rest.ensures c.shaved-r.ensures c.probe.ensures
