use Rattle.standing.proofs.Attempting.{stands-has}
use Rattle.standing.proofs.standing.Goals as goal

pub returns-in-Has : goal.returns-in-Has
returns-in-Has c = stands-has _ _ _ _ _ _ _ _ c.attempt-a.ensures _ c.in-Has.is
