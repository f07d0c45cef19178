use Rattle.sets.proofs.Lowest.{taken-less}
use Rattle.sets.proofs.PlacesIterator.next.Goals as goal

pub returns-clause-steps : goal.returns-clause-steps
returns-clause-steps c = record { small = c.in_ok-i.ensures.0; lowest = c.in_ok-i.ensures.1; left = c.cleared-self.ensures }

pub returns-clause-goes : goal.returns-clause-goes
returns-clause-goes c =
    let less = taken-less _ _ _ (record { small = c.in_ok-i.ensures.0; lowest = c.in_ok-i.ensures.1; left = c.cleared-self.ensures }) in
    record { on = λ _. (tt, tt, less); keeps = tt; rests = λ _. tt }
