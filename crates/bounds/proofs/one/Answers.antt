use Rattle.std.proofs.Common.{rules}
use Rattle.bounds.proofs.Singles.{one-held, one-denied, one-taken}
use Rattle.bounds.proofs.one.Goals as goal

pub returns-in-Held : goal.returns-in-Held
returns-in-Held c = rw (c.of_statements.ensures, c.in-Held.is) (one-held _ (search rules))

pub returns-in-Denied : goal.returns-in-Denied
returns-in-Denied c = rw (c.of_statements-in-Denied.ensures, c.in-Denied.is) (one-denied _ (search rules))

pub returns-in-Taken : goal.returns-in-Taken
returns-in-Taken c = rw (c.of_exceptions.ensures, c.in-Taken.is) (one-taken _ (search rules))
