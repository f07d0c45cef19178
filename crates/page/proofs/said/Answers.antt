use Rattle.page.proofs.Statements.{said-absent, said-held, said-denied}
use Rattle.page.proofs.said.Goals as goal

pub returns-in-Absent : goal.returns-in-Absent
returns-in-Absent c = said-absent _ _ c.in-Absent.is

pub returns-in-Held : goal.returns-in-Held
returns-in-Held c = said-held _ _ _ c.in-Held.is c.one.ensures

pub returns-in-Denied : goal.returns-in-Denied
returns-in-Denied c = said-denied _ _ _ c.in-Denied.is c.one-in-Denied.ensures
