use Rattle.probe.proofs.Nodes.{node-refuted, node-view, node-empty, node-unfounded, node-open}
use Rattle.std.proofs.Common.{rules}
use Rattle.probe.proofs.visit.Goals as goal
use Rattle.sets.proofs.Pairs.{equal-is}

pub returns-then-not-within : goal.returns-then-not-within
returns-then-not-within c = node-refuted _ _ c.propagate-rest.ensures _ c.within.ensures (search rules)

pub returns-then-is_view : goal.returns-then-is_view
returns-then-is_view c = node-view _ _ c.propagate-rest.ensures _ c.within.ensures (search rules) _ (equal-is c.eq.ensures) _ (search rules) c.is_view.ensures (search rules)

pub returns-then-eq : goal.returns-then-eq
returns-then-eq c = node-empty _ _ c.propagate-rest.ensures _ c.within.ensures (search rules) _ (equal-is c.eq.ensures) _ (search rules) c.is_view.ensures (search rules)

pub returns-then-not-founded : goal.returns-then-not-founded
returns-then-not-founded c = node-unfounded _ _ c.propagate-rest.ensures _ c.within.ensures (search rules) _ (equal-is c.eq.ensures) _ c.founded.ensures (search rules)

pub returns : goal.returns
returns c = node-open _ _ c.propagate-rest.ensures _ c.within.ensures (search rules) _ (equal-is c.eq.ensures) _ _ (search rules) c.pick.ensures
