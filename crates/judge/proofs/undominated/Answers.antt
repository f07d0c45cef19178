use Rattle.judge.proofs.Tests.{free-lined, free-plain}
use borrow.Author.Rules.{rules}
use Rattle.judge.proofs.undominated.Goals as goal

pub undominated-requires : goal.undominated-requires
undominated-requires c = (c.lined.ensures.yes (search rules)).room

pub returns-then-lined : goal.returns-then-lined
returns-then-lined c = free-lined _ _ _ _ _ _ c.undominated.ensures

pub returns : goal.returns
returns c = free-plain _ _ _ _ _ _ (c.lined.ensures.no (search rules)) c.undominated-2.ensures
