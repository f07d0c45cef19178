use Rattle.judge.proofs.Tests.{smallest-lined, smallest-plain}
use borrow.Author.Rules.{rules}
use Rattle.judge.proofs.minimal.Goals as goal

pub minimal-requires : goal.minimal-requires
minimal-requires c = (c.lined.ensures.yes (search rules)).room

pub returns-then-lined : goal.returns-then-lined
returns-then-lined c = smallest-lined _ _ _ _ _ _ c.minimal.ensures

pub returns : goal.returns
returns c = smallest-plain _ _ _ _ _ _ (c.lined.ensures.no (search rules)) c.minimal-2.ensures
