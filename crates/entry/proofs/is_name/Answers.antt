use borrow.Author.Tests.{not-true, not-false}
use borrow.Author.Rules.{rules}
use Rattle.entry.proofs.Leaves.{name-none, chain-start, chain_next, chain-none, chain-end}
use Rattle.entry.proofs.is_name.Goals as goal

pub returns-then-not-is_letter : goal.returns-then-not-is_letter
returns-then-not-is_letter c = name-none _ c.requires c.is_letter.result c.is_letter.ensures (not-true _ (search rules))

pub loop-i-init : goal.loop-i-init
loop-i-init c = chain-start _ c.requires c.is_letter.result c.is_letter.ensures (not-false _ (search rules))

pub returns-then-not-follows : goal.returns-then-not-follows
returns-then-not-follows c = chain-none _ c.requires c.loop-i.i (search rules) c.loop-i.invariant c.follows.result c.follows.ensures (not-true _ (search rules))

pub loop-i-preserved : goal.loop-i-preserved
loop-i-preserved c = chain_next _ c.requires c.loop-i.i (search rules) c.loop-i.invariant c.follows.result c.follows.ensures (not-false _ (search rules))

pub returns : goal.returns
returns c = chain-end _ c.loop-i.i (search rules) c.loop-i.invariant
