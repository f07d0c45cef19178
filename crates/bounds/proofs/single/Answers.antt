use Rattle.bounds.specs.Singles.{word_of}
use Rattle.bounds.proofs.Singles.{one-picked, none-picked}
use borrow.Author.Rules.{rules}
use Rattle.bounds.proofs.single.Goals as goal

pub returns-then-held-gt0 : goal.returns-then-held-gt0
unfolding word_of
returns-then-held-gt0 c = one-picked 0 _ _ _ c.one.ensures c.top.ensures

pub returns-then-denied-gt0 : goal.returns-then-denied-gt0
unfolding word_of
returns-then-denied-gt0 c = one-picked 1 _ _ _ c.one-then-denied-gt0.ensures c.top-then-denied-gt0.ensures

pub returns-then-taken-gt0 : goal.returns-then-taken-gt0
unfolding word_of
returns-then-taken-gt0 c = one-picked 2 _ _ _ c.one-then-taken-gt0.ensures c.top-then-taken-gt0.ensures

pub returns : goal.returns
returns c = none-picked _ _ c.one-2.ensures (search rules) (search rules) (search rules)
