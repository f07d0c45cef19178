use borrow.Author.Rules.{rules}
use Rattle.logic.proofs.Decide.{clash}
use Rattle.masks.proofs.Tests.{lone-held, lone-denied}
use Rattle.masks.proofs.lone.Goals as goal

pub returns-then-x-ne0 : goal.returns-then-x-ne0
returns-then-x-ne0 c e = absurd (clash e)

pub returns-then-denied-eq0 : goal.returns-then-denied-eq0
returns-then-denied-eq0 c e = lone-held _ (search rules) (search rules) (c.lone_word.ensures e)

pub returns-then-held-eq0 : goal.returns-then-held-eq0
returns-then-held-eq0 c e = lone-denied _ (search rules) (search rules) (c.lone_word-then-held-eq0.ensures e)

pub returns : goal.returns
returns c e = absurd (clash e)
