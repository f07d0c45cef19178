use mathlib.Core.Path.{sym, ◌∙◌}
use Rattle.sets.proofs.Digits.{shifted}
use Rattle.prepare.proofs.Packing.{own-plain, own-late}
use borrow.Author.Rules.{rules}
use Rattle.prepare.proofs.own_set.Goals as goal

pub returns-then-q-eq-AT_EXCEPTION : goal.returns-then-q-eq-AT_EXCEPTION
returns-then-q-eq-AT_EXCEPTION c = shifted _ (c.requires (search rules)) ∙ sym (own-late _ _ (search rules))

pub returns : goal.returns
returns c = sym (own-plain _ _ (search rules))
