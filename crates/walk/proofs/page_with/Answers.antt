use Rattle.walk.proofs.Walks.{first-walked}
use mathlib.Core.Bool.{true}
use mathlib.Core.Path.{◌≡◌}
use borrow.Author.Rules.{rules}
use Rattle.walk.proofs.page_with.Goals as goal

pub after_with-requires : goal.after_with-requires
after_with-requires c = (c.requires.0, c.requires.1, c.requires.2, c.requires.3, c.requires.4, search rules, c.nothing-memory.ensures _ _ _ _)

pub returns-then-after : goal.returns-then-after
returns-then-after c = let e : c.args.after ≡ true = search rules in rw e c.after_with.ensures

pub returns : goal.returns
returns c = first-walked _ _ _ _ _ c.requires.1 _ c.requires.4 _ (c.nothing-memory.ensures _ _ _ _) _ _ (search rules) c.requires.3 _ _ c.walk.ensures
