use mathlib.Core.Path.{◌≡◌, ◌∙◌}
use lib.ListN.{take}
use borrow.Author.Rules.{rules}
use Rattle.entry.proofs.Leaves.{word-is}
use Rattle.entry.proofs.word_at.Goals as goal

pub returns : goal.returns
returns c = let e : c.unwrap.result.now ≡ take 8 c.args.s.now = search rules in (rw e at c.from_le_bytes.ensures) ∙ word-is _ c.requires
