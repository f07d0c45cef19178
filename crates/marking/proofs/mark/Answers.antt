use Rattle.std.proofs.Common.{arith, rules}
use Rattle.sets.proofs.Words.{contained-within, within-contained, minus-zero}
use Rattle.marking.proofs.Marks.{marked-first, struck-first, struck-both}
use Rattle.marking.proofs.mark.Goals as goal

pub mark_range-requires : goal.mark_range-requires
mark_range-requires c = (omega arith, contained-within _ _ (c.subset.ensures.yes (search rules)))

pub returns-then-subset : goal.returns-then-subset
returns-then-subset c = struck-both c.args.s _ _ (rw c.mark_word.ensures (marked-first _ _ (search rules))) _ c.mark_range.ensures

pub returns : goal.returns
returns c = struck-first c.args.s _ _ (rw c.mark_word.ensures (marked-first _ _ (search rules))) (λ e. c.subset.ensures.no (search rules) (within-contained _ _ (minus-zero _ _ e)))
