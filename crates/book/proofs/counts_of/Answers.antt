use mathlib.Core.Path.{refl}
use Rattle.book.specs.Counts.{all_counts, counts_of}
use Rattle.book.proofs.counts_of.Goals as goal

pub returns : goal.returns
unfolding all_counts counts_of
returns c = refl
