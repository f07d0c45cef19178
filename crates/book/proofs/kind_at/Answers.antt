use Rattle.book.specs.Kinds.{kinds, kind, unknown}
use mathlib.Core.Path.{refl}
use Rattle.book.proofs.kind_at.Goals as goal

pub returns : goal.returns
unfolding kind kinds unknown
returns c = refl
