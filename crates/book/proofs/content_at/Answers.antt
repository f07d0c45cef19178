use Rattle.book.specs.Kinds.{contents}
use mathlib.Core.Path.{refl}
use native.Mathlib.Omega.{arith}
use Rattle.book.proofs.content_at.Goals as goal

pub bounds-place-place : goal.bounds-place-place
unfolding contents
bounds-place-place c = omega (arith, c.requires)

pub returns : goal.returns
unfolding contents
returns c = refl
