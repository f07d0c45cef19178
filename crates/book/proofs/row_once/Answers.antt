use mathlib.Core.Path.{◌≡◌, refl, ap, ◌∙◌}
use mathlib.Core.Bool.{Bool, true, false}
use mir.Val.{bool_byte}
use Rattle.logic.specs.Tests.{pick}
use Rattle.book.specs.declared.Kind.{Kind}
use Rattle.book.specs.Kinds.{row_once}
use Rattle.book.proofs.row_once.Goals as goal

byte-is : (b : Bool) → bool_byte b ≡ pick b 1 0
unfolding pick
byte-is true = refl
byte-is false = refl

pub returns : goal.returns
unfolding row_once
returns c = c.from.ensures ∙ byte-is c.kind_at.result.row ∙ ap (λ (x : Kind). pick x.row 1 0) c.kind_at.ensures
