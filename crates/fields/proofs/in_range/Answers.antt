use mathlib.Core.Path.{refl}
use borrow.Author.Rules.{rules}
use Rattle.fields.proofs.Columns.{too-low, too-high, in_between}
use Rattle.fields.proofs.Numbers.{number_in, number-out}
use Rattle.fields.proofs.in_range.Goals as goal
use Rattle.fields.proofs.in_range.Goals.{else-low-v-via-then-low-v+else-v-high, else-low-v-via-else-low-v}

pub returns-then-v-high : goal.returns-then-v-high
returns-then-v-high g c = number_in _ _ _ _ _ (in_between _ _ _ (search rules) (search rules) (search rules) (search rules) (search rules)) refl

pub returns-else-low-v : goal.returns-else-low-v
returns-else-low-v g c =
    elim c.else-low-v.branch [
      | else-low-v-via-then-low-v+else-v-high w ↦ number-out _ _ _ _ _ (too-high _ _ _ (search rules) (search rules) (search rules) w.if-low-v.true w.if-v-high.false) refl
      | else-low-v-via-else-low-v w ↦ number-out _ _ _ _ _ (too-low _ _ _ (search rules) (search rules) (search rules) w.if-low-v.false) refl
    ]
