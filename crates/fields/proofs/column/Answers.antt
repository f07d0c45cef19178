use native.Mathlib.Omega.{arith}
use borrow.Author.Rules.{rules}
use Rattle.fields.proofs.Columns.{column-last, column-digit, column-minus, column-space, column-plus}
use Rattle.fields.proofs.column.Goals as goal
use Rattle.fields.proofs.column.Goals.{then-scale-eq1-via-then-scale-eq1, then-scale-eq1-via-else-scale-eq1+then-scale-m, else-neg-via-then-neg+else-scale-m-2, else-neg-via-else-neg}

pub returns-then-scale-eq1 : goal.returns-then-scale-eq1
returns-then-scale-eq1 c =
    elim c.then-scale-eq1.branch [
      | then-scale-eq1-via-then-scale-eq1 w ↦ column-last _ _ _ w.if-scale-eq1.true
      | then-scale-eq1-via-else-scale-eq1+then-scale-m w ↦ column-digit _ _ _ w.if-scale-eq1.false w.if-scale-m.true
    ]

pub returns-then-scale-m-2 : goal.returns-then-scale-m-2
returns-then-scale-m-2 c = column-minus _ _ _ (search rules) (omega arith) (search rules) (omega arith)

pub returns : goal.returns
returns c =
    elim c.else-neg.branch [
      | else-neg-via-then-neg+else-scale-m-2 w ↦ column-space _ _ _ (search rules) (omega arith) (omega arith)
      | else-neg-via-else-neg w ↦ column-plus _ _ _ (search rules) (omega arith) w.if-neg.false
    ]
