use mathlib.Core.Path.{refl}
use native.Mathlib.Omega.{arith}
use Rattle.calls.proofs.Calls.{not-whole, answers-short, pairs-short, not_short}
use borrow.Author.Rules.{rules}
use Rattle.calls.proofs.check.Goals as goal
use Rattle.calls.proofs.check.Goals.{then-answers-n-via-then-answers-n, then-answers-n-via-else-answers-n+then-pairs-n}

pub returns-then-n-ne0 : goal.returns-then-n-ne0
returns-then-n-ne0 c = rw c.of.ensures (not-whole _ _ _ (search rules), (λ e. omega arith), refl)

pub returns-then-answers-n : goal.returns-then-answers-n
returns-then-answers-n c =
    elim c.then-answers-n.branch [
      | then-answers-n-via-then-answers-n w ↦ rw c.of-then-answers-n.ensures (answers-short _ _ _ (search rules) (search rules), (λ e. omega arith), refl)
      | then-answers-n-via-else-answers-n+then-pairs-n w ↦ rw c.of-then-answers-n.ensures (pairs-short _ _ _ (search rules) (omega arith) (search rules), (λ e. omega arith), refl)
    ]

pub returns : goal.returns
returns c = not_short _ _ _ (search rules) (omega arith) (omega arith)
