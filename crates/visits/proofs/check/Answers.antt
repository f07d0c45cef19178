use borrow.Author.Rules.{rules}
use native.Mathlib.Omega.{arith}
use mathlib.Core.Path.{ap, ◌∙◌}
use Rattle.text.specs.declared.Refusal.{Refusal}
use Rattle.visits.proofs.Made.{not-whole, answers-short, not_short}
use Rattle.visits.proofs.check.Goals as goal

pub returns-then-n-ne0 : goal.returns-then-n-ne0
returns-then-n-ne0 c =
    let e = ap (λ (q : Refusal). q.number) c.new.ensures in
    let l = ap (λ (q : Refusal). q.line) c.new.ensures in
    (e ∙ not-whole _ _ (search rules), omega arith, l)

pub returns-then-answers-n : goal.returns-then-answers-n
returns-then-answers-n c =
    let e = ap (λ (q : Refusal). q.number) c.new-then-answers-n.ensures in
    let l = ap (λ (q : Refusal). q.line) c.new-then-answers-n.ensures in
    (e ∙ answers-short _ _ (search rules) (search rules), omega arith, l)

pub returns : goal.returns
returns c = not_short _ _ (search rules) (search rules)
