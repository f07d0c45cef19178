use Rattle.std.proofs.Common.{rules, arith, refl}
use Rattle.std.proofs.lemmas.Iterator.{cases_from_all, YieldsList-from_range}
use Rattle.masks.specs.Views.{masks_at}
use Rattle.bridge.specs.Answers.{Satisfies}
use Rattle.verdict.proofs.Tests.{all-decides}
use Rattle.verdict.proofs.bodies.Goals as goal

pub returns : goal.returns
returns c =
    all-decides (Satisfies _) _ _ _
    (cases_from_all _ _ _ (λ k. Satisfies c.args.v (masks_at c.args.rules.now.words.now k)) (λ k. Satisfies c.args.v (masks_at c.args.rules.now.words.now k) → ⊥) c.all.ensures.ran
    (YieldsList-from_range 0 c.args.rules.now.count c.args.rules.now.count refl (omega arith)) (λ x q k. search rules) (λ x q k. search rules))
