use mathlib.Core.Path.{refl}
use native.Mathlib.Omega.{arith}
use borrow.Author.Rules.{rules}
use Rattle.queue.proofs.Chains.{gives-is, seen_first, seen-several, seen_next, seen_all}
use Rattle.queue.proofs.heads.count_givers.Goals as goal

pub returns-then-index-ne1 : goal.returns-then-index-ne1
returns-then-index-ne1 c = seen-several _ _ _ _ _ _ refl

pub loop-init : goal.loop-init
loop-init c = rw c.number.ensures (let ch = c.requires.1 (search rules) in (seen_first _ _ _ _ _ (λ k h y. ch.first _ _ k c.requires.2 c.requires.3 (omega arith) h y), ch))

pub returns-then-n-k : goal.returns-then-n-k
returns-then-n-k c = seen_all _ _ _ _ _ _ (search rules) c.loop.invariant.0

pub returns-then-not-within : goal.returns-then-not-within
returns-then-not-within c = seen-several _ _ _ _ _ _ refl

pub returns-in-Several : goal.returns-in-Several
returns-in-Several c = seen-several _ _ _ _ _ _ (search rules)

pub loop-preserved : goal.loop-preserved
loop-preserved c = let ch = c.loop.invariant.1 in (seen_next _ _ _ _ _ _ _ _ _ c.loop.invariant.0 (search rules) c.masks_at-r.ensures c.with_rule-g.ensures (λ k l h y. ch.next _ _ _ k c.requires.2 c.requires.3 (omega arith) l h (gives-is _ _ _ _ _ _ _ c.one-m.ensures c.masks_at-r.ensures c.within.ensures (search rules)) y), ch)

pub returns : goal.returns
returns c = seen-several _ _ _ _ _ _ refl
