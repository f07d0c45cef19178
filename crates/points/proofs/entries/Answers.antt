use native.Mathlib.Omega.{arith}
use borrow.Author.Rules.{rules}
use borrow.Author.Tests.{not-true, not-false}
use Rattle.points.proofs.Scans.{count_long, count-start, count-zero, count_none, count-fall, count_next, count-end}
use Rattle.points.proofs.entries.Goals as goal

pub returns-then-store-ne1024 : goal.returns-then-store-ne1024
returns-then-store-ne1024 c = count_long _ (search rules)

pub loop-k-init : goal.loop-k-init
loop-k-init c = count-start _ (search rules)

pub returns-then-is_zero : goal.returns-then-is_zero
returns-then-is_zero c = count-zero _ c.loop-k.k (search rules) c.loop-k.invariant c.is_name.result c.is_name.ensures (not-true _ (search rules)) c.is_zero.result c.is_zero.ensures (search rules)

pub returns-else-is_zero : goal.returns-else-is_zero
returns-else-is_zero c = count_none _ c.loop-k.k (search rules) c.loop-k.invariant c.is_name.result c.is_name.ensures (not-true _ (search rules)) c.is_zero.result c.is_zero.ensures (search rules)

pub returns-then-not-rises : goal.returns-then-not-rises
returns-then-not-rises c = count-fall _ c.loop-k.k (search rules) c.loop-k.invariant c.is_name.result c.is_name.ensures (not-false _ (search rules)) c.rises.result c.rises.ensures (not-true _ (search rules))

pub loop-k-preserved : goal.loop-k-preserved
loop-k-preserved c = count_next _ c.loop-k.k (search rules) c.loop-k.invariant c.is_name.result c.is_name.ensures (not-false _ (search rules)) c.rises.result c.rises.ensures (not-false _ (search rules))

pub returns : goal.returns
returns c = count-end _ c.loop-k.k (omega arith) c.loop-k.invariant
