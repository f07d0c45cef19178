use mathlib.Core.Path.{refl}
use native.Mathlib.Omega.{arith}
use borrow.Author.Rules.{rules}
use Rattle.text.specs.Tables.{miscount}
use Rattle.write.proofs.TableLaws.{kind-limit, kind-count, some-found, some_next, some_end}
use Rattle.write.proofs.counts_over.Goals as goal

pub loop-k-init : goal.loop-k-init
loop-k-init c = refl

pub kind_at-x-requires : goal.kind_at-x-requires
kind_at-x-requires c = omega arith

pub count_over-requires : goal.count_over-requires
count_over-requires c = (kind-count c.kind_at-x.result c.loop-k.k _ c.kind_at-x.ensures (search rules) (search rules), kind-limit c.kind_at-x.result c.loop-k.k c.kind_at-x.ensures (search rules))

pub returns-then-count_over : goal.returns-then-count_over
returns-then-count_over c = some-found (miscount c.args.t.now) c.loop-k.k (search rules) c.kind_at-x.result c.kind_at-x.ensures c.count_over.result c.count_over.ensures c.loop-k.invariant (search rules)

pub loop-k-preserved : goal.loop-k-preserved
loop-k-preserved c = some_next (miscount c.args.t.now) c.loop-k.k (search rules) c.kind_at-x.result c.kind_at-x.ensures c.count_over.result c.count_over.ensures c.loop-k.invariant (search rules)

pub returns : goal.returns
returns c = some_end _ c.loop-k.k (omega arith) c.loop-k.invariant
