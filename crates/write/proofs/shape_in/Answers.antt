use Rattle.book.specs.Kinds.{none, front}
use Prim.Native.Nat.{ℕ}
use native.Mathlib.Omega.{arith}
use lib.ListN.{length-replicate}
use borrow.Author.Rules.{rules}
use mathlib.Core.Path.{refl}
use Rattle.write.proofs.TableLaws.{kind-count, counting-start, counting-next, shape_is}
use Rattle.write.proofs.shape_in.Goals as goal

pub loop-k-init : goal.loop-k-init
loop-k-init c = counting-start _ _ (length-replicate {A = ℕ} none 0)

pub kind_at-x-requires : goal.kind_at-x-requires
kind_at-x-requires c = omega arith

pub bounds-t-x : goal.bounds-t-x
bounds-t-x c = kind-count c.kind_at-x.result c.loop-k.k _ c.kind_at-x.ensures (omega arith) (search rules)

pub offset_bounds-t-x : goal.offset_bounds-t-x
offset_bounds-t-x c = omega (arith, kind-count c.kind_at-x.result c.loop-k.k front c.kind_at-x.ensures (omega arith) (omega arith))

pub bounds-counts-k : goal.bounds-counts-k
bounds-counts-k c = omega (arith, c.loop-k.invariant.long)

pub loop-k-preserved : goal.loop-k-preserved
loop-k-preserved c = counting-next c.args.t.now c.loop-k.counts c.loop-k.k c.loop-k.invariant (omega arith) c.kind_at-x.result c.kind_at-x.ensures _ (search rules) refl c.to_nat.result c.to_nat.ensures.0

pub returns : goal.returns
returns c = shape_is c.args.t.now c.loop-k.counts c.loop-k.k c.loop-k.invariant (omega arith) _ c.to_nat-2.result (search rules) refl c.to_nat-2.ensures.0 _ c.shape_from.ensures
