use mathlib.Core.Path.{ap}
use Prim.Native.Nat.{◌-◌}
use native.Mathlib.Omega.{arith}
use lib.ListN.{length}
use borrow.Author.Rules.{rules}
use Rattle.logic.proofs.Stores.{putting-start, putting-room, putting-next, putting-end}
use Rattle.book.specs.declared.Kind.{Kind}
use Rattle.write.proofs.TableLaws.{rows_in, start-on, start_first}
use Rattle.write.proofs.PutLaws.{kind-rows, rows_are, block_room, block-piece, block-next, next_place}
use Rattle.write.proofs.put_rows.Goals as goal

pub loop-k-init : goal.loop-k-init
loop-k-init c = (omega arith, start_first _, putting-start _ _ _ _ _ (omega arith))

pub put_kind-requires : goal.put_kind-requires
put_kind-requires c = (c.loop-k.invariant.0, search rules, c.requires.0, rows_in c.args.t.now c.args.s c.loop-k.k c.loop-k.f _ c.requires.1 (omega arith) c.loop-k.invariant.1 c.count_of-c.ensures, block_room c.args.s c.args.t.now c.requires.1 c.loop-k.k c.loop-k.invariant.0 (search rules) c.loop-k.a c.loop-k.f c.count_of-c.result c.count_of-c.ensures c.loop-k.invariant.1 _ (putting-room _ _ _ _ c.loop-k.buf c.loop-k.a (c.loop-k.k - 1) c.loop-k.invariant.2 (omega (arith, c.loop-k.invariant.0)) (omega (arith, ap length (rows_are c.args.s c.args.t.now), c.requires.2))))

pub overflow_mul-a : goal.overflow_mul-a
overflow_mul-a c = let g = block_room c.args.s c.args.t.now c.requires.1 c.loop-k.k c.loop-k.invariant.0 (search rules) c.loop-k.a c.loop-k.f c.count_of-c.result c.count_of-c.ensures c.loop-k.invariant.1 _ (putting-room _ _ _ _ c.loop-k.buf c.loop-k.a (c.loop-k.k - 1) c.loop-k.invariant.2 (omega (arith, c.loop-k.invariant.0)) (omega (arith, ap length (rows_are c.args.s c.args.t.now), c.requires.2))) in omega (arith, rw (← c.line_bytes.ensures) at g, c.loop-k.invariant.2.same_size)

pub overflow_add-a : goal.overflow_add-a
overflow_add-a c = let g = block_room c.args.s c.args.t.now c.requires.1 c.loop-k.k c.loop-k.invariant.0 (search rules) c.loop-k.a c.loop-k.f c.count_of-c.result c.count_of-c.ensures c.loop-k.invariant.1 _ (putting-room _ _ _ _ c.loop-k.buf c.loop-k.a (c.loop-k.k - 1) c.loop-k.invariant.2 (omega (arith, c.loop-k.invariant.0)) (omega (arith, ap length (rows_are c.args.s c.args.t.now), c.requires.2))) in omega (arith, rw (← c.line_bytes.ensures) at g, c.loop-k.invariant.2.same_size)

pub overflow_mul-f : goal.overflow_mul-f
overflow_mul-f c = omega (arith, kind-rows c.kind_at-x.result c.loop-k.k c.kind_at-x.ensures c.args.t.now c.args.s c.loop-k.f _ c.requires.1 (omega arith) c.loop-k.invariant.1 c.count_of-c.ensures)

pub overflow_add-f : goal.overflow_add-f
overflow_add-f c = omega (arith, kind-rows c.kind_at-x.result c.loop-k.k c.kind_at-x.ensures c.args.t.now c.args.s c.loop-k.f _ c.requires.1 (omega arith) c.loop-k.invariant.1 c.count_of-c.ensures)

pub loop-k-preserved : goal.loop-k-preserved
loop-k-preserved c = (omega (arith, c.loop-k.invariant.0), start-on c.args.s c.loop-k.k c.loop-k.f _ _ c.loop-k.invariant.1 c.count_of-c.ensures (ap (λ (y : Kind). y.numbers) c.kind_at-x.ensures), next_place _ _ _ _ _ _ _ c.loop-k.invariant.0 (putting-next _ _ _ _ c.loop-k.buf c.loop-k.a (c.loop-k.k - 1) c.loop-k.invariant.2 (omega (arith, c.loop-k.invariant.0)) _ _ (block-piece c.args.s c.args.t.now c.requires.1 c.loop-k.k c.loop-k.invariant.0 (search rules) c.loop-k.a c.loop-k.f c.count_of-c.result c.count_of-c.ensures c.loop-k.invariant.1 c.loop-k.buf _ c.put_kind.ensures) (block-next c.args.s c.args.t.now c.requires.1 c.loop-k.k c.loop-k.invariant.0 (search rules) c.loop-k.a c.loop-k.f c.count_of-c.result c.count_of-c.ensures c.loop-k.invariant.1 _ c.line_bytes.ensures)))

pub shape_of-buf : goal.shape_of-buf
shape_of-buf c = c.loop-k.invariant.2.same_size

pub returns : goal.returns
returns c = (putting-end _ _ _ _ _ _ (c.loop-k.k - 1) _ c.loop-k.invariant.2 (omega arith) (rows_are c.args.s c.args.t.now)).0
