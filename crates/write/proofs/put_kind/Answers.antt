use mathlib.Core.Path.{ap}
use native.Mathlib.Omega.{arith}
use borrow.Author.Rules.{rules}
use Rattle.logic.proofs.Stores.{putting-start, putting-room, putting-next, putting-end}
use Rattle.book.specs.declared.Kind.{Kind}
use Rattle.text.proofs.KindFacts.{numbers-fields}
use Rattle.write.proofs.PutLaws.{lines_are, line-in-table, line-piece, all-long, next-line, line-room, next-numbers}
use Rattle.write.proofs.put_kind.Goals as goal

pub kind_at-x-requires : goal.kind_at-x-requires
kind_at-x-requires c = omega arith

pub line_bytes-b-requires : goal.line_bytes-b-requires
line_bytes-b-requires c = omega arith

pub loop-i-init : goal.loop-i-init
loop-i-init c = (omega arith, putting-start _ _ _ _ _ (omega arith))

pub put_line-requires : goal.put_line-requires
put_line-requires c = (omega arith, c.requires.2, omega (arith, c.loop-i.invariant.0, line-in-table c.args.k c.requires.0 c.requires.1 c.args.t.now c.args.from c.args.c c.requires.3 c.loop-i._i (search rules)), line-room c.args.k c.requires.0 c.requires.1 c.args.t.now c.args.from c.args.c c.requires.3 c.loop-i._i c.loop-i.a _ (search rules) (putting-room _ _ _ _ c.loop-i.buf c.loop-i.a c.loop-i._i c.loop-i.invariant.1 (search rules) (omega (arith, all-long c.args.k c.requires.0 c.requires.1 c.args.t.now c.args.from c.args.c c.requires.3, c.requires.4))))

pub overflow_add-a : goal.overflow_add-a
overflow_add-a c = omega (arith, c.line_bytes-b.ensures, c.loop-i.invariant.1.same_size, line-room c.args.k c.requires.0 c.requires.1 c.args.t.now c.args.from c.args.c c.requires.3 c.loop-i._i c.loop-i.a _ (search rules) (putting-room _ _ _ _ c.loop-i.buf c.loop-i.a c.loop-i._i c.loop-i.invariant.1 (search rules) (omega (arith, all-long c.args.k c.requires.0 c.requires.1 c.args.t.now c.args.from c.args.c c.requires.3, c.requires.4))))

pub overflow_add-f : goal.overflow_add-f
overflow_add-f c = omega (arith, c.loop-i.invariant.0, line-in-table c.args.k c.requires.0 c.requires.1 c.args.t.now c.args.from c.args.c c.requires.3 c.loop-i._i (search rules), numbers-fields c.args.k c.requires.0 c.requires.1, ap (λ (y : Kind). y.numbers) c.kind_at-x.ensures)

pub loop-i-preserved : goal.loop-i-preserved
loop-i-preserved c = (next-numbers c.args.k c.args.from c.loop-i._i c.loop-i.f _ c.loop-i.invariant.0 (ap (λ (y : Kind). y.numbers) c.kind_at-x.ensures), putting-next _ _ _ _ c.loop-i.buf c.loop-i.a c.loop-i._i c.loop-i.invariant.1 (omega arith) _ _ (line-piece c.args.k c.requires.0 c.requires.1 c.args.t.now c.args.from c.args.c c.requires.3 c.loop-i._i c.loop-i.buf _ c.loop-i.a c.loop-i.f c.loop-i.invariant.0 c.put_line.ensures) (next-line c.args.k c.requires.0 c.requires.1 c.args.t.now c.args.from c.args.c c.requires.3 c.loop-i._i c.loop-i.a _ (omega arith) c.line_bytes-b.ensures))

pub shape_of-buf : goal.shape_of-buf
shape_of-buf c = c.loop-i.invariant.1.same_size

pub returns : goal.returns
returns c = (putting-end _ _ _ _ _ _ c.loop-i._i _ c.loop-i.invariant.1 (omega arith) (lines_are c.args.k c.args.t.now c.args.from c.args.c)).0
