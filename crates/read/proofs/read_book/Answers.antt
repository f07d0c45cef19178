use Rattle.book.specs.Kinds.{exception}
use mathlib.Core.Path.{ap, ◌∙◌}
use native.Mathlib.Omega.{arith}
use borrow.Author.Rules.{rules}
use Rattle.std.proofs.lemmas.Result.{err_from_is_err_and}
use lib.ListN.{length, length-drop}
use Rattle.std.proofs.lemmas.Slice.{between_to_end}
use Rattle.cursor.specs.declared.Cursor.{Cursor}
use Rattle.book.specs.Faults.{numbered}
use Rattle.book.proofs.Faults.{numbered-ok}
use Rattle.read.proofs.Going.{going_start, going-bad, going-kind, going_next, going_done, going_end, lost-is, turned, longest-small, going-line, going-n, going-count, going-rows, going-room, going-to, row_small}
use Rattle.read.proofs.read_book.Goals as goal

pub loop-c-init : goal.loop-c-init
loop-c-init c = going_start _ _ _ _ c.empty-st.ensures c.requires.0 c.requires.1

pub returns-then-st-eq-KINDS : goal.returns-then-st-eq-KINDS
returns-then-st-eq-KINDS c = going_done _ _ _ _ _ _ _ c.loop-c.invariant c.requires.2 c.requires.4 _ c.ended.ensures (search rules)

pub line_length-len-requires : goal.line_length-len-requires
line_length-len-requires c = omega arith

pub read_line-requires : goal.read_line-requires
read_line-requires c = (omega (arith, simp length-drop at (rw (between_to_end c.args.text.now c.loop-c.c.at (length c.args.text.now) (omega arith)) at c.line_length-len.ensures.1)), going-room _ _ _ _ _ _ _ c.loop-c.invariant c.requires.2 c.requires.4, going-n _ _ _ _ _ _ _ c.loop-c.invariant c.requires.2, going-count _ _ _ _ _ _ _ c.loop-c.invariant c.requires.2 exception, going-rows _ _ _ _ _ _ _ c.loop-c.invariant c.requires.2)

pub returns-in_err-k : goal.returns-in_err-k
returns-in_err-k c =
    let p = err_from_is_err_and c.from_residual.result c.from_residual.ensures.1 in
    let t = turned c.read_line.result c.map_err.result c.in_err-k.field-0.0 c.loop-c.c.line _ (λ q r w. search rules) c.in_err-k.was c.map_err.ensures.cases in
    rw (p.1, p.2) (lost-is _ t.0 c.loop-c.c.line _ _ t.2 ∙ going-bad _ _ _ _ c.read_line.new.t c.loop-c.st c.loop-c.c c.loop-c.to c.line_length-len.result c.loop-c.invariant (search rules) c.requires.3 (search rules) (rw (between_to_end c.args.text.now c.loop-c.c.at (length c.args.text.now) (omega arith)) at c.line_length-len.ensures.0) (numbered c.read_line.result) c.read_line.ensures t.0 t.1)

pub stepped-st-requires : goal.stepped-st-requires
stepped-st-requires c = (going-kind _ _ _ _ c.read_line.new.t c.loop-c.st c.loop-c.c c.loop-c.to c.line_length-len.result c.loop-c.invariant (search rules) c.requires.3 (search rules) (rw (between_to_end c.args.text.now c.loop-c.c.at (length c.args.text.now) (omega arith)) at c.line_length-len.ensures.0) (numbered c.read_line.result) c.read_line.ensures _ c.in_ok-k.n (numbered-ok c.read_line.result _ (search rules)), going-count _ _ _ _ _ _ _ c.loop-c.invariant c.requires.2 _, going-rows _ _ _ _ _ _ _ c.loop-c.invariant c.requires.2)

pub numbers_at-to-requires : goal.numbers_at-to-requires
numbers_at-to-requires c = going-kind _ _ _ _ c.read_line.new.t c.loop-c.st c.loop-c.c c.loop-c.to c.line_length-len.result c.loop-c.invariant (search rules) c.requires.3 (search rules) (rw (between_to_end c.args.text.now c.loop-c.c.at (length c.args.text.now) (omega arith)) at c.line_length-len.ensures.0) (numbered c.read_line.result) c.read_line.ensures _ c.in_ok-k.n (numbered-ok c.read_line.result _ (search rules))

pub overflow_add-to : goal.overflow_add-to
overflow_add-to c = omega (arith, going-to _ _ _ _ _ _ _ c.loop-c.invariant c.requires.2, c.numbers_at-to.ensures, row_small c.in_ok-k.k (going-kind _ _ _ _ c.read_line.new.t c.loop-c.st c.loop-c.c c.loop-c.to c.line_length-len.result c.loop-c.invariant (search rules) c.requires.3 (search rules) (rw (between_to_end c.args.text.now c.loop-c.c.at (length c.args.text.now) (omega arith)) at c.line_length-len.ensures.0) (numbered c.read_line.result) c.read_line.ensures c.in_ok-k.k c.in_ok-k.n (numbered-ok c.read_line.result _ (search rules))))

pub advance-requires : goal.advance-requires
advance-requires c = (omega (arith, simp length-drop at (rw (between_to_end c.args.text.now c.loop-c.c.at (length c.args.text.now) (omega arith)) at c.line_length-len.ensures.1), c.requires.2, longest-small), going-line _ _ _ _ _ _ _ c.loop-c.invariant c.requires.2)

pub loop-c-smaller : goal.loop-c-smaller
loop-c-smaller c = omega (arith, ap (λ (x : Cursor). x.at) (c.advance.ensures))

pub loop-c-preserved : goal.loop-c-preserved
loop-c-preserved c = going_next _ _ _ _ c.read_line.new.t c.loop-c.st c.loop-c.c c.loop-c.to c.line_length-len.result c.loop-c.invariant (search rules) c.requires.3 (search rules) (rw (between_to_end c.args.text.now c.loop-c.c.at (length c.args.text.now) (omega arith)) at c.line_length-len.ensures.0) (numbered c.read_line.result) c.read_line.ensures _ _ (numbered-ok c.read_line.result _ (search rules)) c.requires.4 c.requires.2 _ _ _ c.stepped-st.ensures c.numbers_at-to.ensures (c.advance.ensures)

pub returns : goal.returns
returns c = going_end _ _ _ _ _ _ _ c.loop-c.invariant c.requires.2 c.requires.4 _ c.ended-2.ensures (omega arith)
