use Prim.Native.Nat.{◌+◌, ◌≤◌}
use mathlib.Core.Path.{◌∙◌}
use lib.ListN.{length}
use lib.Seq.{length-sets}
use Rattle.answers.specs.Ways.{closing_line}
use Rattle.answers.proofs.Copies.{front-put}
use Rattle.listing.specs.Parts.{part_lines}
use Rattle.listing.proofs.Stores.{closing-length}
use Rattle.listing.proofs.Promised.{closes}
use Rattle.listing.proofs.Listed.{at_most}
use native.Mathlib.Omega.{arith}
use borrow.Author.Rules.{rules}
use Rattle.listing.proofs.close_part.Goals as goal

pub put_lines-at-requires : goal.put_lines-at-requires
put_lines-at-requires c =
    let args = c.args in
    let m = at_most args.k part_lines args.w args.n (search rules) (search rules) (search rules) in
    (search rules, search rules, search rules, omega arith)

pub put_closing-requires : goal.put_closing-requires
put_closing-requires c =
    let put-lines = c.put_lines-at in
    let args = c.args in
    (omega (arith, at_most args.k part_lines args.w args.n (search rules) (search rules) (search rules), put-lines.ensures.1, put-lines.auto.out), omega arith)

pub overflow_add-result : goal.overflow_add-result
overflow_add-result c =
    let put-lines = c.put_lines-at in
    let args = c.args in
    omega (arith, at_most args.k part_lines args.w args.n (search rules) (search rules) (search rules), put-lines.ensures.1)

pub returns : goal.returns
returns c =
    let lines = c.put_lines-at in
    let args = c.args in
    let bytes = closing_line args.letter (args.done + args.k) in
    let room : lines.result + length bytes ≤ length lines.new.out =
    omega (arith, at_most args.k part_lines args.w args.n (search rules) (search rules) (search rules), lines.ensures.1, lines.auto.out, closing-length args.letter (args.done + args.k)) in
    let put = front-put lines.new.out bytes lines.result (length lines.new.out) room (omega arith) in
    closes _ _ _ _ _ _ _ lines.ensures.0 lines.ensures.1 (search rules) (search rules) (search rules) (search rules) _ _ _ (rw c.put_closing.ensures put)
    (rw (c.put_closing.ensures, put) (length-sets lines.new.out lines.result bytes ∙ lines.auto.out))
