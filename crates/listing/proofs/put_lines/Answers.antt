use borrow.Author.Rules.{rules}
use native.Mathlib.Omega.{arith}
use Prim.Native.Nat.{◌-◌}
use lib.ListN.{length, drop, length-take, length-drop}
use Rattle.text.specs.ALines.{a_line}
use Rattle.page.specs.Pages.{pair_at}
use Rattle.logic.proofs.Stores.{putting-start, putting-next}
use Rattle.answers.proofs.Copies.{front-put}
use Rattle.line.proofs.PutLaws.{line-length}
use Rattle.listing.proofs.Stores.{lines-room, lines-put}
use Rattle.listing.proofs.put_lines.Goals as goal

pub loop-i-init : goal.loop-i-init
loop-i-init c = (c.line_bytes-bytes.ensures, putting-start _ _ _ _ _ (omega arith))

pub slice_bounds-put_line-count : goal.slice_bounds-put_line-count
slice_bounds-put_line-count c = omega (arith, lines-room _ _ _ _ _ _ _ _ c.loop-i.invariant.1 (search rules) (search rules))

pub slice_bounds-put_line-start : goal.slice_bounds-put_line-start
slice_bounds-put_line-start c = omega (arith, lines-room _ _ _ _ _ _ _ _ c.loop-i.invariant.1 (search rules) (search rules))

pub put_line-requires : goal.put_line-requires
put_line-requires c =
    let loop = c.loop-i in
    let rest = length loop.out - loop.at in
    (omega arith, omega arith, omega (arith, lines-room _ _ _ _ _ _ _ _ loop.invariant.1 (search rules) (search rules), length-take rest (drop loop.at loop.out), length-drop loop.at loop.out))

pub overflow_add-at : goal.overflow_add-at
overflow_add-at c = omega (arith, lines-room _ _ _ _ _ _ _ _ c.loop-i.invariant.1 (search rules) (search rules))

pub loop-i-preserved : goal.loop-i-preserved
loop-i-preserved c =
    let loop = c.loop-i in
    let p = pair_at c.args.pairs.now loop.i in
    let line = line-length c.args.w c.args.n p in
    let room = lines-room _ _ _ _ _ _ _ _ loop.invariant.1 (search rules) (search rules) in
    let put = front-put loop.out (a_line c.args.w c.args.n p) loop.at (length loop.out) (omega (arith, room, line)) (omega arith) in
    (search rules, putting-next _ _ _ _ loop.out loop.at loop.i loop.invariant.1 (search rules) _ _ (rw (c.put_line.ensures, c.pair_at-p.ensures) put) (rw line-length (omega arith)))

pub returns : goal.returns
returns c = lines-put _ _ _ _ _ _ _ _ c.loop-i.invariant.1 (search rules)
