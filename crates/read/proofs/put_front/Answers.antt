use mathlib.Core.Path.{refl, ap, ◌∙◌}
use mathlib.Core.List.{List, map}
use Prim.Native.Nat.{ℕ}
use native.Mathlib.Omega.{arith}
use lib.IntN.{pos}
use lib.ListN.{get_or}
use Rattle.book.specs.Counts.{front_of}
use Rattle.logic.proofs.Stores.{putting-start, putting-next, putting-end}
use Rattle.read.proofs.Whole.{put-each, front_fits, front-number, front-each}
use Rattle.read.proofs.put_front.Goals as goal

pub loop-i-init : goal.loop-i-init
loop-i-init c = putting-start _ _ _ _ _ (omega arith)

pub overflow_cast-table : goal.overflow_cast-table
overflow_cast-table c = omega (arith, front_fits c.args.s c.front_of.result c.loop-i.i c.requires.1 c.front_of.ensures)

pub loop-i-preserved : goal.loop-i-preserved
loop-i-preserved c =
    let loop = c.loop-i in
    let e = front-number c.args.s c.front_of.result loop.i c.requires.1 c.front_of.ensures ∙ ap (λ (l : List ℕ). get_or (map pos l) loop.i (pos 0)) c.front_of.ensures in
    putting-next _ _ _ _ loop.table _ loop.i loop.invariant (omega arith) _ _ (put-each (map pos (front_of c.args.s)) loop.table _ loop.i _ e) (omega arith)

pub returns : goal.returns
returns c = (putting-end _ _ _ _ _ _ c.loop-i.i _ c.loop-i.invariant (omega arith) (front-each c.args.s (front_of c.args.s) refl)).0
