use native.Mathlib.Omega.{arith}
use Rattle.book.proofs.Counts.{sum-none, sum-next, sum-hundreds, hundreds-small, sum-end}
use Rattle.book.proofs.sum_to.Goals as goal

pub loop-i-init : goal.loop-i-init
loop-i-init g c = (omega arith, λ f h. sum-none f c.args.s)

pub overflow_mul-n : goal.overflow_mul-n
overflow_mul-n g c =
    let loop = c.loop-i in
    let y = c.requires.small loop.i c.each.result (omega arith) c.each.ensures in
    omega (arith, sum-hundreds c.args.s loop.i loop.n _ _ loop.invariant.0 c.count_of.ensures y, hundreds-small c.args.s loop.i c.requires.places.1 (omega arith))

pub overflow_add-n : goal.overflow_add-n
overflow_add-n g c =
    let loop = c.loop-i in
    let y = c.requires.small loop.i c.each.result (omega arith) c.each.ensures in
    omega (arith, sum-hundreds c.args.s loop.i loop.n _ _ loop.invariant.0 c.count_of.ensures y, hundreds-small c.args.s loop.i c.requires.places.1 (omega arith))

pub loop-i-preserved : goal.loop-i-preserved
loop-i-preserved g c =
    let loop = c.loop-i in
    let y = c.requires.small loop.i c.each.result (omega arith) c.each.ensures in (
      sum-hundreds c.args.s loop.i loop.n _ _ loop.invariant.0 c.count_of.ensures y,
      λ f h. sum-next f c.args.s loop.i loop.n _ _ (loop.invariant.1 f h) c.count_of.ensures (h loop.i _ (omega arith) c.each.ensures),
    )

pub returns : goal.returns
returns g c = λ f h. sum-end f _ _ _ _ (c.loop-i.invariant.1 f h) (omega arith) (omega arith)
