use borrow.Author.Rules.{rules}
use native.Mathlib.Omega.{arith}
use Rattle.superior.proofs.Lines.{none-far, found-source, none-sure, none-hopeless, found-inner, both_halves, low-line, without_is}
use Rattle.superior.proofs.+superior.Goals as goal

pub returns-then-far-t-eq0 : goal.returns-then-far-t-eq0
returns-then-far-t-eq0 t c = none-far _ _ _ _ _ _ _ _ _ c.lines_in.ensures c.lines_in-2.ensures _ c.reach-far.ensures (search rules)

pub returns-then-m-eq0 : goal.returns-then-m-eq0
returns-then-m-eq0 t c = none-sure _ _ _ _ _ _ _ _ _ c.lines_in.ensures c.lines_in-2.ensures _ c.sources-s.ensures _ c.taking.ensures (search rules) (search rules)

pub returns-then-hopeless : goal.returns-then-hopeless
returns-then-hopeless t c = none-hopeless _ _ _ _ _ _ _ _ _ c.lines_in.ensures c.lines_in-2.ensures _ c.hopeless.ensures (search rules)

pub assumed-inner-requires : goal.assumed-inner-requires
assumed-inner-requires t c = let q = low-line _ _ _ _ _ _ _ _ c.lines_in-2.ensures (search rules) c.line_to_try-j.ensures in (c.requires, q.0)

pub superior-requires : goal.superior-requires
superior-requires t c = let q = low-line _ _ _ _ _ _ _ _ c.lines_in-2.ensures (search rules) c.line_to_try-j.ensures in let h = (without_is _ _ _ c.cleared-less.ensures).less q.1 in (omega (arith, c.decreases), c.requires)

pub superior-requires-2 : goal.superior-requires-2
superior-requires-2 t c = let q = low-line _ _ _ _ _ _ _ _ c.lines_in-2.ensures (search rules) c.line_to_try-j.ensures in let h = (without_is _ _ _ c.cleared-less.ensures).less q.1 in (omega (arith, c.decreases), c.requires)

pub returns-in-Some : goal.returns-in-Some
returns-in-Some t c = found-source _ _ _ _ _ _ _ _ _ c.lines_in.ensures c.lines_in-2.ensures _ c.sources-s.ensures _ c.taking.ensures _ (search rules)

pub returns-in-Some-superior : goal.returns-in-Some-superior
returns-in-Some-superior t c = found-inner _ _ _ _ _ _ _ _ _ c.lines_in.ensures c.lines_in-2.ensures _ c.sources-s.ensures _ c.taking.ensures (search rules) _ _ (without_is _ _ _ c.cleared-less.ensures).others _ _ _ c.left-others.ensures.lo c.left-others.ensures.hi c.left-others.ensures.keeps c.assumed-inner.ensures.made c.assumed-inner.ensures.propagated _ c.superior.ensures _ (search rules)

pub returns : goal.returns
returns t c = both_halves _ _ _ _ _ _ _ _ _ c.lines_in.ensures c.lines_in-2.ensures _ c.sources-s.ensures _ c.taking.ensures (search rules) _ _ (without_is _ _ _ c.cleared-less.ensures).others _ _ _ c.left-others.ensures.lo c.left-others.ensures.hi c.left-others.ensures.keeps c.assumed-inner.ensures.made c.assumed-inner.ensures.propagated _ _ c.superior.ensures (search rules) c.superior-2.ensures

pub cleared-less-requires : goal.cleared-less-requires
cleared-less-requires t c = let q = low-line _ _ _ _ _ _ _ _ c.lines_in-2.ensures (search rules) c.line_to_try-j.ensures in omega (arith, q.0)
