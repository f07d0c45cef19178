use native.Mathlib.Omega.{arith}
use Rattle.marking.proofs.Marks.{zeros-clear, zeros-long}
use Rattle.walk.proofs.page_of.Goals as goal

pub whole_as_front-page_with : goal.whole_as_front-page_with
whole_as_front-page_with g c = (c.requires.3, omega (arith, c.requires.4))

pub page_with-requires : goal.page_with-requires
page_with-requires g c = (c.requires.0, c.requires.1, c.requires.2, rw (zeros-long _ _ c.requires.3) c.requires.5, zeros-clear _ _)
