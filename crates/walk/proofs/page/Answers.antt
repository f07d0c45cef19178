use native.Mathlib.Omega.{arith}
use Prim.Native.Nat.{◌≤◌}
use lib.Pow.{pow_mono}
use Rattle.marking.proofs.Marks.{words-in, words-full}
use Rattle.walk.proofs.page.Goals as goal

pub page_of-requires : goal.page_of-requires
page_of-requires c = (c.requires.0, c.requires.1, c.requires.2, omega arith, omega arith, let h : c.args.x ≤ 6 = omega arith in pow_mono h)

pub page_of-requires-then-x-le-MANY : goal.page_of-requires-then-x-le-MANY
page_of-requires-then-x-le-MANY c = let h : c.args.x ≤ 12 = omega arith in (c.requires.0, c.requires.1, c.requires.2, words-in c.args.x 64 (omega arith) (pow_mono h) _ c.words_for-used.ensures, omega arith, omega (arith, c.words_for-used.ensures, words-full c.args.x (omega arith)))

pub page_of-requires-2 : goal.page_of-requires-2
page_of-requires-2 c = (c.requires.0, c.requires.1, c.requires.2, words-in c.args.x 1024 (omega arith) (pow_mono c.requires.1) _ c.words_for-used.ensures, omega arith, omega (arith, c.words_for-used.ensures, words-full c.args.x (omega arith)))
