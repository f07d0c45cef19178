use Rattle.book.specs.Kinds.{kind}
use Prim.Native.Nat.{◌-◌, ◌+◌, ◌*◌}
use mathlib.Core.Path.{◌≡◌}
use Rattle.write.proofs.TableLaws.{Rest}
use Rattle.write.proofs.test_kind.Given as goal

abbrev pub invariant-loop-i : goal.invariant-loop-i
invariant-loop-i l = (l.w ≡ (kind l.k).numbers) × (l.at + (l.c - l.i-counter) * l.w ≡ l.from + l.c * l.w) × Rest l.k l.t l.from l.c l.line l.n l.m l.at l.i-counter
