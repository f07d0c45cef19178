use Prim.Native.Nat.{ℕ, ◌<◌, ◌≤◌}
use mathlib.Core.Path.{◌≡◌}
use Rattle.book.specs.declared.Kind.{Kind}
use Rattle.book.specs.Kinds.{kind, none}
use Rattle.book.specs.Counts.{sum_to}
use Rattle.book.proofs.sum_to.Given as goal

abbrev pub invariant-loop-i : goal.invariant-loop-i
invariant-loop-i g l = (l.n ≤ sum_to (λ x. 100) l.s l.i) × ((f : Kind → ℕ) → ((i r : ℕ) → i < none → g.F.Fn.post l.each (i, tt) r → r ≡ f (kind i)) → l.n ≡ sum_to f l.s l.i)
