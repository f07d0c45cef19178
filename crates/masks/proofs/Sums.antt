-- A pair as a number, the sum of its three words: it grows with the pair, so a growing pair is a measure.
-- A set within another is not a larger number (sets, sub-le), and equal numbers with one within the other are equal sets.
use mathlib.Core.Path.{◌≡◌}
use mathlib.Core.Logic.{⊎_elim}
use Prim.Native.Nat.{ℕ, ◌+◌, ◌<◌, ◌≤◌}
use native.Mathlib.Omega.{arith}
use Rattle.sets.specs.declared.Pair.{Pair}
use Rattle.sets.specs.Pairs.{Sub}
use Rattle.sets.proofs.Digits.{lt-or-le}
use Rattle.sets.proofs.Words.{sub-le}
use Rattle.sets.proofs.Pairs.{pair}

abbrev pub total : Pair → ℕ
total c = c.held + (c.denied + c.taken)

pub total-le : {a b : Pair} → Sub a b → total a ≤ total b
total-le f = omega (arith, sub-le _ _ f.held, sub-le _ _ f.denied, sub-le _ _ f.taken)

pub total-lt : {a b : Pair} → Sub a b → (a ≡ b → ⊥) → total a < total b
total-lt {a} {b} f n =
    let x = sub-le a.held b.held f.held in
    let y = sub-le a.denied b.denied f.denied in
    let z = sub-le a.taken b.taken f.taken in
    ⊎_elim (λ l. l) (λ l. absurd (n (pair a b (omega arith) (omega arith) (omega arith)))) (lt-or-le (total a) (total b))
