-- What a test that decides a proposition says where the code has it under `!`, and what a constant answer decides.
-- Each is one step from the record Decides.
use mathlib.Core.Path.{◌≡◌, refl, sym}
use mathlib.Core.Bool.{Bool, true, false, not}
use mathlib.Core.Logic.{⊎_elim}
use Rattle.logic.specs.Tests.{Decides}
use Rattle.logic.proofs.Decide.{clash, decided, decides_not, holds-or-not}

-- The test under `!` came out true: the proposition fails.
pub refused : {t : Bool} {P : Type 0} → Decides t P → not t ≡ true → P → ⊥
refused d e = (decides_not d).yes e

-- The test under `!` came out false: the proposition holds.
pub granted : {t : Bool} {P : Type 0} → Decides t P → not t ≡ false → P
granted d e = ⊎_elim (λ p. p) (λ f. absurd ((decides_not d).no e f)) (holds-or-not d)

-- What comes out false under `!` is true.
pub not_refused : (t : Bool) → not t ≡ false → t ≡ true
not_refused true e = refl
not_refused false e = absurd (clash (sym e))

-- The answer true is right for what holds, false for what fails.
pub decides-true : {P : Type 0} → P → Decides true P
decides-true p = decided (λ e. p) (λ q. refl)

pub decides-false : {P : Type 0} → (P → ⊥) → Decides false P
decides-false f = decided (λ e. absurd (clash e)) (λ p. absurd (f p))
