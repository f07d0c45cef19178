use mathlib.Core.Path.{◌∙◌}
use native.Mathlib.Omega.{arith}
use lib.ListN.{length-set}
use Rattle.queue.proofs.Chains.{chains-are}
use Rattle.queue.proofs.heads.chains.Goals as goal
use mathlib.Core.Path.{◌≡◌, refl}
use mathlib.Core.Bool.{Bool, true, false}
use Prim.Native.Nat.{ℕ}
use mir.Val.{bool_byte}

pub bounds-index-1153 : goal.bounds-index-1153
bounds-index-1153 c = rw (length-set _ _ _, c.rows.auto.index ∙ (c.chained-whole.auto.index ∙ c.requires.1)) (omega arith)

pub shape_of-index : goal.shape_of-index
shape_of-index c = rw (length-set _ _ _, length-set _ _ _) (c.rows.auto.index ∙ c.chained-whole.auto.index)

-- A 1 that stands for a test says that it holds.
one-true : (b : Bool) (x : ℕ) → x ≡ bool_byte b → x ≡ 1 → b ≡ true
one-true true x e f = refl
one-true false x e f = absurd (let z : ◌≡◌ {A = ℕ} 0 1 = cc in omega arith)

pub returns : goal.returns
returns c = chains-are _ _ _ _ _ _ (c.rows.auto.index ∙ (c.chained-whole.auto.index ∙ c.requires.1)) c.requires.0 c.simple-c.ensures (λ e. c.chained-whole.ensures (one-true _ _ c.from.ensures e)) c.rows.ensures
