-- Closure under the reduct, as one condition on each rule: if no barred entry is in S and every needed entry is in t, a head is in t.
-- By induction on the rules; the reduct drops or keeps the first by the same test.
use mathlib.Core.Path.{◌≡◌, refl, sym, ◌∙◌}
use mathlib.Core.Bool.{Bool, true, false, not}
use mathlib.Core.List.{List, [], ◌∷◌}
use mathlib.Core.Logic.{◌↔◌}
use Rattle.logic.specs.Lists.{Every, Some}
use Rattle.logic.specs.Tests.{cons_if}
use Rattle.logic.proofs.Decide.{clash}
use Rattle.logic.proofs.Members.{every_map}
use Rattle.meaning.specs.Literals.{Literal, Conclusions, is_in, ◌∈◌, ◌⊆◌}
use Rattle.meaning.specs.Rules.{Rule}
use Rattle.meaning.specs.AnswerSets.{some_in, struck, reduct, Given, Closed, Breaks}

module _ (s : Conclusions) where
  none_in : (ls : List Literal) → (some_in s ls ≡ false) ↔ Every (λ l. l ∈ s → ⊥) ls
  unfolding some_in
  none_in [] = (λ e. tt, λ h. refl)
  none_in (l ∷ ls) = go (is_in l s) refl (none_in ls)
    where
      go : (b : Bool) → is_in l s ≡ b → (some_in s ls ≡ false) ↔ Every (λ l. l ∈ s → ⊥) ls
          → (elim b as (λ _. Bool) [ true ↦ true | false ↦ some_in s ls ] ≡ false) ↔ ((l ∈ s → ⊥) × Every (λ l. l ∈ s → ⊥) ls)
      go true q ih = (λ e. absurd (clash (sym e)), λ h. absurd (h.0 q))
      go false q ih = (λ e. (λ m. clash (sym q ∙ m), ih.0 e), λ h. ih.1 h.1)

  -- What closure of t under the reduct by s asks of a rule.
  abbrev pub Asks : Conclusions → Rule → Type 0
  Asks t r = Every (λ l. l ∈ s → ⊥) r.body.barred → Every (λ l. l ∈ t) r.body.needed → Given r.heads t

  reduct-step : (t : Conclusions) (r : Rule) (rs : List Rule) (b : Bool) → some_in s r.body.barred ≡ b → Closed (reduct s rs) t ↔ Every (Asks t) rs
      → Closed (cons_if (not b) (struck r) (reduct s rs)) t ↔ (Asks t r × Every (Asks t) rs)
  unfolding cons_if struck
  reduct-step t r rs true q ih = (λ h. (λ o. absurd (clash (sym ((none_in r.body.barred).1 o) ∙ q)), ih.0 h), λ h. ih.1 h.1)
  reduct-step t r rs false q ih = (λ h. (λ o. h.0, ih.0 h.1), λ h. (h.0 ((none_in r.body.barred).0 q), ih.1 h.1))

  pub closed-reduct : (t : Conclusions) (rs : List Rule) → Closed (reduct s rs) t ↔ Every (Asks t) rs
  unfolding reduct
  closed-reduct t [] = (λ h. tt, λ h. tt)
  closed-reduct t (r ∷ rs) = reduct-step t r rs (some_in s r.body.barred) refl (closed-reduct t rs)

  -- What it asks of a rule and that no constraint's body is satisfied, as one condition: a constraint has no head.
  abbrev pub Strictly : Conclusions → Rule → Type 0
  Strictly t r = Every (λ l. l ∈ s → ⊥) r.body.barred → Every (λ l. l ∈ t) r.body.needed → Some (λ l. l ∈ t) r.heads

  pub strictly-asks : (t : Conclusions) (r : Rule) → Strictly t r → Asks t r
  strictly-asks t r f o n = go r.heads (f o n)
    where
      go : (hs : List Literal) → Some (λ l. l ∈ t) hs → Given hs t
      go [] m = tt
      go (l ∷ ls) m = m

  pub strictly-unbroken : (r : Rule) → Strictly s r → Breaks s r.body r.heads → ⊥
  strictly-unbroken r f = go r.heads f
    where
      go : (hs : List Literal) → (Every (λ l. l ∈ s → ⊥) r.body.barred → Every (λ l. l ∈ s) r.body.needed → Some (λ l. l ∈ s) hs) → Breaks s r.body hs → ⊥
      go [] f y = f y.bars y.needs
      go (l ∷ ls) f y = y

  -- Within s, which breaks no constraint, nothing more is asked than closure.
  pub asks-strictly : (t : Conclusions) → t ⊆ s → (r : Rule) → Asks t r → (Breaks s r.body r.heads → ⊥) → Strictly t r
  asks-strictly t g r f u o n = go r.heads (f o n) u
    where
      go : (hs : List Literal) → Given hs t → (Breaks s r.body hs → ⊥) → Some (λ l. l ∈ t) hs
      go [] m u = u (record { needs = every_map (λ l. g l) r.body.needed n; bars = o })
      go (l ∷ ls) m u = m
