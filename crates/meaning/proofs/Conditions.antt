-- Preferences under a condition: what the lists of lines have, what domination depends on, and books without Q lines.
use mathlib.Core.Path.{◌≡◌, refl, sym, ◌∙◌}
use mathlib.Core.Bool.{Bool, true, false}
use mathlib.Core.List.{List, [], ◌∷◌, ◌++◌}
use mathlib.Core.Logic.{◌⊎◌, inl, inr, ⊎_elim, ◌↔◌}
use Prim.Native.Nat.{ℕ}
use lib.Dec.{eqb}
use Rattle.logic.specs.Lists.{Among, Some}
use Rattle.logic.specs.Tests.{Decides, cons_if, keep, some}
use Rattle.logic.proofs.Decide.{decides-both, decides_eq, decides-some, holds, reworded}
use Rattle.logic.proofs.Members.{among-either, among-left, every-at, keep-in, keep-only, kept_from}
use Rattle.sets.specs.Sets.{Contained, ProperSubset}
use Rattle.sets.specs.declared.Pair.{Pair}
use Rattle.meaning.specs.Literals.{Conclusions}
use Rattle.meaning.specs.Rules.{Satisfied, satisfied}
use Rattle.meaning.specs.Preferences.{Conditional, counting, same_step, in_both, Outranks, step, chain}
use Rattle.meaning.specs.Books.{Book, conclusions}
use Rattle.meaning.specs.Views.{ranking, Ranked, RankedWithin, Dominates, View}
use Rattle.meaning.specs.Resolutions.{Dominated, Resolution}
use Rattle.meaning.proofs.Twins.{decides-satisfied}

-- ---- lists of lines
-- A line counts in S exactly where some Q line has it and S satisfies its body.
pub counting-has : (s : Conclusions) (l : ℕ × ℕ) (qs : List Conditional) → Among l (counting s qs) ↔ Some (λ (q : Conditional). (q.line ≡ l) × Satisfied s q.body) qs
unfolding counting cons_if
counting-has s l [] = (λ m. m, λ m. m)
counting-has s l (q ∷ qs) = go (satisfied s q.body) refl (counting-has s l qs)
  where
    d : Decides (satisfied s q.body) (Satisfied s q.body)
    d = decides-satisfied s q.body

    go : (x : Bool) → satisfied s q.body ≡ x → (Among l (counting s qs) ↔ Some (λ (q : Conditional). (q.line ≡ l) × Satisfied s q.body) qs)
        → Among l (cons_if x q.line (counting s qs)) ↔ (((q.line ≡ l) × Satisfied s q.body) ⊎ Some (λ (q : Conditional). (q.line ≡ l) × Satisfied s q.body) qs)
    go true e ih = (λ m. ⊎_elim (λ z. inl (z, d.yes e)) (λ r. inr (ih.0 r)) m, λ m. ⊎_elim (λ z. inl z.0) (λ r. inr (ih.1 r)) m)
    go false e ih = (λ m. inr (ih.0 m), λ m. ⊎_elim (λ z. absurd (d.no e z.1)) (λ r. ih.1 r) m)

decides-step : (l m : ℕ × ℕ) → Decides (same_step l m) (m ≡ l)
unfolding same_step
decides-step l m =
    reworded (decides-both (eqb l.0 m.0) (eqb l.1 m.1) (decides_eq l.0 m.0) (decides_eq l.1 m.1))
    (λ p. λ i. (sym p.0 i, sym p.1 i)) (λ e. (λ i. (sym e i).0, λ i. (sym e i).1))

-- A step is given in both exactly where each list has it.
pub both-have : (l : ℕ × ℕ) (ls ms : List (ℕ × ℕ)) → Among l (in_both ls ms) ↔ (Among l ls × Among l ms)
unfolding in_both
both-have l ls ms = (
  λ m. (kept_from test l ls m, (d l).yes (every-at (λ k. test k ≡ true) l (keep test ls) (keep-only test ls) m)),
  λ h. keep-in test l ls h.0 (holds (d l) h.1),
)
  where
    test : ℕ × ℕ → Bool
    test k = some (same_step k) ms

    d : (k : ℕ × ℕ) → Decides (some (same_step k) ms) (Among k ms)
    d k = decides-some (same_step k) (λ m. m ≡ k) (decides-step k) ms

-- ---- more lines, more ranks
pub outranks-more : (ls ms : List (ℕ × ℕ)) → ((l : ℕ × ℕ) → Among l ls → Among l ms) → {a c : ℕ} → Outranks ls a c → Outranks ms a c
outranks-more ls ms f {a} {c} (step m) = step (f (a, c) m)
outranks-more ls ms f {a} (chain {c = d} m r) = chain (f (a, d) m) (outranks-more ls ms f r)

pub ranked-more : (ls ms : List (ℕ × ℕ)) → ((l : ℕ × ℕ) → Among l ls → Among l ms) → {t u v : ℕ} → Contained u v → Ranked ls t u → Ranked ms t v
ranked-more ls ms f k r = record { upper = r.upper; lower = r.lower; upper_in = r.upper_in; lower_in = k r.lower r.lower_in; outranks = outranks-more ls ms f r.outranks }

-- Domination of a pair depends on its T and the steps that rank in its S alone; with more of them it is dominated all the more.
pub dominated-more : (b : Book) (p q : Pair) → ((l : ℕ × ℕ) → Among l (ranking b q) → Among l (ranking b p)) → Contained q.taken p.taken → Dominated b q → Dominated b p
dominated-more b p q f k d = record {
  other = d.other;
  view = d.view;
  dominates =
      ranked-more (in_both (ranking b d.other) (ranking b q)) (in_both (ranking b d.other) (ranking b p))
      (λ l m. let h = (both-have l (ranking b d.other) (ranking b q)).0 m in (both-have l (ranking b d.other) (ranking b p)).1 (h.0, f l h.1)) k d.dominates;
}

-- What P lines alone outrank is outranked in every set.
pub plainly-dominates : (b : Book) (p q : Pair) → Ranked b.preferences p.taken q.taken → Dominates b p q
plainly-dominates b p q r =
    ranked-more b.preferences (in_both (ranking b p) (ranking b q))
    (λ l m. (both-have l (ranking b p) (ranking b q)).1 (among-left l b.preferences (counting (conclusions p) b.conditional) m, among-left l b.preferences (counting (conclusions q) b.conditional) m))
    (λ i m. m) r

-- ---- books without Q lines
module _ (b : Book) (none : b.conditional ≡ []) where
  -- The lines that rank are the P lines.
  plain-only : (p : Pair) (l : ℕ × ℕ) → Among l (ranking b p) → Among l b.preferences
  unfolding counting
  plain-only p l m = ⊎_elim (λ k. k) (λ k. absurd (rw none at k)) (among-either l b.preferences (counting (conclusions p) b.conditional) m)

  -- What ranks within a pair, and domination, depend on T alone.
  pub within-plain : (p : Pair) → RankedWithin b p ↔ Ranked b.preferences p.taken p.taken
  within-plain p = (
    ranked-more (ranking b p) b.preferences (plain-only p) (λ i m. m),
    ranked-more b.preferences (ranking b p) (λ l m. among-left l b.preferences (counting (conclusions p) b.conditional) m) (λ i m. m),
  )

  pub dominates-plain : (p q : Pair) → Dominates b p q ↔ Ranked b.preferences p.taken q.taken
  dominates-plain p q = (
    ranked-more (in_both (ranking b p) (ranking b q)) b.preferences (λ l m. plain-only p l ((both-have l (ranking b p) (ranking b q)).0 m).0) (λ i m. m),
    plainly-dominates b p q,
  )

  -- Some view's T is a proper subset of the pair's T.
  pub record Lessened (p : Pair) : Type 0 where
    pub other : Pair
    pub view : View b other
    pub smaller : ProperSubset other.taken p.taken

  -- A view with a subset of an undominated pair's T is undominated.
  pub smaller-undominated : (p q : Pair) → Contained q.taken p.taken → Dominated b q → Dominated b p
  smaller-undominated p q k =
      dominated-more b p q (λ l m. among-left l b.preferences (counting (conclusions p) b.conditional) (plain-only q l m)) k

  -- So "no undominated view" and "no view" with a proper subset are the same of an undominated pair.
  pub resolution-plain : (p : Pair) → Resolution b p ↔ (View b p × (Dominated b p → ⊥) × (Lessened p → ⊥))
  resolution-plain p = (
    λ r. (r.view, r.undominated, λ x. r.minimal (record { other = x.other; view = x.view; undominated = λ d. r.undominated (smaller-undominated p x.other x.smaller.contained d); smaller = x.smaller })),
    λ h. record { view = h.0; undominated = h.1; minimal = λ x. h.2 (record { other = x.other; view = x.view; smaller = x.smaller }) },
  )
