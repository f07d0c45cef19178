-- What the definitions say together: verdicts, the published form, and books whose plain rules have an answer set.
use mathlib.Core.Path.{◌≡◌, refl, sym, ◌∙◌}
use mathlib.Core.Bool.{Bool, true, false}
use mathlib.Core.List.{List, [], ◌∷◌, ◌++◌}
use mathlib.Core.Logic.{⊎_elim, ◌↔◌}
use Prim.Native.Nat.{ℕ, suc}
use Rattle.logic.specs.Tests.{cons_if}
use Rattle.logic.proofs.Decide.{clash, decides_eq, fails, holds, holds-or-not}
use Rattle.sets.specs.Sets.{ProperSubset}
use Rattle.sets.specs.declared.Pair.{Pair}
use Rattle.sets.proofs.Words.{contained-same, member-empty}
use Rattle.meaning.specs.Rules.{Rule}
use Rattle.meaning.specs.AnswerSets.{AnswerSet}
use Rattle.meaning.specs.Books.{Book, Lawful, conclusions, taken_from}
use Rattle.meaning.specs.Views.{View}
use Rattle.meaning.specs.Resolutions.{Dominated, Resolution, Verdict, no_answer_set, ranked_within, body_unsatisfied, dominated, not_minimal, resolution}
use Rattle.meaning.specs.Published.{Chosen}
use Rattle.meaning.specs.Twins.Verdicts.{verdict, answers, is_ranked_within, dominates, bodies, views, dominated_by, exceeded_by}
use Rattle.meaning.proofs.Twins.{decides-answers, decides-bodies, decides-dominated, decides-exceeded, verdict-is}
use Rattle.meaning.proofs.Ranks.{decides-within}

-- ---- verdicts
passed : (b : Book) (p : Pair) → View b p → (answers b p ≡ true) × (is_ranked_within b p ≡ false) × (bodies b p ≡ true)
passed b p v = (holds (decides-answers b p v.lawful) v.answers, fails (decides-within b p) v.unranked, holds (decides-bodies b p) v.bodies)

-- The verdict from the five tests.
choose : Bool → Bool → Bool → Bool → Bool → ℕ
choose a r s d x =
    elim a [ false ↦ 1 | true ↦ elim r [ true ↦ 2 | false ↦ elim s [ false ↦ 3 | true ↦ elim d [ true ↦ 4 | false ↦ elim x [ true ↦ 5 | false ↦ 0 ] ] ] ] ]

chosen : (b : Book) (p : Pair)
    → verdict b p ≡ choose (answers b p) (is_ranked_within b p) (bodies b p) (dominated_by b (views b) p) (exceeded_by b (views b) p)
unfolding verdict choose
chosen b p = refl

-- The computed verdict is the verdict.
pub verdict-only : (b : Book) (p : Pair) → Lawful b p → (k : ℕ) → Verdict b p k → verdict b p ≡ k
unfolding choose
verdict-only b p l k (no_answer_set n) = chosen b p ∙ rw (fails (decides-answers b p l) n)
verdict-only b p l k (ranked_within a r) = chosen b p ∙ rw (holds (decides-answers b p l) a, holds (decides-within b p) r)
verdict-only b p l k (body_unsatisfied a r n) = chosen b p ∙ rw (holds (decides-answers b p l) a, fails (decides-within b p) r, fails (decides-bodies b p) n)
verdict-only b p l k (dominated v d) = let o = passed b p v in chosen b p ∙ rw (o.0, o.1, o.2, holds (decides-dominated b p) d)
verdict-only b p l k (not_minimal v d x) = let o = passed b p v in chosen b p ∙ rw (o.0, o.1, o.2, fails (decides-dominated b p) d, holds (decides-exceeded b p) x)
verdict-only b p l k (resolution r) =
    let o = passed b p r.view in chosen b p ∙ rw (o.0, o.1, o.2, fails (decides-dominated b p) r.undominated, fails (decides-exceeded b p) r.minimal)

pub verdict-iff : (b : Book) (p : Pair) → Lawful b p → (k : ℕ) → (verdict b p ≡ k) ↔ Verdict b p k
verdict-iff b p l k = (λ e. rw e at (verdict-is b p l), λ v. verdict-only b p l k v)

-- Verdict 0 is a resolution.
pub verdict-zero : (b : Book) (p : Pair) → Lawful b p → (verdict b p ≡ 0) ↔ Resolution b p
verdict-zero b p l = (λ e. only (rw e at (verdict-is b p l)), λ r. verdict-only b p l 0 (resolution r))
  where
    only : Verdict b p 0 → Resolution b p
    only (resolution r) = r

-- ---- the published form
pub as-published : (b : Book) (p : Pair) → Resolution b p ↔ Chosen b p
as-published b p = (
  λ r. record {
    candidate = record { view = r.view; undominated = λ q v d. r.undominated (record { other = q; view = v; dominates = d }) };
    minimal = λ q c s. r.minimal (record { other = q; view = c.view; undominated = λ d. c.undominated d.other d.view d.dominates; smaller = s });
  },
  λ c. record {
    view = c.candidate.view;
    undominated = λ d. c.candidate.undominated d.other d.view d.dominates;
    minimal = λ x. c.minimal x.other (record { view = x.view; undominated = λ q v d. x.undominated (record { other = q; view = v; dominates = d }) }) x.smaller;
  },
)

-- ---- no exception without need
-- A pair that takes no exception is never dominated.
pub none-taken-undominated : (b : Book) (p : Pair) → p.taken ≡ 0 → Dominated b p → ⊥
none-taken-undominated b p e d =
    let i = d.dominates.lower in
    clash (sym (member-empty i) ∙ rw e at d.dominates.lower_in)

taken_none : (i : ℕ) (rs : List Rule) → taken_from i rs 0 ≡ []
unfolding taken_from cons_if
taken_none i [] = refl
taken_none i (r ∷ rs) = rw (member-empty i, taken_none (suc i) rs)

append-none : (rs : List Rule) → rs ++ [] ≡ rs
append-none [] = refl
append-none (r ∷ rs) = rw (append-none rs)

-- With no exception taken, a view is an answer set of the plain rules.
pub plain-view : (b : Book) (p : Pair) → p.taken ≡ 0 → Lawful b p → AnswerSet b.plain (conclusions p) ↔ View b p
plain-view b p e l = (
  λ a. record { lawful = l; answers = rw (e, taken_none 1 b.exceptions, append-none b.plain) a; unranked = λ r. clash (sym (member-empty r.upper) ∙ rw e at r.upper_in); bodies = rw (e, taken_none 1 b.exceptions) tt },
  λ v. rw (e, taken_none 1 b.exceptions, append-none b.plain) at v.answers,
)

none-smaller : (t : ℕ) → (t ≡ 0 → ⊥) → ProperSubset 0 t
none-smaller t n = record { contained = λ i m. absurd (clash (sym (member-empty i) ∙ m)); different = λ e. n (sym e) }

none_below : {t u : ℕ} → u ≡ 0 → ProperSubset t u → ⊥
none_below {t} {u} e s = s.different (contained-same t u s.contained (λ i m. absurd (clash (sym (member-empty i) ∙ rw e at m))))

-- If the plain rules have an answer set, the resolutions are exactly those answer sets, each with no exception taken.
pub no-exception-without-need : (b : Book) (s : Pair) → Lawful b s → s.taken ≡ 0 → AnswerSet b.plain (conclusions s)
    → (p : Pair) → Resolution b p ↔ ((p.taken ≡ 0) × Lawful b p × AnswerSet b.plain (conclusions p))
no-exception-without-need b s ls es a p = (go, back)
  where
    none-there : Resolution b p → p.taken ≡ 0
    none-there r = ⊎_elim (λ e. e) (λ n. absurd (r.minimal (record { other = s; view = (plain-view b s es ls).0 a; undominated = none-taken-undominated b s es; smaller = rw es (none-smaller p.taken n) }))) (holds-or-not (decides_eq p.taken 0))

    go : Resolution b p → (p.taken ≡ 0) × Lawful b p × AnswerSet b.plain (conclusions p)
    go r = let e = none-there r in (e, r.view.lawful, (plain-view b p e r.view.lawful).1 r.view)

    back : (p.taken ≡ 0) × Lawful b p × AnswerSet b.plain (conclusions p) → Resolution b p
    back h = record { view = (plain-view b p h.0 h.1).0 h.2; undominated = none-taken-undominated b p h.0; minimal = λ x. none_below h.0 x.smaller }
