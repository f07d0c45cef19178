-- Each test of specs/Twins/Verdicts decides its definition.
use mathlib.Core.Path.{◌≡◌, refl, sym, ap, ◌∙◌}
use mathlib.Core.Bool.{Bool, true, false, not}
use mathlib.Core.List.{List, [], ◌∷◌, ◌++◌}
use mathlib.Core.Logic.{◌⊎◌, inl, inr, ⊎_elim, ◌↔◌}
use Prim.Native.Nat.{ℕ, zero, suc, ◌-◌, ◌^◌, ◌<◌, ◌≤◌}
use native.Mathlib.Nat.{eq-or-lt_of_le}
use native.Mathlib.Omega.{arith}
use lib.Dec.{eqb, ltb}
use lib.ListN.{length}
use Rattle.logic.specs.Lists.{Every, Among}
use Rattle.logic.specs.Tests.{Decides, every, keep}
use Rattle.logic.proofs.Decide.{clash, decided, decides-both, decides_eq, decides-every, decides-imp, decides-lt, decides_not, decides-some, decides-then, holds, holds-or-not, is, reworded}
use Rattle.logic.proofs.Members.{among-concat, every-at, every_of, keep-in, keep-only, kept_from, some_at, some_of}
use Rattle.sets.specs.Sets.{Contained, ProperSubset, member}
use Rattle.sets.specs.declared.Pair.{Pair}
use Rattle.sets.proofs.Digits.{lt-or-le, lt-pow}
use Rattle.sets.proofs.Words.{sub-le, contained-within, member-past}
use Rattle.meaning.specs.Literals.{Literal, pos, neg, Conclusions, is_in, ◌∈◌, ◌⊆◌, Consistent}
use Rattle.meaning.specs.Rules.{Body, Rule, Satisfied, satisfied}
use Rattle.meaning.specs.AnswerSets.{reduct, Given, Closed, Minimal, Breaks, AnswerSet}
use Rattle.meaning.specs.Books.{Book, Lawful, conclusions, applied}
use Rattle.meaning.specs.Views.{Answers, RankedWithin, Bodies, View, Dominates}
use Rattle.meaning.specs.Resolutions.{Dominated, Exceeded, Resolution, Verdict, no_answer_set, ranked_within, body_unsatisfied, dominated, not_minimal, resolution}
use Rattle.meaning.specs.Twins.Verdicts.{breaks, apart, same, given, follows, closed, no_smaller, up_to, minimal, answer_set, is_ranked_within, dominates, lawful, answers, bodies, view, below, pairs, views, contained_to, proper_subset, dominated_by, exceeded_by, verdict, unbeaten, resolutions_among, resolutions}
use Rattle.meaning.proofs.Members.{subset-same}
use Rattle.meaning.proofs.Ranks.{decides-within, decides-dominates}

pub decides-satisfied : (s : Conclusions) (r : Body) → Decides (satisfied s r) (Satisfied s r)
unfolding satisfied
decides-satisfied s r =
    reworded
    (decides-both (every (λ l. is_in l s) r.needed) (every (λ l. not (is_in l s)) r.barred)
    (decides-every (λ l. is_in l s) (λ l. l ∈ s) (λ l. is (is_in l s)) r.needed)
    (decides-every (λ l. not (is_in l s)) (λ l. l ∈ s → ⊥) (λ l. decides_not (is (is_in l s))) r.barred))
    (λ p. record { needs = p.0; bars = p.1 }) (λ h. (h.needs, h.bars))

pub decides-breaks : (s : Conclusions) (r : Body) (hs : List Literal) → Decides (breaks s r hs) (Breaks s r hs)
unfolding breaks
decides-breaks s r [] = decides-satisfied s r
decides-breaks s r (l ∷ ls) = decided (clash) (λ n. absurd n)

-- ---- no statement both held and denied
apart-at : (k : ℕ) (s : Conclusions) → apart k s ≡ true → (i : ℕ) → i < k → pos (suc i) ∈ s → neg (suc i) ∈ s → ⊥
unfolding apart
apart-at zero s e i h p n = omega arith
apart-at (suc k) s e i h p n = go (is_in (pos (suc k)) s) refl (is_in (neg (suc k)) s) refl e (apart-at k s)
  where
    go : (b : Bool) → is_in (pos (suc k)) s ≡ b → (d : Bool) → is_in (neg (suc k)) s ≡ d
        → (elim (not b) as (λ _. Bool) [ true ↦ apart k s | false ↦ elim (not d) [ true ↦ apart k s | false ↦ false ] ]) ≡ true
        → (apart k s ≡ true → (i : ℕ) → i < k → pos (suc i) ∈ s → neg (suc i) ∈ s → ⊥) → ⊥
    go true q true r e ih = clash e
    go false q d r e ih = ⊎_elim (λ z. clash (sym q ∙ rw z at p)) (λ l. ih e i l p n) (eq-or-lt_of_le (omega arith))
    go true q false r e ih = ⊎_elim (λ z. clash (sym r ∙ rw z at n)) (λ l. ih e i l p n) (eq-or-lt_of_le (omega arith))

apart_of : (k : ℕ) (s : Conclusions) → Consistent s → apart k s ≡ true
unfolding apart
apart_of zero s c = refl
apart_of (suc k) s c = go (is_in (pos (suc k)) s) refl (is_in (neg (suc k)) s) refl (apart_of k s c)
  where
    go : (b : Bool) → is_in (pos (suc k)) s ≡ b → (d : Bool) → is_in (neg (suc k)) s ≡ d → apart k s ≡ true
        → (elim (not b) as (λ _. Bool) [ true ↦ apart k s | false ↦ elim (not d) [ true ↦ apart k s | false ↦ false ] ]) ≡ true
    go true q true r ih = absurd (c (suc k) q r)
    go false q d r ih = ih
    go true q false r ih = ih

-- Number i stands at place i - 1, as number i - 1 + 1 does.
one_up : (i a : ℕ) → member (suc (i - 1)) a ≡ member i a
unfolding member
one_up i a = let e : suc (i - 1) - 1 ≡ i - 1 = omega arith in rw e

pub decides-apart : (n : ℕ) (s : Conclusions) → s.held < 2 ^ n → Decides (apart n s) (Consistent s)
unfolding is_in
decides-apart n s h = decided (λ e i. go e i (lt-or-le (i - 1) n)) (apart_of n s)
  where
    go : apart n s ≡ true → (i : ℕ) → (i - 1 < n) ⊎ (n ≤ i - 1) → pos i ∈ s → neg i ∈ s → ⊥
    go e i (inl l) p q = apart-at n s e (i - 1) l (rw (one_up i s.held) p) (rw (one_up i s.denied) q)
    go e i (inr l) p q = clash (sym (member-past s.held n i h l) ∙ p)

-- ---- answer sets
pub decides-same : (s t : Conclusions) → Decides (same s t) (s ≡ t)
unfolding same
decides-same s t =
    reworded (decides-both (eqb s.held t.held) (eqb s.denied t.denied) (decides_eq s.held t.held) (decides_eq s.denied t.denied))
    (λ p. λ i. record { held = p.0 i; denied = p.1 i }) (λ e. (ap (λ (u : Conclusions). u.held) e, ap (λ (u : Conclusions). u.denied) e))

-- ---- subsets
contained-at : (k a c : ℕ) → contained_to k a c ≡ true → (i : ℕ) → i < k → member (suc i) a ≡ true → member (suc i) c ≡ true
unfolding contained_to
contained-at zero a c e i h m = absurd (omega arith)
contained-at (suc k) a c e i h m = go (member (suc k) a) refl (member (suc k) c) refl e (contained-at k a c)
  where
    go : (x : Bool) → member (suc k) a ≡ x → (y : Bool) → member (suc k) c ≡ y
        → (elim (not x) as (λ _. Bool) [ true ↦ contained_to k a c | false ↦ elim y [ true ↦ contained_to k a c | false ↦ false ] ]) ≡ true
        → (contained_to k a c ≡ true → (i : ℕ) → i < k → member (suc i) a ≡ true → member (suc i) c ≡ true) → member (suc i) c ≡ true
    go true q false r e ih = absurd (clash e)
    go false q y r e ih = ⊎_elim (λ z. absurd (clash (sym q ∙ rw z at m))) (λ l. ih e i l m) (eq-or-lt_of_le (omega arith))
    go true q true r e ih = ⊎_elim (λ z. rw z r) (λ l. ih e i l m) (eq-or-lt_of_le (omega arith))

contained-of : (k a c : ℕ) → Contained a c → contained_to k a c ≡ true
unfolding contained_to
contained-of zero a c f = refl
contained-of (suc k) a c f = go (member (suc k) a) refl (member (suc k) c) refl (contained-of k a c f)
  where
    go : (x : Bool) → member (suc k) a ≡ x → (y : Bool) → member (suc k) c ≡ y → contained_to k a c ≡ true
        → (elim (not x) as (λ _. Bool) [ true ↦ contained_to k a c | false ↦ elim y [ true ↦ contained_to k a c | false ↦ false ] ]) ≡ true
    go true q false r ih = absurd (clash (sym r ∙ f (suc k) q))
    go false q y r ih = ih
    go true q true r ih = ih

-- A set is below 2 to the power of itself, so its own value bounds its members.
pub decides-contained : (a c : ℕ) → Decides (contained_to a a c) (Contained a c)
decides-contained a c = decided (λ e i. go e i (lt-or-le (i - 1) a)) (contained-of a a c)
  where
    go : contained_to a a c ≡ true → (i : ℕ) → (i - 1 < a) ⊎ (a ≤ i - 1) → member i a ≡ true → member i c ≡ true
    go e i (inl l) m = rw (one_up i c) at (contained-at a a c e (i - 1) l (rw (one_up i a) m))
    go e i (inr l) m = absurd (clash (sym (member-past a a i (lt-pow a) l) ∙ m))

below_all : (k i : ℕ) → i < k → Among i (below k)
unfolding below
below_all zero i h = absurd (omega arith)
below_all (suc k) i h = ⊎_elim (λ e. inl (sym e)) (λ l. inr (below_all k i l)) (eq-or-lt_of_le (omega arith))

-- A subset by its two numbers.
halves : (t s : Conclusions) → t ⊆ s → Contained t.held s.held × Contained t.denied s.denied
unfolding is_in
halves t s f = (λ i. f (pos i), λ i. f (neg i))

joined : (t s : Conclusions) → Contained t.held s.held → Contained t.denied s.denied → t ⊆ s
unfolding is_in
joined t s f g (pos i) = f i
joined t s f g (neg i) = g i

-- ---- closed sets, minimal ones
pub decides-given : (hs : List Literal) (t : Conclusions) → Decides (given hs t) (Given hs t)
unfolding given
decides-given [] t = decided (λ e. tt) (λ p. refl)
decides-given (l ∷ ls) t = decides-some (λ k. is_in k t) (λ k. k ∈ t) (λ k. is (is_in k t)) (l ∷ ls)

pub decides-closed : (rs : List Rule) (t : Conclusions) → Decides (closed rs t) (Closed rs t)
unfolding closed follows
decides-closed rs t =
    decides-every (follows t) (λ r. Every (λ l. l ∈ t) r.body.needed → Given r.heads t)
    (λ r. decides-imp _ _ (decides-every (λ l. is_in l t) (λ l. l ∈ t) (λ l. is (is_in l t)) r.body.needed) (decides-given r.heads t)) rs

decides-no-smaller : (rs : List Rule) (s t : Conclusions) → Decides (no_smaller rs s t) (Closed rs t → t ⊆ s → s ⊆ t)
unfolding no_smaller
decides-no-smaller rs s t =
    reworded
    (decides-imp _ _ (decides-contained t.held s.held) (decides-imp _ _ (decides-contained t.denied s.denied) (decides-imp (closed rs t) (same t s) (decides-closed rs t) (decides-same t s))))
    (λ f c h l m. rw (f (halves t s h).0 (halves t s h).1 c) m) (λ f h d c. let g = joined t s h d in subset-same t s g (f c g))

up-to-all : (s t : Conclusions) → t ⊆ s → Among t (up_to s)
unfolding up_to
up-to-all s t f =
    let h = sub-le t.held s.held (contained-within _ _ (halves t s f).0) in
    let d = sub-le t.denied s.denied (contained-within _ _ (halves t s f).1) in
    among-concat _ t.held t _ (below_all _ t.held (omega arith)) (among-concat _ t.denied t _ (below_all _ t.denied (omega arith)) (inl refl))

pub decides-minimal : (rs : List Rule) (s : Conclusions) → Decides (minimal rs s) (Minimal rs s)
unfolding minimal
decides-minimal rs s =
    reworded
    (decides-both (closed rs s) (every (no_smaller rs s) (up_to s)) (decides-closed rs s)
    (decides-every (no_smaller rs s) (λ t. Closed rs t → t ⊆ s → s ⊆ t) (decides-no-smaller rs s) (up_to s)))
    (λ h. record { closed = h.0; minimal = λ t c f. every-at (λ t. Closed rs t → t ⊆ s → s ⊆ t) t (up_to s) h.1 (up-to-all s t f) c f })
    (λ m. (m.closed, every_of (λ t. Closed rs t → t ⊆ s → s ⊆ t) (up_to s) (λ t i. m.minimal t)))

-- No proper subset of a closed set is closed: it is minimal, in (g)'s words.
pub no-proper-subset : (rs : List Rule) (s : Conclusions) → Minimal rs s ↔ (Closed rs s × ((t : Conclusions) → t ⊆ s → (t ≡ s → ⊥) → Closed rs t → ⊥))
no-proper-subset rs s = (
  λ m. (m.closed, λ t f n c. n (subset-same t s f (m.minimal t c f))),
  λ h. record { closed = h.0; minimal = λ t c f l i. ⊎_elim (λ (e : t ≡ s). rw e i) (λ n. absurd (h.1 t f n c)) (holds-or-not (decides-same t s)) },
)

pub decides-answer-set : (rs : List Rule) (s : Conclusions) → Consistent s → Decides (answer_set rs s) (AnswerSet rs s)
unfolding answer_set
decides-answer-set rs s c =
    reworded
    (decides-both (minimal (reduct s rs) s) (every (λ r. not (breaks s r.body r.heads)) rs)
    (decides-minimal (reduct s rs) s)
    (decides-every (λ r. not (breaks s r.body r.heads)) (λ r. Breaks s r.body r.heads → ⊥) (λ r. decides_not (decides-breaks s r.body r.heads)) rs))
    (λ p. record { consistent = c; minimal = p.0; unbroken = p.1 })
    (λ a. (a.minimal, a.unbroken))

-- ---- views
pub decides-lawful : (b : Book) (p : Pair) → Decides (lawful b p) (Lawful b p)
unfolding lawful
decides-lawful b p =
    reworded {P = (p.taken < 2 ^ length b.exceptions) × ((p.held < 2 ^ b.statements) × ((p.denied < 2 ^ b.statements) × Consistent (conclusions p)))}
    (decides-then (ltb p.taken (2 ^ length b.exceptions)) _ (decides-lt _ _) (λ x.
    decides-then (ltb p.held (2 ^ b.statements)) _ (decides-lt _ _) (λ h.
    decides-both (ltb p.denied (2 ^ b.statements)) _ (decides-lt _ _) (decides-apart b.statements (conclusions p) h))))
    (λ h. record { exceptions = h.0; held = h.1.0; denied = h.1.1.0; apart = h.1.1.1 })
    (λ l. (l.exceptions, (l.held, (l.denied, l.apart))))

pub decides-answers : (b : Book) (p : Pair) → Lawful b p → Decides (answers b p) (Answers b p)
unfolding answers
decides-answers b p l = decides-answer-set (b.plain ++ applied b p) (conclusions p) l.apart

pub decides-bodies : (b : Book) (p : Pair) → Decides (bodies b p) (Bodies b p)
unfolding bodies
decides-bodies b p = decides-every (λ r. satisfied (conclusions p) r.body) (λ r. Satisfied (conclusions p) r.body) (λ r. decides-satisfied (conclusions p) r.body) (applied b p)

pub decides-view : (b : Book) (p : Pair) → Decides (view b p) (View b p)
unfolding view
decides-view b p =
    reworded {P = Lawful b p × (Answers b p × ((RankedWithin b p → ⊥) × Bodies b p))}
    (decides-then (lawful b p) _ (decides-lawful b p) (λ l.
    decides-both (answers b p) _ (decides-answers b p l)
    (decides-both (not (is_ranked_within b p)) _ (decides_not (decides-within b p)) (decides-bodies b p))))
    (λ h. record { lawful = h.0; answers = h.1.0; unranked = h.1.1.0; bodies = h.1.1.1 })
    (λ v. (v.lawful, (v.answers, (v.unranked, v.bodies))))

-- ---- all views are among the pairs
pub pairs-all : (b : Book) (p : Pair) → Lawful b p → Among p (pairs b)
unfolding pairs
pairs-all b p l =
    among-concat _ p.taken p _ (below_all _ p.taken l.exceptions)
    (among-concat _ p.held p _ (below_all _ p.held l.held) (among-concat _ p.denied p _ (below_all _ p.denied l.denied) (inl refl)))

pub views-all : (b : Book) (p : Pair) → View b p → Among p (views b)
unfolding views
views-all b p v = keep-in (view b) p (pairs b) (pairs-all b p v.lawful) (holds (decides-view b p) v)

pub views-only : (b : Book) (p : Pair) → Among p (views b) → View b p
unfolding views
views-only b p m = (decides-view b p).yes (every-at (λ q. view b q ≡ true) p (keep (view b) (pairs b)) (keep-only (view b) (pairs b)) m)

-- ---- proper subsets
pub decides-proper : (a c : ℕ) → Decides (proper_subset a c) (ProperSubset a c)
unfolding proper_subset
decides-proper a c =
    reworded (decides-both (contained_to a a c) (not (eqb a c)) (decides-contained a c) (decides_not (decides_eq a c)))
    (λ p. record { contained = p.0; different = p.1 }) (λ p. (p.contained, p.different))

-- ---- dominated, exceeded, resolutions
pub decides-dominated : (b : Book) (p : Pair) → Decides (dominated_by b (views b) p) (Dominated b p)
unfolding dominated_by
decides-dominated b p =
    reworded (decides-some (λ q. dominates b q p) (λ q. Dominates b q p) (λ q. decides-dominates b q p) (views b))
    (λ s. let q = some_at (λ q. Dominates b q p) (views b) s in record { other = q.0; view = views-only b q.0 q.1; dominates = q.2 })
    (λ d. some_of (λ q. Dominates b q p) d.other (views b) d.dominates (views-all b d.other d.view))

pub decides-exceeded : (b : Book) (p : Pair) → Decides (exceeded_by b (views b) p) (Exceeded b p)
unfolding exceeded_by
decides-exceeded b p =
    reworded (decides-some _ Smaller (λ q. decides-both (proper_subset q.taken p.taken) _ (decides-proper q.taken p.taken) (decides_not (decides-dominated b q))) (views b))
    (λ s. let q = some_at Smaller (views b) s in record { other = q.0; view = views-only b q.0 q.1; undominated = q.2.1; smaller = q.2.0 })
    (λ d. some_of Smaller d.other (views b) (d.smaller, d.undominated) (views-all b d.other d.view))
  where
    Smaller : Pair → Type 0
    Smaller q = ProperSubset q.taken p.taken × (Dominated b q → ⊥)

-- A view is a resolution if it is unbeaten.
pub decides-unbeaten : (b : Book) (p : Pair) → View b p → Decides (unbeaten b (views b) p) (Resolution b p)
unfolding unbeaten
decides-unbeaten b p v =
    reworded (decides-both (not (dominated_by b (views b) p)) _ (decides_not (decides-dominated b p)) (decides_not (decides-exceeded b p)))
    (λ h. record { view = v; undominated = h.0; minimal = h.1 }) (λ r. (r.undominated, r.minimal))

pub resolutions-all : (b : Book) (p : Pair) → Resolution b p → Among p (resolutions b)
unfolding resolutions resolutions_among
resolutions-all b p r = keep-in (unbeaten b (views b)) p (views b) (views-all b p r.view) (holds (decides-unbeaten b p r.view) r)

pub resolutions-only : (b : Book) (p : Pair) → Among p (resolutions b) → Resolution b p
unfolding resolutions resolutions_among
resolutions-only b p m =
    (decides-unbeaten b p (views-only b p (kept_from (unbeaten b (views b)) p (views b) m))).yes
    (every-at (λ q. unbeaten b (views b) q ≡ true) p (keep (unbeaten b (views b)) (views b)) (keep-only (unbeaten b (views b)) (views b)) m)

-- ---- the verdict
pub verdict-is : (b : Book) (p : Pair) → Lawful b p → Verdict b p (verdict b p)
unfolding verdict
verdict-is b p l = go (answers b p) refl (is_ranked_within b p) refl (bodies b p) refl (dominated_by b (views b) p) refl (exceeded_by b (views b) p) refl
  where
    v : answers b p ≡ true → is_ranked_within b p ≡ false → bodies b p ≡ true → View b p
    v a r s = record { lawful = l; answers = (decides-answers b p l).yes a; unranked = (decides-within b p).no r; bodies = (decides-bodies b p).yes s }

    go : (a : Bool) → answers b p ≡ a → (r : Bool) → is_ranked_within b p ≡ r → (s : Bool) → bodies b p ≡ s
        → (d : Bool) → dominated_by b (views b) p ≡ d → (x : Bool) → exceeded_by b (views b) p ≡ x
        → Verdict b p (elim a as (λ _. ℕ) [ false ↦ 1 | true ↦ elim r [ true ↦ 2 | false ↦ elim s [ false ↦ 3 | true ↦ elim d [ true ↦ 4 | false ↦ elim x [ true ↦ 5 | false ↦ 0 ] ] ] ] ])
    go false ea r er s es d ed x ex = no_answer_set ((decides-answers b p l).no ea)
    go true ea true er s es d ed x ex = ranked_within ((decides-answers b p l).yes ea) ((decides-within b p).yes er)
    go true ea false er false es d ed x ex = body_unsatisfied ((decides-answers b p l).yes ea) ((decides-within b p).no er) ((decides-bodies b p).no es)
    go true ea false er true es true ed x ex = dominated (v ea er es) ((decides-dominated b p).yes ed)
    go true ea false er true es false ed true ex = not_minimal (v ea er es) ((decides-dominated b p).no ed) ((decides-exceeded b p).yes ex)
    go true ea false er true es false ed false ex =
        resolution (record { view = v ea er es; undominated = (decides-dominated b p).no ed; minimal = (decides-exceeded b p).no ex })
