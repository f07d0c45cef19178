-- The closure has all heads of each rule whose needed entries it has; for rules with one head or none it is the least closed set.
-- Idea: each rule fires once at most, so as many steps as rules suffice; no counting of members.
use mathlib.Core.Path.{◌≡◌, refl, sym, ap, ◌∙◌}
use mathlib.Core.Bool.{Bool, true, false}
use mathlib.Core.List.{List, [], ◌∷◌}
use mathlib.Core.Logic.{inl, ⊎_elim, ◌↔◌}
use Prim.Native.Nat.{ℕ, zero, suc, ◌-◌, ◌≤◌}
use native.Mathlib.Omega.{arith}
use lib.ListN.{length}
use Rattle.logic.specs.Lists.{Every}
use Rattle.logic.specs.Tests.{Decides, every}
use Rattle.logic.proofs.Decide.{clash, decides-every, is}
use Rattle.logic.proofs.Members.{every_map}
use Rattle.sets.specs.Sets.{member}
use Rattle.sets.proofs.Words.{member-empty}
use Rattle.meaning.specs.Literals.{Literal, pos, neg, Conclusions, is_in, ◌∈◌, ◌⊆◌}
use Rattle.meaning.specs.Rules.{Rule}
use Rattle.meaning.specs.AnswerSets.{Given, Closed, Minimal, Least, OneHead}
use Rattle.meaning.specs.Twins.Closure.{add_heads, Fired, nothing, fires, keep_back, take_out, close_by, empty, closure}
use Rattle.meaning.proofs.Members.{add-keeps, add-has, add-only, At}

-- The rule's needed entries are all in t.
abbrev pub Ready : Conclusions → Rule → Type 0
Ready t r = Every (λ l. l ∈ t) r.body.needed

pub ready : (t : Conclusions) (r : Rule) → Decides (every (λ l. is_in l t) r.body.needed) (Ready t r)
ready t r = decides-every (λ l. is_in l t) (λ l. l ∈ t) (λ l. is (is_in l t)) r.body.needed

-- ---- what taking out does
abbrev Found : Conclusions → List Rule → Fired → Type 0
Found t rs nothing = Every (λ r. Ready t r → ⊥) rs
Found t rs (fires r rest) = Ready t r × (length rs ≡ suc (length rest))

abbrev Split : (Rule → Type 0) → List Rule → Fired → Type 0
Split P rs nothing = Unit {0}
Split P rs (fires r rest) = (P r × Every P rest → Every P rs) × (Every P rs → P r × Every P rest)

found : (t : Conclusions) (rs : List Rule) → Found t rs (take_out t rs)
unfolding take_out keep_back
found t [] = tt
found t (r ∷ rs) = go (every (λ l. is_in l t) r.body.needed) refl (found t rs)
  where
    back : (f : Fired) → (Ready t r → ⊥) → Found t rs f → Found t (r ∷ rs) (keep_back r f)
    back nothing n h = (n, h)
    back (fires q rest) n h = (h.0, ap suc h.1)

    go : (b : Bool) → every (λ l. is_in l t) r.body.needed ≡ b → Found t rs (take_out t rs)
        → Found t (r ∷ rs) (elim b as (λ _. Fired) [ true ↦ fires r rs | false ↦ keep_back r (take_out t rs) ])
    go true e h = ((ready t r).yes e, refl)
    go false e h = back (take_out t rs) ((ready t r).no e) h

-- ---- small laws
split-back : (P : Rule → Type 0) (r : Rule) (rs : List Rule) (f : Fired) → Split P rs f → Split P (r ∷ rs) (keep_back r f)
unfolding keep_back
split-back P r rs nothing h = tt
split-back P r rs (fires q rest) h = (λ p. (p.1.0, h.0 (p.0, p.1.1)), λ p. ((h.1 p.1).0, (p.0, (h.1 p.1).1)))

-- All heads of each rule whose needed entries are in t are in t.
abbrev pub Full : List Rule → Conclusions → Type 0
Full rs t = Every (λ r. Ready t r → Every (λ l. l ∈ t) r.heads) rs

pub heads-keep : (hs : List Literal) (l : Literal) (t : Conclusions) → l ∈ t → l ∈ add_heads hs t
unfolding add_heads
heads-keep [] l t m = m
heads-keep (h ∷ hs) l t m = add-keeps h l (add_heads hs t) (heads-keep hs l t m)

heads-in : (hs : List Literal) (t u : Conclusions) → add_heads hs t ⊆ u → Every (λ l. l ∈ u) hs
unfolding add_heads
heads-in [] t u f = tt
heads-in (h ∷ hs) t u f = (f h (add-has h (add_heads hs t)), heads-in hs t u (λ l m. f l (add-keeps h l (add_heads hs t) m)))

pub all-given : (hs : List Literal) (u : Conclusions) → Every (λ l. l ∈ u) hs → Given hs u
all-given [] u f = tt
all-given (h ∷ hs) u f = inl f.0

none_left : (rs : List Rule) (t : Conclusions) → length rs ≤ zero → Full rs t
none_left [] t h = tt
none_left (r ∷ rs) t h = absurd (omega arith)

split : (P : Rule → Type 0) (t : Conclusions) (rs : List Rule) → Split P rs (take_out t rs)
unfolding take_out
split P t [] = tt
split P t (r ∷ rs) = go (every (λ l. is_in l t) r.body.needed) (split P t rs)
  where
    go : (b : Bool) → Split P rs (take_out t rs) → Split P (r ∷ rs) (elim b as (λ _. Fired) [ true ↦ fires r rs | false ↦ keep_back r (take_out t rs) ])
    go true h = (λ p. p, λ p. p)
    go false h = split-back P r rs (take_out t rs) h

-- ---- the closure is closed
grows : (k : ℕ) (rs : List Rule) (t : Conclusions) → t ⊆ close_by k rs t
unfolding close_by
grows zero rs t l h = h
grows (suc k) rs t l h = go (take_out t rs) (λ r rest. grows k rest (add_heads r.heads t) l)
  where
    go : (f : Fired) → ((r : Rule) (rest : List Rule) → l ∈ add_heads r.heads t → l ∈ close_by k rest (add_heads r.heads t))
        → l ∈ (elim f as (λ _. Conclusions) [ nothing ↦ t | fires r rest ↦ close_by k rest (add_heads r.heads t) ])
    go nothing ih = h
    go (fires r rest) ih = ih r rest (heads-keep r.heads l t h)

closes : (k : ℕ) (rs : List Rule) (t : Conclusions) → length rs ≤ k → Full rs (close_by k rs t)
unfolding close_by
closes zero rs t h = none_left rs t h
closes (suc k) rs t h =
    go (take_out t rs) (found t rs) (λ P. split P t rs) (λ r rest. closes k rest (add_heads r.heads t))
  where
    go : (f : Fired) → Found t rs f → ((P : Rule → Type 0) → Split P rs f)
        → ((r : Rule) (rest : List Rule) → length rest ≤ k → Full rest (close_by k rest (add_heads r.heads t)))
        → Full rs (elim f as (λ _. Conclusions) [ nothing ↦ t | fires r rest ↦ close_by k rest (add_heads r.heads t) ])
    go nothing n s ih = every_map (λ r f g. absurd (f g)) rs n
    go (fires r rest) n s ih =
        let u = close_by k rest (add_heads r.heads t) in
        (s (λ q. Ready u q → Every (λ l. l ∈ u) q.heads)).0 (λ g. heads-in r.heads t u (grows k rest (add_heads r.heads t)), ih r rest (omega arith))

-- ---- and within every property that the rules keep
-- The property holds of the heads if it holds of the needed entries.
abbrev pub KeptBy : (ℕ → Type 0) → (ℕ → Type 0) → Rule → Type 0
KeptBy P Q r = Every (At P Q) r.body.needed → Every (At P Q) r.heads

heads-only : (P Q : ℕ → Type 0) (hs : List Literal) (t : Conclusions) → Every (At P Q) hs → ((l : Literal) → l ∈ t → At P Q l) → (l : Literal) → l ∈ add_heads hs t → At P Q l
unfolding add_heads
heads-only P Q [] t p f l m = f l m
heads-only P Q (h ∷ hs) t p f l m = add-only P Q h l (add_heads hs t) p.0 (heads-only P Q hs t p.1 f) m

pub not-empty : (l : Literal) → l ∈ empty → ⊥
unfolding is_in empty
not-empty (pos i) e = clash (sym (member-empty i) ∙ e)
not-empty (neg i) e = clash (sym (member-empty i) ∙ e)

-- Statement i is at place i - 1.
in_place : (t : Conclusions) (l : Literal) → (l ∈ t → At (λ k. pos (suc k) ∈ t) (λ k. neg (suc k) ∈ t) l) × (At (λ k. pos (suc k) ∈ t) (λ k. neg (suc k) ∈ t) l → l ∈ t)
unfolding is_in member
in_place t (pos i) = let e : suc (i - 1) - 1 ≡ i - 1 = omega arith in (λ h. rw e h, λ h. rw e at h)
in_place t (neg i) = let e : suc (i - 1) - 1 ≡ i - 1 = omega arith in (λ h. rw e h, λ h. rw e at h)

-- A closed set keeps a rule with one head or none.
kept : (t : Conclusions) (r : Rule) → OneHead r → (Ready t r → Given r.heads t) → KeptBy (λ k. pos (suc k) ∈ t) (λ k. neg (suc k) ∈ t) r
kept t r o f n = go r.heads o (f (every_map (λ l. (in_place t l).1) r.body.needed n))
  where
    go : (hs : List Literal) → length hs ≤ 1 → Given hs t → Every (At (λ k. pos (suc k) ∈ t) (λ k. neg (suc k) ∈ t)) hs
    go [] o g = tt
    go (l ∷ []) o g = (⊎_elim (λ m. (in_place t l).0 m) (λ m. absurd m) g, tt)
    go (l ∷ k ∷ ls) o g = absurd (omega arith)

pub every_two : {A : Type 0} {P Q R : A → Type 0} → ((x : A) → P x → Q x → R x) → (xs : List A) → Every P xs → Every Q xs → Every R xs
every_two f [] p q = tt
every_two f (x ∷ xs) p q = (f x p.0 q.0, every_two f xs p.1 q.1)

within : (P Q : ℕ → Type 0) (k : ℕ) (rs : List Rule) (t : Conclusions) → Every (KeptBy P Q) rs → ((l : Literal) → l ∈ t → At P Q l)
    → (l : Literal) → l ∈ close_by k rs t → At P Q l
unfolding close_by
within P Q zero rs t c h l m = h l m
within P Q (suc k) rs t c h l m = go (take_out t rs) (found t rs) (split (KeptBy P Q) t rs) m (λ r rest. within P Q k rest (add_heads r.heads t))
  where
    go : (f : Fired) → Found t rs f → Split (KeptBy P Q) rs f
        → l ∈ (elim f as (λ _. Conclusions) [ nothing ↦ t | fires r rest ↦ close_by k rest (add_heads r.heads t) ])
        → ((r : Rule) (rest : List Rule) → Every (KeptBy P Q) rest → ((l : Literal) → l ∈ add_heads r.heads t → At P Q l) → (l : Literal) → l ∈ close_by k rest (add_heads r.heads t) → At P Q l)
        → At P Q l
    go nothing n s m ih = h l m
    go (fires r rest) n s m ih =
        let c' = s.1 c in
        ih r rest c'.1 (heads-only P Q r.heads t (c'.0 (every_map (λ l. h l) r.body.needed n.0)) h) l m

-- A property of places that every rule keeps holds of the whole closure.
pub closure-keeps : (P Q : ℕ → Type 0) (rs : List Rule) → Every (KeptBy P Q) rs → (l : Literal) → l ∈ closure rs → At P Q l
unfolding closure empty
closure-keeps P Q rs c l m = within P Q (length rs) rs empty c (λ l h. absurd (not-empty l h)) l m

pub closure-full : (rs : List Rule) → Full rs (closure rs)
unfolding closure
closure-full rs = closes (length rs) rs empty (omega arith)

pub closure-closed : (rs : List Rule) → Closed rs (closure rs)
closure-closed rs = every_map (λ r f n. all-given r.heads (closure rs) (f n)) rs (closure-full rs)

-- For rules with one head or none the closure is the least closed set, and a minimal closed set is the least one: document 01's words.
pub closure-least : (rs : List Rule) → Every OneHead rs → Least rs (closure rs)
closure-least rs o = record {
  closed = closure-closed rs;
  least = λ t c l m. (in_place t l).1 (closure-keeps (λ k. pos (suc k) ∈ t) (λ k. neg (suc k) ∈ t) rs (every_two (kept t) rs o c) l m);
}

pub one-head-least : (rs : List Rule) → Every OneHead rs → (s : Conclusions) → Minimal rs s ↔ Least rs s
one-head-least rs o s = let c = closure-least rs o in (
  λ m. record { closed = m.closed; least = λ t h l i. c.least t h l (m.minimal (closure rs) c.closed (c.least s m.closed) l i) },
  λ h. record { closed = h.closed; minimal = λ t k f. h.least t k },
)
