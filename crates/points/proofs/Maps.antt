-- Entries as a map from names: what setting and dropping a name does to each name, and what it keeps.
use mathlib.Core.Path.{◌≡◌, refl, sym, ap, ◌∙◌}
use mathlib.Core.Bool.{Bool, true, false}
use mathlib.Core.Option.{Option, some, none}
use mathlib.Core.List.{List, [], ◌∷◌}
use Prim.Native.Nat.{ℕ, suc, ◌≤◌}
use native.Mathlib.Omega.{arith}
use lib.ListN.{length}
use Rattle.logic.specs.Lists.{Every}
use Rattle.logic.specs.Tests.{pick}
use Rattle.logic.proofs.Decide.{clash}
use Rattle.sets.specs.declared.Pair.{Pair}
use Rattle.std.specs.declared.cmp.Ordering.{Ordering}
use Rattle.std.specs.declared.cmp.Ordering.TheVariants.{Less, Equal, Greater}
use Rattle.std.specs.Ordering.{is_eq}
use Rattle.entry.specs.Names.{compare_to, before, same_name}
use Rattle.points.specs.Points.{Entry}
use Rattle.points.specs.Stores.{lookup, by_order, set_in, drop_in}
use Rattle.entry.proofs.Orders.{less-before, less-flip, less-trans, more-flip, before-less, same-eq, same_true}
use Rattle.points.proofs.Places.{past}
use Rattle.points.proofs.Tested.{Rising}

-- ---- what is kept
pub every_set : (P : Entry → Type 0) (es : List Entry) (n : List ℕ) (p : Pair) → P (record { name = n; pair = p }) → Every P es → Every P (set_in es n p)
unfolding set_in by_order
every_set P [] n p h g = (h, tt)
every_set P (x ∷ es) n p h g = go (every_set P es n p h g.1) (compare_to x.name n)
  where
    go : Every P (set_in es n p) → (o : Ordering) → Every P (by_order o (x ∷ set_in es n p) (record { name = n; pair = p } ∷ es) (record { name = n; pair = p } ∷ x ∷ es))
    go ih Less = (g.0, ih)
    go ih Equal = (h, g.1)
    go ih Greater = (h, g)

pub every_drop : (P : Entry → Type 0) (es : List Entry) (n : List ℕ) → Every P es → Every P (drop_in es n)
unfolding drop_in pick
every_drop P [] n g = tt
every_drop P (x ∷ es) n g = go (every_drop P es n g.1) (same_name x.name n)
  where
    go : Every P (drop_in es n) → (t : Bool) → Every P (pick t es (x ∷ drop_in es n))
    go ih true = g.1
    go ih false = (g.0, ih)

pub rising-set : (a : List ℕ) (es : List Entry) (n : List ℕ) (p : Pair) → before a n ≡ true → Rising a es → Rising a (set_in es n p)
unfolding set_in by_order Rising
rising-set a [] n p h g = (h, tt)
rising-set a (x ∷ es) n p h g = go (λ d. rising-set x.name es n p (less-before x.name n d) g.1) (compare_to x.name n) refl
  where
    go : (compare_to x.name n ≡ Less → Rising x.name (set_in es n p)) → (o : Ordering) → compare_to x.name n ≡ o → Rising a (by_order o (x ∷ set_in es n p) (record { name = n; pair = p } ∷ es) (record { name = n; pair = p } ∷ x ∷ es))
    go ih Less d = (g.0, ih d)
    go ih Equal d = (h, rw (← same-eq x.name n d) g.1)
    go ih Greater d = (h, (less-before n x.name (more-flip x.name n d), g.1))

pub rising-less : (a b : List ℕ) (es : List Entry) → compare_to a b ≡ Less → Rising b es → Rising a es
unfolding Rising
rising-less a b [] h g = tt
rising-less a b (x ∷ es) h g = (less-before a x.name (less-trans a b x.name h (before-less b x.name g.0)), g.1)

pub rising-drop : (a : List ℕ) (es : List Entry) (n : List ℕ) → Rising a es → Rising a (drop_in es n)
unfolding drop_in pick Rising
rising-drop a [] n g = tt
rising-drop a (x ∷ es) n g = go (rising-drop x.name es n g.1) (same_name x.name n)
  where
    go : Rising x.name (drop_in es n) → (t : Bool) → Rising a (pick t es (x ∷ drop_in es n))
    go ih true = rising-less a x.name es (before-less a x.name g.0) g.1
    go ih false = (g.0, ih)

-- ---- each name
pub none-at : (a : List ℕ) (es : List Entry) → Rising a es → lookup es a ≡ none
unfolding lookup Rising same_name pick
none-at a [] g = refl
none-at a (x ∷ es) g = let m = less-flip a x.name (before-less a x.name g.0) in rw m (past x.name a es m g.1)

off : (t : Bool) (a b : Option Pair) → t ≡ false → pick t a b ≡ b
unfolding pick
off true a b f = absurd (clash (sym f))
off false a b f = refl

set-less : (x : Entry) (es : List Entry) (n : List ℕ) (p : Pair) (k : List ℕ) (t : Bool) → same_name n k ≡ t → compare_to x.name n ≡ Less → pick (same_name x.name k) (some x.pair) (pick t (some p) (lookup es k)) ≡ pick t (some p) (pick (same_name x.name k) (some x.pair) (lookup es k))
unfolding pick same_name
set-less x es n p k true e d = off (same_name x.name k) (some x.pair) (some p) (rw (← same_true n k e) (ap is_eq d))
set-less x es n p k false e d = refl

set-equal : (x : Entry) (es : List Entry) (n : List ℕ) (p : Pair) (k : List ℕ) (t : Bool) → same_name n k ≡ t → compare_to x.name n ≡ Equal → pick t (some p) (lookup es k) ≡ pick t (some p) (pick (same_name x.name k) (some x.pair) (lookup es k))
unfolding pick
set-equal x es n p k true e d = refl
set-equal x es n p k false e d = sym (off (same_name x.name k) (some x.pair) (lookup es k) (rw (same-eq x.name n d) e))

pub lookup-set : (es : List Entry) (n : List ℕ) (p : Pair) (k : List ℕ) → lookup (set_in es n p) k ≡ pick (same_name n k) (some p) (lookup es k)
unfolding set_in by_order lookup
lookup-set [] n p k = refl
lookup-set (x ∷ es) n p k = go (lookup-set es n p k) (compare_to x.name n) refl
  where
    go : lookup (set_in es n p) k ≡ pick (same_name n k) (some p) (lookup es k) → (o : Ordering) → compare_to x.name n ≡ o
        → lookup (by_order o (x ∷ set_in es n p) (record { name = n; pair = p } ∷ es) (record { name = n; pair = p } ∷ x ∷ es)) k ≡ pick (same_name n k) (some p) (pick (same_name x.name k) (some x.pair) (lookup es k))
    go ih Less d = rw ih (set-less x es n p k (same_name n k) refl d)
    go ih Equal d = set-equal x es n p k (same_name n k) refl d
    go ih Greater d = refl

drop_here : (x : Entry) (es : List Entry) (n k : List ℕ) (t : Bool) → same_name n k ≡ t → same_name x.name n ≡ true → Rising x.name es → lookup es k ≡ pick t none (pick (same_name x.name k) (some x.pair) (lookup es k))
unfolding pick
drop_here x es n k true e d g = rw (← same_true n k e, ← same_true x.name n d) (none-at x.name es g)
drop_here x es n k false e d g = sym (off (same_name x.name k) (some x.pair) (lookup es k) (rw (same_true x.name n d) e))

drop-other : (x : Entry) (es : List Entry) (n k : List ℕ) (t : Bool) → same_name n k ≡ t → same_name x.name n ≡ false → pick (same_name x.name k) (some x.pair) (pick t none (lookup es k)) ≡ pick t none (pick (same_name x.name k) (some x.pair) (lookup es k))
unfolding pick
drop-other x es n k true e d = off (same_name x.name k) (some x.pair) none (rw (← same_true n k e) d)
drop-other x es n k false e d = refl

pub lookup-drop : (a : List ℕ) (es : List Entry) (n k : List ℕ) → Rising a es → lookup (drop_in es n) k ≡ pick (same_name n k) none (lookup es k)
unfolding drop_in lookup Rising pick
lookup-drop a [] n k g = nothing-there (same_name n k)
  where
    nothing-there : (t : Bool) → ◌≡◌ {A = Option Pair} none (pick t none none)
    nothing-there true = refl
    nothing-there false = refl
lookup-drop a (x ∷ es) n k g = go (lookup-drop x.name es n k g.1) (same_name x.name n) refl
  where
    go : lookup (drop_in es n) k ≡ pick (same_name n k) none (lookup es k) → (t : Bool) → same_name x.name n ≡ t → lookup (pick t es (x ∷ drop_in es n)) k ≡ pick (same_name n k) none (pick (same_name x.name k) (some x.pair) (lookup es k))
    go ih true d = drop_here x es n k (same_name n k) refl d g.1
    go ih false d = rw ih (drop-other x es n k (same_name n k) refl d)

-- ---- how many
pub set-most : (es : List Entry) (n : List ℕ) (p : Pair) → length (set_in es n p) ≤ suc (length es)
unfolding set_in by_order
set-most [] n p = omega arith
set-most (x ∷ es) n p = go (set-most es n p) (compare_to x.name n)
  where
    go : length (set_in es n p) ≤ suc (length es) → (o : Ordering) → length (by_order o (x ∷ set_in es n p) (record { name = n; pair = p } ∷ es) (record { name = n; pair = p } ∷ x ∷ es)) ≤ suc (suc (length es))
    go ih Less = omega arith
    go ih Equal = omega arith
    go ih Greater = omega arith

pub drop-most : (es : List Entry) (n : List ℕ) → length (drop_in es n) ≤ length es
unfolding drop_in pick
drop-most [] n = omega arith
drop-most (x ∷ es) n = go (drop-most es n) (same_name x.name n)
  where
    go : length (drop_in es n) ≤ length es → (t : Bool) → length (pick t es (x ∷ drop_in es n)) ≤ suc (length es)
    go ih true = omega arith
    go ih false = omega arith

unfoldable is_some : Option Pair → Bool
is_some (some p) = true
is_some none = false

pub none-some : (q : Pair) → none ≡ some q → ⊥
unfolding is_some
none-some q e = clash (ap is_some e)

pub set_there : (a : List ℕ) (es : List Entry) (n : List ℕ) (p q : Pair) → Rising a es → lookup es n ≡ some q → length (set_in es n p) ≡ length es
unfolding set_in by_order lookup same_name pick Rising
set_there a [] n p q g e = absurd (none-some q e)
set_there a (x ∷ es) n p q g e = go (λ f. set_there x.name es n p q g.1 f) (compare_to x.name n) refl e
  where
    go : (lookup es n ≡ some q → length (set_in es n p) ≡ length es) → (o : Ordering) → compare_to x.name n ≡ o → pick (is_eq o) (some x.pair) (lookup es n) ≡ some q
        → length (by_order o (x ∷ set_in es n p) (record { name = n; pair = p } ∷ es) (record { name = n; pair = p } ∷ x ∷ es)) ≡ suc (length es)
    go ih Less d f = ap suc (ih f)
    go ih Equal d f = refl
    go ih Greater d f = absurd (none-some q (sym (past x.name n es d g.1) ∙ f))

pub set-absent : (es : List Entry) (n : List ℕ) (p : Pair) → lookup es n ≡ none → length (set_in es n p) ≡ suc (length es)
unfolding set_in by_order lookup same_name pick
set-absent [] n p e = refl
set-absent (x ∷ es) n p e = go (λ f. set-absent es n p f) (compare_to x.name n) refl e
  where
    go : (lookup es n ≡ none → length (set_in es n p) ≡ suc (length es)) → (o : Ordering) → compare_to x.name n ≡ o → pick (is_eq o) (some x.pair) (lookup es n) ≡ none
        → length (by_order o (x ∷ set_in es n p) (record { name = n; pair = p } ∷ es) (record { name = n; pair = p } ∷ x ∷ es)) ≡ suc (suc (length es))
    go ih Less d f = ap suc (ih f)
    go ih Equal d f = absurd (none-some x.pair (sym f))
    go ih Greater d f = refl

pub drop-there : (es : List Entry) (n : List ℕ) (q : Pair) → lookup es n ≡ some q → suc (length (drop_in es n)) ≡ length es
unfolding drop_in lookup pick
drop-there [] n q e = absurd (none-some q e)
drop-there (x ∷ es) n q e = go (λ f. drop-there es n q f) (same_name x.name n) refl e
  where
    go : (lookup es n ≡ some q → suc (length (drop_in es n)) ≡ length es) → (t : Bool) → same_name x.name n ≡ t → pick t (some x.pair) (lookup es n) ≡ some q → suc (length (pick t es (x ∷ drop_in es n))) ≡ suc (length es)
    go ih true d f = refl
    go ih false d f = ap suc (ih f)

-- A name that has a pair is among the names.
pub lookup-every : (P : List ℕ → Type 0) (es : List Entry) (n : List ℕ) (p : Pair) → Every (λ (e : Entry). P e.name) es → lookup es n ≡ some p → P n
unfolding lookup pick
lookup-every P [] n p h e = absurd (none-some p e)
lookup-every P (x ∷ es) n p h e = go (λ f. lookup-every P es n p h.1 f) (same_name x.name n) refl e
  where
    go : (lookup es n ≡ some p → P n) → (t : Bool) → same_name x.name n ≡ t → pick t (some x.pair) (lookup es n) ≡ some p → P n
    go ih true d f = rw (← same_true x.name n d) h.0
    go ih false d f = ih f
