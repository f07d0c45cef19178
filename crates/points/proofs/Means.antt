-- What Set, Go and Drop compute is what Points says: `store-iff`, `go-means`, `set-means`, `drop-means`.
use mathlib.Core.Path.{◌≡◌, refl, sym, ap, ◌∙◌}
use mathlib.Core.Bool.{Bool, true, false}
use mathlib.Core.Option.{Option, some, none}
use mathlib.Core.List.{List, [], ◌∷◌}
use mathlib.Core.Logic.{◌⊎◌, inl, inr, ◌↔◌}
use Prim.Native.Nat.{ℕ, ◌<◌, ◌≤◌}
use native.Mathlib.Omega.{arith}
use lib.Dec.{eqb}
use lib.ListN.{length}
use borrow.Author.Tests.{eq-eqb, ne_eqb, eqb-true, eqb-false}
use Rattle.logic.specs.Lists.{Every}
use Rattle.logic.specs.Tests.{pick}
use Rattle.logic.proofs.Decide.{clash}
use Rattle.logic.proofs.Members.{every_map}
use Rattle.sets.specs.declared.Pair.{Pair}
use Rattle.answers.specs.Operations.{Told}
use Rattle.answers.specs.Operations.Told.{told, turned}
use Rattle.std.specs.declared.cmp.Ordering.{Ordering}
use Rattle.std.specs.declared.cmp.Ordering.TheVariants.{Less, Equal, Greater}
use Rattle.entry.specs.Names.{Spelt, Precedes, is_name, compare_to, same_name}
use Rattle.entry.specs.Bytes.{AreBytes}
use Rattle.entry.proofs.Orders.{before-less, less-flip, less-same, less-trans, more-flip, more_same, same-eq, same_self, same_true}
use Rattle.entry.proofs.Spelling.{name-iff, before-iff}
use Rattle.std.specs.Prelude.{Result}
use Rattle.text.specs.declared.Refusal.{Refusal}
use Rattle.points.specs.Points.{Entry, packed, Ascending, Fits, Store, Under, Absent, OfStore, Goes, Sets, Drops}
use Rattle.points.specs.Points.OfStore.{no_store, misspelt, named}
use Rattle.points.specs.Stores.{Contents, holds, nothing, store_of, lookup, set_in, drop_in, if_there, on_store, go_told, set_told, drop_told, went_is, went_told, kept_is, Met, Meant}
use Rattle.points.proofs.Places.{Named, past, name-long}
use Rattle.points.proofs.Maps.{none-at, none-some, rising-less, rising-set, rising-drop, lookup-set, lookup-drop, set-most, set_there}
use Rattle.points.proofs.Packed.{is_held, store-reads, reads-store}
use Rattle.points.proofs.Left.{nil-before, set-store, drop-store}
use Rattle.points.proofs.Tested.{Rising, Tested}

-- ---- a pair under a name, and looked up
unfoldable pair_or : Pair → Option Pair → Pair
pair_or d (some p) = p
pair_or d none = d

some-eq : (a b : Pair) → some a ≡ some b → a ≡ b
unfolding pair_or
some-eq a b e = ap (pair_or a) e

pub lookup-under : (es : List Entry) (n : List ℕ) (p : Pair) → lookup es n ≡ some p → Under es n p
unfolding lookup pick
lookup-under [] n p e = none-some p e
lookup-under (x ∷ es) n p e = go (λ f. lookup-under es n p f) (same_name x.name n) refl e
  where
    go : (lookup es n ≡ some p → Under es n p) → (t : Bool) → same_name x.name n ≡ t → pick t (some x.pair) (lookup es n) ≡ some p → Under (x ∷ es) n p
    go ih true d f = inl (λ i. record { name = same_true x.name n d i; pair = some-eq x.pair p f i })
    go ih false d f = inr (ih f)

under-less : (a : List ℕ) (es : List Entry) (n : List ℕ) (p : Pair) → Rising a es → Under es n p → compare_to a n ≡ Less
unfolding Rising
under-less a [] n p g u = absurd u
under-less a (x ∷ es) n p g (inl e) = let d : x.name ≡ n = ap (λ (y : Entry). y.name) e in rw (← d) (before-less a x.name g.0)
under-less a (x ∷ es) n p g (inr u) = less-trans a x.name n (before-less a x.name g.0) (under-less x.name es n p g.1 u)

here : (n : List ℕ) (p : Pair) (es : List Entry) → lookup (record { name = n; pair = p } ∷ es) n ≡ some p
unfolding lookup same_name pick
here n p es = rw (same_self n)

there : (x : Entry) (es : List Entry) (n : List ℕ) (o : Ordering) → compare_to x.name n ≡ o → (o ≡ Equal → ⊥) → lookup (x ∷ es) n ≡ lookup es n
unfolding lookup same_name pick
there x es n Less e f = rw e
there x es n Equal e f = absurd (f refl)
there x es n Greater e f = rw e

pub under-lookup : (a : List ℕ) (es : List Entry) (n : List ℕ) (p : Pair) → Rising a es → Under es n p → lookup es n ≡ some p
unfolding Rising
under-lookup a [] n p g u = absurd u
under-lookup a (x ∷ es) n p g (inl e) = rw e (here n p es)
under-lookup a (x ∷ es) n p g (inr u) = there x es n Less (under-less x.name es n p g.1 u) less-same ∙ under-lookup x.name es n p g.1 u

pub absent_none : (es : List Entry) (n : List ℕ) → Absent es n → lookup es n ≡ none
absent_none es n f = go (lookup es n) refl
  where
    go : (m : Option Pair) → lookup es n ≡ m → lookup es n ≡ none
    go (some p) e = absurd (f p (lookup-under es n p e))
    go none e = e

pub none-absent : (a : List ℕ) (es : List Entry) (n : List ℕ) → Rising a es → lookup es n ≡ none → Absent es n
none-absent a es n g e p u = none-some p (sym e ∙ under-lookup a es n p g u)

nothing-in : (n : List ℕ) → none ≡ lookup [] n
unfolding lookup
nothing-in n = refl

-- ---- ascending entries with the same pairs are the same entries
first-none : (x : Entry) (y : Entry) (ds : List Entry) → compare_to x.name y.name ≡ Less → Rising y.name ds → lookup (y ∷ ds) x.name ≡ none
first-none x y ds e g =
    let m = less-flip x.name y.name e in
    there y ds x.name Greater m more_same ∙ past y.name x.name ds m g

rest-same : (x y : Entry) (es ds : List Entry) → x.name ≡ y.name → Rising x.name es → Rising y.name ds → ((n : List ℕ) → lookup (x ∷ es) n ≡ lookup (y ∷ ds) n) → (n : List ℕ) → lookup es n ≡ lookup ds n
unfolding lookup pick
rest-same x y es ds e g k h n = go (same_name x.name n) (same_name y.name n) refl refl (h n)
  where
    both-none : x.name ≡ n → lookup es n ≡ lookup ds n
    both-none d = let f : y.name ≡ n = sym e ∙ d in (rw d at (none-at x.name es g)) ∙ sym (rw f at (none-at y.name ds k))

    go : (s t : Bool) → same_name x.name n ≡ s → same_name y.name n ≡ t → pick s (some x.pair) (lookup es n) ≡ pick t (some y.pair) (lookup ds n) → lookup es n ≡ lookup ds n
    go true t d f q = both-none (same_true x.name n d)
    go false true d f q = both-none (e ∙ same_true y.name n f)
    go false false d f q = q

pub same_entries : (a b : List ℕ) (es ds : List Entry) → Rising a es → Rising b ds → ((n : List ℕ) → lookup es n ≡ lookup ds n) → es ≡ ds
unfolding Rising
same_entries a b [] [] g k h = refl
same_entries a b [] (y ∷ ds) g k h = absurd (none-some y.pair (nothing-in y.name ∙ (h y.name ∙ here y.name y.pair ds)))
same_entries a b (x ∷ es) [] g k h = absurd (none-some x.pair (nothing-in x.name ∙ (sym (h x.name) ∙ here x.name x.pair es)))
same_entries a b (x ∷ es) (y ∷ ds) g k h = go (λ e. same_entries x.name y.name es ds g.1 k.1 (rest-same x y es ds e g.1 k.1 h)) (compare_to x.name y.name) refl
  where
    pair_same : x.name ≡ y.name → x.pair ≡ y.pair
    pair_same e = some-eq x.pair y.pair (sym (here x.name x.pair es) ∙ (h x.name ∙ rw e (here y.name y.pair ds)))

    go : (x.name ≡ y.name → es ≡ ds) → (o : Ordering) → compare_to x.name y.name ≡ o → x ∷ es ≡ y ∷ ds
    go ih Less e = absurd (none-some x.pair (sym (first-none x y ds e k.1) ∙ (sym (h x.name) ∙ here x.name x.pair es)))
    go ih Greater e = absurd (none-some y.pair (sym (first-none y x es (more-flip x.name y.name e) g.1) ∙ (h y.name ∙ here y.name y.pair ds)))
    go ih Equal e =
        let d = same-eq x.name y.name e in
        let p = pair_same d in
        let r = ih d in
        λ i. record { name = d i; pair = p i } ∷ r i

-- ---- a store by tests is a store in the request's words
all_after : (a : List ℕ) (es : List Entry) → length a ≡ 8 → Named es → Rising a es → Every (λ (d : Entry). Precedes a d.name) es
unfolding Rising
all_after a [] l h g = tt
all_after a (x ∷ es) l h g = (
  (before-iff a x.name (l ∙ sym (name-long x.name h.0))).0 g.0,
  all_after a es l h.1 (rising-less a x.name es (before-less a x.name g.0) g.1),
)

rising-ascending : (a : List ℕ) (es : List Entry) → Named es → Rising a es → Ascending es
unfolding Rising
rising-ascending a [] h g = tt
rising-ascending a (x ∷ es) h g = (all_after x.name es (name-long x.name h.0) h.1 g.1, rising-ascending x.name es h.1 g.1)

rises-from : (a : List ℕ) (es : List Entry) → length a ≡ 8 → Named es → Every (λ (d : Entry). Precedes a d.name) es → Ascending es → Rising a es
unfolding Rising
rises-from a [] l h f g = tt
rises-from a (x ∷ es) l h f g = (
  (before-iff a x.name (l ∙ sym (name-long x.name h.0))).1 f.0,
  rises-from x.name es (name-long x.name h.0) h.1 g.0 g.1,
)

ascending-rising : (es : List Entry) → Named es → Ascending es → Rising [] es
unfolding Rising
ascending-rising [] h g = tt
ascending-rising (x ∷ es) h g = (nil-before x.name (name-long x.name h.0), rises-from x.name es (name-long x.name h.0) h.1 g.0 g.1)

pub tested-store : (bs : List ℕ) (es : List Entry) → Tested bs es → Store bs es
tested-store bs es s = record {
  bytes = s.bytes;
  few = s.few;
  named = every_map (λ (e : Entry) h. (name-iff e.name).0 h) es s.named;
  ascending = rising-ascending [] es s.named s.rising;
  fits = s.fits;
}

pub store-tested : (bs : List ℕ) (es : List Entry) → Store bs es → Tested bs es
store-tested bs es s =
    let h : Named es = every_map (λ (e : Entry) g. (name-iff e.name).1 g) es s.named in
    record { bytes = s.bytes; few = s.few; named = h; rising = ascending-rising es h s.ascending; fits = s.fits }

-- Bytes are read as entries exactly if they are the store of these entries.
pub store-iff : (bs : List ℕ) (es : List Entry) → AreBytes bs → (store_of bs ≡ holds es) ↔ Store bs es
store-iff bs es h = (λ e. tested-store bs es (reads-store bs es h e), λ s. store-reads bs es (store-tested bs es s))

-- ---- the refusals that all three have
module _ {A : Type 0} (right : List Entry → Told A → Type 0) (g : List Entry → Told A) (bs n : List ℕ) (ab : AreBytes bs)
    (w : (es : List Entry) → Tested bs es → is_name n ≡ true → (x : Told A) → (x ≡ g es) ↔ right es x) where
  computed-means : (h : Contents) → store_of bs ≡ h → (t : Bool) → is_name n ≡ t → OfStore right bs n (on_store h n g)
  unfolding on_store pick is_held
  computed-means nothing d t f = no_store (λ es s. clash (ap is_held (sym d ∙ (store-iff bs es ab).1 s)))
  computed-means (holds es) d true f =
      rw f (named es (g es) ((store-iff bs es ab).0 d) ((name-iff n).0 f) ((w es (reads-store bs es ab d) f (g es)).0 refl))
  computed-means (holds es) d false f = rw f (misspelt es ((store-iff bs es ab).0 d) (λ z. clash (sym f ∙ (name-iff n).1 z)))

  no-store-read : ((es : List Entry) → Store bs es → ⊥) → store_of bs ≡ nothing
  no-store-read f = go (store_of bs) refl
    where
      go : (h : Contents) → store_of bs ≡ h → store_of bs ≡ nothing
      go (holds es) d = absurd (f es ((store-iff bs es ab).0 d))
      go nothing d = d

  misspelt-test : (Spelt n → ⊥) → is_name n ≡ false
  misspelt-test f = go (is_name n) refl
    where
      go : (t : Bool) → is_name n ≡ t → is_name n ≡ false
      go true d = absurd (f ((name-iff n).0 d))
      go false d = d

  means-computed : (x : Told A) → OfStore right bs n x → x ≡ on_store (store_of bs) n g
  unfolding on_store pick
  means-computed _ (no_store f) = rw (no-store-read f)
  means-computed _ (misspelt es s f) = rw ((store-iff bs es ab).1 s, misspelt-test f)
  means-computed _ (named es x s z r) = let f = (name-iff n).1 z in rw ((store-iff bs es ab).1 s, f) ((w es (store-tested bs es s) f x).1 r)

  of-store : (x : Told A) → (x ≡ on_store (store_of bs) n g) ↔ OfStore right bs n x
  of-store x = (λ e. rw e (computed-means (store_of bs) refl (is_name n) refl), means-computed x)

-- ---- Go
go_right : (bs n : List ℕ) (es : List Entry) → Tested bs es → (x : Told Pair) → (x ≡ if_there (lookup es n) told (turned 25 0)) ↔ Goes n es x
unfolding if_there
go_right bs n es s x = (λ e. rw e (to (lookup es n) refl), from x)
  where
    to : (m : Option Pair) → lookup es n ≡ m → Goes n es (if_there m told (turned 25 0))
    to (some p) d = lookup-under es n p d
    to none d = (none-absent [] es n s.rising d, refl, refl)

    from : (y : Told Pair) → Goes n es y → y ≡ if_there (lookup es n) told (turned 25 0)
    from (told p) u = rw (under-lookup [] es n p s.rising u)
    from (turned q line) r = rw (absent_none es n r.0, r.1, r.2)

pub go-means : (bs n : List ℕ) → AreBytes bs → (x : Told Pair) → (x ≡ go_told (store_of bs) n) ↔ OfStore (Goes n) bs n x
unfolding go_told
go-means bs n ab x = of-store (Goes n) (λ es. if_there (lookup es n) told (turned 25 0)) bs n ab (λ es s f y. go_right bs n es s y) x

-- ---- what is under each name after Set and after Drop
not_same : (n m : List ℕ) → (m ≡ n → ⊥) → same_name n m ≡ false
not_same n m f = go (same_name n m) refl
  where
    go : (t : Bool) → same_name n m ≡ t → same_name n m ≡ false
    go true d = absurd (f (sym (same_true n m d)))
    go false d = d

self-same : (n : List ℕ) → same_name n n ≡ true
unfolding same_name
self-same n = rw (same_self n)

differ : (n m : List ℕ) → same_name n m ≡ false → m ≡ n → ⊥
differ n m d e = clash (sym d ∙ (ap (same_name n) e ∙ self-same n))

module _ (a : List ℕ) (es : List Entry) (n : List ℕ) (g : Rising a es) where
  pub set-under : (b : List ℕ) (p : Pair) → Rising b (set_in es n p) → (m : List ℕ) (q : Pair) → Under (set_in es n p) m q ↔ (((m ≡ n) × (q ≡ p)) ⊎ ((m ≡ n → ⊥) × Under es m q))
  unfolding pick
  set-under b p k m q = (λ u. to (same_name n m) refl (sym (lookup-set es n p m) ∙ under-lookup b (set_in es n p) m q k u), from)
    where
      to : (t : Bool) → same_name n m ≡ t → pick (same_name n m) (some p) (lookup es m) ≡ some q → ((m ≡ n) × (q ≡ p)) ⊎ ((m ≡ n → ⊥) × Under es m q)
      to true d f = inl (sym (same_true n m d), sym (some-eq p q (rw d at f)))
      to false d f = inr (differ n m d, lookup-under es m q (rw d at f))

      from : ((m ≡ n) × (q ≡ p)) ⊎ ((m ≡ n → ⊥) × Under es m q) → Under (set_in es n p) m q
      from (inl r) = lookup-under (set_in es n p) m q (lookup-set es n p m ∙ rw (r.0, r.1, self-same n))
      from (inr r) = lookup-under (set_in es n p) m q (lookup-set es n p m ∙ rw (not_same n m r.0) (under-lookup a es m q g r.1))

  pub drop-under : (b : List ℕ) → Rising b (drop_in es n) → (m : List ℕ) (q : Pair) → Under (drop_in es n) m q ↔ ((m ≡ n → ⊥) × Under es m q)
  unfolding pick
  drop-under b k m q = (λ u. to (same_name n m) refl (sym (lookup-drop a es n m g) ∙ under-lookup b (drop_in es n) m q k u), from)
    where
      to : (t : Bool) → same_name n m ≡ t → pick (same_name n m) none (lookup es m) ≡ some q → (m ≡ n → ⊥) × Under es m q
      to true d f = absurd (none-some q (rw d at f))
      to false d f = (differ n m d, lookup-under es m q (rw d at f))

      from : (m ≡ n → ⊥) × Under es m q → Under (drop_in es n) m q
      from r = lookup-under (drop_in es n) m q (lookup-drop a es n m g ∙ rw (not_same n m r.0) (under-lookup a es m q g r.1))

-- Two stores with the same pairs under the same names have the same entries.
pub same-under : (a b : List ℕ) (es ds : List Entry) → Rising a es → Rising b ds → ((m : List ℕ) (q : Pair) → Under es m q → Under ds m q) → ((m : List ℕ) (q : Pair) → Under ds m q → Under es m q) → es ≡ ds
same-under a b es ds g k f h = same_entries a b es ds g k (λ m. go m (lookup es m) refl)
  where
    go : (m : List ℕ) (x : Option Pair) → lookup es m ≡ x → lookup es m ≡ lookup ds m
    go m (some q) e = e ∙ sym (under-lookup b ds m q k (f m q (lookup-under es m q e)))
    go m none e = e ∙ sym (absent_none ds m (λ q u. none-absent a es m g e q (h m q u)))

not-absent : (es : List Entry) (n : List ℕ) (q : Pair) → lookup es n ≡ some q → Absent es n → ⊥
not-absent es n q e f = f q (lookup-under es n q e)

-- ---- Set
module _ (bs n : List ℕ) (p : Pair) (es : List Entry) (s : Tested bs es) (z : is_name n ≡ true) (fp : Fits p) where
  abbrev set_gives : Told (List Entry)
  set_gives = if_there (lookup es n) (λ q. told (set_in es n p)) (pick (eqb (length es) 32) (turned 26 0) (told (set_in es n p)))

  set-done : ((Absent es n → ⊥) ⊎ (length es < 32)) → length (set_in es n p) ≤ 32 → Sets n p es (told (set_in es n p))
  set-done r l =
      let t = set-store bs es n p s z fp l in
      (r, tested-store (packed (set_in es n p)) (set_in es n p) t, set-under [] es n s.rising [] p t.rising)

  set_to : (m : Option Pair) → lookup es n ≡ m → (t : Bool) → eqb (length es) 32 ≡ t → Sets n p es (if_there m (λ q. told (set_in es n p)) (pick t (turned 26 0) (told (set_in es n p))))
  unfolding if_there pick
  set_to (some q) d t e = set-done (inl (not-absent es n q d)) (let a = set_there [] es n p q s.rising d in let b = s.few in omega arith)
  set_to none d true e = (none-absent [] es n s.rising d, eqb-true (length es) 32 e, refl, refl)
  set_to none d false e =
      let b = s.few in
      let f = eqb-false (length es) 32 e in
      let r : length es < 32 = omega arith in
      set-done (inr r) (let a = set-most es n p in omega arith)

  room-gives : ((Absent es n → ⊥) ⊎ (length es < 32)) → told (set_in es n p) ≡ set_gives
  unfolding if_there pick
  room-gives r = go (lookup es n) refl r
    where
      go : (m : Option Pair) → lookup es n ≡ m → ((Absent es n → ⊥) ⊎ (length es < 32)) → told (set_in es n p) ≡ set_gives
      go (some q) d v = rw d
      go none d (inl f) = absurd (f (none-absent [] es n s.rising d))
      go none d (inr l) = rw (d, ne_eqb (length es) 32 (omega arith))

  set-from : (x : Told (List Entry)) → Sets n p es x → x ≡ set_gives
  unfolding if_there pick
  set-from (told ds) r =
      let t = store-tested (packed ds) ds r.1 in
      let u = set-under [] es n s.rising [] p in
      let l = set-store-rising in
      let e : ds ≡ set_in es n p = same-under [] [] ds (set_in es n p) t.rising l (λ m q v. (u l m q).1 ((r.2 m q).0 v)) (λ m q v. (r.2 m q).1 ((u l m q).0 v)) in
      ap told e ∙ room-gives r.0
    where
      set-store-rising : Rising [] (set_in es n p)
      set-store-rising = rising-set [] es n p (nil-before n (name-long n z)) s.rising
  set-from (turned q line) r = rw (absent_none es n r.0, eq-eqb (length es) 32 r.1, r.2, r.3)

pub set-means : (bs n : List ℕ) (p : Pair) → AreBytes bs → Fits p → (x : Told (List Entry)) → (x ≡ set_told (store_of bs) n p) ↔ OfStore (Sets n p) bs n x
unfolding set_told
set-means bs n p ab fp x =
    of-store (Sets n p) (λ es. if_there (lookup es n) (λ q. told (set_in es n p)) (pick (eqb (length es) 32) (turned 26 0) (told (set_in es n p)))) bs n ab
    (λ es s z y. (λ e. rw e (set_to bs n p es s z fp (lookup es n) refl (eqb (length es) 32) refl), set-from bs n p es s z fp y)) x

-- ---- Drop
module _ (bs n : List ℕ) (es : List Entry) (s : Tested bs es) where
  abbrev drop_gives : Told (List Entry)
  drop_gives = if_there (lookup es n) (λ q. told (drop_in es n)) (turned 25 0)

  drop-to : (m : Option Pair) → lookup es n ≡ m → Drops n es (if_there m (λ q. told (drop_in es n)) (turned 25 0))
  unfolding if_there
  drop-to (some q) d =
      let t = drop-store bs es n s in
      (not-absent es n q d, tested-store (packed (drop_in es n)) (drop_in es n) t, drop-under [] es n s.rising [] t.rising)
  drop-to none d = (none-absent [] es n s.rising d, refl, refl)

  there-gives : (Absent es n → ⊥) → told (drop_in es n) ≡ drop_gives
  unfolding if_there
  there-gives f = go (lookup es n) refl
    where
      go : (m : Option Pair) → lookup es n ≡ m → told (drop_in es n) ≡ drop_gives
      go (some q) d = rw d
      go none d = absurd (f (none-absent [] es n s.rising d))

  drop-from : (x : Told (List Entry)) → Drops n es x → x ≡ drop_gives
  unfolding if_there
  drop-from (told ds) r =
      let t = store-tested (packed ds) ds r.1 in
      let l = rising-drop [] es n s.rising in
      let u = drop-under [] es n s.rising [] l in
      let e : ds ≡ drop_in es n = same-under [] [] ds (drop_in es n) t.rising l (λ m q v. (u m q).1 ((r.2 m q).0 v)) (λ m q v. (r.2 m q).1 ((u m q).0 v)) in
      ap told e ∙ there-gives r.0
  drop-from (turned q line) r = rw (absent_none es n r.0, r.1, r.2)

pub drop-means : (bs n : List ℕ) → AreBytes bs → (x : Told (List Entry)) → (x ≡ drop_told (store_of bs) n) ↔ OfStore (Drops n) bs n x
unfolding drop_told
drop-means bs n ab x =
    of-store (Drops n) (λ es. if_there (lookup es n) (λ q. told (drop_in es n)) (turned 25 0)) bs n ab (λ es s z y. (λ e. rw e (drop-to bs n es s (lookup es n) refl), drop-from bs n es s y)) x

-- ---- the contracts: what meets the computed definition is right
pub told_back : (t : Told Pair) → went_told (went_is t) ≡ t
unfolding went_told went_is
told_back (told p) = refl
told_back (turned q line) = refl

pub go-meant : (bs n : List ℕ) → AreBytes bs → (r : Result Pair Refusal) → r ≡ went_is (go_told (store_of bs) n) → (r ≡ went_is (go_told (store_of bs) n)) × OfStore (Goes n) bs n (went_told r)
go-meant bs n ab r e = (e, rw e ((go-means bs n ab (went_told (went_is (go_told (store_of bs) n)))).0 (told_back (go_told (store_of bs) n))))

pub set-meant : (bs n : List ℕ) (p : Pair) → AreBytes bs → Fits p → (r : Result (Unit {0}) Refusal) (bs' : List ℕ) → Met bs (set_told (store_of bs) n p) r bs' → Met bs (set_told (store_of bs) n p) r bs' × Meant kept_is (Sets n p) bs n r bs'
set-meant bs n p ab f r bs' m =
    let t = set_told (store_of bs) n p in
    (m, record { gives = t; means = (set-means bs n p ab f t).0 refl; answer = m.answer; store = m.store })

pub drop-meant : (bs n : List ℕ) → AreBytes bs → (r : Result (Unit {0}) Refusal) (bs' : List ℕ) → Met bs (drop_told (store_of bs) n) r bs' → Met bs (drop_told (store_of bs) n) r bs' × Meant kept_is (Drops n) bs n r bs'
drop-meant bs n ab r bs' m =
    let t = drop_told (store_of bs) n in
    (m, record { gives = t; means = (drop-means bs n ab t).0 refl; answer = m.answer; store = m.store })
