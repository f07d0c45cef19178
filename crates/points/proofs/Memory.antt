-- A store and the notes of the calls that left it: each call answers what is remembered, and leaves the store of the notes with that call.
use mathlib.Core.Path.{◌≡◌, refl, sym, ap, ◌∙◌}
use mathlib.Core.Bool.{Bool, true, false}
use mathlib.Core.Option.{Option, some, none}
use mathlib.Core.List.{List, [], ◌∷◌}
use Prim.Native.Nat.{ℕ, suc, ◌-◌}
use native.Mathlib.Omega.{arith}
use lib.Dec.{eqb}
use lib.ListN.{length}
use borrow.Author.Tests.{eqb-false}
use Rattle.logic.specs.Lists.{Every}
use Rattle.logic.specs.Tests.{pick}
use Rattle.logic.proofs.Decide.{clash}
use Rattle.sets.specs.declared.Pair.{Pair}
use Rattle.answers.specs.Operations.{Told}
use Rattle.answers.specs.Operations.Told.{told, turned}
use Rattle.entry.specs.Names.{is_name, same_name}
use Rattle.points.specs.Points.{Entry, entry_rows, packed, Fits, Store, leaves}
use Rattle.points.specs.Stores.{store_of, lookup, set_in, drop_in, if_there, on_store, go_told, set_told, drop_told}
use Rattle.points.proofs.Maps.{lookup-set, lookup-drop, lookup-every, set_there, set-absent, drop-there}
use Rattle.points.proofs.Packed.{entries_in, store-reads}
use Rattle.points.proofs.Means.{store-tested}
use Rattle.points.proofs.Left.{set-store, drop-store}
use Rattle.points.specs.Calls.{PointCall, set_point, go_to, drop_point, PointAnswer, given, point_answer, left_by, point_answers, left_by_all, Note, set_or_dropped, last_set, names_by, names, remembered, remembered_all, notes_after, empty_store, Sized, LeftBy, at_first, then_called}
use Rattle.points.proofs.Tested.{Rising, Tested}

-- The bytes are a store with just what the notes say: under each name the pair last set, and as many names.
pub record Holds (h : List Note) (bs : List ℕ) : Type 0 where
  pub es : List Entry
  pub tested : Tested bs es
  pub each : (n : List ℕ) → lookup es n ≡ last_set n h
  pub count : length es ≡ names h

pub record Step (h : List Note) (bs : List ℕ) (c : PointCall) : Type 0 where
  pub answer : point_answer bs c ≡ remembered h c
  pub after : Holds (record { call = c; answer = point_answer bs c } ∷ h) (left_by bs c)

module _ (h : List Note) (bs : List ℕ) (s : Holds h bs) (k : List ℕ) where
  on-named : {A : Type 0} (g : List Entry → Told A) → is_name k ≡ true → on_store (store_of bs) k g ≡ g s.es
  unfolding on_store pick
  on-named g e = rw (store-reads bs s.es s.tested, e)

  on-misspelt : {A : Type 0} (g : List Entry → Told A) → is_name k ≡ false → on_store (store_of bs) k g ≡ turned 25 0
  unfolding on_store pick
  on-misspelt g e = rw (store-reads bs s.es s.tested, e)

  -- ---- Set
  module _ (p : Pair) where
    set-undone : (q l : ℕ) → set_told (store_of bs) k p ≡ turned q l → remembered h (set_point k p) ≡ turned q l → Step h bs (set_point k p)
    unfolding point_answer left_by given leaves last_set set_or_dropped names names_by
    set-undone q l e r = record { answer = rw e (sym r); after = rw e (record { es = s.es; tested = s.tested; each = s.each; count = s.count }) }

    set-done : set_told (store_of bs) k p ≡ told (set_in s.es k p) → remembered h (set_point k p) ≡ told none → Tested (packed (set_in s.es k p)) (set_in s.es k p)
        → length (set_in s.es k p) ≡ if_there (last_set k h) (λ (q : Pair). names h) (suc (names h)) → Step h bs (set_point k p)
    unfolding point_answer left_by given leaves last_set set_or_dropped names names_by
    set-done e r t l = record {
      answer = rw e (sym r);
      after = rw e (record { es = set_in s.es k p; tested = t; each = λ n. lookup-set s.es k p n ∙ ap (pick (same_name k n) (some p)) (s.each n); count = l });
    }

    set-step : Fits p → (t : Bool) → is_name k ≡ t → (m : Option Pair) → last_set k h ≡ m → (u : Bool) → eqb (names h) 32 ≡ u → Step h bs (set_point k p)
    unfolding set_told remembered if_there pick
    set-step f false e m d u g = set-undone 25 0 (on-misspelt _ e) (rw e)
    set-step f true e (some q) d u g =
        let a = s.each k ∙ d in
        let l = set_there [] s.es k p q s.tested.rising a in
        let b = s.tested.few in
        set-done (on-named _ e ∙ rw a) (rw (e, d)) (set-store bs s.es k p s.tested e f (omega arith)) (rw d (l ∙ s.count))
    set-step f true e none d true g = set-undone 26 0 (on-named _ e ∙ rw (s.each k, d, s.count, g)) (rw (e, d, g))
    set-step f true e none d false g =
        let a = s.each k ∙ d in
        let l = set-absent s.es k p a in
        let b = s.tested.few in
        let n = eqb-false (names h) 32 g in
        let c = s.count in
        set-done (on-named _ e ∙ rw (a, c, g)) (rw (e, d, g)) (set-store bs s.es k p s.tested e f (omega arith)) (rw d (l ∙ ap suc c))

  -- ---- Go
  gone : (a : PointAnswer) → Holds (record { call = go_to k; answer = a } ∷ h) bs
  unfolding last_set set_or_dropped names names_by
  gone (told x) = record { es = s.es; tested = s.tested; each = s.each; count = s.count }
  gone (turned q l) = record { es = s.es; tested = s.tested; each = s.each; count = s.count }

  go-answer : (t : Bool) → is_name k ≡ t → (m : Option Pair) → last_set k h ≡ m → point_answer bs (go_to k) ≡ remembered h (go_to k)
  unfolding point_answer given go_told remembered if_there pick
  go-answer false e m d = rw (on-misspelt (λ es. if_there (lookup es k) told (turned 25 0)) e, e)
  go-answer true e (some q) d = rw (on-named (λ es. if_there (lookup es k) told (turned 25 0)) e, s.each k, d, e)
  go-answer true e none d = rw (on-named (λ es. if_there (lookup es k) told (turned 25 0)) e, s.each k, d, e)

  -- ---- Drop
  drop-undone : (q l : ℕ) → drop_told (store_of bs) k ≡ turned q l → remembered h (drop_point k) ≡ turned q l → Step h bs (drop_point k)
  unfolding point_answer left_by given leaves last_set set_or_dropped names names_by
  drop-undone q l e r = record { answer = rw e (sym r); after = rw e (record { es = s.es; tested = s.tested; each = s.each; count = s.count }) }

  drop-done : (q : Pair) → lookup s.es k ≡ some q → drop_told (store_of bs) k ≡ told (drop_in s.es k) → remembered h (drop_point k) ≡ told none → Step h bs (drop_point k)
  unfolding point_answer left_by given leaves last_set set_or_dropped names names_by
  drop-done q a e r =
      let c = s.count in
      let d = drop-there s.es k q a in
      let l : length (drop_in s.es k) ≡ names h - 1 = omega arith in
      record {
        answer = rw e (sym r);
        after = rw e (record {
          es = drop_in s.es k;
          tested = drop-store bs s.es k s.tested;
          each = λ n. lookup-drop [] s.es k n s.tested.rising ∙ ap (pick (same_name k n) none) (s.each n);
          count = l;
        });
      }

  drop-step : (t : Bool) → is_name k ≡ t → (m : Option Pair) → last_set k h ≡ m → Step h bs (drop_point k)
  unfolding drop_told remembered if_there pick
  drop-step false e m d = drop-undone 25 0 (on-misspelt _ e) (rw e)
  drop-step true e (some q) d = let a = s.each k ∙ d in drop-done q a (on-named _ e ∙ rw a) (rw (e, d))
  drop-step true e none d = drop-undone 25 0 (on-named _ e ∙ rw (s.each k, d)) (rw (e, d))

step : (h : List Note) (bs : List ℕ) (c : PointCall) → Holds h bs → Sized c → Step h bs c
unfolding Sized left_by
step h bs (set_point k p) s f = set-step h bs s k p f (is_name k) refl (last_set k h) refl (eqb (names h) 32) refl
step h bs (go_to k) s f = record { answer = go-answer h bs s k (is_name k) refl (last_set k h) refl; after = gone h bs s k (point_answer bs (go_to k)) }
step h bs (drop_point k) s f = drop-step h bs s k (is_name k) refl (last_set k h) refl

empty_holds : Holds [] empty_store
unfolding empty_store packed entry_rows Rising lookup last_set names
empty_holds = record { es = []; tested = record { bytes = refl; few = omega arith; named = tt; rising = tt; fits = tt }; each = λ n. refl; count = refl }

pub left-holds : (h : List Note) (bs : List ℕ) → LeftBy h bs → Holds h bs
left-holds _ _ at_first = empty_holds
left-holds _ _ (then_called h bs c l f) = (step h bs c (left-holds h bs l) f).after

-- The promise of a whole list of calls.
pub all-remembered : (cs : List PointCall) (h : List Note) (bs : List ℕ) → LeftBy h bs → Every Sized cs → (point_answers bs cs ≡ remembered_all h cs) × LeftBy (notes_after h cs) (left_by_all bs cs)
unfolding point_answers remembered_all notes_after left_by_all
all-remembered [] h bs l f = (refl, l)
all-remembered (c ∷ cs) h bs l f =
    let e = (step h bs c (left-holds h bs l) f.0).answer in
    let n = rw e at (then_called h bs c l f.0) in
    let r = all-remembered cs (record { call = c; answer = remembered h c } ∷ h) (left_by bs c) n f.1 in
    (rw e (ap (λ (as' : List PointAnswer). remembered h c ∷ as') r.0), r.1)

-- Go gives the pair last set under the name and not dropped since.
pub last_set_lem : (h : List Note) (bs n : List ℕ) (p : Pair) → LeftBy h bs → last_set n h ≡ some p → go_told (store_of bs) n ≡ told p
unfolding go_told if_there
last_set_lem h bs n p l e =
    let s = left-holds h bs l in
    let a = s.each n ∙ e in
    let z = lookup-every (λ (m : List ℕ). is_name m ≡ true) s.es n p s.tested.named a in
    on-named h bs s n (λ es. if_there (lookup es n) told (turned 25 0)) z ∙ rw a

unfoldable is_told : PointAnswer → Bool
is_told (told x) = true
is_told (turned q line) = false

-- A refused call leaves every byte.
refused-leaves : (bs : List ℕ) (t : Told (List Entry)) (q l : ℕ) → given (λ (es : List Entry). none) t ≡ turned q l → leaves bs t ≡ bs
unfolding given leaves is_told
refused-leaves bs (told es) q l e = absurd (clash (sym (ap is_told e)))
refused-leaves bs (turned k m) q l e = refl

pub refused-changes-nothing : (bs : List ℕ) (c : PointCall) (q l : ℕ) → point_answer bs c ≡ turned q l → left_by bs c ≡ bs
unfolding point_answer left_by
refused-changes-nothing bs (set_point n p) q l e = refused-leaves bs (set_told (store_of bs) n p) q l e
refused-changes-nothing bs (go_to n) q l e = refl
refused-changes-nothing bs (drop_point n) q l e = refused-leaves bs (drop_told (store_of bs) n) q l e

-- There are as many entries as names are remembered.
pub names-counted : (h : List Note) (bs : List ℕ) (es : List Entry) → LeftBy h bs → Store bs es → length es ≡ names h
unfolding entries_in
names-counted h bs es l s =
    let t = left-holds h bs l in
    let e : es ≡ t.es = ap entries_in (sym (store-reads bs es (store-tested bs es s)) ∙ store-reads bs t.es t.tested) in
    ap length e ∙ t.count
