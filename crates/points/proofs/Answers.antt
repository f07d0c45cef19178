-- What each return of `locate` and of the operations is by the definitions.
use mathlib.Core.Path.{◌≡◌, refl, sym, ap, ◌∙◌}
use mathlib.Core.Bool.{Bool, true, false}
use mathlib.Core.List.{List, [], ◌∷◌, ◌++◌}
use Prim.Native.Nat.{ℕ, zero, suc, ◌+◌, ◌-◌, ◌*◌, ◌<◌, ◌≤◌}
use native.Mathlib.Omega.{arith}
use lib.Dec.{eqb}
use lib.ListN.{length, take, drop, replicate, length-append, length-drop}
use lib.Seq.{sets, take_all, drop-drop}
use borrow.Author.Tests.{eq-eqb, ne_eqb}
use Rattle.logic.specs.Tests.{both, pick}
use Rattle.sets.specs.declared.Pair.{Pair}
use Rattle.text.specs.declared.Refusal.{Refusal}
use Rattle.answers.specs.Operations.{Told}
use Rattle.answers.specs.Operations.Told.{told, turned}
use Rattle.std.specs.Prelude.{Option as Maybe, Some, None}
use Rattle.std.specs.Prelude.{Result, Ok, Err}
use Rattle.std.specs.List.{between}
use Rattle.entry.proofs.Leaves.{rest_is}
use Rattle.entry.specs.Names.{name_spelt, is_name}
use Rattle.entry.specs.Bytes.{entry_row, pair_bytes, pair_of}
use Rattle.entry.specs.Bytes.{AreBytes}
use Rattle.points.specs.Points.{Entry, packed, leaves}
use Rattle.points.specs.Stores.{entry_of, entries_of, entry_count, held_of, store_of, lookup, set_in, drop_in, find_in, locate_in, if_there, on_store, go_told, set_told, drop_told, went_is, kept_is, Met}
use Rattle.points.proofs.Stored.{Stored, stored, stored-packed, entries-long}
use Rattle.points.proofs.Places.{SplitHere, SplitGap, split-here, split-gap, set_here, set-gap, drop_here, name-long}

refusal : (r : Refusal) (q : ℕ) → r.number ≡ q → r.line ≡ 0 → r ≡ record { number = q; line = 0 }
refusal r q a b = λ i. record { number = a i; line = b i }

-- ---- locate
module _ (bs n : List ℕ) (c : Maybe ℕ) (ec : c ≡ entry_count bs) where
  pub loc-none : c ≡ None → (r : Refusal) → r.number ≡ 24 → r.line ≡ 0 → Err r ≡ locate_in (entry_count bs) bs n
  unfolding locate_in
  loc-none d r a b = rw (← ec, d, refusal r 24 a b)

  module _ (k : ℕ) (d : c ≡ Some k) where
    pub loc-room : k * 32 ≤ length bs
    loc-room = let s = stored bs k (sym ec ∙ d) in let a = s.long in let b = s.few in omega arith

    module _ (h : length n ≡ 8) (t : Bool) (et : t ≡ name_spelt (take 8 n)) where
      spelt_is : is_name n ≡ t
      unfolding is_name both
      spelt_is = let e : take 8 n ≡ n = take_all 8 n (omega arith) in rw (eq-eqb (length n) 8 h) (sym (rw e at et))

      pub loc-misspelt : t ≡ false → (r : Refusal) → r.number ≡ 25 → r.line ≡ 0 → Err r ≡ locate_in (entry_count bs) bs n
      unfolding locate_in pick
      loc-misspelt f r a b = rw (← ec, d, spelt_is, f, refusal r 25 a b)

      pub loc-found : t ≡ true → (p : Result ℕ ℕ) → p ≡ find_in (entries_of k bs) 0 n → Ok (k, p) ≡ locate_in (entry_count bs) bs n
      unfolding locate_in pick
      loc-found f p ep = rw (← ec, d, spelt_is, f, ← ep)

-- ---- what a located name says
pub located : (l : Result (ℕ × Result ℕ ℕ) Refusal) (k : ℕ) (p r : Result ℕ ℕ) → l ≡ Ok (k, p) → p ≡ r → l ≡ Ok (k, r)
located l k p r e d = rw d at e

pub record Found (bs n : List ℕ) (k : ℕ) (p : Result ℕ ℕ) : Type 0 where
  pub counted : entry_count bs ≡ Some k
  pub named : is_name n ≡ true
  pub found : find_in (entries_of k bs) 0 n ≡ p

module _ (bs n : List ℕ) (l : Result (ℕ × Result ℕ ℕ) Refusal) (el : l ≡ locate_in (entry_count bs) bs n) where
  pub is-found : (k : ℕ) (p : Result ℕ ℕ) → l ≡ Ok (k, p) → Found bs n k p
  unfolding locate_in pick
  is-found k p d = go (entry_count bs) (is_name n) refl refl (sym d ∙ el)
    where
      go : (c : Maybe ℕ) (t : Bool) → entry_count bs ≡ c → is_name n ≡ t → Ok (k, p) ≡ locate_in c bs n → Found bs n k p
      go None t ec et f = absurd (cc)
      go (Some m) true ec et f =
          let g = rw et at f in
          let h : (k, p) ≡ (m, find_in (entries_of m bs) 0 n) = cc in
          let a : k ≡ m = ap (λ (x : ℕ × Result ℕ ℕ). x.0) h in
          let b : p ≡ find_in (entries_of m bs) 0 n = ap (λ (x : ℕ × Result ℕ ℕ). x.1) h in
          rw a (record { counted = ec; named = et; found = sym b })
      go (Some m) false ec et f = let g = rw et at f in absurd (cc)

  pub is-neither : (q : Refusal) → l ≡ Err q → {A : Type 0} (g : List Entry → Told A) → on_store (store_of bs) n g ≡ turned q.number q.line
  unfolding locate_in pick store_of held_of on_store
  is-neither q d {A} g = go (entry_count bs) (is_name n) refl refl (sym d ∙ el)
    where
      go : (c : Maybe ℕ) (t : Bool) → entry_count bs ≡ c → is_name n ≡ t → Err q ≡ locate_in c bs n → on_store (held_of c bs) n g ≡ turned q.number q.line
      go None t ec et f = let e : q ≡ record { number = 24; line = 0 } = cc in rw e
      go (Some m) true ec et f = let g = rw et at f in absurd (cc)
      go (Some m) false ec et f = let g = rw et at f in let e : q ≡ record { number = 25; line = 0 } = cc in rw (et, e)

on-found : (bs n : List ℕ) (k : ℕ) (p : Result ℕ ℕ) → Found bs n k p → {A : Type 0} (g : List Entry → Told A) → on_store (store_of bs) n g ≡ g (entries_of k bs)
unfolding store_of held_of on_store pick
on-found bs n k p f g = rw (f.counted, f.named)

-- The pair of the entry behind `xs`.
entry_at : (k : ℕ) (bs : List ℕ) (xs : List Entry) (e : Entry) (ys : List Entry) (i : ℕ) → entries_of k bs ≡ xs ++ (e ∷ ys) → i ≡ length xs → e.pair ≡ pair_of (drop (i * 32 + 8) bs)
unfolding entries_of entry_of
entry_at zero bs [] e ys i w h = absurd (let z = ap length w in omega arith)
entry_at zero bs (x ∷ xs) e ys i w h = absurd (let z = ap length w in omega arith)
entry_at (suc k) bs [] e ys i w h = let z : i * 32 + 8 ≡ 8 = omega arith in rw z (sym (ap (first_pair e) w))
  where
    first_pair : Entry → List Entry → Pair
    first_pair d [] = d.pair
    first_pair d (x ∷ xs) = x.pair
entry_at (suc k) bs (x ∷ xs) e ys i w h =
    let z : i * 32 + 8 ≡ 32 + (length xs * 32 + 8) = omega arith in
    rw (z, ← drop-drop (length xs * 32 + 8) 32 bs) (entry_at k (drop 32 bs) xs e ys (length xs) (ap (drop 1) w) refl)

-- ---- the operations
module _ (bs n : List ℕ) (l : Result (ℕ × Result ℕ ℕ) Refusal) (el : l ≡ locate_in (entry_count bs) bs n) where
  pub go-neither : (q : Refusal) → l ≡ Err q → Err q ≡ went_is (go_told (store_of bs) n)
  unfolding go_told went_is
  go-neither q d = rw (is-neither bs n l el q d (λ es. if_there (lookup es n) told (turned 25 0)))

  pub keep-neither : (q : Refusal) (g : List Entry → Told (List Entry)) → l ≡ Err q → Met bs (on_store (store_of bs) n g) (Err q) bs
  unfolding kept_is leaves
  keep-neither q g d = rw (is-neither bs n l el q d g) (record { answer = refl; store = refl })

  module _ (i k : ℕ) (d : l ≡ Ok (k, Err i)) where
    gap : SplitGap (entries_of k bs) 0 i n
    gap = let f = is-found bs n l el k (Err i) d in split-gap (entries_of k bs) 0 i n [] (stored bs k f.counted).rising f.found

    pub go-before : (r : Refusal) → r.number ≡ 25 → r.line ≡ 0 → Err r ≡ went_is (go_told (store_of bs) n)
    unfolding go_told went_is if_there
    go-before r a b = rw (on-found bs n k (Err i) (is-found bs n l el k (Err i) d) (λ es. if_there (lookup es n) told (turned 25 0)), gap.found) (rw (refusal r 25 a b))

    pub drop-before : (r : Refusal) → r.number ≡ 25 → r.line ≡ 0 → Met bs (drop_told (store_of bs) n) (Err r) bs
    unfolding drop_told kept_is leaves if_there
    drop-before r a b = rw (on-found bs n k (Err i) (is-found bs n l el k (Err i) d) (λ es. if_there (lookup es n) (λ q. told (drop_in es n)) (turned 25 0)), gap.found) (record { answer = rw (refusal r 25 a b); store = refl })

    pub set_full : (p : Pair) (r : Refusal) → k ≡ 32 → r.number ≡ 26 → r.line ≡ 0 → Met bs (set_told (store_of bs) n p) (Err r) bs
    unfolding set_told kept_is leaves if_there pick
    set_full p r h a b =
        rw (on-found bs n k (Err i) (is-found bs n l el k (Err i) d) (λ es. if_there (lookup es n) (λ q. told (set_in es n p)) (pick (eqb (length es) 32) (turned 26 0) (told (set_in es n p)))), gap.found, eq-eqb (length (entries_of k bs)) 32 (entries-long k bs ∙ h))
        (record { answer = rw (refusal r 26 a b); store = refl })

    pub before-long : length bs ≡ 1024
    before-long = (stored bs k (is-found bs n l el k (Err i) d).counted).long

    pub before-named : length n ≡ 8
    before-named = name-long n (is-found bs n l el k (Err i) d).named

    pub before-in : (k ≡ 32 → ⊥) → i * 32 + 32 ≤ 1024
    before-in h = let s = stored bs k (is-found bs n l el k (Err i) d).counted in let a = s.few in let b = gap.place in let w = ap length gap.whole in omega (arith, entries-long k bs, length-append gap.front gap.back)

    pub set_before : (p : Pair) (bs' : List ℕ) → (k ≡ 32 → ⊥) → AreBytes bs → bs' ≡ take (i * 32) bs ++ (entry_row n p ++ take (992 - i * 32) (drop (i * 32) bs)) → Met bs (set_told (store_of bs) n p) (Ok tt) bs'
    unfolding set_told kept_is leaves if_there pick
    set_before p bs' h ab e =
        let s = stored bs k (is-found bs n l el k (Err i) d).counted in
        let g = gap in
        let w = g.whole in
        let few : length (entries_of k bs) < 32 = let a = s.few in omega (arith, entries-long k bs) in
        let nm = rw w at s.named in
        let m = set-gap bs g.front g.back n p (i * 32) nm (rw w at few) (rw w at (stored-packed bs k s ab)) (omega (arith, g.place)) in
        rw (on-found bs n k (Err i) (is-found bs n l el k (Err i) d) (λ es. if_there (lookup es n) (λ q. told (set_in es n p)) (pick (eqb (length es) 32) (turned 26 0) (told (set_in es n p)))), g.found, ne_eqb (length (entries_of k bs)) 32 (λ z. h (sym (entries-long k bs) ∙ z)))
        (record { answer = refl; store = e ∙ (m ∙ ap packed (sym (g.put p))) })

  module _ (i count : ℕ) (d : l ≡ Ok (count, Ok i)) where
    found_at : Found bs n count (Ok i)
    found_at = is-found bs n l el count (Ok i) d

    is-stored : Stored bs count
    is-stored = stored bs count found_at.counted

    here : SplitHere (entries_of count bs) 0 i n
    here = split-here (entries_of count bs) 0 i n found_at.found

    pub at_long : length bs ≡ 1024
    at_long = is-stored.long

    pub at_in : i * 32 + 32 ≤ 1024
    at_in = let a = is-stored.few in let b = here.place in let w = ap length here.whole in omega (arith, entries-long count bs, length-append here.front (here.here ∷ here.back))

    pub at_room : 24 ≤ length (between (i * 32 + 8) (length bs) bs)
    at_room = rw (rest_is bs (i * 32 + 8)) (omega (arith, at_in, at_long, length-drop (i * 32 + 8) bs))

    pub set_at : (p : Pair) (bs' : List ℕ) → AreBytes bs → bs' ≡ sets bs (i * 32 + 8) (pair_bytes p) → Met bs (set_told (store_of bs) n p) (Ok tt) bs'
    unfolding set_told kept_is leaves if_there
    set_at p bs' ab e =
        let g = here in
        let w = g.whole in
        let m = set_here bs g.front g.here g.back n p (i * 32 + 8) (rw w at is-stored.named) g.name (rw w at (stored-packed bs count is-stored ab)) (omega (arith, g.place)) in
        rw (on-found bs n count (Ok i) found_at (λ es. if_there (lookup es n) (λ q. told (set_in es n p)) (pick (eqb (length es) 32) (turned 26 0) (told (set_in es n p)))), g.found)
        (record { answer = refl; store = e ∙ (m ∙ ap packed (sym (g.put p))) })

    pub drop_at : (bs' : List ℕ) → AreBytes bs → bs' ≡ take (i * 32) bs ++ (drop (i * 32 + 32) bs ++ replicate 32 0) → Met bs (drop_told (store_of bs) n) (Ok tt) bs'
    unfolding drop_told kept_is leaves if_there
    drop_at bs' ab e =
        let g = here in
        let w = g.whole in
        let few : length (entries_of count bs) ≤ 32 = let a = is-stored.few in omega (arith, entries-long count bs) in
        let m = drop_here bs g.front g.here g.back (i * 32) (rw w at is-stored.named) (rw w at few) (rw w at (stored-packed bs count is-stored ab)) (omega (arith, g.place)) in
        rw (on-found bs n count (Ok i) found_at (λ es. if_there (lookup es n) (λ q. told (drop_in es n)) (turned 25 0)), g.found)
        (record { answer = refl; store = e ∙ (m ∙ ap packed (sym g.gone)) })

    pub go-at : (p : Pair) → p ≡ pair_of (between (i * 32 + 8) (length bs) bs) → Ok p ≡ went_is (go_told (store_of bs) n)
    unfolding go_told went_is if_there
    go-at p f =
        let g = here in
        let e : p ≡ pair_of (drop (i * 32 + 8) bs) = rw (rest_is bs (i * 32 + 8)) at f in
        rw (on-found bs n count (Ok i) found_at (λ es. if_there (lookup es n) told (turned 25 0)), g.found)
        (rw (e ∙ sym (entry_at count bs g.front g.here g.back i g.whole (omega (arith, g.place)))))
