-- A packed list of entries is read as that list.
use mathlib.Core.Path.{◌≡◌, refl, sym, ap, ◌∙◌}
use mathlib.Core.Bool.{Bool, true, false}
use mathlib.Core.List.{List, [], ◌∷◌, ◌++◌, append_assoc}
use Prim.Native.Nat.{ℕ, zero, suc, ◌+◌, ◌-◌, ◌*◌, ◌≤◌}
use native.Mathlib.Nat.{add-zero}
use native.Mathlib.Omega.{arith}
use lib.Dec.{eqb}
use lib.ListN.{length, take, drop, replicate, length-append, length-replicate, length-drop}
use lib.Seq.{take_at, drop_at, drop-drop}
use borrow.Author.Tests.{eq-eqb}
use Rattle.logic.specs.Lists.{Every}
use Rattle.logic.specs.Tests.{both, either, pick}
use Rattle.logic.proofs.Decide.{clash}
use Rattle.std.specs.Prelude.{Option as Maybe, Some, None}
use Rattle.entry.specs.Names.{letter, name_spelt, is_name, before}
use Rattle.entry.specs.Bytes.{AreBytes, word_of, digits, entry_row, pair_bytes, pair_of, zeros}
use Rattle.points.specs.Points.{Entry, entry_rows, packed, Fits}
use Rattle.points.specs.Stores.{entry_of, entries_of, count_from, entry_count, held_of, store_of, Contents, holds, nothing}
use Rattle.entry.proofs.Leaves.{eight-digits}
use Rattle.entry.proofs.Numbers.{bytes_drop, word-digits, word_fits}
use Rattle.points.proofs.Stored.{stored, stored-packed, entries-long}
use Rattle.points.proofs.Places.{Named, name-long, row-long, take-zeros, rows_long}
use Rattle.points.proofs.Tested.{Rising, Tested}

name-spelt : (n : List ℕ) → is_name n ≡ true → name_spelt n ≡ true
unfolding is_name both
name-spelt n e = go (eqb (length n) 8) e
  where
    go : (t : Bool) → both t (name_spelt n) ≡ true → name_spelt n ≡ true
    go true f = f
    go false f = absurd (clash f)

module _ (e : Entry) (es : List Entry) (z : List ℕ) (h : is_name e.name ≡ true) where
  shape : entry_rows (e ∷ es) ++ z ≡ e.name ++ (pair_bytes e.pair ++ (entry_rows es ++ z))
  unfolding entry_rows entry_row
  shape = append_assoc (e.name ++ pair_bytes e.pair) (entry_rows es) z ∙ append_assoc e.name (pair_bytes e.pair) (entry_rows es ++ z)

  front-name : take 8 (entry_rows (e ∷ es) ++ z) ≡ e.name
  front-name = ap (take 8) shape ∙ take_at e.name (pair_bytes e.pair ++ (entry_rows es ++ z)) 8 (name-long e.name h)

  behind : drop 32 (entry_rows (e ∷ es) ++ z) ≡ entry_rows es ++ z
  unfolding entry_rows
  behind = ap (drop 32) (append_assoc (entry_row e.name e.pair) (entry_rows es) z) ∙ drop_at (entry_row e.name e.pair) (entry_rows es ++ z) 32 (row-long e.name e.pair (name-long e.name h))

  front-pair : Fits e.pair → pair_of (drop 8 (entry_rows (e ∷ es) ++ z)) ≡ e.pair
  unfolding pair_of pair_bytes
  front-pair f =
      let a = digits 8 e.pair.taken in
      let b = digits 8 e.pair.held in
      let c = digits 8 e.pair.denied in
      let r = entry_rows es ++ z in
      let d₀ : drop 8 (entry_rows (e ∷ es) ++ z) ≡ a ++ (b ++ (c ++ r)) = ap (drop 8) shape ∙ (drop_at e.name ((a ++ (b ++ c)) ++ r) 8 (name-long e.name h) ∙ (append_assoc a (b ++ c) r ∙ ap (λ (x : List ℕ). a ++ x) (append_assoc b c r))) in
      let d₁ : drop 8 (a ++ (b ++ (c ++ r))) ≡ b ++ (c ++ r) = drop_at a (b ++ (c ++ r)) 8 (eight-digits e.pair.taken) in
      let d₂ : drop 16 (a ++ (b ++ (c ++ r))) ≡ c ++ r = sym (drop-drop 8 8 (a ++ (b ++ (c ++ r)))) ∙ (ap (drop 8) d₁ ∙ drop_at b (c ++ r) 8 (eight-digits e.pair.held)) in
      let t₀ = ap word_of (take_at a (b ++ (c ++ r)) 8 (eight-digits e.pair.taken)) ∙ word-digits e.pair.taken f.taken in
      let t₁ = ap word_of (ap (take 8) d₁ ∙ take_at b (c ++ r) 8 (eight-digits e.pair.held)) ∙ word-digits e.pair.held f.held in
      let t₂ = ap word_of (ap (take 8) d₂ ∙ take_at c r 8 (eight-digits e.pair.denied)) ∙ word-digits e.pair.denied f.denied in
      ap pair_of d₀ ∙ (λ i. record { taken = t₀ i; held = t₁ i; denied = t₂ i })

abbrev Sizes : List Entry → Type 0
Sizes es = Every (λ (e : Entry). Fits e.pair) es

entries-packed : (es : List Entry) (z : List ℕ) → Named es → Sizes es → entries_of (length es) (entry_rows es ++ z) ≡ es
unfolding entries_of entry_of
entries-packed [] z h f = refl
entries-packed (e ∷ es) z h f =
    let t = front-name e es z h.0 in
    let p = front-pair e es z h.0 f.0 in
    let r = ap (entries_of (length es)) (behind e es z h.0) ∙ entries-packed es z h.1 f.1 in
    λ i. record { name = t i; pair = p i } ∷ r i

zeros-yes : (k : ℕ) → zeros (replicate k 0) ≡ true
unfolding zeros both
zeros-yes zero = refl
zeros-yes (suc k) = rw (eq-eqb 0 0 refl) (zeros-yes k)

no_name : (m : ℕ) → 8 ≤ m → name_spelt (take 8 (replicate m 0)) ≡ false
unfolding name_spelt letter both either
no_name m h = ap name_spelt (take-zeros 8 m h)

count_zeros : (m k : ℕ) (a : List ℕ) → count_from m k a (replicate (m * 32) 0) ≡ Some k
unfolding count_from pick
count_zeros zero k a = refl
count_zeros (suc m) k a = rw (no_name (suc m * 32) (omega arith), zeros-yes (suc m * 32))

one_more : (e : Entry) (es : List Entry) (m k : ℕ) (a z : List ℕ) → is_name e.name ≡ true → before a e.name ≡ true → count_from (suc m) k a (entry_rows (e ∷ es) ++ z) ≡ count_from m (suc k) e.name (entry_rows es ++ z)
unfolding count_from pick
one_more e es m k a z h g = rw (front-name e es z h, behind e es z h, name-spelt e.name h, g)

count-packed : (es : List Entry) (m k : ℕ) (a : List ℕ) → Named es → Rising a es → length es ≤ m → count_from m k a (entry_rows es ++ replicate ((m - length es) * 32) 0) ≡ Some (k + length es)
unfolding entry_rows Rising
count-packed [] m k a h g l = let e : m - 0 ≡ m = omega arith in rw (e, add-zero k) (count_zeros m k a)
count-packed (e ∷ es) zero k a h g l = absurd (omega arith)
count-packed (e ∷ es) (suc m) k a h g l =
    let q : suc m - suc (length es) ≡ m - length es = omega arith in
    let j : k + suc (length es) ≡ suc k + length es = omega arith in
    rw (q, j) (one_more e es m k a (replicate ((m - length es) * 32) 0) h.0 g.0 ∙ count-packed es m (suc k) e.name h.1 g.1 (omega arith))

pub store-reads : (bs : List ℕ) (es : List Entry) → Tested bs es → store_of bs ≡ holds es
unfolding store_of held_of entry_count packed pick
store-reads bs es s =
    let z = 1024 - length es * 32 in
    let w : List ℕ = entry_rows es ++ replicate z 0 in
    let e : (32 - length es) * 32 ≡ z = let f = s.few in omega arith in
    let l : length w ≡ 1024 = let f = s.few in omega (arith, length-append (entry_rows es) (replicate z 0), rows_long es s.named, length-replicate {A = ℕ} z 0) in
    let o : 0 + length es ≡ length es = omega arith in
    let c : count_from 32 0 [] w ≡ Some (length es) = (rw e at (count-packed es 32 0 [] s.named s.rising s.few)) ∙ ap Some o in
    rw (s.bytes, eq-eqb (length w) 1024 l, c) (ap holds (entries-packed es (replicate z 0) s.named s.fits))

-- ---- and the other way: bytes that are read as entries are their store
pub pair_fits : (bs : List ℕ) → 24 ≤ length bs → AreBytes bs → Fits (pair_of bs)
unfolding pair_of
pair_fits bs l h =
    let b : 8 ≤ length (drop 8 bs) = omega (arith, length-drop 8 bs) in
    let c : 8 ≤ length (drop 16 bs) = omega (arith, length-drop 16 bs) in
    record { taken = word_fits bs (omega arith) h; held = word_fits (drop 8 bs) b (bytes_drop 8 bs h); denied = word_fits (drop 16 bs) c (bytes_drop 16 bs h) }

pairs-fit : (k : ℕ) (bs : List ℕ) → k * 32 ≤ length bs → AreBytes bs → Sizes (entries_of k bs)
unfolding entries_of entry_of
pairs-fit zero bs l h = tt
pairs-fit (suc k) bs l h =
    let a = length-drop 8 bs in
    let d = length-drop 32 bs in
    (pair_fits (drop 8 bs) (omega arith) (bytes_drop 8 bs h), pairs-fit k (drop 32 bs) (omega arith) (bytes_drop 32 bs h))

counted-store : (bs : List ℕ) (k : ℕ) → AreBytes bs → entry_count bs ≡ Some k → Tested bs (entries_of k bs)
counted-store bs k h e =
    let s = stored bs k e in
    let f = s.few in
    let l = s.long in
    record { bytes = stored-packed bs k s h; few = rw (entries-long k bs) f; named = s.named; rising = s.rising; fits = pairs-fit k bs (omega arith) h }

unfoldable pub entries_in : Contents → List Entry
entries_in (holds es) = es
entries_in nothing = []

unfoldable pub is_held : Contents → Bool
is_held (holds es) = true
is_held nothing = false

pub reads-store : (bs : List ℕ) (es : List Entry) → AreBytes bs → store_of bs ≡ holds es → Tested bs es
unfolding store_of held_of entries_in is_held
reads-store bs es h e = go (entry_count bs) refl e
  where
    go : (c : Maybe ℕ) → entry_count bs ≡ c → held_of c bs ≡ holds es → Tested bs es
    go (Some k) d f = rw (← ap entries_in f) (counted-store bs k h d)
    go None d f = absurd (clash (ap is_held f))
