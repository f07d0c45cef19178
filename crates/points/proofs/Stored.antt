-- What bytes that are counted as a store hold: they are the packed entries.
use mathlib.Core.Path.{◌≡◌, refl, ap, ◌∙◌}
use mathlib.Core.Bool.{Bool, true, false}
use mathlib.Core.List.{List, [], ◌∷◌, ◌++◌}
use Prim.Native.Nat.{ℕ, zero, suc, ◌+◌, ◌-◌, ◌*◌, ◌≤◌}
use native.Mathlib.Omega.{arith}
use lib.Dec.{eqb}
use lib.ListN.{length, take, drop, replicate, length-drop, take-append-drop}
use lib.Seq.{length-take-le, take-add, drop-drop}
use borrow.Author.Tests.{eq-eqb, eqb-true}
use Rattle.logic.specs.Lists.{Every}
use Rattle.logic.specs.Tests.{both, pick}
use Rattle.logic.proofs.Decide.{clash}
use Rattle.std.specs.Prelude.{Some, None}
use Rattle.entry.specs.Names.{name_spelt, is_name, before}
use Rattle.entry.specs.Bytes.{AreBytes, entry_row, pair_bytes, pair_of, zeros}
use Rattle.entry.proofs.Numbers.{bytes_drop, word_back}
use Rattle.points.specs.Points.{Entry, entry_rows, packed}
use Rattle.points.specs.Stores.{entry_of, entries_of, count_from, entry_count}
use Rattle.points.proofs.Tested.{Rising}

pub row_back : (bs : List ℕ) → 32 ≤ length bs → AreBytes bs → entry_row (take 8 bs) (pair_of (drop 8 bs)) ≡ take 32 bs
unfolding entry_row pair_of pair_bytes
row_back bs l h =
    let a = length-drop 8 bs in
    let b = length-drop 16 bs in
    let c = length-drop 24 bs in
    let e : take 32 bs ≡ take 8 bs ++ (take 8 (drop 8 bs) ++ (take 8 (drop 16 bs) ++ take 8 (drop 24 bs))) =
    take-add 8 24 bs ∙ ap (λ (x : List ℕ). take 8 bs ++ x) (take-add 8 16 (drop 8 bs) ∙ ap (λ (x : List ℕ). take 8 (drop 8 bs) ++ x) (rw (drop-drop 8 8 bs) (take-add 8 8 (drop 16 bs) ∙ rw (drop-drop 8 16 bs)))) in
    rw (drop-drop 8 8 bs, drop-drop 16 8 bs, word_back (drop 8 bs) (omega arith) (bytes_drop 8 bs h), word_back (drop 16 bs) (omega arith) (bytes_drop 16 bs h), word_back (drop 24 bs) (omega arith) (bytes_drop 24 bs h), e)

pub rows_back : (k : ℕ) (bs : List ℕ) → k * 32 ≤ length bs → AreBytes bs → entry_rows (entries_of k bs) ≡ take (k * 32) bs
unfolding entry_rows entries_of entry_of
rows_back zero bs l h = refl
rows_back (suc k) bs l h =
    let d = length-drop 32 bs in
    let e : suc k * 32 ≡ 32 + k * 32 = omega arith in
    rw (e, take-add 32 (k * 32) bs, row_back bs (omega arith) h, rows_back k (drop 32 bs) (omega arith) (bytes_drop 32 bs h))

pub entries-long : (k : ℕ) (bs : List ℕ) → length (entries_of k bs) ≡ k
unfolding entries_of
entries-long zero bs = refl
entries-long (suc k) bs = ap suc (entries-long k (drop 32 bs))

-- ---- what is counted
zeros-are : (bs : List ℕ) → zeros bs ≡ true → bs ≡ replicate (length bs) 0
unfolding zeros both
zeros-are [] e = refl
zeros-are (b ∷ bs) e = go (zeros-are bs) (eqb b 0) refl e
  where
    go : (zeros bs ≡ true → bs ≡ replicate (length bs) 0) → (t : Bool) → eqb b 0 ≡ t → both t (zeros bs) ≡ true → b ∷ bs ≡ 0 ∷ replicate (length bs) 0
    go ih true d f = rw (eqb-true b 0 d) (ap (λ (l : List ℕ). 0 ∷ l) (ih f))
    go ih false d f = absurd (clash f)

pub record Read (m k : ℕ) (a bs : List ℕ) (j : ℕ) : Type 0 where
  pub more : ℕ
  pub count : j ≡ k + more
  pub few : more ≤ m
  pub named : Every (λ (e : Entry). is_name e.name ≡ true) (entries_of more bs)
  pub rising : Rising a (entries_of more bs)
  pub rest : drop (more * 32) bs ≡ replicate ((m - more) * 32) 0

read_none : (m k : ℕ) (a bs : List ℕ) → length bs ≡ m * 32 → bs ≡ replicate (length bs) 0 → Read m k a bs k
unfolding entries_of Rising
read_none m k a bs l z =
    let e : m - 0 ≡ m = omega arith in
    record { more = 0; count = omega arith; few = omega arith; named = tt; rising = tt; rest = rw (e, ← l) z }

read_more : (m k : ℕ) (a bs : List ℕ) (j : ℕ) → length bs ≡ suc m * 32 → name_spelt (take 8 bs) ≡ true → before a (take 8 bs) ≡ true → Read m (suc k) (take 8 bs) (drop 32 bs) j → Read (suc m) k a bs j
unfolding entries_of entry_of Rising is_name both
read_more m k a bs j l s r d =
    let e : suc d.more * 32 ≡ 32 + d.more * 32 = omega arith in
    let f : suc m - suc d.more ≡ m - d.more = omega arith in
    record {
      more = suc d.more;
      count = omega (arith, d.count);
      few = omega (arith, d.few);
      named = (rw (eq-eqb (length (take 8 bs)) 8 (length-take-le 8 bs (omega arith))) s, d.named);
      rising = (r, d.rising);
      rest = rw (e, f, ← drop-drop (d.more * 32) 32 bs) d.rest;
    }

pub counted : (m k : ℕ) (a bs : List ℕ) (j : ℕ) → length bs ≡ m * 32 → count_from m k a bs ≡ Some j → Read m k a bs j
unfolding count_from pick
counted zero k a bs j l e = let q : k ≡ j = cc in rw (← q) (read_none 0 k a bs l (nil bs l))
  where
    nil : (xs : List ℕ) → length xs ≡ zero * 32 → xs ≡ replicate (length xs) 0
    nil [] h = refl
    nil (x ∷ xs) h = absurd (omega arith)
counted (suc m) k a bs j l e = go (λ f. counted m (suc k) (take 8 bs) (drop 32 bs) j (let d = length-drop 32 bs in omega arith) f) (name_spelt (take 8 bs)) (before a (take 8 bs)) (zeros bs) refl refl refl e
  where
    go : (count_from m (suc k) (take 8 bs) (drop 32 bs) ≡ Some j → Read m (suc k) (take 8 bs) (drop 32 bs) j) → (s b z : Bool) → name_spelt (take 8 bs) ≡ s → before a (take 8 bs) ≡ b → zeros bs ≡ z → pick s (pick b (count_from m (suc k) (take 8 bs) (drop 32 bs)) None) (pick z (Some k) None) ≡ Some j → Read (suc m) k a bs j
    go ih true true z es eb ez f = read_more m k a bs j l es eb (ih f)
    go ih true false z es eb ez f = absurd (cc)
    go ih false b true es eb ez f = let q : k ≡ j = cc in rw (← q) (read_none (suc m) k a bs l (zeros-are bs ez))
    go ih false b false es eb ez f = absurd (cc)

pub record Stored (bs : List ℕ) (k : ℕ) : Type 0 where
  pub long : length bs ≡ 1024
  pub few : k ≤ 32
  pub named : Every (λ (e : Entry). is_name e.name ≡ true) (entries_of k bs)
  pub rising : Rising [] (entries_of k bs)
  pub rest : drop (k * 32) bs ≡ replicate (1024 - k * 32) 0

pub stored : (bs : List ℕ) (k : ℕ) → entry_count bs ≡ Some k → Stored bs k
unfolding entry_count pick
stored bs k e = go (eqb (length bs) 1024) refl e
  where
    go : (t : Bool) → eqb (length bs) 1024 ≡ t → pick t (count_from 32 0 [] bs) None ≡ Some k → Stored bs k
    go true d f =
        let r = counted 32 0 [] bs k (eqb-true (length bs) 1024 d) f in
        let i : r.more ≡ k = omega (arith, r.count) in
        let q : (32 - k) * 32 ≡ 1024 - k * 32 = omega (arith, r.few, r.count) in
        record { long = eqb-true (length bs) 1024 d; few = omega (arith, r.few, r.count); named = rw i at r.named; rising = rw i at r.rising; rest = rw q at (rw i at r.rest) }
    go false d f = absurd (cc)

pub stored-packed : (bs : List ℕ) (k : ℕ) → Stored bs k → AreBytes bs → bs ≡ packed (entries_of k bs)
unfolding packed
stored-packed bs k s h = rw (entries-long k bs, rows_back k bs (let a = s.long in let b = s.few in omega arith) h, ← s.rest, take-append-drop (k * 32) bs)
