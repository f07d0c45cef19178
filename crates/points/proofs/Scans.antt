-- The loops over entries: what is left to look at, from here, gives the answer.
use mathlib.Core.Path.{◌≡◌, refl, ap, ◌∙◌}
use mathlib.Core.Bool.{Bool, true, false}
use mathlib.Core.List.{List}
use Prim.Native.Nat.{ℕ, zero, suc, ◌+◌, ◌-◌, ◌*◌, ◌<◌, ◌≤◌}
use native.Mathlib.Omega.{arith}
use lib.ListN.{length, take, drop}
use lib.Seq.{drop-drop, take_all}
use borrow.Author.Tests.{eq-eqb, ne_eqb}
use Rattle.logic.specs.Tests.{pick}
use Rattle.std.specs.declared.cmp.Ordering.{Ordering}
use Rattle.std.specs.declared.cmp.Ordering.TheVariants.{Less, Equal, Greater}
use Rattle.std.specs.Prelude.{Some, None}
use Rattle.std.specs.Prelude.{Ok, Err}
use Rattle.std.specs.Ordering.{is_lt}
use Rattle.entry.specs.Names.{name_spelt, compare_to, before}
use Rattle.entry.specs.Bytes.{zeros}
use Rattle.points.specs.Stores.{name_at, name_before, rises, entry_of, entries_of, count_from, entry_count, by_order, find_in}
use Rattle.std.specs.List.{between}
use Rattle.entry.proofs.Leaves.{part-next, rest_is}

-- ---- a name after the one before it
pub rises-first : (s : List ℕ) (k : ℕ) → k ≡ 0 → k * 32 + 8 ≤ length s → true ≡ rises s k
unfolding rises before name_before name_at compare_to
rises-first s zero e h = rw (part-next s 8 0 (omega arith) (omega arith))
rises-first s (suc k) e h = absurd (omega arith)

pub rises-at : (s : List ℕ) (k : ℕ) (o : Ordering) → (k ≡ 0 → ⊥) → o ≡ compare_to (take 8 (between ((k - 1) * 32) (length s) s)) (take 8 (between (k * 32) (length s) s)) → is_lt o ≡ rises s k
unfolding rises before name_before name_at
rises-at s zero o n e = absurd (n refl)
rises-at s (suc k) o n e =
    let z : suc k - 1 ≡ k = omega arith in
    ap is_lt (rw (rest_is s ((suc k - 1) * 32), rest_is s (suc k * 32), z) at e)

-- ---- the entries counted
next-piece : (s : List ℕ) (k : ℕ) → drop 32 (drop (k * 32) s) ≡ drop ((k + 1) * 32) s
next-piece s k = let e : k * 32 + 32 ≡ (k + 1) * 32 = omega arith in drop-drop 32 (k * 32) s ∙ ap (λ (i : ℕ). drop i s) e

module _ (s : List ℕ) where
  unfoldable pub Counting : ℕ → Type 0
  Counting k = count_from (32 - k) k (name_before s k) (drop (k * 32) s) ≡ entry_count s

  pub count_long : (length s ≡ 1024 → ⊥) → None ≡ entry_count s
  unfolding entry_count pick
  count_long n = rw (ne_eqb (length s) 1024 n)

  pub count-start : length s ≡ 1024 → Counting 0
  unfolding Counting entry_count pick name_before
  count-start e = rw (eq-eqb (length s) 1024 e)

  module _ (k : ℕ) (h : k < 32) (inv : Counting k) (t : Bool) (ft : t ≡ name_spelt (take 8 (between (k * 32) (length s) s))) where
    et : t ≡ name_spelt (take 8 (drop (k * 32) s))
    et = rw (rest_is s (k * 32)) at ft

    less : 32 - k ≡ suc (32 - (k + 1))
    less = omega arith

    pub count-zero : t ≡ false → (z : Bool) → z ≡ zeros (between (k * 32) (length s) s) → z ≡ true → Some k ≡ entry_count s
    unfolding Counting count_from pick
    count-zero f z ez y = rw (less, ← et, f, ← (rw (rest_is s (k * 32)) at ez), y) at inv

    pub count_none : t ≡ false → (z : Bool) → z ≡ zeros (between (k * 32) (length s) s) → z ≡ false → None ≡ entry_count s
    unfolding Counting count_from pick
    count_none f z ez y = rw (less, ← et, f, ← (rw (rest_is s (k * 32)) at ez), y) at inv

    pub count-fall : t ≡ true → (z : Bool) → z ≡ rises s k → z ≡ false → None ≡ entry_count s
    unfolding Counting count_from pick rises name_at
    count-fall f z ez y = rw (less, ← et, f, ← ez, y) at inv

    pub count_next : t ≡ true → (z : Bool) → z ≡ rises s k → z ≡ true → Counting (k + 1)
    unfolding Counting count_from pick rises name_at name_before
    count_next f z ez y =
        let e : k + 1 ≡ suc k = omega arith in
        let i = rw (less, ← et, f, ← ez, y, next-piece s k) at inv in
        rw e (rw e at i)

  pub count-end : (k : ℕ) → k ≡ 32 → Counting k → Some 32 ≡ entry_count s
  unfolding Counting count_from
  count-end k h inv = rw h at inv

-- ---- a name looked for
module _ (s : List ℕ) (k : ℕ) (n : List ℕ) where
  unfoldable pub Finding : ℕ → Type 0
  Finding i = find_in (entries_of (k - i) (drop (i * 32) s)) i n ≡ find_in (entries_of k s) 0 n

  pub find-start : Finding 0
  unfolding Finding
  find-start = let e : k - 0 ≡ k = omega arith in rw e

  module _ (i : ℕ) (h : i < k) (inv : Finding i) (o : Ordering) (ln : length n ≡ 8) (fo : o ≡ compare_to (take 8 (between (i * 32) (length s) s)) (take 8 n)) where
    eo : o ≡ compare_to (take 8 (drop (i * 32) s)) n
    eo = rw (rest_is s (i * 32), take_all 8 n (omega arith)) at fo

    fewer : k - i ≡ suc (k - (i + 1))
    fewer = omega arith

    pub find-equal : o ≡ Equal → Ok i ≡ find_in (entries_of k s) 0 n
    unfolding Finding find_in entries_of entry_of by_order
    find-equal d = rw (fewer, ← eo, d) at inv

    pub find-greater : o ≡ Greater → Err i ≡ find_in (entries_of k s) 0 n
    unfolding Finding find_in entries_of entry_of by_order
    find-greater d = rw (fewer, ← eo, d) at inv

    pub find-next : o ≡ Less → Finding (i + 1)
    unfolding Finding find_in entries_of entry_of by_order
    find-next d =
        let e : i + 1 ≡ suc i = omega arith in
        let j = rw (fewer, ← eo, d, next-piece s i) at inv in
        rw e (rw e at j)

  pub find-end : (i : ℕ) → i ≡ k → Finding i → Err k ≡ find_in (entries_of k s) 0 n
  unfolding Finding find_in entries_of
  find-end i e inv = let z : k - k ≡ 0 = omega arith in rw (e, z) at inv
