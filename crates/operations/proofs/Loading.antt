-- A parsed text is loaded: an accepted book's facts are what packing its rules, its Q lines and its preferences ask of its rows.
use mathlib.Core.Path.{◌≡◌, refl, sym}
use mathlib.Core.List.{List}
use Prim.Native.Nat.{ℕ, zero, suc, ◌+◌, ◌*◌, ◌^◌, ◌<◌, ◌≤◌}
use native.Mathlib.Omega.{arith}
use lib.IntN.{ℤ, nat_abs}
use lib.ListN.{length, take, length-take}
use lib.Seq.{length-take-le}
use Rattle.book.specs.declared.Shape.{Shape}
use Rattle.book.specs.Kinds.{kinds, kind, entries_each, plain, alternative, exception, preference, conditional, preference_numbers, conditional_numbers}
use Rattle.book.specs.Counts.{counts_of, all_counts, count_at, start_of, row_numbers, InLimits}
use Rattle.text.specs.declared.Refusal.{Refusal}
use Rattle.text.specs.Accepted.{Accepted as Facts}
use Rattle.text.proofs.Facts.{plain-rules, alternative-rules, exception-rules, entry-small, Named, preference-named, conditional-named, conditional-small}
use Rattle.read.specs.Storing.{outcome_of}
use Rattle.read.specs.Parsing.{Parsing}
use Rattle.meaning.specs.Meant.{at, number as number_at, book_of}
use Rattle.bridge.specs.Packed.{Packs}
use Rattle.bridge.specs.Ranks.{Names, RanksOf}
use Rattle.bridge.specs.Rows.{rule_count, RowsLawful}
use Rattle.std.specs.Prelude.{Result, Ok, Err}
use Rattle.sets.specs.declared.Pair.{Pair}
use Rattle.lawful.specs.declared.Unlawful.{Unlawful}
use Rattle.lawful.specs.Refusals.{Refuses, number}
use Rattle.lawful.proofs.Tests.{numbered}
use Rattle.text.specs.Reading.{refusal}
use Rattle.meaning.specs.Twins.Verdicts.{pair_refusal}
use Rattle.meaning.proofs.Meant.{exceptions-count}
use Rattle.meaning.proofs.Refusals.{none-lawful}
use Rattle.operations.specs.Loads.{Loads, LoadsFor, Filled}
use Rattle.operations.specs.Loads.RefusedFor.{by_pair}

-- The facts of an accepted book, row by row. The rules are the rows of R, O and X lines.
entries-lawful : (s : Shape) (ws : List ℤ) → Facts s ws → (q : ℕ) → plain ≤ q → q ≤ exception → (k : ℕ) → k < count_at s q → (i : ℕ) → i < (kind q).heads + (entries_each + entries_each)
    → nat_abs (at ws (start_of s q + k * (kind q).numbers + i)) ≤ s.statements
unfolding kind kinds
entries-lawful s ws f zero g h k l i m = absurd (omega arith)
entries-lawful s ws f (suc zero) g h k l i m = entry-small s ws f plain plain-rules k i l m
entries-lawful s ws f (suc (suc zero)) g h k l i m = entry-small s ws f alternative alternative-rules k i l m
entries-lawful s ws f (suc (suc (suc zero))) g h k l i m = entry-small s ws f exception exception-rules k i l m
entries-lawful s ws f (suc (suc (suc (suc q)))) g h k l i m = absurd (omega arith)

names-own : (m : ℕ) (v : ℤ) → Named m v → Names m (number_at v)
unfolding number_at
names-own m v n = rw n.is (record { from_one = n.low; most = n.high })

module _ (s : Shape) (ws : List ℤ) (f : Facts s ws) where
  names-lawful : (k : ℕ) → k < s.preferences → (i : ℕ) → i < preference_numbers → Names s.exceptions (number_at (at ws (start_of s preference + k * preference_numbers + i)))
  unfolding count_at all_counts counts_of
  names-lawful k h i l = names-own _ _ (preference-named s ws f k i h l)

  line-names-lawful : (k : ℕ) → k < s.conditionals → (i : ℕ) → i < preference_numbers → Names s.exceptions (number_at (at ws (start_of s conditional + k * conditional_numbers + i)))
  unfolding count_at all_counts counts_of
  line-names-lawful k h i l = names-own _ _ (conditional-named s ws f k i h l)

  conditions-lawful : (k : ℕ) → k < s.conditionals → (i : ℕ) → preference_numbers ≤ i → i < conditional_numbers → nat_abs (at ws (start_of s conditional + k * conditional_numbers + i)) ≤ s.statements
  unfolding count_at all_counts counts_of
  conditions-lawful k h i b l = conditional-small s ws f k i h b l

  pub lawful-rows : RowsLawful s ws
  lawful-rows = record {
    limits = f.limits;
    room = rw f.size (omega arith);
    entries = entries-lawful s ws f;
    names = names-lawful;
    conditions = conditions-lawful;
    line_names = line-names-lawful;
  }

-- The same of the front of a slice that has them.
module _ (s : Shape) (rows : List ℤ) (m : ℕ) (e : m ≡ row_numbers s) (f : Facts s (take (row_numbers s) rows)) where
  pub front_long : m ≡ length (take m rows)
  front_long = sym (length-take-le m rows (omega (arith, e, f.size, length-take (row_numbers s) rows)))

  pub front-lawful : RowsLawful s (take m rows)
  front-lawful = rw e (lawful-rows s (take (row_numbers s) rows) f)

  pub front-filled : (ws ranks : List ℕ) → Packs (book_of s (take m rows)) ws (rule_count s) → RanksOf (book_of s (take m rows)) ranks → Filled s (take (row_numbers s) rows) ws ranks
  front-filled ws ranks p k = record { packs = rw e at p; ranked = rw e at k }

module _ (bs : List ℕ) (r : Result Shape Refusal) (l : List ℤ) (p : Parsing bs r l) where
  pub loads-refused : (q : Refusal) → r ≡ Err q → (ws ranks : List ℕ) → Loads bs (Err q) ws ranks
  unfolding outcome_of
  loads-refused q e ws ranks = sym (rw e at p.is)

  pub loads-accepted : (s : Shape) → r ≡ Ok s → (ws ranks : List ℕ) → Filled s (take (row_numbers s) l) ws ranks → Loads bs (Ok s) ws ranks
  unfolding outcome_of
  loads-accepted s e ws ranks k =
      let f = p.facts s e in
      (take (row_numbers s) l, sym (rw e at p.is), record { packs = k.packs; ranked = k.ranked; limits = f.limits })

-- A loaded book's shape is in the limits.
pub loaded-small : (bs : List ℕ) (s : Shape) (ws ranks : List ℕ) → Loads bs (Ok s) ws ranks → InLimits s
loaded-small bs s ws ranks d = d.2.limits

-- ---- the pair
-- What the test of a pair says of the book with these rows.
refusal-is : (s : Shape) (rows : List ℤ) (p : Pair) (k : ℕ) → Refuses s.statements s.exceptions p k → k ≡ pair_refusal (book_of s rows) p
unfolding book_of
refusal-is s rows p k c = c.refusal (book_of s rows) refl (exceptions-count s rows)

module _ (bs : List ℕ) (s : Shape) (p : Pair) (ws ranks : List ℕ) (d : Loads bs (Ok s) ws ranks) where
  pub refused-for : (u : Unlawful) → Refuses s.statements s.exceptions p (number u) → LoadsFor bs p (Err (refusal (number u) 0)) ws ranks
  refused-for u c = by_pair s d.0 d.1 (refusal-is s d.0 p (number u) c) (numbered u) refl

  pub lawful-for : Refuses s.statements s.exceptions p 0 → LoadsFor bs p (Ok s) ws ranks
  lawful-for c = (d.0, d.1, d.2, none-lawful (book_of s d.0) p (sym (refusal-is s d.0 p 0 c)))

-- A lawful pair takes exceptions of the book.
pub few-taken : (bs : List ℕ) (s : Shape) (p : Pair) (ws ranks : List ℕ) → LoadsFor bs p (Ok s) ws ranks → InLimits s × (p.taken < 2 ^ s.exceptions)
few-taken bs s p ws ranks d = (d.2.limits, rw (exceptions-count s d.0) at d.3.exceptions)
