-- Words packed row by row hold the rules of the book, R, O and X lines, and after them its Q lines.
-- Rule k of the book is that of a row of its kind; the loops keep that the first k of a kind are packed.
use mathlib.Core.Path.{◌≡◌, refl, sym, ap, ◌∙◌}
use mathlib.Core.List.{List, [], ◌∷◌, ◌++◌}
use mathlib.Core.Logic.{inr, ⊎_elim}
use Prim.Native.Nat.{ℕ, zero, suc, ◌+◌, ◌-◌, ◌*◌, ◌^◌, ◌<◌, ◌≤◌}
use native.Mathlib.Nat.{mul-le-mul_right}
use native.Mathlib.Omega.{arith}
use lib.IntN.{ℤ}
use lib.ListN.{length, get_or, replicate, length-append, get_or-append}
use lib.Seq.{sets, get_or-append-add}
use borrow.Author.Count.{below_more}
use borrow.Author.Tests.{eq-eqb, ne_eqb}
use Rattle.logic.specs.Tests.{pick}
use Rattle.book.specs.declared.Kind.{Kind}
use Rattle.book.specs.declared.Shape.{Shape}
use Rattle.book.specs.Limits as limit
use Rattle.book.specs.Kinds.{kinds, kind, plain, alternative, exception, conditional, entries_each, heads_each, rule_numbers, alternative_numbers, preference_fields, conditional_numbers}
use Rattle.book.specs.Kinds.{none as all_kinds}
use Rattle.book.specs.Counts.{counts_of, all_counts, count_at, start_of, numbers_each, InLimits}
use Rattle.book.proofs.Counts.{plain_in, alternatives-in, exceptions-in, conditionals-in, sum-up, sum-all, numbers-most}
use Rattle.sets.proofs.Digits.{lt-or-le}
use Rattle.meaning.specs.Rules.{Rule}
use Rattle.meaning.specs.Preferences.{Conditional}
use Rattle.meaning.specs.Meant.{at, number, rule_at, rules_at, condition_at, conditional_at, book_of}
use Rattle.meaning.proofs.Meant.{rules-length, conditionals-count}
use Rattle.masks.specs.declared.Masks.{Masks}
use Rattle.masks.specs.Views.{masks_at, from_at}
use Rattle.bridge.specs.Packed.{Tagged, masks_of, plainly, numbered, rules_of, blank, blank_line, line_of, PacksLines, Packs}
use Rattle.bridge.specs.Rows.{rule_count, RowsLawful}
use Rattle.bridge.proofs.Rows.{names-within, kind-end, conditional-end}
use Rattle.bridge.proofs.Entries.{none-taken}
use Rattle.prepare.specs.Packing.{Readable, LineReadable, own_of, words_of, rule_row, line_row, PackedTo, Blank}
use Rattle.prepare.proofs.Stores.{sets-outside, put-length, put-here, put-before}

-- ---- its own exception
pub own-plain : (q k : ℕ) → (q ≡ exception → ⊥) → own_of q k ≡ 0
unfolding own_of pick
own-plain q k h = rw (ne_eqb q exception h)

pub own-late : (q k : ℕ) → q ≡ exception → own_of q k ≡ 2 ^ k
unfolding own_of pick
own-late q k h = rw (eq-eqb q exception h)

-- ---- words that are zeros
blank-zeros : (n k : ℕ) → Blank (replicate {A = ℕ} n 0) k
blank-zeros n k = record { zeros = λ i h. zero-at n i }
  where
    zero-at : (n i : ℕ) → get_or (replicate {A = ℕ} n 0) i 0 ≡ 0
    zero-at zero i = refl
    zero-at (suc n) zero = refl
    zero-at (suc n) (suc i) = zero-at n i

-- So are the words that a caller lends at first, as many as a book may need.
pub blank-words : Blank (replicate {A = ℕ} ((limit.plain + limit.alternatives + limit.exceptions + limit.conditionals) * 8) 0) 0
blank-words = blank-zeros ((limit.plain + limit.alternatives + limit.exceptions + limit.conditionals) * 8) 0

pub blank-from : (ws : List ℕ) (k m : ℕ) → k ≤ m → Blank ws k → Blank ws m
blank-from ws k m h z = record { zeros = λ i l. z.zeros i (omega arith) }

-- ---- the book's rules by rows
-- A rule by its place among those of a list, plain ones or exceptions.
plainly-at : (rs : List Rule) (k : ℕ) → k < length rs → get_or (plainly rs) k blank ≡ record { own = 0; rule = get_or rs k blank.rule }
unfolding plainly
plainly-at [] k h = absurd (omega arith)
plainly-at (r ∷ rs) zero h = refl
plainly-at (r ∷ rs) (suc k) h = plainly-at rs k (omega arith)

numbered-at : (j : ℕ) (rs : List Rule) (k : ℕ) → k < length rs → get_or (numbered j rs) k blank ≡ record { own = 2 ^ (j + k); rule = get_or rs k blank.rule }
unfolding numbered
numbered-at j [] k h = absurd (omega arith)
numbered-at j (r ∷ rs) zero h = let e : j + 0 ≡ j = omega arith in rw e refl
numbered-at j (r ∷ rs) (suc k) h = let e : j + suc k ≡ suc j + k = omega arith in rw e (numbered-at (suc j) rs k (omega arith))

plainly-length : (rs : List Rule) → length (plainly rs) ≡ length rs
unfolding plainly
plainly-length [] = refl
plainly-length (r ∷ rs) = ap suc (plainly-length rs)

numbered-length : (j : ℕ) (rs : List Rule) → length (numbered j rs) ≡ length rs
unfolding numbered
numbered-length j [] = refl
numbered-length j (r ∷ rs) = ap suc (numbered-length (suc j) rs)

module _ (t : List ℤ) where
  run_at : (h w a m k : ℕ) → k < m → get_or (rules_at h w t a m) k blank.rule ≡ rule_at h t (a + k * w)
  unfolding rules_at
  run_at h w a zero k l = absurd (omega arith)
  run_at h w a (suc m) zero l = let f : a + 0 * w ≡ a = omega arith in rw f refl
  run_at h w a (suc m) (suc k) l = let f : a + suc k * w ≡ a + w + k * w = omega arith in rw f (run_at h w (a + w) m k (omega arith))

  line-in : (a m k : ℕ) → k < m → get_or (conditional_at t a m) k blank_line ≡ condition_at t (a + k * conditional_numbers)
  unfolding conditional_at
  line-in a zero k h = absurd (omega arith)
  line-in a (suc m) zero h = let f : a + 0 * conditional_numbers ≡ a = omega arith in rw f refl
  line-in a (suc m) (suc k) h =
      let f : a + suc k * conditional_numbers ≡ a + conditional_numbers + k * conditional_numbers = omega arith in
      rw f (line-in (a + conditional_numbers) m k (omega arith))

-- ---- all rows packed
module _ (s : Shape) (t : List ℤ) (ws us₁ us₂ us vs : List ℕ) (l : InLimits s) (h : (rule_count s + limit.conditionals) * 8 ≤ length ws) (z : Blank ws (rule_count s * 8))
    (f₁ : PackedTo (rule_row t plain (start_of s plain)) 0 ws us₁ (count_at s plain))
    (f₂ : PackedTo (rule_row t alternative (start_of s alternative)) s.plain us₁ us₂ (count_at s alternative))
    (f₃ : PackedTo (rule_row t exception (start_of s exception)) (s.plain + s.alternatives) us₂ us (count_at s exception))
    (g : PackedTo (line_row t (start_of s conditional)) (rule_count s) us vs s.conditionals) where
  abbrev rs : List Rule
  rs = rules_at 1 rule_numbers t (start_of s plain) s.plain

  abbrev os : List Rule
  os = rules_at heads_each alternative_numbers t (start_of s alternative) s.alternatives

  abbrev xs : List Rule
  xs = rules_at 1 rule_numbers t (start_of s exception) s.exceptions

  -- How many rules stand in each run.
  many-plain : length (plainly (rs ++ os)) ≡ s.plain + s.alternatives
  many-plain = plainly-length (rs ++ os) ∙ length-append rs os
      ∙ (omega (arith, rules-length 1 rule_numbers t (start_of s plain) s.plain, rules-length heads_each alternative_numbers t (start_of s alternative) s.alternatives))

  packs-count : rule_count s ≡ length (rules_of (book_of s t))
  unfolding rules_of book_of
  packs-count =
      omega (arith, many-plain, length-append (plainly (rs ++ os)) (numbered 0 xs), numbered-length 0 xs, rules-length 1 rule_numbers t (start_of s exception) s.exceptions)

  -- Rule k of the book's, by the run that it stands in.
  first_run : (k : ℕ) → k < s.plain → masks_at us k ≡ masks_of (get_or (rules_of (book_of s t)) k blank)
  unfolding rules_of book_of rule_row count_at all_counts counts_of kind kinds
  first_run k m =
      let e : 0 + k ≡ k = omega arith in let p = rules-length 1 rule_numbers t (start_of s plain) s.plain in let q = many-plain in let c = length-append rs os in
      f₃.before k (omega arith) ∙ f₂.before k m ∙ (rw e at (f₁.row k m))
      ∙ ap masks_of (sym (get_or-append (plainly (rs ++ os)) (numbered 0 xs) blank k (omega arith) ∙ plainly-at (rs ++ os) k (omega arith)
      ∙ rw (get_or-append rs os blank.rule k (omega arith), run_at t 1 rule_numbers (start_of s plain) s.plain k m, own-plain plain k (λ x. omega arith)) refl))

  second_run : (k : ℕ) → k < s.alternatives → masks_at us (s.plain + k) ≡ masks_of (get_or (rules_of (book_of s t)) (s.plain + k) blank)
  unfolding rules_of book_of rule_row count_at all_counts counts_of kind kinds
  second_run k m =
      let p = rules-length 1 rule_numbers t (start_of s plain) s.plain in let q = many-plain in let c = length-append rs os in
      let o = rules-length heads_each alternative_numbers t (start_of s alternative) s.alternatives in
      f₃.before (s.plain + k) (omega arith) ∙ f₂.row k m
      ∙ ap masks_of (sym (get_or-append (plainly (rs ++ os)) (numbered 0 xs) blank (s.plain + k) (omega arith) ∙ plainly-at (rs ++ os) (s.plain + k) (omega arith)
      ∙ rw (rw p at (get_or-append-add rs os k blank.rule), run_at t heads_each alternative_numbers (start_of s alternative) s.alternatives k m, own-plain alternative k (λ x. omega arith)) refl))

  third-run : (k : ℕ) → k < s.exceptions → masks_at us (s.plain + s.alternatives + k) ≡ masks_of (get_or (rules_of (book_of s t)) (s.plain + s.alternatives + k) blank)
  unfolding rules_of book_of rule_row count_at all_counts counts_of kind kinds
  third-run k m =
      let o = rules-length 1 rule_numbers t (start_of s exception) s.exceptions in
      f₃.row k m
      ∙ ap masks_of (sym ((rw many-plain at (get_or-append-add (plainly (rs ++ os)) (numbered 0 xs) k blank)) ∙ numbered-at 0 xs k (omega arith)
      ∙ (let e : 0 + k ≡ k = omega arith in rw (run_at t 1 rule_numbers (start_of s exception) s.exceptions k m, own-late exception k refl, e) refl)))

  packs-rules : (k : ℕ) → k < rule_count s → masks_at vs k ≡ masks_of (get_or (rules_of (book_of s t)) k blank)
  packs-rules k m =
      g.before k m ∙ ⊎_elim (λ (x : k < s.plain). first_run k x)
      (λ (x : s.plain ≤ k). ⊎_elim
      (λ (y : k < s.plain + s.alternatives). let e : s.plain + (k - s.plain) ≡ k = omega arith in rw e at (second_run (k - s.plain) (omega arith)))
      (λ (y : s.plain + s.alternatives ≤ k). let e : s.plain + s.alternatives + (k - (s.plain + s.alternatives)) ≡ k = omega arith in
      rw e at (third-run (k - (s.plain + s.alternatives)) (omega arith)))
      (lt-or-le k (s.plain + s.alternatives)))
      (lt-or-le k s.plain)

  line_same : (k : ℕ) → k < s.conditionals → masks_at vs (rule_count s + k) ≡ line_of (get_or (book_of s t).conditional k blank_line)
  unfolding book_of line_row
  line_same k m = g.row k m ∙ ap line_of (sym (line-in t (start_of s conditional) s.conditionals k m))

  no_line : (k : ℕ) → s.conditionals ≤ k → from_at vs (rule_count s) k ≡ 0
  unfolding masks_at count_at all_counts counts_of
  no_line k m = g.after _ (omega arith) ∙ f₃.after _ (omega arith) ∙ f₂.after _ (omega arith) ∙ f₁.after _ (omega arith) ∙ z.zeros _ (omega arith)

  packs-lines : PacksLines (book_of s t) vs (rule_count s)
  packs-lines = let c = conditionals-count s t in let p = f₁.same in let q = f₂.same in let r = f₃.same in let o = g.same in record {
    most = omega (arith, conditionals-in s l);
    room = λ m. omega arith;
    line_at = λ k m. line_same k (omega arith);
    past = λ k m n. no_line k (omega arith);
  }

  pub packs-of : Packs (book_of s t) vs (rule_count s)
  packs-of = record { count = packs-count; rule_at = packs-rules; lines = packs-lines }

-- ---- the loop
-- What the functions ask of a row: the heads and entries of a rule are all that its row has.
fields_fit : (q : ℕ) → plain ≤ q → q ≤ exception → (kind q).heads + (entries_each + entries_each) ≤ (kind q).numbers
unfolding kind kinds
fields_fit zero g h = absurd (omega arith)
fields_fit (suc zero) g h = omega arith
fields_fit (suc (suc zero)) g h = omega arith
fields_fit (suc (suc (suc zero))) g h = omega arith
fields_fit (suc (suc (suc (suc q)))) g h = absurd (omega arith)

row-end : (k m w : ℕ) → k < m → k * w + w ≤ m * w
row-end k m w h = let a : k + 1 ≤ m = omega arith in let b = mul-le-mul_right w a in omega arith

-- Row k of the rules of the kind at place q, as the loop has it: x is the kind, m its count, a where its rows begin.
module _ (s : Shape) (t : List ℤ) (w : RowsLawful s t) (q : ℕ) (g : plain ≤ q) (h : q ≤ exception) (k m a : ℕ) (x : Kind) (em : m ≡ count_at s q) (ea : a ≡ start_of s q) (ex : x ≡ kind q) (l : k < m) where
  in-kind : k < count_at s q
  in-kind = omega (arith, em)

  pub row_small : (k * x.numbers < 1000000) × (a + k * x.numbers < 1000000)
  row_small =
      rw (ex, ea) (let r : start_of s q + k * (kind q).numbers < 1000000 =
      omega (arith, kind-end s q (omega arith), row-end k (count_at s q) (kind q).numbers in-kind, sum-all numbers_each s w.limits, numbers-most) in (omega arith, omega arith))

  pub row-readable : Readable t (a + k * x.numbers) (x.heads + (entries_each + entries_each))
  row-readable = rw (ex, ea) (record {
    room = omega (arith, fields_fit q g h, row-end k (count_at s q) (kind q).numbers in-kind, w.room, kind-end s q (omega arith));
    small = λ i n. let b = w.entries q g h k in-kind i n in let c = w.limits.statements in omega arith;
  })

pub line-readable : (s : Shape) (t : List ℤ) → RowsLawful s t → (k : ℕ) → k < s.conditionals → (z : ℕ) → z ≡ start_of s conditional + k * conditional_numbers → LineReadable t z
line-readable s t w k h z e = rw e (let a = start_of s conditional + k * conditional_numbers in let c : a + 0 ≡ a = omega arith in record {
  upper = names-within s t w (number (at t a)) (rw c at (w.line_names k h 0 (omega arith)));
  lower = names-within s t w (number (at t (a + 1))) (w.line_names k h 1 (omega arith));
  entries = record {
    room = omega (arith, w.room, conditional-end s);
    small = λ i l. let d : a + preference_fields + i ≡ a + (preference_fields + i) = omega arith in
        let q = w.conditions k h (preference_fields + i) (omega arith) (omega arith) in let b = w.limits.statements in rw d (omega arith);
  };
})

pub starts-small : (s : Shape) (t : List ℤ) → RowsLawful s t → (k a : ℕ) → k ≤ all_kinds → a ≡ start_of s k → a < 1000000
starts-small s t w k a h e = omega (arith, e, sum-up numbers_each s k h, sum-all numbers_each s w.limits, numbers-most)

-- How many rules of a kind there are.
pub rule-counts : (s : Shape) (t : List ℤ) → RowsLawful s t → (count_at s plain ≡ s.plain) × (count_at s alternative ≡ s.alternatives) × (count_at s exception ≡ s.exceptions)
unfolding count_at all_counts counts_of
rule-counts s t w = (refl, refl, refl)

pub kind-few : (s : Shape) (t : List ℤ) → RowsLawful s t → (q : ℕ) → plain ≤ q → q ≤ exception → (count_at s q ≤ limit.plain) × (q ≡ exception → count_at s q ≤ limit.exceptions)
unfolding kind kinds
kind-few s t w zero g h = absurd (omega arith)
kind-few s t w (suc zero) g h = (w.limits.counts plain, λ e. absurd (omega arith))
kind-few s t w (suc (suc zero)) g h = (let a = w.limits.counts alternative in omega arith, λ e. absurd (omega arith))
kind-few s t w (suc (suc (suc zero))) g h = (let a = w.limits.counts exception in omega arith, λ e. w.limits.counts exception)
kind-few s t w (suc (suc (suc (suc q)))) g h = absurd (omega arith)

pub rules-few : (s : Shape) (t : List ℤ) → RowsLawful s t → (s.plain ≤ limit.plain) × (s.alternatives ≤ limit.alternatives) × (s.exceptions ≤ limit.exceptions)
rules-few s t w = (plain_in s w.limits, alternatives-in s w.limits, exceptions-in s w.limits)

pub conditionals-few : (s : Shape) (t : List ℤ) → RowsLawful s t → s.conditionals ≤ limit.conditionals
conditionals-few s t w = conditionals-in s w.limits

-- Heads and barred entries take no exception.
pub flat : (x : Tagged) → ((masks_of x).head.taken ≡ 0) × ((masks_of x).bar.taken ≡ 0)
unfolding masks_of
flat x = (none-taken x.rule.heads, none-taken x.rule.body.barred)

-- The two exceptions of a Q line stand in its head, and its barred entries take none.
pub line-flat : (q : Conditional) → ((line_of q).head.taken ≡ 0) × ((line_of q).bar.taken ≡ 0)
unfolding line_of
line-flat q = (refl, none-taken q.body.barred)

-- Row n + k is put.
pub packed-turn : (f : ℕ → Masks) (n k z : ℕ) (old ws us : List ℕ) (x : Masks) → PackedTo f n old ws k → ((f k).head.taken ≡ 0) × ((f k).bar.taken ≡ 0) → x ≡ f k → z ≡ n + k
    → us ≡ sets ws (z * 8) (words_of x) → (n + k) * 8 + 8 ≤ length ws → PackedTo f n old us (k + 1)
unfolding words_of
packed-turn f n k z old ws us x p m g ez eu h = let e : us ≡ sets ws ((n + k) * 8) (words_of x) = rw ez at eu in record {
  same = put-length ws us (n + k) x e ∙ p.same;
  row = below_more _ k (λ j l. rw e (put-before ws (n + k) x (n + j) (omega arith) ∙ p.row j l)) (rw e (put-here ws (n + k) x h (rw g m.0) (rw g m.1) ∙ g));
  before = λ j l. rw e (put-before ws (n + k) x j (omega arith) ∙ p.before j l);
  after = λ i l. rw e (sets-outside ws ((n + k) * 8) (words_of x) i (inr (omega arith)) ∙ p.after i (omega arith));
}
