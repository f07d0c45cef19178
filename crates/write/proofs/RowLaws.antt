-- A row of a table tested: what is left to test, from here, gives the final answer; and the answer is that of the definition.
-- One lemma for each way out of the loop and one for its turn; then one for each return of the test of a row.
use mathlib.Core.Path.{◌≡◌, refl, sym, ap, ◌∙◌}
use mathlib.Core.Bool.{Bool, true, false, not}
use mathlib.Core.List.{List, [], ◌∷◌}
use Prim.Native.Nat.{ℕ, zero, suc, ◌+◌, ◌<◌, ◌≤◌}
use native.Mathlib.Nat.{add-zero}
use native.Mathlib.Numerals.{add-one}
use native.Mathlib.Omega.{arith}
use lib.IntN.{ℤ, pos}
use lib.Signed.{mag, le_z}
use lib.ListN.{get_or, drop, take, length, drop_of_length-le, length-drop}
use lib.Seq.{drop-cons, take-take, length-take-le}
use Rattle.std.specs.Prelude.{Result, Ok, Err, ⊤}
use Rattle.logic.specs.Tests.{either, pick, some}
use Rattle.book.specs.declared.Kind.{Kind}
use Rattle.book.specs.declared.Content.{Content}
use Rattle.book.specs.declared.Content.TheVariants.{Edition, Exception}
use Rattle.book.specs.Faults.{number}
use Rattle.book.specs.Kinds.{kind, contents, numbers_of, first, last, range_of}
use Rattle.text.specs.Lines.{inside, and_then, test_field, numbers_in, headless, missing, unless, judged}
use Rattle.text.specs.Lines.Numbers.{numbers, fault}
use Rattle.text.specs.Lines.Line.{line}
use Rattle.text.specs.Tables.{test_fields, row_fault}
use Rattle.text.proofs.KindFacts.{numbers-wide, numbers-fields, numbers-same, heads-in, contents-in, unfilled-some}
use Rattle.fields.specs.declared.Seen.{Seen}
use Rattle.fields.specs.Checks.{number_is, see_of, see_all}
use Rattle.fields.proofs.Columns.{back, back-same}
use Rattle.read.specs.Storing.{none_seen}
use Rattle.read.proofs.LineLaws.{seen-missing}
use Rattle.write.specs.Testing.{test_seen, line_is, row_is}

-- ---- the loop over the fields
module _ (t : List ℤ) (from : ℕ) (cs : List Content) (n m : ℕ) where
  -- What is left, from field i on, after what is seen so far.
  unfoldable pub Rest : ℕ → Seen → Type 0
  Rest i s = test_seen n m (drop i cs) s (drop (from + i) t) ≡ test_seen n m cs (none_seen n) (drop from t)

  pub rest-start : (s : Seen) → s ≡ none_seen n → Rest 0 s
  unfolding Rest
  rest-start s e = rw (add-zero from, e)

  module _ (i : ℕ) (s : Seen) (h : i < length cs) (g : from + i < length t) (inv : Rest i s) (c : Content) (ec : c ≡ get_or cs i Edition) (v : ℤ) (ev : v ≡ get_or t (from + i) (pos 0)) (b : mag v < 2147483648)
      (y : Result ⊤ ℕ) (ey : y ≡ number_is (range_of c n) (back v)) where
    opened : pick (inside (range_of c n) v) (test_seen n m (drop (suc i) cs) (see_of s c m 0 v) (drop (suc (from + i)) t)) (Err (number (range_of c n).fault)) ≡ test_seen n m cs (none_seen n) (drop from t)
    unfolding Rest test_seen
    opened = rw (ec, ev) (rw (drop-cons cs i Edition h, drop-cons t (from + i) (pos 0) g) at inv)

    checked-is : y ≡ number_is (range_of c n) v
    checked-is = ey ∙ ap (number_is (range_of c n)) (back-same v b)

    pub rest-wrong : (q : ℕ) → y ≡ Err q → Err q ≡ test_seen n m cs (none_seen n) (drop from t)
    unfolding number_is pick
    rest-wrong q e = go (inside (range_of c n) v) (sym checked-is ∙ e) opened
      where
        go : (b : Bool) → pick b (Ok (tt {0})) (Err (number (range_of c n).fault)) ≡ Err q
            → pick b (test_seen n m (drop (suc i) cs) (see_of s c m 0 v) (drop (suc (from + i)) t)) (Err (number (range_of c n).fault)) ≡ test_seen n m cs (none_seen n) (drop from t) → Err q ≡ test_seen n m cs (none_seen n) (drop from t)
        go true p r = absurd (let z : ◌≡◌ {A = ℕ} 0 1 = cc in omega arith)
        go false p r = let w : (number (range_of c n).fault) ≡ q = cc in rw (← w) r

    pub rest-next : (r : Seen) → y ≡ Ok tt → r ≡ see_of s c m 0 (back v) → Rest (i + 1) r
    unfolding Rest number_is pick
    rest-next r e f =
        let j : from + (i + 1) ≡ suc (from + i) = omega arith in
        rw (j, add-one i, f, back-same v b) (go (inside (range_of c n) v) (sym checked-is ∙ e) opened)
      where
        go : (b : Bool) → pick b (Ok (tt {0})) (Err (number (range_of c n).fault)) ≡ Ok (tt {0})
            → pick b (test_seen n m (drop (suc i) cs) (see_of s c m 0 v) (drop (suc (from + i)) t)) (Err (number (range_of c n).fault)) ≡ test_seen n m cs (none_seen n) (drop from t)
            → test_seen n m (drop (suc i) cs) (see_of s c m 0 v) (drop (suc (from + i)) t) ≡ test_seen n m cs (none_seen n) (drop from t)
        go true p r = r
        go false p r = absurd (let z : ◌≡◌ {A = ℕ} 0 1 = cc in omega arith)

  pub rest_end : (i : ℕ) (s : Seen) → length cs ≤ i → Rest i s → Ok s ≡ test_seen n m cs (none_seen n) (drop from t)
  unfolding Rest test_seen
  rest_end i s h inv = rw (drop_of_length-le cs {i = i} h) at inv

-- ---- the fields, as the definition tests them
-- Only as many numbers are looked at as there are fields.
seen-take : (n m : ℕ) (cs : List Content) (s : Seen) (vs : List ℤ) → test_seen n m cs s (take (length cs) vs) ≡ test_seen n m cs s vs
unfolding test_seen
seen-take n m [] s vs = refl
seen-take n m (c ∷ cs) s [] = refl
seen-take n m (c ∷ cs) s (v ∷ vs) = rw (seen-take n m cs (see_of s c m 0 v) vs)

and-fault : (v : ℤ) (q : ℕ) → and_then v (fault q) ≡ fault q
unfolding and_then
and-fault v q = refl

and-numbers : (v : ℤ) (vs : List ℤ) → and_then v (numbers vs) ≡ numbers (v ∷ vs)
unfolding and_then
and-numbers v vs = refl

seen-wrong : (n m : ℕ) (cs : List Content) (s : Seen) (vs : List ℤ) (q : ℕ) → length vs ≡ length cs → Err q ≡ test_seen n m cs s vs → test_fields cs n vs ≡ fault q
unfolding test_seen test_fields test_field pick
seen-wrong n m [] s vs q l e = absurd (let z : ◌≡◌ {A = ℕ} 0 1 = cc in omega arith)
seen-wrong n m (c ∷ cs) s [] q l e = absurd (omega arith)
seen-wrong n m (c ∷ cs) s (v ∷ vs) q l e = go (inside (range_of c n) v) e (λ f. seen-wrong n m cs (see_of s c m 0 v) vs q (omega arith) f)
  where
    go : (b : Bool) → Err q ≡ pick b (test_seen n m cs (see_of s c m 0 v) vs) (Err (number (range_of c n).fault)) → (Err q ≡ test_seen n m cs (see_of s c m 0 v) vs → test_fields cs n vs ≡ fault q)
        → pick b (and_then v (test_fields cs n vs)) (fault (number (range_of c n).fault)) ≡ fault q
    go true p ih = rw (ih p) (and-fault v q)
    go false p ih = let w : (number (range_of c n).fault) ≡ q = cc in rw w

seen-right : (n m : ℕ) (cs : List Content) (s : Seen) (vs : List ℤ) (r : Seen) → length vs ≡ length cs → Ok r ≡ test_seen n m cs s vs → (test_fields cs n vs ≡ numbers vs) × (r ≡ see_all s cs m 0 vs)
unfolding test_seen test_fields test_field pick see_all
seen-right n m [] s [] r l e = (refl, cc)
seen-right n m [] s (v ∷ vs) r l e = absurd (omega arith)
seen-right n m (c ∷ cs) s [] r l e = absurd (omega arith)
seen-right n m (c ∷ cs) s (v ∷ vs) r l e = go (inside (range_of c n) v) e (λ f. seen-right n m cs (see_of s c m 0 v) vs r (omega arith) f)
  where
    go : (b : Bool) → Ok r ≡ pick b (test_seen n m cs (see_of s c m 0 v) vs) (Err (number (range_of c n).fault)) → (Ok r ≡ test_seen n m cs (see_of s c m 0 v) vs → (test_fields cs n vs ≡ numbers vs) × (r ≡ see_all (see_of s c m 0 v) cs m 0 vs))
        → (pick b (and_then v (test_fields cs n vs)) (fault (number (range_of c n).fault)) ≡ numbers (v ∷ vs)) × (r ≡ see_all (see_of s c m 0 v) cs m 0 vs)
    go true p ih = let x = ih p in (rw x.0 (and-numbers v vs), x.1)
    go false p ih = absurd (let z : ◌≡◌ {A = ℕ} 0 1 = cc in omega arith)

-- ---- the returns of the test of a row
not_yet : (n : ℕ) (b : Bool) → either (none_seen n).missing b ≡ b
unfolding none_seen either
not_yet n b = refl

-- The row of the kind at place k, from a place of the table on.
abbrev row_at : List ℤ → ℕ → ℕ → List ℤ
row_at t from k = take (kind k).numbers (drop from t)

module _ (t : List ℤ) (from k n m : ℕ) (x : Kind) (ex : x ≡ kind k) (low : first < k) (high : k < last) (g : from + (kind k).numbers ≤ length t) (f : Result Seen ℕ) (ef : f ≡ test_seen n m (numbers_of x) (none_seen n) (drop from t)) where
  wide : length (numbers_of (kind k)) ≡ (kind k).numbers
  wide = numbers-wide k low high

  row-long : length (row_at t from k) ≡ length (numbers_of (kind k))
  row-long = length-take-le (kind k).numbers (drop from t) (rw (length-drop from t) (omega arith)) ∙ sym wide

  seen-is : f ≡ test_seen n m (numbers_of (kind k)) (none_seen n) (row_at t from k)
  seen-is = ef ∙ (ap (λ (y : Kind). test_seen n m (numbers_of y) (none_seen n) (drop from t)) ex ∙ (sym (seen-take n m (numbers_of (kind k)) (none_seen n) (drop from t)) ∙ ap (λ (w : ℕ). test_seen n m (numbers_of (kind k)) (none_seen n) (take w (drop from t))) wide))

  pub row-wrong : (q : ℕ) → f ≡ Err q → Err q ≡ row_is n m k (take (kind k).numbers (drop from t))
  unfolding row_is judged line_is
  row-wrong q e = rw (seen-wrong n m (numbers_of (kind k)) (none_seen n) (row_at t from k) q row-long (sym e ∙ seen-is))

  module _ (s : Seen) (e : f ≡ Ok s) (r : Bool) (er : r ≡ headless x (drop from t)) where
    passed : (test_fields (numbers_of (kind k)) n (row_at t from k) ≡ numbers (row_at t from k)) × (s ≡ see_all (none_seen n) (numbers_of (kind k)) m 0 (row_at t from k))
    passed = seen-right n m (numbers_of (kind k)) (none_seen n) (row_at t from k) s row-long (sym e ∙ seen-is)

    headless-is : r ≡ headless (kind k) (row_at t from k)
    unfolding headless
    headless-is =
        let h : (kind k).heads ≤ (kind k).numbers = omega (arith, heads-in k (omega arith), numbers-fields k low high) in
        er ∙ rw (ex, take-take (kind k).heads (kind k).numbers (drop from t) h)

    missing-is : s.missing ≡ missing m (kind k) (row_at t from k)
    unfolding missing
    missing-is = rw (← numbers-same k low high) (ap (λ (y : Seen). y.missing) passed.1 ∙ none-missing (seen-missing m 0 (numbers_of (kind k)) (row_at t from k) (none_seen n)))
      where
        none-missing : (see_all (none_seen n) (numbers_of (kind k)) m 0 (row_at t from k)).missing ≡ either (none_seen n).missing (some (λ v. not (le_z v (pos m))) (numbers_in Exception (numbers_of (kind k)) (row_at t from k)))
            → (see_all (none_seen n) (numbers_of (kind k)) m 0 (row_at t from k)).missing ≡ some (λ v. not (le_z v (pos m))) (numbers_in Exception (numbers_of (kind k)) (row_at t from k))
        none-missing z = z ∙ not_yet n _

    fault-is : row_is n m k (row_at t from k) ≡ line_is (unless (pick r (number (kind k).unfilled) (pick s.missing 10 0)) (line k (row_at t from k)))
    unfolding row_is judged row_fault
    fault-is = rw (passed.0, headless-is, missing-is)

    some-refusal : (q : ℕ) → 0 < q → Err q ≡ line_is (unless q (line k (row_at t from k)))
    unfolding unless line_is
    some-refusal zero h = absurd (omega arith)
    some-refusal (suc q) h = refl

    pub row-headless : r ≡ true → Err (number x.unfilled) ≡ row_is n m k (take (kind k).numbers (drop from t))
    unfolding pick
    row-headless g = rw ex (some-refusal (number (kind k).unfilled) (unfilled-some k (omega arith)) ∙ sym (fault-is ∙ rw g))

    pub row-missing : r ≡ false → s.missing ≡ true → Err 10 ≡ row_is n m k (take (kind k).numbers (drop from t))
    unfolding pick unless line_is
    row-missing g i = sym (fault-is ∙ rw (g, i))

    pub row_fine : r ≡ false → s.missing ≡ false → Ok tt ≡ row_is n m k (take (kind k).numbers (drop from t))
    unfolding pick unless line_is
    row_fine g i = sym (fault-is ∙ rw (g, i))

-- ---- a kind that was looked up
pub kind-long : (x : Kind) (k : ℕ) → x ≡ kind k → (from l : ℕ) → from + (kind k).numbers ≤ l → from + x.numbers ≤ l
kind-long x k e from l h = rw e h

pub kind-contents : (x : Kind) (k : ℕ) → x ≡ kind k → first < k → k < last → x.from + x.numbers ≤ length contents
kind-contents x k e h g = rw e (omega (arith, contents-in k (omega arith), numbers-fields k h g))

pub kind-heads : (x : Kind) (k : ℕ) → x ≡ kind k → first < k → k < last → x.heads ≤ (kind k).numbers
kind-heads x k e h g = rw e (omega (arith, heads-in k (omega arith), numbers-fields k h g))
