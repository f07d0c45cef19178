-- The rows of a book as its text's lines, and as its number table's rows: run after the line B with the line Z behind them, they give what
-- the table's test gives. By induction on their kinds, which rise, with what is known of the counts: those so far and those to come.
use mathlib.Core.Path.{◌≡◌, refl, sym, ap, ◌∙◌}
use mathlib.Core.Bool.{Bool, true, false, not}
use mathlib.Core.List.{List, [], ◌∷◌, ◌++◌}
use Prim.Native.Nat.{ℕ, zero, suc, ◌+◌, ◌<◌, ◌≤◌}
use native.Mathlib.Nat.{add-zero}
use native.Mathlib.Omega.{arith}
use lib.Dec.{eqb, leb}
use lib.IntN.{ℤ, pos}
use lib.Signed.{le_z}
use lib.ListN.{length, get_or, take, drop, length-set}
use lib.Seq.{get_or-set_same, get_or-set_other}
use borrow.Author.Tests.{eqb-true, eqb-false, lt-ltb, le-ltb, le-leb, lt-leb, leb-true, leb-false}
use Rattle.logic.specs.Tests.{both, pick, cons_if, some}
use Rattle.book.specs.declared.Kind.{Kind}
use Rattle.book.specs.declared.Shape.{Shape}
use Rattle.book.specs.declared.Content.TheVariants.{Exception, Total}
use Rattle.book.specs.Kinds.{kinds, kind, contents, fields_of, numbers_of, none, first, last, plain, alternative, exception, preference, conditional, row_once, most_rows, range_of}
use Rattle.book.specs.Counts.{counts_of, all_counts, count_at, shape_from, total, InLimits}
use Rattle.book.proofs.Counts.{sum-all}
use Rattle.text.specs.declared.State.{State}
use Rattle.text.specs.Lines.{Numbers, between, inside, and_then, test_field, code, numbers_in, filled_in, headless, missing, miscounted, whole_of, unless, judged}
use Rattle.text.specs.Lines.Numbers.{numbers, fault}
use Rattle.text.specs.Lines.Line.{line}
use Rattle.text.specs.Reading.{Outcome, last_or, after, step, row_of, prepend, shape_of, read_end, on_line}
use Rattle.text.specs.Reading.Outcome.{accepted}
use Rattle.text.specs.Tables.{cut, test_fields, row_fault, test_row, test_rows}
use Rattle.text.specs.Writing.{last_row}
use Rattle.text.proofs.KindFacts.{may-come, row_is, numbers-same, no-statements, no-total, no-exception}
use Rattle.text.proofs.Lines.{run_row}
use Rattle.text.proofs.Texts.{run}
use Rattle.text.proofs.Layouts.{occurs, Rising, occurs-same, occurs-other, occurs-none, occurs-below}

pub few-rows : (s : Shape) → InLimits s → total s ≤ most_rows
unfolding most_rows
few-rows s l = sum-all row_once s l

-- ---- what a row does to the state
pub row-yes : (k : ℕ) → first < k → k < last → (kind k).row ≡ true
unfolding both
row-yes k h g = row_is k (omega arith) ∙ rw (lt-ltb first k h, lt-ltb k last g)

pub row-nums : (k : ℕ) (vs : List ℤ) → first < k → k < last → row_of k vs ≡ vs
unfolding row_of pick
row-nums k vs h g = rw (row-yes k h g)

module _ (st : State) (k : ℕ) (vs : List ℤ) (h : first < k) (g : k < last) where
  pub row_next : (step st k vs).next ≡ k
  unfolding step after pick
  row_next = rw (row-yes k h g)

  pub row-rows : (step st k vs).rows ≡ suc st.rows
  unfolding step pick
  row-rows = rw (row-yes k h g)

  pub row-statements : (step st k vs).statements ≡ st.statements
  unfolding step last_or
  row-statements = rw (no-statements k vs (omega arith) (λ e. omega arith))

pub step-long : (st : State) (k : ℕ) (vs : List ℤ) → length (step st k vs).counts ≡ length st.counts
unfolding step
step-long st k vs = length-set st.counts k (suc (get_or st.counts k 0))

pub step_same : (st : State) (k : ℕ) (vs : List ℤ) → k < length st.counts → get_or (step st k vs).counts k 0 ≡ suc (get_or st.counts k 0)
unfolding step
step_same st k vs h = get_or-set_same st.counts k (suc (get_or st.counts k 0)) 0 h

pub step_other : (st : State) (k : ℕ) (vs : List ℤ) (j : ℕ) → (k ≡ j → ⊥) → get_or (step st k vs).counts j 0 ≡ get_or st.counts j 0
unfolding step
step_other st k vs j f = get_or-set_other st.counts k j (suc (get_or st.counts k 0)) 0 (λ e. f (sym e))

-- One line more so far is one less to come.
pub step-occurs : (st : State) (k : ℕ) (vs : List ℤ) (ks : List ℕ) (j : ℕ) → k < length st.counts → get_or (step st k vs).counts j 0 + occurs j ks ≡ get_or st.counts j 0 + occurs j (k ∷ ks)
step-occurs st k vs ks j h = go (eqb k j) refl
  where
    go : (b : Bool) → eqb k j ≡ b → get_or (step st k vs).counts j 0 + occurs j ks ≡ get_or st.counts j 0 + occurs j (k ∷ ks)
    go true e =
        let q = eqb-true k j e in
        let p : get_or (step st k vs).counts j 0 ≡ suc (get_or st.counts j 0) = rw (← q) (step_same st k vs h) in
        omega (arith, p, occurs-same j k ks q)
    go false e = omega (arith, step_other st k vs j (eqb-false k j e), occurs-other j k ks (eqb-false k j e))

-- ---- rows to come, in a book of shape s
pub record Fits (st : State) (s : Shape) (ks : List ℕ) : Type 0 where
  pub begun : 0 < st.next
  pub not-ended : st.next ≤ last
  pub rising : Rising st.next last ks
  pub long : length st.counts ≡ none
  pub same-n : st.statements ≡ s.statements
  pub counts-are : (k : ℕ) → first < k → k < last → get_or st.counts k 0 + occurs k ks ≡ count_at s k
  pub unclosed : get_or st.counts last 0 ≡ 0
  pub rows_are : st.rows + length ks ≡ total s

pub fits_next : (st : State) (s : Shape) (k : ℕ) (ks : List ℕ) (vs : List ℤ) → Fits st s (k ∷ ks) → Fits (step st k vs) s ks
fits_next st s k ks vs f =
    let p : first < k = omega (arith, f.begun, f.rising.0) in
    let q : k < last = f.rising.1 in
    record {
      begun = rw (row_next st k vs p q) p;
      not-ended = rw (row_next st k vs p q) (omega arith);
      rising = rw (row_next st k vs p q) f.rising.2;
      long = step-long st k vs ∙ f.long;
      same-n = row-statements st k vs p q ∙ f.same-n;
      counts-are = λ j a b. step-occurs st k vs ks j (rw f.long (omega arith)) ∙ f.counts-are j a b;
      unclosed = step_other st k vs last (λ e. omega arith) ∙ f.unclosed;
      rows_are = rw (row-rows st k vs p q) (omega (arith, f.rows_are));
    }

-- ---- a row is refused in a text as it is in a table
no-some : {A : Type 0} (f : A → Bool) (xs : List A) → xs ≡ [] → some f xs ≡ false
unfolding some
no-some f xs e = rw e

module _ (st : State) (s : Shape) (k : ℕ) (ks : List ℕ) (vs : List ℤ) (w : InLimits s) (f : Fits st s (k ∷ ks)) where
  row_low : first < k
  row_low = omega (arith, f.begun, f.rising.0)

  row-known : k < none
  row-known = omega (arith, f.rising.1)

  under-limit : leb (kind k).limit (get_or st.counts k 0) ≡ false
  under-limit =
      lt-leb (kind k).limit (get_or st.counts k 0)
      (omega (arith, w.counts k, f.counts-are k row_low f.rising.1, occurs-same k k ks refl))

  -- The exceptions have all come before the first line that may name one.
  same-missing : missing (get_or st.counts exception 0) (kind k) vs ≡ missing s.exceptions (kind k) vs
  unfolding missing count_at all_counts counts_of
  same-missing = go (leb k exception) refl
    where
      go : (b : Bool) → leb k exception ≡ b
          → some (λ v. not (le_z v (pos (get_or st.counts exception 0)))) (numbers_in Exception (fields_of (kind k)) vs) ≡ some (λ v. not (le_z v (pos s.exceptions))) (numbers_in Exception (fields_of (kind k)) vs)
      go true e =
          let n = no-exception k vs row-known (leb-true k exception e) in
          no-some _ _ n ∙ sym (no-some _ _ n)
      go false e =
          let o = occurs-below k last exception (k ∷ ks) (omega arith, f.rising.1, f.rising.2) (leb-false k exception e) in
          let c : get_or st.counts exception 0 ≡ s.exceptions = omega (arith, f.counts-are exception (omega arith) (omega arith), o) in
          rw c

  no-miscount : miscounted st.rows (kind k) vs ≡ false
  unfolding miscounted
  no-miscount = no-some _ _ (no-total k vs row-known (λ e. omega (arith, f.rising.1)))

  pub same_whole : whole_of st k vs ≡ row_fault s.exceptions (kind k) vs
  unfolding whole_of row_fault pick
  same_whole = rw (under-limit, same-missing, no-miscount)

judged-same : (f g : List ℤ → ℕ) (k : ℕ) (x : Numbers) → ((vs : List ℤ) → f vs ≡ g vs) → judged f k x ≡ judged g k x
unfolding judged
judged-same f g k (numbers vs) h = rw (h vs)
judged-same f g k (fault q) h = refl

-- After a judged line of kind k only what follows a line of that kind matters.
judged-on : (f : List ℤ → ℕ) (k : ℕ) (x : Numbers) (at : ℕ) (a b : ℕ → List ℤ → Outcome) → ((vs : List ℤ) → a k vs ≡ b k vs) → on_line (judged f k x) at a ≡ on_line (judged f k x) at b
unfolding judged unless on_line
judged-on f k (fault q) at a b h = refl
judged-on f k (numbers vs) at a b h = go (f vs)
  where
    go : (q : ℕ) → on_line (unless q (line k vs)) at a ≡ on_line (unless q (line k vs)) at b
    go zero = ap (prepend (row_of k vs)) (h vs)
    go (suc q) = refl

row-run : (st : State) (s : Shape) (k : ℕ) (ks : List ℕ) (vs : List ℤ) → InLimits s → Fits st s (k ∷ ks) → run_row st k vs ≡ test_row s (record { place = k; nums = vs })
unfolding run_row test_row pick
row-run st s k ks vs w f =
    rw (may-come st.next k f.begun f.rising.0 (omega (arith, f.rising.1)), numbers-same k (omega (arith, f.begun, f.rising.0)) f.rising.1)
    (judged-same (whole_of st k) (row_fault s.exceptions (kind k)) k (test_fields (fields_of (kind k)) st.statements vs) (λ us. same_whole st s k ks us w f)
    ∙ ap (λ (n : ℕ). judged (row_fault s.exceptions (kind k)) k (test_fields (fields_of (kind k)) n vs)) f.same-n)

-- ---- the line Z
z-fields : (n m : ℕ) → m ≤ most_rows → test_fields (fields_of (kind last)) n (pos m ∷ []) ≡ numbers (pos m ∷ [])
unfolding test_fields test_field fields_of contents kind kinds range_of inside between both pick and_then
z-fields n m h = rw (le-leb 0 m (omega arith), le-leb m most_rows h)

z-limit : (kind last).limit ≡ 1
unfolding kind kinds
z-limit = refl

-- A kind that asks for no head lacks none.
pub no-heads : (x : Kind) (vs : List ℤ) → x.filled ≡ 0 → headless x vs ≡ false
unfolding headless
no-heads x vs e = le-ltb (filled_in (take x.heads vs)) x.filled (omega arith)

pub ends-unfilled : ((kind first).filled ≡ 0) × ((kind last).filled ≡ 0)
unfolding kind kinds
ends-unfilled = (refl, refl)

z-missing : (m n : ℕ) → missing m (kind last) (pos n ∷ []) ≡ false
unfolding missing numbers_in code cons_if some fields_of contents kind kinds
z-missing m n = refl

some_one : {A : Type 0} (f : A → Bool) (x : A) → some f (x ∷ []) ≡ f x
unfolding some
some_one f x = go (f x)
  where
    go : (b : Bool) → elim b [ true ↦ true | false ↦ false ] ≡ b
    go true = refl
    go false = refl

z-numbers : (v : ℤ) → numbers_in Total (fields_of (kind last)) (v ∷ []) ≡ v ∷ []
unfolding numbers_in code cons_if fields_of contents kind kinds
z-numbers v = refl

pub z-miscounted : (m : ℕ) (v : ℤ) → miscounted m (kind last) (v ∷ []) ≡ not (between (pos m) (pos m) v)
unfolding miscounted
z-miscounted m v = rw (z-numbers v) (some_one (λ u. not (between (pos m) (pos m) u)) v)

z-counted : (m : ℕ) → miscounted m (kind last) (pos m ∷ []) ≡ false
unfolding between both
z-counted m = z-miscounted m (pos m) ∙ rw (le-leb m m (omega arith))

z-whole : (st : State) → get_or st.counts last 0 ≡ 0 → whole_of st last (pos st.rows ∷ []) ≡ 0
unfolding whole_of pick
z-whole st e = rw (no-heads (kind last) (pos st.rows ∷ []) ends-unfilled.1, z-missing (get_or st.counts exception 0) st.rows, z-counted st.rows, e, z-limit)

z-judged : (f : List ℤ → ℕ) (vs : List ℤ) → f vs ≡ 0 → judged f last (numbers vs) ≡ line last vs
unfolding judged unless
z-judged f vs e = rw e

z-row : (st : State) → 0 < st.next → st.next ≤ last → get_or st.counts last 0 ≡ 0 → st.rows ≤ most_rows → run_row st last (pos st.rows ∷ []) ≡ line last (pos st.rows ∷ [])
unfolding run_row pick
z-row st b e o h =
    rw (may-come st.next last b e (omega arith), z-fields st.statements st.rows h) (z-judged (whole_of st last) (pos st.rows ∷ []) (z-whole st o))

pub z-statements : (st : State) (vs : List ℤ) → (step st last vs).statements ≡ st.statements
unfolding step last_or
z-statements st vs = rw (no-statements last vs (omega arith) (λ e. omega arith))

-- The shape at the end is the one that was to come.
end-shape : (st : State) (s : Shape) (vs : List ℤ) → Fits st s [] → shape_of (step st last vs) ≡ s
unfolding shape_from count_at all_counts counts_of
end-shape st s vs f =
    λ i. record {
      statements = same-n i;
      plain = count plain (omega arith) (omega arith) i;
      exceptions = count exception (omega arith) (omega arith) i;
      preferences = count preference (omega arith) (omega arith) i;
      conditionals = count conditional (omega arith) (omega arith) i;
      alternatives = count alternative (omega arith) (omega arith) i;
    }
  where
    same-n : (step st last vs).statements ≡ s.statements
    same-n = z-statements st vs ∙ f.same-n

    count : (k : ℕ) → first < k → k < last → get_or (step st last vs).counts k 0 ≡ count_at s k
    count k a b = step_other st last vs k (λ e. omega arith) ∙ (sym (add-zero _) ∙ (ap (λ (m : ℕ). get_or st.counts k 0 + m) (sym (occurs-none k)) ∙ f.counts-are k a b))

end-run : (st : State) (vs : List ℤ) (at : ℕ) → read_end (step st last vs) at ≡ accepted (shape_of (step st last vs)) []
unfolding read_end step after kind kinds pick
end-run st vs at = refl

pub z-nums : (vs : List ℤ) → row_of last vs ≡ []
unfolding row_of kind kinds pick
z-nums vs = refl

-- ---- all the rows to come, and Z
pub run-rows : (ks : List ℕ) (ws : List ℤ) (st : State) (s : Shape) (at : ℕ) → InLimits s → Fits st s ks → run (cut ks ws ++ (last_row (total s) ∷ [])) st at ≡ test_rows s (cut ks ws) at
unfolding cut run test_rows test_row last_row on_line prepend
run-rows [] ws st s at w f =
    let m : total s ≡ st.rows = omega (arith, f.rows_are) in
    rw (m, z-row st f.begun f.not-ended f.unclosed (rw (← m) (few-rows s w)), end-run st (pos st.rows ∷ []) (suc at), end-shape st s (pos st.rows ∷ []) f, z-nums (pos st.rows ∷ []))
run-rows (k ∷ ks) ws st s at w f =
    rw (row-run st s k ks (take (kind k).numbers ws) w f)
    (judged-on (row_fault s.exceptions (kind k)) k (test_fields (numbers_of (kind k)) s.statements (take (kind k).numbers ws)) at
    (λ j vs. run (cut ks (drop (kind k).numbers ws) ++ (last_row (total s) ∷ [])) (step st j vs) (suc at))
    (λ j vs. test_rows s (cut ks (drop (kind k).numbers ws)) (suc at))
    (λ vs. run-rows ks (drop (kind k).numbers ws) (step st k vs) s (suc at) w (fits_next st s k ks vs f)))
