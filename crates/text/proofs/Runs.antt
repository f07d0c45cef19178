-- The lines of an accepted book are those of its shape and rows: B, the rows in the layout of the counts, Z; and no count is over its limit.
-- By induction on the lines after B: the kinds of the rows to come rise, and each occurs as often as the counts grow.
use mathlib.Core.Path.{◌≡◌, refl, sym, ap, ◌∙◌}
use mathlib.Core.Bool.{Bool, true, false}
use mathlib.Core.List.{List, [], ◌∷◌, ◌++◌}
use Prim.Native.Nat.{ℕ, zero, suc, ◌+◌, ◌<◌, ◌≤◌}
use native.Mathlib.Nat.{add-zero}
use native.Mathlib.Omega.{arith}
use lib.Dec.{eqb, ltb, leb}
use lib.IntN.{ℤ, pos, negsuc}
use lib.Signed.{le_z}
use lib.ListN.{length, get_or, length-append}
use lib.Seq.{take_at, drop_at}
use borrow.Author.Tests.{eqb-true, eqb-false, eq-eqb, ne_eqb, ltb-true, ltb-false, leb-true, leb-false, not-false}
use Rattle.logic.specs.Tests.{pick}
use Rattle.logic.proofs.Decide.{clash}
use Rattle.book.specs.declared.Shape.{Shape}
use Rattle.book.specs.Faults.{number}
use Rattle.book.specs.Kinds.{kinds, kind, contents, fields_of, none, first, last, exception}
use Rattle.book.specs.Counts.{counts_of, all_counts, count_at, shape_from}
use Rattle.text.specs.declared.State.{State}
use Rattle.text.specs.Lines.{between, headless, missing, miscounted, whole_of}
use Rattle.text.specs.Reading.{after, step, row_of, shape_of, read_end}
use Rattle.text.specs.Reading.Outcome.{accepted, refused}
use Rattle.text.specs.Tables.{Row, cut}
use Rattle.text.specs.Writing.{last_row}
use Rattle.logic.proofs.Tests.{both_left, both_right}
use Rattle.text.proofs.KindFacts.{known, not-before, width_is, over-some, unfilled-some, numbers-fields}
use Rattle.text.proofs.Lines.{run_row, Passed, row-passed}
use Rattle.text.proofs.Texts.{run, went}
use Rattle.text.proofs.Layouts.{occurs, Rising, occurs-none, sum_by, widths}
use Rattle.text.proofs.Rows.{row_next, row-rows, row-statements, row-nums, step-long, step_same, step_other, step-occurs, z-miscounted, z-statements, z-nums}

-- ---- what a line that passed shows
whole_parts : (st : State) (k : ℕ) (vs : List ℤ) → k < none → whole_of st k vs ≡ 0 → (get_or st.counts k 0 < (kind k).limit) × (miscounted st.rows (kind k) vs ≡ false)
unfolding whole_of pick
whole_parts st k vs h e =
    go (leb (kind k).limit (get_or st.counts k 0)) (headless (kind k) vs) (missing (get_or st.counts exception 0) (kind k) vs) (miscounted st.rows (kind k) vs) refl refl e
  where
    go : (a b c d : Bool) → leb (kind k).limit (get_or st.counts k 0) ≡ a → miscounted st.rows (kind k) vs ≡ d → ◌≡◌ {A = ℕ} (pick a (number (kind k).over) (pick b (number (kind k).unfilled) (pick c 10 (pick d 11 0)))) 0
        → (get_or st.counts k 0 < (kind k).limit) × (miscounted st.rows (kind k) vs ≡ false)
    go true b c d p q e = absurd (omega (arith, over-some k h))
    go false true c d p q e = absurd (omega (arith, unfilled-some k h))
    go false false true d p q e = absurd (omega arith)
    go false false false true p q e = absurd (omega arith)
    go false false false false p q e = (leb-false (kind k).limit (get_or st.counts k 0) p, q)

pub le_antisym : (v : ℤ) (m : ℕ) → le_z v (pos m) ≡ true → le_z (pos m) v ≡ true → v ≡ pos m
le_antisym (pos a) m e f = ap pos (omega (arith, leb-true a m e, leb-true m a f))
le_antisym (negsuc a) m e f = absurd (clash f)

pub between-same : (m : ℕ) (v : ℤ) → between (pos m) (pos m) v ≡ true → v ≡ pos m
unfolding between
between-same m v e = le_antisym v m (both_right (le_z (pos m) v) (le_z v (pos m)) e) (both_left (le_z (pos m) v) (le_z v (pos m)) e)

z-wide : length (fields_of (kind last)) ≡ 1
unfolding fields_of contents kind kinds
z-wide = refl

one_number : (vs : List ℤ) (m : ℕ) → length vs ≡ 1 → miscounted m (kind last) vs ≡ false → vs ≡ pos m ∷ []
one_number [] m e f = absurd (omega arith)
one_number (v ∷ []) m e f = rw (between-same m v (not-false (between (pos m) (pos m) v) (sym (z-miscounted m v) ∙ f)))
one_number (v ∷ w ∷ vs) m e f = absurd (omega arith)

-- ---- after Z, nothing
closed : (rs : List Row) (st : State) (at : ℕ) (s : Shape) (ws : List ℤ) → st.next ≡ none → run rs st at ≡ accepted s ws → (rs ≡ []) × (s ≡ shape_of st) × (ws ≡ [])
unfolding run read_end pick
closed [] st at s ws n e = let q : accepted (shape_of st) [] ≡ accepted s ws = rw (eq-eqb st.next none n) at e in (refl, cc, cc)
closed (r ∷ rs) st at s ws n e =
    let w = went (run_row st r.place r.nums) at (λ k vs. run rs (step st k vs) (suc at)) s ws e in
    let p = (row-passed st r.place r.nums w.k w.vs w.is).placed in
    absurd (omega (arith, not-before st.next w.k p, known st.next w.k p))

z-next : (st : State) (vs : List ℤ) → (step st last vs).next ≡ none
unfolding step after kind kinds pick
z-next st vs = refl

z-count : (st : State) (vs : List ℤ) (k : ℕ) → k < last → get_or (step st last vs).counts k 0 ≡ get_or st.counts k 0
z-count st vs k h = step_other st last vs k (λ e. omega arith)

-- The counts of a state, as a shape has them.
shape-counts : (st : State) (k : ℕ) → first < k → k < last → count_at (shape_of st) k ≡ get_or st.counts k 0
unfolding count_at all_counts counts_of shape_from
shape-counts st zero h g = absurd (omega arith)
shape-counts st (suc zero) h g = refl
shape-counts st (suc (suc zero)) h g = refl
shape-counts st (suc (suc (suc zero))) h g = refl
shape-counts st (suc (suc (suc (suc zero)))) h g = refl
shape-counts st (suc (suc (suc (suc (suc zero))))) h g = refl
shape-counts st (suc (suc (suc (suc (suc (suc k)))))) h g = absurd (omega arith)

-- ---- the lines after B
pub record Form (st : State) (s : Shape) (rs : List Row) (ws : List ℤ) : Type 0 where
  pub ks : List ℕ
  pub rising : Rising st.next last ks
  pub rows_are : rs ≡ cut ks ws ++ (last_row (st.rows + length ks) ∷ [])
  pub size : length ws ≡ widths ks
  pub same-n : s.statements ≡ st.statements
  pub counts-are : (k : ℕ) → first < k → k < last → get_or st.counts k 0 + occurs k ks ≡ count_at s k
  pub few : (k : ℕ) → first < k → k < last → get_or st.counts k 0 ≤ (kind k).limit → count_at s k ≤ (kind k).limit

cut-first : (k : ℕ) (ks : List ℕ) (vs us : List ℤ) → length vs ≡ (kind k).numbers → cut (k ∷ ks) (vs ++ us) ≡ record { place = k; nums = vs } ∷ cut ks us
unfolding cut
cut-first k ks vs us e = rw (take_at vs us (kind k).numbers e, drop_at vs us (kind k).numbers e)

widths-more : (k : ℕ) (ks : List ℕ) → widths (k ∷ ks) ≡ (kind k).numbers + widths ks
unfolding sum_by
widths-more k ks = refl

cut-none : (ws : List ℤ) → cut [] ws ≡ []
unfolding cut
cut-none ws = refl

widths-none : widths [] ≡ 0
unfolding sum_by
widths-none = refl

-- A row before lines of such a form.
form-row : (st : State) (s : Shape) (k : ℕ) (vs us : List ℤ) (rs : List Row) → first < k → k < last → st.next ≤ k → length st.counts ≡ none → length vs ≡ (kind k).numbers → get_or st.counts k 0 < (kind k).limit
    → Form (step st k vs) s rs us → Form st s (record { place = k; nums = vs } ∷ rs) (vs ++ us)
form-row st s k vs us rs h g p l w u f =
    record {
      ks = k ∷ f.ks;
      rising = (p, g, rw (row_next st k vs h g) at f.rising);
      rows_are =
          (let m : (step st k vs).rows + length f.ks ≡ st.rows + suc (length f.ks) = rw (row-rows st k vs h g) (omega arith) in
          rw (cut-first k f.ks vs us w) (ap (λ (t : List Row). record { place = k; nums = vs } ∷ t) (f.rows_are ∙ ap (λ (n : ℕ). cut f.ks us ++ (last_row n ∷ [])) m)));
      size = length-append vs us ∙ (rw (widths-more k f.ks, w, f.size));
      same-n = f.same-n ∙ row-statements st k vs h g;
      counts-are = λ j a b. sym (step-occurs st k vs f.ks j (rw l (omega arith))) ∙ f.counts-are j a b;
      few = λ j a b c. f.few j a b (under j c (eqb k j) refl);
    }
  where
    under : (j : ℕ) → get_or st.counts j 0 ≤ (kind j).limit → (b : Bool) → eqb k j ≡ b → get_or (step st k vs).counts j 0 ≤ (kind j).limit
    under j c true e = let q = eqb-true k j e in rw (← q) (omega (arith, u, step_same st k vs (rw l (omega arith))))
    under j c false e = omega (arith, step_other st k vs j (eqb-false k j e))

form-last : (st : State) (s : Shape) (vs us : List ℤ) (rs : List Row) → st.next ≤ last → vs ≡ pos st.rows ∷ [] → rs ≡ [] → s ≡ shape_of (step st last vs) → us ≡ []
    → s.statements ≡ st.statements → Form st s (record { place = last; nums = vs } ∷ rs) us
unfolding last_row
form-last st s vs us rs p a b c d n =
    record {
      ks = [];
      rising = tt;
      rows_are = rw (cut-none us, add-zero st.rows, a, b);
      size = rw (d, widths-none);
      same-n = n;
      counts-are = λ k h g. rw (occurs-none k, add-zero (get_or st.counts k 0), c) (sym (shape-counts (step st last vs) k h g ∙ z-count st vs k g));
      few = λ k h g u. rw (c, shape-counts (step st last vs) k h g, z-count st vs k g) u;
    }

end-statements : (st : State) (vs : List ℤ) → (shape_of (step st last vs)).statements ≡ st.statements
unfolding shape_from
end-statements st vs = z-statements st vs

row_is : (r : Row) (k : ℕ) (vs : List ℤ) → r.place ≡ k → r.nums ≡ vs → r ≡ record { place = k; nums = vs }
row_is r k vs e f = λ i. record { place = e i; nums = f i }

-- The first line of the rest, a row or Z, and the rest of the lines.
form-next : (st : State) (s : Shape) (r : Row) (rs : List Row) (ws us : List ℤ) (k : ℕ) (vs : List ℤ) (at : ℕ) → 0 < st.next → length st.counts ≡ none → Passed st r.place r.nums k vs
    → ws ≡ row_of k vs ++ us → run rs (step st k vs) at ≡ accepted s us → (k < last → Form (step st k vs) s rs us) → Form st s (r ∷ rs) ws
form-next st s r rs ws us k vs at b l p e t ih = go (ltb k last) refl
  where
    in_place : st.next ≤ k
    in_place = not-before st.next k p.placed

    here : r ≡ record { place = k; nums = vs }
    here = row_is r k vs p.kind-is p.nums-are

    wide : length vs ≡ (kind k).fields
    wide = p.wide ∙ width_is k (known st.next k p.placed)

    as_row : k < last → Form st s (record { place = k; nums = vs } ∷ rs) ws
    as_row h =
        rw (e, row-nums k vs (omega (arith, in_place)) h)
        (form-row st s k vs us rs (omega (arith, in_place)) h in_place l (wide ∙ sym (numbers-fields k (omega (arith, in_place)) h)) (whole_parts st k vs (known st.next k p.placed) p.right).0 (ih h))

    as-last : k ≡ last → run rs (step st last vs) at ≡ accepted s us → vs ≡ pos st.rows ∷ [] → ws ≡ row_of last vs ++ us → Form st s (record { place = last; nums = vs } ∷ rs) ws
    as-last q t v f =
        let c = closed rs (step st last vs) at s us (z-next st vs) t in
        form-last st s vs ws rs (omega (arith, in_place)) v c.0 c.1 (f ∙ rw (c.2, z-nums vs)) (ap (λ (x : Shape). x.statements) c.1 ∙ end-statements st vs)

    go : (t : Bool) → ltb k last ≡ t → Form st s (r ∷ rs) ws
    go true x = rw here (as_row (ltb-true k last x))
    go false x =
        let q : k ≡ last = omega (arith, ltb-false k last x, known st.next k p.placed) in
        let v : vs ≡ pos st.rows ∷ [] = one_number vs st.rows (rw q at p.wide ∙ z-wide) (rw q at (whole_parts st k vs (known st.next k p.placed) p.right).1) in
        rw (here, q) (as-last q (rw q at t) v (rw q at e))

pub formed : (rs : List Row) (st : State) (at : ℕ) (s : Shape) (ws : List ℤ) → 0 < st.next → st.next ≤ last → length st.counts ≡ none → run rs st at ≡ accepted s ws → Form st s rs ws
unfolding run read_end pick
formed [] st at s ws b h l e =
    absurd (let q : refused 3 at ≡ accepted s ws = rw (ne_eqb st.next none (λ z. omega arith)) at e in let z : ◌≡◌ {A = ℕ} 0 1 = cc in omega arith)
formed (r ∷ rs) st at s ws b h l e =
    let w = went (run_row st r.place r.nums) at (λ k vs. run rs (step st k vs) (suc at)) s ws e in
    let p = row-passed st r.place r.nums w.k w.vs w.is in
    let i = not-before st.next w.k p.placed in
    form-next st s r rs ws w.us w.k w.vs (suc at) b l p w.all w.then
    (λ g. formed rs (step st w.k w.vs) (suc at) s w.us (rw (row_next st w.k w.vs (omega (arith, i)) g) (omega (arith, i))) (rw (row_next st w.k w.vs (omega (arith, i)) g) (omega arith)) (step-long st w.k w.vs ∙ l) w.then)
