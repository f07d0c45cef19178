-- The test of a table: what each return of its functions is by the definition.
-- Rows of one kind: what is left to test, from here, gives the final answer, whatever rows follow; then kind after kind.
use mathlib.Core.Path.{◌≡◌, refl, sym, ap, ◌∙◌}
use mathlib.Core.Bool.{Bool, true, false, not, ◌&&◌, ◌||◌}
use mathlib.Core.List.{List, [], ◌∷◌, ◌++◌, map}
use Prim.Native.Nat.{ℕ, zero, suc, ◌+◌, ◌-◌, ◌*◌, ◌<◌, ◌≤◌}
use native.Mathlib.Nat.{add-zero, suc-mul, zero-mul}
use native.Mathlib.Numerals.{add-one}
use native.Mathlib.Omega.{arith}
use lib.Dec.{eqb, ltb}
use lib.IntN.{ℤ, pos}
use lib.Signed.{mag, lt_z, le_z}
use lib.ListN.{get_or, drop, take, set, length, replicate, length-set, length-map, drop_of_length-le}
use lib.Seq.{drop-cons, drop-drop, ext_get_or, get_or-set_same, get_or-set_other}
use mir.Syntax.{w32}
use mir.Val.{SFits}
use mir.Facts.{to_z-of_z}
use borrow.Author.Tests.{lt-ltb, le-ltb, eqb-true, eqb-false, eq-eqb, ne_eqb, ltb-true}
use Rattle.std.specs.Prelude.{Result, Ok, Err, ⊤}
use Rattle.logic.specs.Tests.{both, pick, some}
use Rattle.book.specs.declared.Kind.{Kind}
use Rattle.book.specs.declared.Shape.{Shape}
use Rattle.book.specs.declared.Content.TheVariants.{Statements}
use Rattle.book.specs.Faults.{number}
use Rattle.book.specs.Kinds.{kinds, kind, unknown, none, first, last, front, range_of}
use Rattle.book.specs.Counts.{counts_of, count_at, shape_from, sum_to, start_of, row_numbers, InLimits, numbers_each}
use Rattle.book.proofs.Counts.{many, sum-next, sum-up, sum-all, numbers-most}
use Rattle.text.specs.declared.Refusal.{Refusal}
use Rattle.text.specs.Lines.{Line, between, inside}
use Rattle.text.specs.Lines.Line.{line, wrong}
use Rattle.text.specs.Reading.{Outcome, to_nat, prepend, row_of, on_line, read_answer, refusal}
use Rattle.text.specs.Reading.Outcome.{accepted, refused}
use Rattle.text.specs.Tables.{layout, cut, rows_of, test_row, test_rows, shape_in, miscount, test_table}
use Rattle.logic.proofs.Tests.{all-at}
use Rattle.text.proofs.KindFacts.{limit-small}
use Rattle.text.proofs.Layouts.{row_counts, counts-long}
use Rattle.text.proofs.Inverse.{shape-limits}
use Rattle.fields.specs.Checks.{number_is}
use Rattle.fields.proofs.Columns.{back, back-same, lt-le, ge-le}
use Rattle.write.specs.Testing.{line_is, row_is, on_tested}

-- ---- n and the counts
module _ (t : List ℤ) (x : Kind) where
  pub count-is : (v : ℤ) (r : Bool) → SFits w32 v → v ≡ get_or t x.count (pos 0) → r ≡ le_z (back v) (pos x.limit) → x.row && (lt_z (back v) (pos 0) || not r) ≡ miscount t x
  unfolding miscount between both
  count-is v r f ev er = rw (er, to_z-of_z f, ← ev) (go x.row (lt_z v (pos 0)) refl)
    where
      go : (a b : Bool) → lt_z v (pos 0) ≡ b → a && (b || not (le_z v (pos x.limit))) ≡ both a (not (both (le_z (pos 0) v) (le_z v (pos x.limit))))
      go false b p = refl
      go true true p = rw (lt-le v (pos 0) p)
      go true false p = rw (ge-le v (pos 0) p)

pub kind-limit : (x : Kind) (k : ℕ) → x ≡ kind k → k < none → x.limit < 2147483648
kind-limit x k e h = rw e (omega (arith, limit-small k h))

-- Each count stands before the rows.
pub kind-count : (x : Kind) (k l : ℕ) → x ≡ kind k → k < none → front ≤ l → x.count < l
unfolding kinds kind unknown
kind-count x k l e h g = rw e (omega (arith, ltb-true (kind k).count front (all-at (λ (j : ℕ). ltb (kind j).count front) none k refl h)))

-- The kinds one after the other: what is left to look at gives the answer.
some_more : (f : Kind → Bool) (k : ℕ) (b : Bool) → k < none → f (kind k) ≡ b → some f (drop k kinds) ≡ elim b [ true ↦ true | false ↦ some f (drop (suc k) kinds) ]
unfolding some kind
some_more f k b h e = ap (some f) (drop-cons kinds k unknown (rw many h)) ∙ ap (λ (c : Bool). elim c [ true ↦ true | false ↦ some f (drop (suc k) kinds) ]) e

module _ (f : Kind → Bool) (k : ℕ) (h : k < none) (x : Kind) (ex : x ≡ kind k) (b : Bool) (eb : b ≡ f x) (inv : some f (drop k kinds) ≡ some f kinds) where
  pub some-found : b ≡ true → true ≡ some f kinds
  some-found e = sym (some_more f k true h (sym (eb ∙ ap f ex) ∙ e)) ∙ inv

  pub some_next : b ≡ false → some f (drop (k + 1) kinds) ≡ some f kinds
  some_next e = rw (add-one k) (sym (some_more f k false h (sym (eb ∙ ap f ex) ∙ e)) ∙ inv)

pub some_end : (f : Kind → Bool) (k : ℕ) → none ≤ k → some f (drop k kinds) ≡ some f kinds → false ≡ some f kinds
unfolding some
some_end f k h inv = rw (drop_of_length-le kinds {i = k} (rw many h)) at inv

-- n in its range, or the refusal by 6.
module _ (t : List ℤ) (v : ℤ) (ev : v ≡ get_or t 0 (pos 0)) (b : mag v < 2147483648) (y : Result ⊤ ℕ) (e : y ≡ number_is (range_of Statements 0) (back v)) where
  number_is_lem : y ≡ number_is (range_of Statements 0) (get_or t 0 (pos 0))
  number_is_lem = e ∙ ap (number_is (range_of Statements 0)) (back-same v b ∙ ev)

  pub statements-in : y ≡ Ok tt → inside (range_of Statements 0) (get_or t 0 (pos 0)) ≡ true
  unfolding number_is pick
  statements-in g = go (inside (range_of Statements 0) (get_or t 0 (pos 0))) (sym g ∙ number_is_lem)
    where
      go : (b : Bool) → Ok (tt {0}) ≡ pick b (Ok (tt {0})) (Err (number (range_of Statements 0).fault)) → b ≡ true
      go true p = refl
      go false p = absurd (let z : ◌≡◌ {A = ℕ} 0 1 = cc in omega arith)

  pub statements-out : (q : ℕ) → y ≡ Err q → (inside (range_of Statements 0) (get_or t 0 (pos 0)) ≡ false) × (q ≡ 6)
  unfolding number_is pick range_of
  statements-out q g = go (inside (range_of Statements 0) (get_or t 0 (pos 0))) (sym g ∙ number_is_lem)
    where
      go : (b : Bool) → Err q ≡ pick b (Ok (tt {0})) (Err 6) → (b ≡ false) × (q ≡ 6)
      go true p = absurd (let z : ◌≡◌ {A = ℕ} 0 1 = cc in omega arith)
      go false p = (refl, cc)

-- The counts read so far, by the kinds' places.
pub record Counting (t : List ℤ) (cs : List ℕ) (k : ℕ) : Type 0 where
  pub few : k ≤ none
  pub long : length cs ≡ none
  pub counted : (j : ℕ) → j < k → get_or cs j 0 ≡ to_nat (get_or t (kind j).count (pos 0))

pub counting-start : (t : List ℤ) (cs : List ℕ) → length cs ≡ none → Counting t cs 0
counting-start t cs e = record { few = omega arith; long = e; counted = λ j h. absurd (omega arith) }

pub counting-next : (t : List ℤ) (cs : List ℕ) (k : ℕ) → Counting t cs k → k < none → (x : Kind) → x ≡ kind k → (v : ℤ) → mag v < 2147483648 → v ≡ get_or t x.count (pos 0) → (c : ℕ) → c ≡ to_nat (back v) → Counting t (set cs k c) (k + 1)
counting-next t cs k g h x ex v f ev c ec = record { few = omega arith; long = length-set cs k c ∙ g.long; counted = λ j l. go j l (eqb j k) refl }
  where
    here : c ≡ to_nat (get_or t (kind k).count (pos 0))
    here = ec ∙ (ap to_nat (back-same v f ∙ ev) ∙ ap (λ (y : Kind). to_nat (get_or t y.count (pos 0))) ex)

    go : (j : ℕ) → j < k + 1 → (b : Bool) → eqb j k ≡ b → get_or (set cs k c) j 0 ≡ to_nat (get_or t (kind j).count (pos 0))
    go j l true p = let q = eqb-true j k p in rw q (get_or-set_same cs k c 0 (rw g.long h) ∙ here)
    go j l false p = get_or-set_other cs k j c 0 (eqb-false j k p) ∙ g.counted j (omega (arith, eqb-false j k p))

map_at : (f : Kind → ℕ) (xs : List Kind) (j : ℕ) → j < length xs → get_or (map f xs) j 0 ≡ f (get_or xs j unknown)
map_at f [] j h = absurd (omega arith)
map_at f (x ∷ xs) zero h = refl
map_at f (x ∷ xs) (suc j) h = map_at f xs j (omega arith)

pub shape_is : (t : List ℤ) (cs : List ℕ) (k : ℕ) → Counting t cs k → none ≤ k → (u : ℤ) (n : ℕ) → mag u < 2147483648 → u ≡ get_or t 0 (pos 0) → n ≡ to_nat (back u) → (s : Shape) → s ≡ shape_from n cs → s ≡ shape_in t
unfolding shape_in kind
shape_is t cs k g h u n f eu en s es =
    let m : length (map (λ x. to_nat (get_or t x.count (pos 0))) kinds) ≡ none = length-map kinds (λ x. to_nat (get_or t x.count (pos 0))) ∙ many in
    let c : cs ≡ map (λ x. to_nat (get_or t x.count (pos 0))) kinds = ext_get_or 0 cs (map (λ x. to_nat (get_or t x.count (pos 0))) kinds) (g.long ∙ sym m)
    (λ j l. g.counted j (omega (arith, g.long)) ∙ sym (map_at (λ x. to_nat (get_or t x.count (pos 0))) kinds j (rw many (omega (arith, g.long))))) in
    es ∙ rw (en, back-same u f, eu, c)

-- ---- rows of one kind
answer-prepend : (vs : List ℤ) (o : Outcome) → read_answer (prepend vs o) ≡ read_answer o
unfolding read_answer prepend
answer-prepend vs (accepted s ws) = refl
answer-prepend vs (refused q l) = refl

-- A row that is fine leaves the answer to the rows after it; a row that is not gives it.
row_fine : (l : Line) (at : ℕ) (o : Outcome) → Ok tt ≡ line_is l → read_answer (on_line l at (λ k vs. o)) ≡ read_answer o
unfolding line_is on_line
row_fine (line k vs) at o e = answer-prepend (row_of k vs) o
row_fine (wrong q) at o e = absurd (let z : ◌≡◌ {A = ℕ} 0 1 = cc in omega arith)

row-faulty : (l : Line) (at : ℕ) (o : Outcome) (q : ℕ) → Err q ≡ line_is l → read_answer (on_line l at (λ k vs. o)) ≡ Err (refusal q at)
unfolding line_is on_line read_answer
row-faulty (line k vs) at o q e = absurd (let z : ◌≡◌ {A = ℕ} 0 1 = cc in omega arith)
row-faulty (wrong p) at o q e = let w : p ≡ q = cc in rw w

-- One row less to come.
pub less : (c i : ℕ) → i < c → c - i ≡ suc (c - (i + 1))
less c i h = omega arith

pub less-width : (c i w : ℕ) → i < c → (c - i) * w ≡ w + (c - (i + 1)) * w
less-width c i w h = rw (less c i h, suc-mul) (omega arith)

module _ (s : Shape) (k : ℕ) (t : List ℤ) (ks : List ℕ) (at : ℕ) (lno c i : ℕ) (h : i < c) (y : Result ⊤ ℕ) (ey : y ≡ row_is s.statements s.exceptions k (take (kind k).numbers (drop at t))) where
  opened : test_rows s (cut (replicate (c - i) k ++ ks) (drop at t)) lno
      ≡ on_line (test_row s (record { place = k; nums = take (kind k).numbers (drop at t) })) lno (λ j vs. test_rows s (cut (replicate (c - (i + 1)) k ++ ks) (drop (at + (kind k).numbers) t)) (suc lno))
  unfolding test_rows cut
  opened = rw (less c i h, drop-drop (kind k).numbers at t)

  pub kind-fine : y ≡ Ok tt → read_answer (test_rows s (cut (replicate (c - i) k ++ ks) (drop at t)) lno) ≡ read_answer (test_rows s (cut (replicate (c - (i + 1)) k ++ ks) (drop (at + (kind k).numbers) t)) (suc lno))
  unfolding row_is test_row
  kind-fine e = rw opened (row_fine _ lno _ (sym e ∙ ey))

  pub kind-faulty : (q : ℕ) → y ≡ Err q → read_answer (test_rows s (cut (replicate (c - i) k ++ ks) (drop at t)) lno) ≡ Err (refusal q lno)
  unfolding row_is test_row
  kind-faulty q e = rw opened (row-faulty _ lno _ q (sym e ∙ ey))

-- ---- the loop over the rows of one kind
module _ (k : ℕ) (t : List ℤ) (from c lno n m : ℕ) where
  -- What is left, from row i on, at a place of the table: in every book of n statements and m exceptions, whatever rows follow, the answer is the same.
  unfoldable pub Rest : ℕ → ℕ → Type 0
  Rest at i = (s : Shape) → s.statements ≡ n → s.exceptions ≡ m → (ks : List ℕ) → read_answer (test_rows s (cut (replicate c k ++ ks) (drop from t)) lno) ≡ read_answer (test_rows s (cut (replicate (c - i) k ++ ks) (drop at t)) (lno + i))

  pub rest-start : Rest from 0
  unfolding Rest
  rest-start s a b ks = let e : c - 0 ≡ c = omega arith in rw (e, add-zero lno)

  row_in : (s : Shape) (vs : List ℤ) (y : Result ⊤ ℕ) → s.statements ≡ n → s.exceptions ≡ m → y ≡ row_is n m k vs → y ≡ row_is s.statements s.exceptions k vs
  row_in s vs y a b e = e ∙ (ap (λ (j : ℕ). row_is j m k vs) (sym a) ∙ ap (λ (j : ℕ). row_is s.statements j k vs) (sym b))

  module _ (at i : ℕ) (h : i < c) (inv : Rest at i) (y : Result ⊤ ℕ) (ey : y ≡ row_is n m k (take (kind k).numbers (drop at t))) where
    pub rest-next : (w : ℕ) → w ≡ (kind k).numbers → y ≡ Ok tt → Rest (at + w) (i + 1)
    unfolding Rest
    rest-next w ew e s a b ks =
        let j : lno + (i + 1) ≡ suc (lno + i) = omega arith in
        inv s a b ks ∙ rw (j, ew) (kind-fine s k t ks at (lno + i) c i h y (row_in s _ y a b ey) e)

    pub rest-failed : (s : Shape) → s.statements ≡ n → s.exceptions ≡ m → (q : ℕ) (x : Refusal) → y ≡ Err q → x ≡ refusal q (lno + i) → (ks : List ℕ)
        → read_answer (test_rows s (cut (replicate c k ++ ks) (drop from t)) lno) ≡ on_tested (Err x) (read_answer (test_rows s (cut ks (drop (from + c * (kind k).numbers) t)) (lno + c)))
    unfolding Rest on_tested
    rest-failed s a b q x e f ks = inv s a b ks ∙ kind-faulty s k t ks at (lno + i) c i h y (row_in s _ y a b ey) q e ∙ ap Err (sym f)

  pub rest-passed : (s : Shape) → s.statements ≡ n → s.exceptions ≡ m → (at i w : ℕ) → c ≤ i → i ≤ c → at + (c - i) * w ≡ from + c * w → w ≡ (kind k).numbers → Rest at i → (ks : List ℕ)
      → read_answer (test_rows s (cut (replicate c k ++ ks) (drop from t)) lno) ≡ on_tested (Ok tt) (read_answer (test_rows s (cut ks (drop (from + c * (kind k).numbers) t)) (lno + c)))
  unfolding Rest on_tested
  rest-passed s a b at i w h g e ew inv ks =
      let z : c - i ≡ 0 = omega arith in
      let q : at ≡ from + c * (kind k).numbers = sym (add-zero at) ∙ (ap (λ (m : ℕ). at + m) (sym (zero-mul w)) ∙ (ap (λ (m : ℕ). at + m * w) (sym z) ∙ (e ∙ ap (λ (v : ℕ). from + c * v) ew))) in
      let j : lno + i ≡ lno + c = omega arith in
      inv s a b ks ∙ rw (z, q, j)

pub spread-start : (from c w : ℕ) → from + (c - 0) * w ≡ from + c * w
spread-start from c w = let e : c - 0 ≡ c = omega arith in rw e

pub spread-next : (at c i w m : ℕ) → i < c → at + (c - i) * w ≡ m → at + w + (c - (i + 1)) * w ≡ m
spread-next at c i w m h e = let q = less-width c i w h in omega arith

pub spread-in : (at c i w m l : ℕ) → i < c → at + (c - i) * w ≡ m → m ≤ l → at + w ≤ l
spread-in at c i w m l h e g = let q = less-width c i w h in omega arith

-- ---- the loop over the kinds
-- The kinds of the rows to come, from the kind at place k on.
abbrev pub to_come : Shape → ℕ → List ℕ
to_come s k = layout k (drop (k - 1) (counts_of s))

layout-cons : (k c : ℕ) (cs : List ℕ) → layout k (c ∷ cs) ≡ replicate c k ++ layout (suc k) cs
unfolding layout
layout-cons k c cs = refl

count_at_lem : (s : Shape) (k : ℕ) → first < k → k < last → get_or (counts_of s) (k - 1) 0 ≡ count_at s k
count_at_lem s k h g = let e : 1 + (k - 1) ≡ k = omega arith in rw e at (row_counts s (k - 1) (omega (arith, counts-long s)))

pub come-more : (s : Shape) (k c : ℕ) → c ≡ count_at s k → first < k → k < last → to_come s k ≡ replicate c k ++ to_come s (k + 1)
come-more s k c e h g =
    let a : k + 1 - 1 ≡ suc (k - 1) = omega arith in
    rw (drop-cons (counts_of s) (k - 1) 0 (omega (arith, counts-long s)), layout-cons k, count_at_lem s k h g, e, a, add-one k)

pub come-none : (s : Shape) (k : ℕ) → last ≤ k → to_come s k ≡ []
unfolding layout
come-none s k h = rw (drop_of_length-le (counts_of s) {i = k - 1} (omega (arith, counts-long s)))

-- The rows of the kind at place k end before the table does.
pub rows_in : (t : List ℤ) (s : Shape) (k from c : ℕ) → length t ≡ front + row_numbers s → k < none → from ≡ front + start_of s k → c ≡ count_at s k → from + c * (kind k).numbers ≤ length t
rows_in t s k from c l h ef ec =
    let n = sum-next numbers_each s k (start_of s k) c (kind k).numbers refl ec refl in
    omega (arith, n, sum-up numbers_each s (k + 1) (omega arith), ef, l)

pub start-on : (s : Shape) (k from c w : ℕ) → from ≡ front + start_of s k → c ≡ count_at s k → w ≡ (kind k).numbers → from + c * w ≡ front + start_of s (k + 1)
start-on s k from c w ef ec ew = let n = sum-next numbers_each s k (start_of s k) c w refl ec ew in omega (arith, n, ef)

pub start_first : (s : Shape) → front ≡ front + start_of s 1
unfolding sum_to kind kinds
start_first s = omega arith

pub record Going (t : List ℤ) (s : Shape) (k from lno : ℕ) : Type 0 where
  pub low : first < k
  pub high : k ≤ last
  pub place : from ≡ front + start_of s k
  pub few-lines : lno ≤ k * 1000000
  pub rest : read_answer (test_rows s (cut (to_come s k) (drop from t)) lno) ≡ read_answer (test_rows s (rows_of s (drop front t)) 2)

pub going_start : (t : List ℤ) (s : Shape) → Going t s 1 front 2
unfolding rows_of
going_start t s = record { low = omega arith; high = omega arith; place = start_first s; few-lines = omega arith; rest = refl }

module _ (t : List ℤ) (s : Shape) (k from lno : ℕ) (g : Going t s k from lno) (h : k < last) (c : ℕ) (ec : c ≡ count_at s k) where
  pub going-in : length t ≡ front + row_numbers s → from + c * (kind k).numbers ≤ length t
  going-in l = rows_in t s k from c l (omega arith) g.place ec

  pub going-kind : (y : Kind) → y ≡ kind k → length t ≡ front + row_numbers s → from + c * y.numbers ≤ length t
  going-kind y e l = rw e (going-in l)

  pub going-line : InLimits s → lno + c ≤ (k + 1) * 1000000
  going-line l = omega (arith, g.few-lines, l.counts k, limit-small k (omega arith))

  module _ (r : Result ⊤ Refusal)
      (er : (ks : List ℕ) → read_answer (test_rows s (cut (replicate c k ++ ks) (drop from t)) lno) ≡ on_tested r (read_answer (test_rows s (cut ks (drop (from + c * (kind k).numbers) t)) (lno + c)))) where
    kind-on : on_tested r (read_answer (test_rows s (cut (to_come s (k + 1)) (drop (from + c * (kind k).numbers) t)) (lno + c))) ≡ read_answer (test_rows s (rows_of s (drop front t)) 2)
    kind-on = sym (er (to_come s (k + 1))) ∙ (ap (λ (ks : List ℕ). read_answer (test_rows s (cut ks (drop from t)) lno)) (sym (come-more s k c ec g.low h)) ∙ g.rest)

    pub going-failed : (x : Refusal) → r ≡ Err x → Err x ≡ read_answer (test_rows s (rows_of s (drop front t)) 2)
    unfolding on_tested
    going-failed x e = rw e at kind-on

    pub going_next : InLimits s → (y : Kind) → y ≡ kind k → r ≡ Ok tt → Going t s (k + 1) (from + c * y.numbers) (lno + c)
    unfolding on_tested
    going_next l y ey e = rw ey (record { low = omega (arith, g.low); high = omega arith; place = start-on s k from c (kind k).numbers g.place ec refl; few-lines = going-line l; rest = rw e at kind-on })

empty-rows : (s : Shape) (lno : ℕ) (ws : List ℤ) → Ok s ≡ read_answer (test_rows s (cut [] ws) lno)
unfolding read_answer test_rows cut
empty-rows s lno ws = refl

pub going_end : (t : List ℤ) (s : Shape) (k from lno : ℕ) → Going t s k from lno → last ≤ k → Ok s ≡ read_answer (test_rows s (rows_of s (drop front t)) 2)
going_end t s k from lno g h = empty-rows s lno (drop from t) ∙ (ap (λ (ks : List ℕ). read_answer (test_rows s (cut ks (drop from t)) lno)) (sym (come-none s k h)) ∙ g.rest)

-- ---- the returns of the test of a table
module _ (t : List ℤ) where
  pub table-short : (r : Refusal) → length t < front → r ≡ refusal 16 0 → Err r ≡ read_answer (test_table t)
  unfolding test_table pick read_answer
  table-short r h e = ap Err e ∙ rw (lt-ltb (length t) front h)

  module _ (h : front ≤ length t) where
    pub table-n : (r : Refusal) (q : ℕ) → (inside (range_of Statements 0) (get_or t 0 (pos 0)) ≡ false) × (q ≡ 6) → r ≡ refusal q 1 → Err r ≡ read_answer (test_table t)
    unfolding test_table pick read_answer
    table-n r q f e = ap Err e ∙ rw (le-ltb (length t) front h, f.0, f.1)

    module _ (n : inside (range_of Statements 0) (get_or t 0 (pos 0)) ≡ true) where
      pub table-over : (r : Refusal) (a : Bool) → a ≡ some (miscount t) kinds → a ≡ true → r ≡ refusal 8 1 → Err r ≡ read_answer (test_table t)
      unfolding test_table pick read_answer
      table-over r a ea f e = ap Err e ∙ rw (le-ltb (length t) front h, n, ← ea, f)

      module _ (a : Bool) (ea : a ≡ some (miscount t) kinds) (f : a ≡ false) (s : Shape) (es : s ≡ shape_in t) where
        pub shape-bounded : InLimits s
        shape-bounded = rw es (shape-limits t h n (sym ea ∙ f))

        pub few-numbers : row_numbers s ≤ 100000
        few-numbers = omega (arith, sum-all numbers_each s shape-bounded, numbers-most)

        pub table-long : (r : Refusal) (m : ℕ) → m ≡ row_numbers s → (length t ≡ front + m → ⊥) → r ≡ refusal 16 0 → Err r ≡ read_answer (test_table t)
        unfolding test_table pick read_answer
        table-long r m em d e =
            let q : m ≡ row_numbers (shape_in t) = em ∙ ap (λ (x : Shape). row_numbers x) es in
            ap Err e ∙ rw (le-ltb (length t) front h, n, ← ea, f, ne_eqb (length t) (front + row_numbers (shape_in t)) (λ z. d (omega arith)))

        pub table-tested : (r : Result Shape Refusal) (m : ℕ) → m ≡ row_numbers s → length t ≡ front + m → r ≡ read_answer (test_rows s (rows_of s (drop front t)) 2) → r ≡ read_answer (test_table t)
        unfolding test_table pick
        table-tested r m em d e =
            let q : length t ≡ front + row_numbers (shape_in t) = d ∙ ap (λ (x : ℕ). front + x) (em ∙ ap (λ (x : Shape). row_numbers x) es) in
            e ∙ rw (le-ltb (length t) front h, n, ← ea, f, eq-eqb (length t) (front + row_numbers (shape_in t)) q, es)
