-- Write: what each of its returns is by the definition.
-- An accepted table is that of its shape and rows; its numbers have four columns, and its text is as long as its shape says.
use mathlib.Core.Path.{◌≡◌, refl, sym, ap, ◌∙◌}
use mathlib.Core.Bool.{Bool, true, false}
use mathlib.Core.List.{List, [], ◌∷◌, ◌++◌, map}
use Prim.Native.Nat.{ℕ, zero, suc, ◌+◌, ◌-◌, ◌<◌, ◌≤◌}
use native.Mathlib.Nat.{zero-add}
use native.Mathlib.Omega.{arith}
use lib.Dec.{ltb}
use lib.IntN.{ℤ, pos}
use lib.ListN.{get_or, take, drop, length, length-drop}
use lib.Seq.{sets, sets-eq, get_or-take, get_or-drop}
use borrow.Author.Tests.{ltb-true, ltb-false, lt-ltb, le-ltb}
use Rattle.std.specs.Prelude.{Result, Ok, Err}
use Rattle.logic.specs.Lists.{Every}
use Rattle.logic.specs.Tests.{pick}
use Rattle.book.specs.declared.Shape.{Shape}
use Rattle.book.specs.Kinds.{kind, front}
use Rattle.book.specs.Counts.{counts_of, front_of, row_numbers, text_bytes, InLimits}
use Rattle.book.proofs.Counts.{front-small}
use Rattle.read.proofs.Whole.{table-long as book-long}
use Rattle.text.specs.declared.Refusal.{Refusal}
use Rattle.text.specs.Reading.{Outcome, table_of, over, read_answer, refusal}
use Rattle.text.specs.Reading.Outcome.{accepted, refused}
use Rattle.text.specs.Tables.{layout, cut, rows_of, test_rows, test_table}
use Rattle.text.specs.Writing.{text_of, lent_bytes, write_with, write_answer, write_into}
use Rattle.text.specs.Fields.{Short}
use Rattle.text.proofs.Texts.{Writable}
use Rattle.text.proofs.Layouts.{sum_by, widths, layout-widths, rows-rising}
use Rattle.text.proofs.Written.{rows-writable}
use Rattle.text.proofs.Inverse.{Table, table-passed}
use Rattle.fields.specs.Short.{all_short}
use Rattle.write.specs.Promise.{Met}
use Rattle.write.proofs.PutLaws.{text-bytes}

-- ---- an accepted table
answer-accepted : (o : Outcome) (s : Shape) → Ok s ≡ read_answer o → (ws : List ℤ) × (o ≡ accepted s ws)
unfolding read_answer
answer-accepted (accepted r ws) s e = (ws, let q : r ≡ s = cc in rw q)
answer-accepted (refused q l) s e = absurd (let z : ◌≡◌ {A = ℕ} 0 1 = cc in omega arith)

answer-refused : (o : Outcome) (x : Refusal) → Err x ≡ read_answer o → o ≡ refused x.number x.line
unfolding read_answer
answer-refused (accepted r ws) x e = absurd (let z : ◌≡◌ {A = ℕ} 0 1 = cc in omega arith)
answer-refused (refused q l) x e = let w : x ≡ record { number = q; line = l } = cc in rw w

-- ---- the numbers of an accepted table have four columns
short-zero : Short (pos 0)
unfolding Short
short-zero = omega arith

every-short : (vs : List ℤ) → Every Short vs → (i : ℕ) → Short (get_or vs i (pos 0))
every-short [] e i = short-zero
every-short (v ∷ vs) e zero = e.0
every-short (v ∷ vs) e (suc i) = every-short vs e.1 i

-- Rows that can be written have such numbers.
rows_short : (ks : List ℕ) (ws : List ℤ) → length ws ≡ widths ks → Every Writable (cut ks ws) → (i : ℕ) → Short (get_or ws i (pos 0))
unfolding cut sum_by
rows_short [] [] l e i = short-zero
rows_short [] (w ∷ ws) l e i = absurd (omega arith)
rows_short (k ∷ ks) ws l e i = go (ltb i (kind k).numbers) refl (rows_short ks (drop (kind k).numbers ws) (length-drop (kind k).numbers ws ∙ omega arith) e.1 (i - (kind k).numbers))
  where
    go : (b : Bool) → ltb i (kind k).numbers ≡ b → Short (get_or (drop (kind k).numbers ws) (i - (kind k).numbers) (pos 0)) → Short (get_or ws i (pos 0))
    go true p ih = rw (get_or-take (kind k).numbers ws i (pos 0) (ltb-true i (kind k).numbers p)) at (every-short (take (kind k).numbers ws) e.0.short i)
    go false p ih =
        let q : (kind k).numbers + (i - (kind k).numbers) ≡ i = omega (arith, ltb-false i (kind k).numbers p) in
        rw (get_or-drop (kind k).numbers ws (i - (kind k).numbers) (pos 0), q) at ih

pos-short : (m : ℕ) → m < 1000 → Short (pos m)
unfolding Short
pos-short m h = omega arith

front-short : (l : List ℕ) (ws : List ℤ) → ((i : ℕ) → get_or l i 0 < 1000) → ((i : ℕ) → Short (get_or ws i (pos 0))) → (i : ℕ) → Short (get_or (map pos l ++ ws) i (pos 0))
front-short [] ws h e i = e i
front-short (x ∷ l) ws h e zero = pos-short x (h 0)
front-short (x ∷ l) ws h e (suc i) = front-short l ws (λ j. h (suc j)) e i

table-short : (s : Shape) (ws : List ℤ) → InLimits s → ((i : ℕ) → Short (get_or ws i (pos 0))) → all_short (table_of s ws)
unfolding table_of all_short
table-short s ws l e i = front-short (front_of s) ws (front-small s l) e i

-- ---- Write
module _ (t : List ℤ) (l : List ℕ) (r : Result Shape Refusal) (er : r ≡ read_answer (test_table t)) where
  pub write-refused : (x : Refusal) → r ≡ Err x → Met t l (Err x) l
  unfolding write_with lent_bytes write_answer write_into
  write-refused x e =
      let q : test_table t ≡ refused x.number x.line = answer-refused (test_table t) x (sym e ∙ er) in
      record { answer = rw q; slice = rw q }

  module _ (s : Shape) (e : r ≡ Ok s) where
    rows : List ℤ
    rows = (answer-accepted (test_table t) s (sym e ∙ er)).0

    tested : test_table t ≡ accepted s rows
    unfolding rows
    tested = (answer-accepted (test_table t) s (sym e ∙ er)).1

    passed : Table t s rows
    passed = table-passed t s rows tested

    whole : test_table t ≡ accepted s (drop front t)
    whole = tested ∙ ap (accepted s) passed.rows_are

    table_is : table_of s (drop front t) ≡ t
    table_is = ap (λ (x : Shape). table_of x (drop front t)) passed.shape_is ∙ passed.table_is

    pub table-bounded : InLimits s
    table-bounded = rw passed.shape_is passed.limits

    rows-size : length (drop front t) ≡ row_numbers s
    rows-size = passed.size ∙ ap (λ (x : Shape). row_numbers x) (sym passed.shape_is)

    pub numbers-short : all_short t
    unfolding rows_of
    numbers-short =
        let e : test_rows s (cut (layout 1 (counts_of s)) (drop front t)) 2 ≡ accepted s rows = ap (λ (x : Shape). test_rows x (rows_of x (drop front t)) 2) passed.shape_is ∙ passed.pass in
        let w = rows-writable (layout 1 (counts_of s)) s (drop front t) 2 1 s rows (omega arith) (rows-rising s) (omega (arith, table-bounded.statements)) e in
        rw table_is at (table-short s (drop front t) table-bounded (rows_short (layout 1 (counts_of s)) (drop front t) (rows-size ∙ sym (layout-widths s)) w))

    pub table-long : length t ≡ front + row_numbers s
    table-long = ap length (sym table_is) ∙ (book-long s (drop front t) ∙ ap (λ (m : ℕ). front + m) rows-size)

    text-long : length (text_of s (drop front t)) ≡ text_bytes s
    text-long = text-bytes s t table-long

    pub write-short : (n : ℕ) (x : Refusal) → n ≡ text_bytes s → length l < n → x ≡ refusal 15 0 → Met t l (Err x) l
    unfolding write_with lent_bytes write_answer write_into pick
    write-short n x en h e =
        record {
          answer = ap Err e ∙ rw (whole, lt-ltb (length l) (length (text_of s (drop front t))) (omega (arith, text-long)));
          slice = rw (whole, lt-ltb (length l) (length (text_of s (drop front t))) (omega (arith, text-long)));
        }

    pub write-whole : (n : ℕ) (m : List ℕ) → n ≡ text_bytes s → n ≤ length l → m ≡ sets l 0 (text_of s (drop front t)) → Met t l (Ok n) m
    unfolding write_with lent_bytes write_answer write_into pick over
    write-whole n m en h em =
        record {
          answer = rw (whole, le-ltb (length l) (length (text_of s (drop front t))) (omega (arith, text-long)), en, ← text-long);
          slice =
              rw (whole, le-ltb (length l) (length (text_of s (drop front t))) (omega (arith, text-long)))
              (em ∙ (sets-eq (text_of s (drop front t)) l 0 (omega (arith, text-long)) ∙ rw (zero-add (length (text_of s (drop front t))))));
        }
