-- Texts: lines of bytes and rows of numbers. Rows, written and read, are the rows tested; accepted lines are how their rows are written;
-- a text that ends with a line feed is its lines. By induction on the lines.
use mathlib.Core.Path.{◌≡◌, refl, sym, ap, ◌∙◌}
use mathlib.Core.Bool.{Bool, true, false}
use mathlib.Core.List.{List, [], ◌∷◌, ◌++◌}
use Prim.Native.Nat.{ℕ, zero, suc, ◌+◌, ◌*◌, ◌/◌, ◌%◌, ◌^◌, ◌<◌}
use native.Mathlib.Omega.{arith}
use lib.Dec.{eqb, leb}
use lib.IntN.{ℤ, pos, negsuc}
use lib.ListN.{length}
use borrow.Author.Tests.{eqb-true, ne_eqb}
use Rattle.logic.specs.Lists.{Every}
use Rattle.logic.specs.Tests.{both, either, pick}
use Rattle.book.specs.declared.Shape.{Shape}
use Rattle.book.specs.Kinds.{kind, none}
use Rattle.text.specs.declared.State.{State}
use Rattle.text.specs.Fields.{column_of, columns, written, written_all, in_columns, Short}
use Rattle.text.specs.Lines.{Line, read_line, line_of, lines, unlines, to_first}
use Rattle.text.specs.Lines.Line.{line, wrong}
use Rattle.text.specs.Reading.{Outcome, read_lines, on_line, prepend, row_of, step, read_end, last_byte}
use Rattle.text.specs.Reading.Outcome.{accepted, refused}
use Rattle.text.specs.Tables.{Row}
use Rattle.text.specs.Writing.{row_lines}
use Rattle.text.proofs.KindFacts.{letter-plain}
use Rattle.text.proofs.Lines.{run_row, line_read, read-line}

-- The tests of a text, run on rows of numbers.
unfoldable pub run : List Row → State → ℕ → Outcome
run [] st at = read_end st at
run (r ∷ rs) st at = on_line (run_row st r.place r.nums) at (λ k vs. run rs (step st k vs) (suc at))

-- ---- rows, written and read, are the rows tested
-- a row of a known kind, with its number of fields, each of four columns
pub record Writable (r : Row) : Type 0 where
  pub known : r.place < none
  pub short : Every Short r.nums
  pub wide : length r.nums ≡ (kind r.place).fields

same-on : (l : Line) (at : ℕ) (f g : ℕ → List ℤ → Outcome) → ((k : ℕ) (vs : List ℤ) → f k vs ≡ g k vs) → on_line l at f ≡ on_line l at g
unfolding on_line
same-on (wrong q) at f g h = refl
same-on (line k vs) at f g h = rw (h k vs)

pub rows-read : (rs : List Row) (st : State) (at : ℕ) → Every Writable rs → read_lines (row_lines rs) st at ≡ run rs st at
unfolding read_lines run row_lines
rows-read [] st at w = refl
rows-read (r ∷ rs) st at w =
    rw (line_read st r.place r.nums w.0.known w.0.short w.0.wide)
    (same-on (run_row st r.place r.nums) at _ _ (λ k vs. rows-read rs (step st k vs) (suc at) w.1))

-- ---- lines that are accepted are how their rows are written
prepended : (vs : List ℤ) (o : Outcome) (st : Shape) (ws : List ℤ) → prepend vs o ≡ accepted st ws → (us : List ℤ) × (o ≡ accepted st us) × (ws ≡ vs ++ us)
unfolding prepend
prepended vs (refused q l) st ws e = absurd (let z : ◌≡◌ {A = ℕ} 0 1 = cc in omega arith)
prepended vs (accepted s us) st ws e = (us, cc, cc)

pub prepend-none : (o : Outcome) → prepend [] o ≡ o
unfolding prepend
prepend-none (accepted s ws) = refl
prepend-none (refused q l) = refl

-- what an accepted line is, and what follows it
pub record Went (l : Line) (rest : ℕ → List ℤ → Outcome) (end : Shape) (ws : List ℤ) : Type 0 where
  pub k : ℕ
  pub vs : List ℤ
  pub us : List ℤ
  pub is : l ≡ line k vs
  pub then : rest k vs ≡ accepted end us
  pub all : ws ≡ row_of k vs ++ us

pub went : (l : Line) (at : ℕ) (rest : ℕ → List ℤ → Outcome) (end : Shape) (ws : List ℤ) → on_line l at rest ≡ accepted end ws → Went l rest end ws
unfolding on_line
went (wrong q) at rest end ws e = absurd (let z : ◌≡◌ {A = ℕ} 0 1 = cc in omega arith)
went (line k vs) at rest end ws e =
    let p = prepended (row_of k vs) (rest k vs) end ws e in
    record { k = k; vs = vs; us = p.0; is = refl; then = p.1; all = p.2 }

pub gone : (l : Line) (at : ℕ) (rest : ℕ → List ℤ → Outcome) (end : Shape) (ws : List ℤ) (k : ℕ) (vs us : List ℤ) → l ≡ line k vs → rest k vs ≡ accepted end us → ws ≡ row_of k vs ++ us
    → on_line l at rest ≡ accepted end ws
unfolding on_line prepend
gone l at rest end ws k vs us e f g = rw (e, f, g)

pub read-rows : (ls : List (List ℕ)) (st : State) (at : ℕ) (end : Shape) (ws : List ℤ) → read_lines ls st at ≡ accepted end ws
    → (rs : List Row) × (ls ≡ row_lines rs) × (run rs st at ≡ accepted end ws)
unfolding read_lines run row_lines
read-rows [] st at end ws e = ([], refl, e)
read-rows (l ∷ ls) st at end ws e =
    let w = went (read_line st l) at (λ k vs. read_lines ls (step st k vs) (suc at)) end ws e in
    let h = read-line st l w.k w.vs w.is in
    let ih = read-rows ls (step st w.k w.vs) (suc at) end w.us w.then in (
      record { place = w.k; nums = w.vs } ∷ ih.0,
      rw (← ih.1, ← h.1),
      gone (run_row st w.k w.vs) at (λ k vs. run ih.0 (step st k vs) (suc at)) end ws w.k w.vs w.us h.2 ih.2 w.all,
    )

-- ---- lines and texts
-- No line feed in a line.
unfoldable pub Plain : List ℕ → Type 0
Plain l = Every (λ b. b ≡ 10 → ⊥) l

first-line : (l bs : List ℕ) → Plain l → lines (l ++ (10 ∷ bs)) ≡ l ∷ lines bs
unfolding lines pick to_first Plain
first-line [] bs p = refl
first-line (b ∷ l) bs p = rw (ne_eqb b 10 p.0, first-line l bs p.1)

pub lines-unlines : (ls : List (List ℕ)) → Every Plain ls → lines (unlines ls) ≡ ls
unfolding unlines lines
lines-unlines [] p = refl
lines-unlines (l ∷ ls) p = first-line l (unlines ls) p.0 ∙ rw (lines-unlines ls p.1)

to-first : (b : ℕ) (ls : List (List ℕ)) → (ls ≡ [] → ⊥) → unlines (to_first b ls) ≡ b ∷ unlines ls
unfolding unlines to_first
to-first b [] h = absurd (h refl)
to-first b (l ∷ ls) h = refl

empty-line : (ls : List (List ℕ)) → unlines ([] ∷ ls) ≡ 10 ∷ unlines ls
unfolding unlines
empty-line ls = refl

no_lines : unlines (lines []) ≡ []
unfolding unlines lines
no_lines = refl

one_line : unlines (lines (10 ∷ [])) ≡ 10 ∷ []
unfolding unlines lines pick
one_line = refl

some-line : (b : ℕ) (bs : List ℕ) → lines (b ∷ bs) ≡ [] → ⊥
unfolding lines pick to_first
some-line b bs e = go (eqb b 10) (lines bs) e
  where
    go : (t : Bool) (ls : List (List ℕ)) → pick t ([] ∷ lines bs) (to_first b ls) ≡ [] → ⊥
    go true ls e = let z : ◌≡◌ {A = ℕ} 0 1 = cc in omega arith
    go false [] e = let z : ◌≡◌ {A = ℕ} 0 1 = cc in omega arith
    go false (l ∷ ls) e = let z : ◌≡◌ {A = ℕ} 0 1 = cc in omega arith

line_step : (b : ℕ) (bs : List ℕ) → (lines bs ≡ [] → ⊥) → unlines (lines (b ∷ bs)) ≡ b ∷ unlines (lines bs)
unfolding lines pick
line_step b bs h = go (eqb b 10) refl
  where
    go : (t : Bool) → eqb b 10 ≡ t → unlines (pick t ([] ∷ lines bs) (to_first b (lines bs))) ≡ b ∷ unlines (lines bs)
    go true p = rw (eqb-true b 10 p) (empty-line (lines bs))
    go false p = to-first b (lines bs) h

pub unlines-lines : (bs : List ℕ) → last_byte bs ≡ 10 → unlines (lines bs) ≡ bs
unfolding last_byte
unlines-lines [] e = no_lines
unlines-lines (b ∷ []) e = rw e one_line
unlines-lines (b ∷ c ∷ bs) e = line_step b (c ∷ bs) (some-line c bs) ∙ ap (λ (l : List ℕ). b ∷ l) (unlines-lines (c ∷ bs) e)

-- ---- written lines have no line feed inside
column-plain : (neg : Bool) (m s : ℕ) → column_of neg m s ≡ 10 → ⊥
unfolding column_of pick
column-plain neg m s e = go (either (eqb s 1) (leb s m)) (both neg (leb s (m * 10))) e
  where
    go : (a b : Bool) → pick a (48 + m / s % 10) (pick b 45 32) ≡ 10 → ⊥
    go true b e = omega arith
    go false true e = omega arith
    go false false e = omega arith

pub plain-append : (xs ys : List ℕ) → Plain xs → Plain ys → Plain (xs ++ ys)
unfolding Plain
plain-append [] ys p q = q
plain-append (x ∷ xs) ys p q = (p.0, plain-append xs ys p.1 q)

pub columns-plain : (w : ℕ) (neg : Bool) (m : ℕ) → Plain (in_columns w neg m)
unfolding Plain in_columns
columns-plain zero neg m = tt
columns-plain (suc w) neg m = (column-plain neg m (10 ^ w), columns-plain w neg m)

field_plain : (v : ℤ) → Plain (written v)
unfolding written columns
field_plain (pos m) = columns-plain 4 false m
field_plain (negsuc m) = columns-plain 4 true (suc m)

pub fields-plain : (vs : List ℤ) → Plain (written_all vs)
unfolding written_all Plain
fields-plain [] = tt
fields-plain (v ∷ vs) = plain-append (written v) (written_all vs) (field_plain v) (fields-plain vs)

pub rows-plain : (rs : List Row) → Every Writable rs → Every Plain (row_lines rs)
unfolding row_lines line_of Plain
rows-plain [] w = tt
rows-plain (r ∷ rs) w = ((letter-plain r.place w.0.known, fields-plain r.nums), rows-plain rs w.1)

-- ---- the last byte
last-over : (b : ℕ) (xs : List ℕ) (y : ℕ) (ys : List ℕ) → last_byte (b ∷ (xs ++ (y ∷ ys))) ≡ last_byte (y ∷ ys)
unfolding last_byte
last-over b [] y ys = refl
last-over b (x ∷ xs) y ys = last-over x xs y ys

last-append : (xs : List ℕ) (y : ℕ) (ys : List ℕ) → last_byte (xs ++ (y ∷ ys)) ≡ last_byte (y ∷ ys)
last-append [] y ys = refl
last-append (x ∷ xs) y ys = last-over x xs y ys

pub last-unlines : (l : List ℕ) (ls : List (List ℕ)) → last_byte (unlines (l ∷ ls)) ≡ 10
unfolding unlines last_byte
last-unlines l [] = last-append l 10 []
last-unlines l (m ∷ ls) = last-append l 10 (m ++ (10 ∷ unlines ls)) ∙ last-over 10 m 10 (unlines ls) ∙ (sym (last-append m 10 (unlines ls)) ∙ last-unlines m ls)
