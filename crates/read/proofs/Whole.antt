-- The whole text, and the number table in the lent slice: what each return is by the definitions.
-- Rows are copied one by one: what is left to put, from here, gives the final slice.
use mathlib.Core.Path.{◌≡◌, refl, sym, ap, ◌∙◌}
use mathlib.Core.List.{List, [], ◌∷◌, ◌++◌, map, append-nil, append_assoc}
use Prim.Native.Nat.{ℕ, zero, suc, ◌+◌, ◌-◌, ◌<◌, ◌≤◌}
use native.Mathlib.Nat.{zero-add}
use native.Mathlib.Omega.{arith}
use lib.IntN.{ℤ, pos}
use lib.ListN.{get_or, take, drop, set, length, length-take}
use borrow.Rule.Slice.PartMut.{put_mid}
use lib.Seq.{drop-drop, length-sets, sets, sets-eq, drop-cons}
use mir.Syntax.{w32}
use mir.Val.{to_z}
use mir.Facts.{to_z_pos}
use borrow.Author.Tests.{eq-eqb, ne_eqb, lt-ltb, le-ltb}
use Rattle.std.specs.Prelude.{Result, Ok, Err}
use Rattle.logic.specs.Tests.{pick}
use Rattle.book.specs.declared.Shape.{Shape}
use Rattle.book.specs.Kinds.{kinds, most, bytes, longest, room, front}
use Rattle.book.specs.Counts.{front_of, row_numbers, InLimits, numbers_each}
use Rattle.book.proofs.Counts.{front-small, sum-all, numbers-most}
use Rattle.logic.proofs.Stores.{sets-append, pieces}
use Rattle.text.specs.declared.Refusal.{Refusal}
use Rattle.text.specs.Lines.{lines}
use Rattle.text.specs.Reading.{Outcome, start, read_lines, last_byte, read_text, table_of, over, lent, read_with, read_answer, read_into, refusal}
use Rattle.text.specs.Reading.Outcome.{accepted, refused}
use Rattle.text.specs.Accepted.{Accepted as Facts}
use Rattle.text.proofs.Facts.{accepted-facts}
use Rattle.read.specs.Storing.{outcome_of}
use Rattle.read.specs.Parsing.{Parsing, Met}
use Rattle.read.proofs.Going.{refused-is}

-- ---- the tests of the whole text
last-at : (b : ℕ) (bs : List ℕ) → get_or (b ∷ bs) (length bs) 0 ≡ last_byte (b ∷ bs)
unfolding last_byte
last-at b [] = refl
last-at b (c ∷ bs) = last-at c bs

pub last-is : (bs : List ℕ) → (length bs ≡ 0 → ⊥) → get_or bs (length bs - 1) 0 ≡ last_byte bs
last-is [] f = absurd (f refl)
last-is (b ∷ bs) f = let e : suc (length bs) - 1 ≡ length bs = omega arith in rw e (last-at b bs)

text-long : (bs : List ℕ) → longest < length bs → refused 1 0 ≡ read_text bs
unfolding read_text pick
text-long bs h = rw (lt-ltb longest (length bs) h)

text-empty : (bs : List ℕ) → length bs ≤ longest → length bs ≡ 0 → refused 2 0 ≡ read_text bs
unfolding read_text pick last_byte
text-empty [] h e = rw (le-ltb longest 0 h)
text-empty (b ∷ bs) h e = absurd (omega arith)

text-open : (bs : List ℕ) → length bs ≤ longest → (length bs ≡ 0 → ⊥) → (get_or bs (length bs - 1) 0 ≡ 10 → ⊥) → refused 2 0 ≡ read_text bs
unfolding read_text pick
text-open bs h f g = rw (le-ltb longest (length bs) h, ne_eqb (last_byte bs) 10 (λ e. g (last-is bs f ∙ e)))

text-lines : (bs : List ℕ) (o : Outcome) → length bs ≤ longest → (length bs ≡ 0 → ⊥) → get_or bs (length bs - 1) 0 ≡ 10 → o ≡ read_lines (lines bs) start 1 → o ≡ read_text bs
unfolding read_text pick
text-lines bs o h f e r = rw (le-ltb longest (length bs) h, eq-eqb (last_byte bs) 10 (sym (last-is bs f) ∙ e)) r

-- An answer that is the outcome of reading has all that is promised of it.
parsing-of : (bs : List ℕ) (r : Result Shape Refusal) (l : List ℤ) → outcome_of r l ≡ read_text bs → Parsing bs r l
unfolding outcome_of
parsing-of bs r l e = record { is = e; facts = λ s f. accepted-facts bs s (take (row_numbers s) l) (sym (rw f at e)) }

module _ (bs : List ℕ) (l : List ℤ) (r : Refusal) where
  pub parsed-long : r ≡ refusal 1 0 → longest < length bs → Parsing bs (Err r) l
  parsed-long e h = parsing-of bs (Err r) l (refused-is 1 0 l r e ∙ text-long bs h)

  pub parsed-empty : r ≡ refusal 2 0 → length bs ≤ longest → length bs ≡ 0 → Parsing bs (Err r) l
  parsed-empty e h f = parsing-of bs (Err r) l (refused-is 2 0 l r e ∙ text-empty bs h f)

  pub parsed-open : r ≡ refusal 2 0 → length bs ≤ longest → (length bs ≡ 0 → ⊥) → (get_or bs (length bs - 1) 0 ≡ 10 → ⊥) → Parsing bs (Err r) l
  parsed-open e h f g = parsing-of bs (Err r) l (refused-is 2 0 l r e ∙ text-open bs h f g)

module _ (bs : List ℕ) (r : Result Shape Refusal) (l : List ℤ) where
  pub parsed-lines : outcome_of r l ≡ read_lines (lines bs) start 1 → length bs ≤ longest → (length bs ≡ 0 → ⊥) → get_or bs (length bs - 1) 0 ≡ 10 → Parsing bs r l
  parsed-lines e h f g = parsing-of bs r l (text-lines bs (outcome_of r l) h f g e)

-- ---- numbers put into a slice one by one
-- The first m numbers of a list, each a piece.
abbrev pub each_of : List ℤ → ℕ → List ℤ
each_of vs i = get_or vs i (pos 0) ∷ []

pieces-each : (vs : List ℤ) (i m : ℕ) → i + m ≤ length vs → take m (drop i vs) ≡ pieces (each_of vs) i m
unfolding pieces
pieces-each vs i zero h = refl
pieces-each vs i (suc m) h = rw (drop-cons vs i (pos 0) (omega arith)) (ap (λ (l : List ℤ). get_or vs i (pos 0) ∷ l) (pieces-each vs (suc i) m (omega arith)))

pub rows-each : (vs : List ℤ) (m : ℕ) → m ≤ length vs → take m vs ≡ pieces (each_of vs) 0 m
rows-each vs m h = pieces-each vs 0 m (omega arith)

-- A number put at its place is its piece put there.
pub put-each : (vs l : List ℤ) (a i : ℕ) (v : ℤ) → v ≡ get_or vs i (pos 0) → set l a v ≡ sets l a (each_of vs i)
put-each vs l a i v e = rw e

-- ---- the number table in a slice
pub front_fits : (s : Shape) (cs : List ℕ) (i : ℕ) → InLimits s → cs ≡ front_of s → get_or cs i 0 < 2147483648
front_fits s cs i l e = rw e (omega (arith, front-small s l i))

-- Number i of the front, as the machine has it.
number_is : (cs : List ℕ) (i : ℕ) → get_or (map pos cs) i (pos 0) ≡ pos (get_or cs i 0)
number_is [] i = refl
number_is (x ∷ cs) zero = refl
number_is (x ∷ cs) (suc i) = number_is cs i

pub front-number : (s : Shape) (cs : List ℕ) (i : ℕ) → InLimits s → cs ≡ front_of s → to_z w32 (get_or cs i 0) ≡ get_or (map pos cs) i (pos 0)
front-number s cs i l e = to_z_pos w32 {n = get_or cs i 0} (omega (arith, front_fits s cs i l e)) ∙ sym (number_is cs i)

pub front-each : (s : Shape) (cs : List ℕ) → cs ≡ front_of s → table_of s [] ≡ pieces (each_of (map pos cs)) 0 front
unfolding table_of front_of
front-each s cs e = rw (e, append-nil (map pos (front_of s))) (rows-each (map pos (front_of s)) front (omega arith))

pub table-long : (s : Shape) (ws : List ℤ) → length (table_of s ws) ≡ front + length ws
unfolding table_of front_of
table-long s ws = omega arith

table-split : (s : Shape) (ws : List ℤ) → table_of s ws ≡ table_of s [] ++ ws
unfolding table_of
table-split s ws = rw (append-nil (map pos (front_of s)))

pub table-put : (l m ws vs k : List ℤ) (s : Shape) → front + length ws ≤ length l → m ≡ sets l 0 (table_of s []) → vs ≡ ws → k ≡ put_mid front (front + length ws - front) m vs → k ≡ over l (table_of s ws)
unfolding over
table-put l m ws vs k s h em ev ek =
    let e : 0 + length (table_of s []) ≡ front = omega (arith, table-long s []) in
    let z : length (table_of s ws) ≤ length l = omega (arith, table-long s ws) in
    let d : length m ≡ length l = ap length em ∙ length-sets l 0 (table_of s []) in
    let g : front + length ws - front ≡ length ws = omega arith in
    ek ∙ (rw (ev, g, drop-drop (length ws) front m, ← append_assoc (take front m) ws (drop (front + length ws) m), ← sets-eq ws m front (omega arith)) (rw (em, ← e, ← sets-append (table_of s []) ws l 0, ← table-split s ws) (sets-eq (table_of s ws) l 0 (omega (arith, z)) ∙ rw (zero-add (length (table_of s ws))))))

-- The rows of any book have room.
numbers-room : most numbers_each kinds ≤ room
unfolding longest most bytes kinds
numbers-room = omega arith

-- ---- Read
module _ (bs : List ℕ) (l rows : List ℤ) (r : Result Shape Refusal) (p : Parsing bs r rows) where
  pub read-refused : (x : Refusal) → r ≡ Err x → Met bs l (Err x) l
  unfolding read_with read_answer read_into lent outcome_of
  read-refused x e =
      let q : read_text bs ≡ refused x.number x.line = sym (rw e at p.is) in
      record { answer = rw q; slice = rw q }

  module _ (s : Shape) (e : r ≡ Ok s) where
    read_is : read_text bs ≡ accepted s (take (row_numbers s) rows)
    unfolding outcome_of
    read_is = sym (rw e at p.is)

    book : Facts s (take (row_numbers s) rows)
    book = p.facts s e

    pub book-limits : InLimits s
    book-limits = book.limits

    pub few-numbers : row_numbers s ≤ 100000
    few-numbers = omega (arith, sum-all numbers_each s book.limits, numbers-most)

    pub rows-fit : row_numbers s ≤ room
    rows-fit = omega (arith, sum-all numbers_each s book.limits, numbers-room)

    book-long : length (table_of s (take (row_numbers s) rows)) ≡ front + row_numbers s
    book-long = table-long s (take (row_numbers s) rows) ∙ ap (λ (m : ℕ). front + m) book.size

    pub rows_long : row_numbers s ≤ length rows
    rows_long = omega (arith, book.size, length-take (row_numbers s) rows)

    pub read_short : (m : ℕ) (y : Refusal) → m ≡ row_numbers s → length l < front + m → y ≡ refusal 15 0 → Met bs l (Err y) l
    unfolding read_with read_answer read_into lent pick
    read_short m y em h ey = record { answer = ap Err ey ∙ rw (read_is, lt-ltb (length l) (length (table_of s (take (row_numbers s) rows))) (omega (arith, book-long))); slice = rw (read_is, lt-ltb (length l) (length (table_of s (take (row_numbers s) rows))) (omega (arith, book-long))) }

    pub read_whole : (m : ℕ) (k : List ℤ) → m ≡ row_numbers s → front + m ≤ length l → k ≡ over l (table_of s (take m rows)) → Met bs l (Ok s) k
    unfolding read_with read_answer read_into lent pick
    read_whole m k em h ek =
        record {
          answer = rw (read_is, le-ltb (length l) (length (table_of s (take (row_numbers s) rows))) (omega (arith, book-long)));
          slice = rw (read_is, le-ltb (length l) (length (table_of s (take (row_numbers s) rows))) (omega (arith, book-long))) (ek ∙ rw em);
        }
