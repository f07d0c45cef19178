-- The loop over the lines: its invariant, a record, and its turn.
-- What is left to read, from the cursor on, after the rows so far, gives the final outcome.
use mathlib.Core.Path.{◌≡◌, refl, sym, ap, ◌∙◌}
use mathlib.Core.Bool.{Bool, true, false}
use mathlib.Core.List.{List, [], ◌∷◌, ◌++◌, append_assoc, append-nil}
use Prim.Native.Nat.{ℕ, zero, suc, ◌+◌, ◌*◌, ◌<◌, ◌≤◌}
use native.Mathlib.Nat.{add-zero, div-add-mod', mod-lt}
use native.Mathlib.Numerals.{add-one}
use native.Mathlib.Omega.{arith}
use lib.Dec.{eqb}
use lib.IntN.{ℤ, pos, negsuc}
use lib.Signed.{le_z}
use lib.ListN.{get_or, drop, take, set, length, replicate, length-drop, length-append, drop_of_length-le}
use lib.Seq.{sets, sets-eq, length-sets, take_at, length-take-le}
use borrow.Author.Tests.{eqb-true, eqb-false, eq-eqb, ne_eqb, leb-true}
use Rattle.std.specs.Prelude.{Result, Ok, Err, MatchResult, IsErrAnd}
use Rattle.std.proofs.lemmas.Result.{err_from_is_err_and}
use Rattle.logic.specs.Tests.{pick, cons_if}
use Rattle.book.specs.declared.Content.{Content}
use Rattle.book.specs.declared.Content.TheVariants.{Edition, Statements, Literal, Exception, Total}
use Rattle.book.specs.declared.Fault.{Fault}
use Rattle.book.specs.Faults.{number, numbered}
use Rattle.book.specs.Limits as limit
use Rattle.book.specs.Kinds.{kinds, kind, bytes, most, fields_of, none, widest, longest, room, range_of}
use Rattle.book.specs.Counts.{row_numbers}
use Rattle.book.specs.declared.Shape.{Shape}
use Rattle.book.proofs.Counts.{narrow}
use Rattle.text.specs.declared.State.{State}
use Rattle.text.specs.declared.Refusal.{Refusal}
use Rattle.text.specs.Lines.{Line, between, inside, code, numbers_in, line_of, lines, read_line}
use Rattle.text.specs.Lines.Numbers.{numbers}
use Rattle.text.specs.Lines.Line.{line, wrong}
use Rattle.text.specs.Reading.{Front, start, to_nat, last_or, step, row_of, shape_of, read_lines, with_row, on_front, read_book, alone, last_byte, refusal}
use Rattle.text.specs.Reading.Outcome.{refused}
use Rattle.text.specs.Reading.Front.{found, stopped}
use Rattle.text.specs.Tables.{test_fields}
use Rattle.logic.proofs.Tests.{both_right}
use Rattle.text.proofs.KindFacts.{width_is, numbers-are}
use Rattle.text.proofs.Lines.{row-passed, read-line, fields-length, first-numbers}
use Rattle.text.proofs.Fronts.{alone-lines, book-size}
use Rattle.text.proofs.Books.{in-first}
use Rattle.cursor.specs.declared.Cursor.{Cursor}
use Rattle.cursor.specs.Places.{first_cursor, past_line}
use Rattle.read.specs.Storing.{store_line, answer_line, step_with, until_feed, end_of, front_is, outcome_of}
use Rattle.read.specs.Storing.LineLeft.{kept_line, lost_line}
use Rattle.read.proofs.Feeds.{line-in, line-split}
use Rattle.read.proofs.States.{step-with}

-- ---- what read_line left
line_kept : (st : State) (l₀ l : List ℤ) (to : ℕ) (x : Line) (r : Result (ℕ × ℕ) ℕ) (k n : ℕ) → answer_line r l ≡ store_line st l₀ to x → r ≡ Ok (k, n) → (vs : List ℤ) × (x ≡ line k vs) × (l ≡ sets l₀ to vs) × (n ≡ (step st k vs).statements)
unfolding answer_line store_line
line_kept st l₀ l to (line j vs) r k n e f =
    let z : kept_line k n l ≡ kept_line j (step st j vs).statements (sets l₀ to vs) = rw f at e in
    let q : j ≡ k = cc in
    (vs, rw q, cc, rw (← q) cc)
line_kept st l₀ l to (wrong q) r k n e f = let z : kept_line k n l ≡ lost_line q = rw f at e in absurd (let y : ◌≡◌ {A = ℕ} 0 1 = cc in omega arith)

line-lost : (st : State) (l₀ l : List ℤ) (to : ℕ) (x : Line) (r : Result (ℕ × ℕ) ℕ) (q : ℕ) → answer_line r l ≡ store_line st l₀ to x → r ≡ Err q → x ≡ wrong q
unfolding answer_line store_line
line-lost st l₀ l to (line j vs) r q e f = let z : lost_line q ≡ kept_line j (step st j vs).statements (sets l₀ to vs) = rw f at e in absurd (let y : ◌≡◌ {A = ℕ} 0 1 = cc in omega arith)
line-lost st l₀ l to (wrong p) r q e f = let z : lost_line q ≡ lost_line p = rw f at e in let w : p ≡ q = cc in rw w

-- ---- bounds
-- n is in its limit after every line.
in-limit : (n : ℕ) (v : ℤ) → inside (range_of Statements n) v ≡ true → to_nat v ≤ limit.statements
unfolding inside between range_of to_nat
in-limit n (pos m) e = leb-true m limit.statements (both_right (le_z (pos 1) (pos m)) _ e)
in-limit n (negsuc m) e = omega arith

last-small : (cs : List Content) (n : ℕ) (vs us : List ℤ) (s : ℕ) → test_fields cs n vs ≡ numbers us → s ≤ limit.statements → last_or s (numbers_in Statements cs vs) ≤ limit.statements
unfolding test_fields last_or numbers_in cons_if code
last-small [] n vs us s e h = h
last-small (c ∷ cs) n [] us s e h = h
last-small (Statements ∷ cs) n (v ∷ vs) us s e h =
    let g = first-numbers (Ok v) (range_of Statements n) (test_fields cs n vs) us e in
    last-small cs n vs g.1 (to_nat v) g.3 (in-limit n v (in-first (range_of Statements n) v (test_fields cs n vs) us e))
last-small (Edition ∷ cs) n (v ∷ vs) us s e h = let g = first-numbers (Ok v) (range_of Edition n) (test_fields cs n vs) us e in last-small cs n vs g.1 s g.3 h
last-small (Literal ∷ cs) n (v ∷ vs) us s e h = let g = first-numbers (Ok v) (range_of Literal n) (test_fields cs n vs) us e in last-small cs n vs g.1 s g.3 h
last-small (Exception ∷ cs) n (v ∷ vs) us s e h = let g = first-numbers (Ok v) (range_of Exception n) (test_fields cs n vs) us e in last-small cs n vs g.1 s g.3 h
last-small (Total ∷ cs) n (v ∷ vs) us s e h = let g = first-numbers (Ok v) (range_of Total n) (test_fields cs n vs) us e in last-small cs n vs g.1 s g.3 h

step_small : (st : State) (k : ℕ) (vs : List ℤ) → st.statements ≤ limit.statements → test_fields (fields_of (kind k)) st.statements vs ≡ numbers vs → (step st k vs).statements ≤ limit.statements
unfolding step
step_small st k vs h e = last-small (fields_of (kind k)) st.statements vs vs st.statements e h

more-bound : (l : List ℕ) (k j : ℕ) → get_or (set l k (suc (get_or l k 0))) j 0 ≤ suc (get_or l j 0)
more-bound [] k j = omega arith
more-bound (x ∷ l) zero zero = omega arith
more-bound (x ∷ l) zero (suc j) = omega arith
more-bound (x ∷ l) (suc k) zero = omega arith
more-bound (x ∷ l) (suc k) (suc j) = more-bound l k j

step_counts : (st : State) (k : ℕ) (vs : List ℤ) (j m : ℕ) → get_or st.counts j 0 ≤ m → get_or (step st k vs).counts j 0 ≤ m + 1
unfolding step
step_counts st k vs j m h = omega (arith, more-bound st.counts k j)

step-rows : (st : State) (k : ℕ) (vs : List ℤ) (m : ℕ) → st.rows ≤ m → (step st k vs).rows ≤ m + 1
unfolding step pick
step-rows st k vs m h = go (kind k).row
  where
    go : (b : Bool) → pick b (suc st.rows) st.rows ≤ m + 1
    go true = omega arith
    go false = omega arith

row-narrow : (k : ℕ) → k < none → (kind k).numbers ≤ (kind k).fields
unfolding pick
row-narrow k h = rw (numbers-are k h) (go (kind k).row)
  where
    go : (b : Bool) → pick b (kind k).fields 0 ≤ (kind k).fields
    go true = omega arith
    go false = omega arith

pub row_small : (k : ℕ) → k < none → (kind k).numbers ≤ widest
row_small k h = omega (arith, row-narrow k h, narrow k h)

-- ---- the rows so far
taken : (t vs : List ℤ) (to k : ℕ) → k < none → to + length vs ≤ length t → length vs ≡ (kind k).fields → take (to + (kind k).numbers) (sets t to vs) ≡ take to t ++ row_of k vs
unfolding row_of pick
taken t vs to k l h w = rw (numbers-are k l) (go (kind k).row)
  where
    go : (b : Bool) → take (to + pick b (kind k).fields 0) (sets t to vs) ≡ take to t ++ pick b vs []
    go true = rw (← w, sets-eq vs t to h) (take_at (take to t ++ vs) (drop (to + length vs) t) (to + length vs) (simp length-append (omega (arith, length-take-le to t (omega arith)))))
    go false = rw (add-zero to, sets-eq vs t to h, append_assoc) (take_at (take to t) (vs ++ drop (to + length vs) t) to (length-take-le to t (omega arith)) ∙ sym (append-nil (take to t)))

rows-twice : (us vs : List ℤ) (f : Front) → with_row us (with_row vs f) ≡ with_row (us ++ vs) f
unfolding with_row
rows-twice us vs (found s ws ls l) = rw (append_assoc us vs ws)
rows-twice us vs (stopped q l) = refl

no_rows : (f : Front) → with_row [] f ≡ f
unfolding with_row
no_rows (found s ws ls l) = refl
no_rows (stopped q l) = refl

-- ---- the invariant
-- What is found from a cursor on.
abbrev pub book_from : List ℕ → Cursor → State → Front
book_from text c st = read_book (lines (drop c.at text)) st c.line

pub record Going (text : List ℕ) (from : Cursor) (t₀ t : List ℤ) (st : State) (c : Cursor) (to : ℕ) : Type 0 where
  pub in-text : c.at ≤ length text
  pub few-lines : c.line ≤ c.at + 1
  pub few-numbers : to * 4 ≤ c.at
  pub same_size : length t ≡ length t₀
  pub small_n : st.statements ≤ limit.statements
  pub small-counts : (j : ℕ) → get_or st.counts j 0 ≤ c.at
  pub small-rows : st.rows ≤ c.at
  pub rest : with_row (take to t) (book_from text c st) ≡ book_from text from start

zeros : (m j : ℕ) → ◌≡◌ {A = ℕ} (get_or (replicate m 0) j 0) 0
zeros zero j = refl
zeros (suc m) zero = refl
zeros (suc m) (suc j) = zeros m j

pub going_start : (text : List ℕ) (from : Cursor) (t₀ : List ℤ) (st : State) → st ≡ start → from.at ≤ length text → from.line ≤ from.at + 1 → Going text from t₀ t₀ st from 0
unfolding start
going_start text from t₀ st e h g =
    rw e
    (record {
      in-text = h;
      few-lines = g;
      few-numbers = omega arith;
      same_size = refl;
      small_n = omega arith;
      small-counts = λ j. rw (zeros none j) (omega arith);
      small-rows = omega arith;
      rest = no_rows (book_from text from (record { next = 0; statements = 0; counts = replicate none 0; rows = 0 }));
    })

-- ---- the turn
module _ (text : List ℕ) (from : Cursor) (t₀ t t' : List ℤ) (st : State) (c : Cursor) (to len : ℕ) (g : Going text from t₀ t st c to) (h : c.at < length text) (e : last_byte text ≡ 10) (more : st.next ≡ none → ⊥)
    (el : len ≡ until_feed (drop c.at text)) (found-is : Result (ℕ × ℕ) ℕ) (ef : answer_line found-is t' ≡ store_line st t to (read_line st (take len (drop c.at text)))) where
  opened : with_row (take to t) (on_front (read_line st (take len (drop c.at text))) c.line (λ k vs. read_book (lines (drop (c.at + len + 1) text)) (step st k vs) (suc c.line))) ≡ book_from text from start
  unfolding read_book pick
  opened = rw (ne_eqb st.next none more) at (rw (line-split text c.at len h e el) at g.rest)

  pub going-bad : (q : ℕ) → found-is ≡ Err q → stopped q c.line ≡ book_from text from start
  unfolding on_front with_row
  going-bad q f = rw (line-lost st t t' to (read_line st (take len (drop c.at text))) found-is q ef f) at opened

  module _ (k n : ℕ) (f : found-is ≡ Ok (k, n)) where
    pub going-kind : k < none
    going-kind =
        let v = line_kept st t t' to (read_line st (take len (drop c.at text))) found-is k n ef f in
        (read-line st (take len (drop c.at text)) k v.0 v.1).0

    going-size : length t' ≡ length t
    going-size =
        let v = line_kept st t t' to (read_line st (take len (drop c.at text))) found-is k n ef f in
        ap length v.2 ∙ length-sets t to v.0

    module _ (room_in : room ≤ length t₀) (short : length text ≤ longest) (st' : State) (x : ℕ) (c' : Cursor) (es : st' ≡ step_with st k n) (ex : x ≡ (kind k).numbers) (ec : c' ≡ past_line c len) where
      -- The numbers of the line, and how long it is.
      wide : (vs : List ℤ) → read_line st (take len (drop c.at text)) ≡ line k vs → (length vs ≡ (kind k).fields) × (length vs * 4 + 1 ≡ len) × (test_fields (fields_of (kind k)) st.statements vs ≡ numbers vs)
      unfolding line_of
      wide vs r =
          let p = read-line st (take len (drop c.at text)) k vs r in
          let w = row-passed st k vs k vs p.2 in
          let m = length-take-le len (drop c.at text) (simp length-drop (omega (arith, line-in text c.at len h e el))) in
          (w.wide ∙ width_is k going-kind, omega (arith, m, ap length p.1, fields-length vs), w.fields-pass)

      line_on : (vs : List ℤ) → read_line st (take len (drop c.at text)) ≡ line k vs
          → with_row (take to t) (with_row (row_of k vs) (read_book (lines (drop (c.at + len + 1) text)) (step st k vs) (suc c.line))) ≡ book_from text from start
      unfolding on_front
      line_on vs r = rw r at opened

      next_of : (vs : List ℤ) → read_line st (take len (drop c.at text)) ≡ line k vs → t' ≡ sets t to vs → n ≡ (step st k vs).statements → Going text from t₀ t' st' c' (to + x)
      next_of vs r d u =
          let w = wide vs r in
          let i = line-in text c.at len h e el in
          let fit : to + length vs ≤ length t = omega (arith, g.few-numbers, g.same_size, w.0, narrow k going-kind, div-add-mod' longest 4, mod-lt longest {m = 4} (omega arith)) in
          let q : st' ≡ step st k vs = es ∙ (ap (step_with st k) u ∙ step-with st k vs) in
          rw (ec, q)
          (record {
            in-text = omega arith;
            few-lines = omega (arith, g.few-lines);
            few-numbers = omega (arith, g.few-numbers, w.1, w.0, row-narrow k going-kind, ex);
            same_size = going-size ∙ g.same_size;
            small_n = step_small st k vs g.small_n w.2;
            small-counts = λ j. omega (arith, step_counts st k vs j c.at (g.small-counts j));
            small-rows = omega (arith, step-rows st k vs c.at g.small-rows);
            rest =
                rw (d, ex, taken t vs to k going-kind fit w.0, add-one c.line, ← rows-twice (take to t) (row_of k vs) (read_book (lines (drop (c.at + len + 1) text)) (step st k vs) (suc c.line)))
                (line_on vs r);
          })

      pub going_next : Going text from t₀ t' st' c' (to + x)
      going_next =
          let v = line_kept st t t' to (read_line st (take len (drop c.at text))) found-is k n ef f in
          next_of v.0 v.1 v.2 v.3

-- ---- the end
-- After Z no line is looked at.
end-yes : (ls : List (List ℕ)) (st : State) (lno : ℕ) (us : List ℤ) → st.next ≡ none → with_row us (read_book ls st lno) ≡ found (shape_of st) us ls lno
unfolding with_row read_book pick
end-yes [] st lno us e = rw (eq-eqb st.next none e, append-nil us)
end-yes (l ∷ ls) st lno us e = rw (eq-eqb st.next none e, append-nil us)

end-no : (st : State) (lno : ℕ) (us : List ℤ) → (st.next ≡ none → ⊥) → with_row us (read_book (lines []) st lno) ≡ stopped 3 lno
unfolding with_row read_book lines pick
end-no st lno us f = rw (ne_eqb st.next none f)

module _ (text : List ℕ) (from : Cursor) (t₀ t : List ℤ) (st : State) (c : Cursor) (to : ℕ) (g : Going text from t₀ t st c to) (short : length text ≤ longest) (room_in : room ≤ length t₀) where
  -- The rows of a book are as many numbers as its shape says.
  found-end : st.next ≡ none → front_is text (Ok (shape_of st, c)) t ≡ book_from text from start
  unfolding front_is
  found-end n =
      let r : found (shape_of st) (take to t) (lines (drop c.at text)) c.line ≡ book_from text from start = sym (end-yes (lines (drop c.at text)) st c.line (take to t) n) ∙ g.rest in
      let z = book-size (lines (drop from.at text)) from.line (shape_of st) (take to t) (lines (drop c.at text)) c.line (sym r) in
      let q : to ≡ row_numbers (shape_of st) = sym (length-take-le to t (omega (arith, g.few-numbers, g.same_size, g.in-text, div-add-mod' longest 4, mod-lt longest {m = 4} (omega arith)))) ∙ z in
      ap (λ (m : ℕ). found (shape_of st) (take m t) (lines (drop c.at text)) c.line) (sym q) ∙ r

  module _ (r : Result (Shape × Cursor) Refusal) (er : r ≡ end_of st c) where
    pub going_done : st.next ≡ none → front_is text r t ≡ book_from text from start
    unfolding end_of pick
    going_done n = rw (er, eq-eqb st.next none n) (found-end n)

    pub going_end : length text ≤ c.at → front_is text r t ≡ book_from text from start
    unfolding end_of pick front_is
    going_end h = go (eqb st.next none) refl er (rw (drop_of_length-le text {i = c.at} h) at g.rest)
      where
        go : (b : Bool) → eqb st.next none ≡ b → r ≡ pick b (Ok (shape_of st, c)) (Err (refusal 3 c.line)) → with_row (take to t) (read_book (lines []) st c.line) ≡ book_from text from start → front_is text r t ≡ book_from text from start
        go true b e p = going_done (eqb-true st.next none b)
        go false b e p = rw e (sym (end-no st c.line (take to t) (eqb-false st.next none b)) ∙ p)

-- A refusal in front of a text.
pub lost-is : (text : List ℕ) (q lno : ℕ) (l : List ℤ) (r : Refusal) → r ≡ refusal q lno → front_is text (Err r) l ≡ stopped q lno
unfolding front_is
lost-is text q lno l r e = rw e

-- A refusal's number, with the line that it is given.
pub turned : {A : Type 0} (x : Result A Fault) (y : Result A Refusal) (r : Refusal) (lno : ℕ) (P : Fault → Refusal → Type 0) → ((q : Fault) (r : Refusal) → P q r → r ≡ refusal (number q) lno) → y ≡ Err r
    → MatchResult x (λ v. y ≡ Ok v) (λ q. IsErrAnd y (P q)) → (q : ℕ) × (numbered x ≡ Err q) × (r ≡ refusal q lno)
turned {A} (Ok v) y r lno P f e m = absurd (let z : ◌≡◌ {A = Result A Refusal} (Ok v) (Err r) = sym m ∙ e in let w : ◌≡◌ {A = ℕ} 0 1 = cc in omega arith)
turned {A} (Err q) y r lno P f e m = let p = err_from_is_err_and y m in let z : p.0 ≡ r = (let w : ◌≡◌ {A = Result A Refusal} (Err p.0) (Err r) = sym p.1 ∙ e in cc) in (number q, refl, sym z ∙ f q p.0 p.2)

-- An answer that was refused, as an outcome.
pub refused-is : (q lno : ℕ) (l : List ℤ) (r : Refusal) → r ≡ refusal q lno → outcome_of (Err r) l ≡ refused q lno
unfolding outcome_of
refused-is q lno l r e = rw e

-- ---- nothing after the book
module _ (text : List ℕ) (x : Result (Shape × Cursor) Refusal) (l : List ℤ) (first : Cursor) (ef : first ≡ first_cursor) (e : front_is text x l ≡ book_from text first start) (z : last_byte text ≡ 10) where
  all_lines : alone (front_is text x l) ≡ read_lines (lines text) start 1
  all_lines = ap alone (e ∙ ap (λ (c : Cursor). book_from text c start) ef) ∙ alone-lines (lines text) start 1

  pub alone-refused : (r : Refusal) → x ≡ Err r → outcome_of (Err r) l ≡ read_lines (lines text) start 1
  unfolding outcome_of front_is alone
  alone-refused r f = rw f at all_lines

  pub alone-more : (s : Shape) (c : Cursor) (r : Refusal) → x ≡ Ok (s, c) → c.at < length text → r ≡ refusal 3 c.line → outcome_of (Err r) l ≡ read_lines (lines text) start 1
  unfolding front_is alone
  alone-more s c r f h er = refused-is 3 c.line l r er ∙ rw (line-split text c.at (until_feed (drop c.at text)) h z refl) at (rw f at all_lines)

  pub alone-whole : (s : Shape) (c : Cursor) → x ≡ Ok (s, c) → length text ≤ c.at → outcome_of (Ok s) l ≡ read_lines (lines text) start 1
  unfolding outcome_of front_is alone lines
  alone-whole s c f h = rw (drop_of_length-le text {i = c.at} h) at (rw f at all_lines)

-- ---- what the calls in the loop ask
pub longest-small : longest < 1000000
unfolding longest most bytes kinds
longest-small = omega arith

module _ (text : List ℕ) (from : Cursor) (t₀ t : List ℤ) (st : State) (c : Cursor) (to : ℕ) (g : Going text from t₀ t st c to) (short : length text ≤ longest) where
  pub going-line : c.line < 2147483648
  going-line = omega (arith, g.few-lines, g.in-text, longest-small)

  pub going-n : st.statements < 2147483648
  going-n = omega (arith, g.small_n)

  pub going-count : (j : ℕ) → get_or st.counts j 0 < 2147483648
  going-count j = omega (arith, g.small-counts j, g.in-text, longest-small)

  pub going-rows : st.rows < 2147483648
  going-rows = omega (arith, g.small-rows, g.in-text, longest-small)

  pub going-room : room ≤ length t₀ → to + widest ≤ length t
  going-room h = omega (arith, g.few-numbers, g.in-text, g.same_size, div-add-mod' longest 4, mod-lt longest {m = 4} (omega arith))

  pub going-to : to < 1000000
  going-to = omega (arith, g.few-numbers, g.in-text, longest-small)
