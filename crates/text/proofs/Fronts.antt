-- A book in front of lines: read so, with nothing after it, the lines give what they give line by line; and the lines that a book takes are
-- accepted by themselves. By induction on the lines.
use mathlib.Core.Path.{◌≡◌, refl, ap, ◌∙◌}
use mathlib.Core.Bool.{Bool, true, false}
use mathlib.Core.List.{List, [], ◌∷◌, ◌++◌}
use Prim.Native.Nat.{ℕ, suc, ◌+◌}
use native.Mathlib.Omega.{arith}
use lib.Dec.{eqb}
use lib.IntN.{ℤ}
use lib.ListN.{length}
use borrow.Author.Tests.{eqb-true}
use Rattle.logic.specs.Tests.{pick}
use Rattle.book.specs.declared.Shape.{Shape}
use Rattle.book.specs.Kinds.{none}
use Rattle.book.specs.Counts.{row_numbers}
use Rattle.text.specs.declared.State.{State}
use Rattle.text.specs.Lines.{Line, read_kind, read_line}
use Rattle.text.specs.Lines.Line.{line, wrong}
use Rattle.text.specs.Reading.{Outcome, Front, start, step, row_of, prepend, shape_of, read_end, on_line, read_lines, with_row, on_front, read_book, alone}
use Rattle.text.specs.Reading.Outcome.{accepted, refused}
use Rattle.text.specs.Reading.Front.{found, stopped}
use Rattle.text.proofs.KindFacts.{past}
use Rattle.text.proofs.Texts.{read-rows}
use Rattle.text.proofs.Books.{book-run}

-- ---- nothing after it
-- After Z no line may come.
late-line : (st : State) (l : List ℕ) → st.next ≡ none → read_line st l ≡ wrong 3
unfolding read_line read_kind pick
late-line st [] e = refl
late-line st (b ∷ bs) e = rw (e, past none b (omega arith))

alone-row : (vs : List ℤ) (f : Front) → alone (with_row vs f) ≡ prepend vs (alone f)
unfolding alone with_row prepend
alone-row vs (found s ws [] at) = refl
alone-row vs (found s ws (l ∷ ls) at) = refl
alone-row vs (stopped q at) = refl

alone-line : (l : Line) (at : ℕ) (f : ℕ → List ℤ → Front) (g : ℕ → List ℤ → Outcome) → ((k : ℕ) (vs : List ℤ) → alone (f k vs) ≡ g k vs) → alone (on_front l at f) ≡ on_line l at g
unfolding on_front on_line alone
alone-line (wrong q) at f g h = refl
alone-line (line k vs) at f g h = alone-row (row_of k vs) (f k vs) ∙ ap (prepend (row_of k vs)) (h k vs)

pub alone-lines : (ls : List (List ℕ)) (st : State) (at : ℕ) → alone (read_book ls st at) ≡ read_lines ls st at
unfolding read_book read_lines read_end alone on_line pick
alone-lines [] st at = go (eqb st.next none)
  where
    go : (b : Bool) → alone (pick b (found (shape_of st) [] [] at) (stopped 3 at)) ≡ pick b (accepted (shape_of st) []) (refused 3 at)
    go true = refl
    go false = refl
alone-lines (l ∷ ls) st at = go (eqb st.next none) refl (alone-line (read_line st l) at (λ k vs. read_book ls (step st k vs) (suc at)) (λ k vs. read_lines ls (step st k vs) (suc at)) (λ k vs. alone-lines ls (step st k vs) (suc at)))
  where
    go : (b : Bool) → eqb st.next none ≡ b → alone (on_front (read_line st l) at (λ k vs. read_book ls (step st k vs) (suc at))) ≡ on_line (read_line st l) at (λ k vs. read_lines ls (step st k vs) (suc at))
        → alone (pick b (found (shape_of st) [] (l ∷ ls) at) (on_front (read_line st l) at (λ k vs. read_book ls (step st k vs) (suc at)))) ≡ on_line (read_line st l) at (λ k vs. read_lines ls (step st k vs) (suc at))
    go true e h = rw (late-line st l (eqb-true st.next none e))
    go false e h = h

-- ---- the lines of a book
pub record Taken (ls : List (List ℕ)) (st : State) (s : Shape) (ws : List ℤ) (rest : List (List ℕ)) (at n : ℕ) : Type 0 where
  pub own : List (List ℕ)
  pub all : ls ≡ own ++ rest
  pub next : n ≡ at + length own
  pub read : (m : ℕ) → read_lines own st m ≡ accepted s ws

-- A row in front of a book that was found.
with-found : (vs : List ℤ) (f : Front) (s : Shape) (ws : List ℤ) (rest : List (List ℕ)) (n : ℕ) → with_row vs f ≡ found s ws rest n → (us : List ℤ) × (f ≡ found s us rest n) × (ws ≡ vs ++ us)
unfolding with_row
with-found vs (found s' us ls k) s ws rest n e = (us, cc, cc)
with-found vs (stopped q k) s ws rest n e = absurd (let z : ◌≡◌ {A = ℕ} 0 1 = cc in omega arith)

record FrontWent (l : Line) (f : ℕ → List ℤ → Front) (s : Shape) (ws : List ℤ) (rest : List (List ℕ)) (n : ℕ) : Type 0 where
  pub k : ℕ
  pub vs : List ℤ
  pub us : List ℤ
  pub is : l ≡ line k vs
  pub then : f k vs ≡ found s us rest n
  pub rows : ws ≡ row_of k vs ++ us

front-went : (l : Line) (at : ℕ) (f : ℕ → List ℤ → Front) (s : Shape) (ws : List ℤ) (rest : List (List ℕ)) (n : ℕ) → on_front l at f ≡ found s ws rest n → FrontWent l f s ws rest n
unfolding on_front
front-went (wrong q) at f s ws rest n e = absurd (let z : ◌≡◌ {A = ℕ} 0 1 = cc in omega arith)
front-went (line k vs) at f s ws rest n e = let w = with-found (row_of k vs) (f k vs) s ws rest n e in record { k = k; vs = vs; us = w.0; is = refl; then = w.1; rows = w.2 }

-- Z was the line before: the book takes none of these lines.
taken_none : (ls : List (List ℕ)) (st : State) (s : Shape) (ws : List ℤ) (rest : List (List ℕ)) (at n : ℕ) → st.next ≡ none → found (shape_of st) [] ls at ≡ found s ws rest n → Taken ls st s ws rest at n
unfolding read_lines read_end pick
taken_none ls st s ws rest at n z e =
    let a : ls ≡ rest = cc in
    let b : at ≡ n = cc in
    let c : accepted (shape_of st) [] ≡ accepted s ws = cc in
    record { own = []; all = a; next = omega arith; read = λ m. rw (z) c }

on-accepted : (l : Line) (k : ℕ) (vs us ws : List ℤ) (m : ℕ) (g : ℕ → List ℤ → Outcome) (s : Shape) → l ≡ line k vs → g k vs ≡ accepted s us → ws ≡ row_of k vs ++ us → on_line l m g ≡ accepted s ws
unfolding on_line prepend
on-accepted l k vs us ws m g s e t w = rw (e, t, w)

taken_more : (l : List ℕ) (ls : List (List ℕ)) (st : State) (s : Shape) (ws us : List ℤ) (rest : List (List ℕ)) (at n k : ℕ) (vs : List ℤ) → read_line st l ≡ line k vs → ws ≡ row_of k vs ++ us → Taken ls (step st k vs) s us rest (suc at) n → Taken (l ∷ ls) st s ws rest at n
unfolding read_lines
taken_more l ls st s ws us rest at n k vs e w t =
    record {
      own = l ∷ t.own;
      all = ap (λ (x : List (List ℕ)). l ∷ x) t.all;
      next = omega (arith, t.next);
      read = λ m. on-accepted (read_line st l) k vs us ws m (λ j us. read_lines t.own (step st j us) (suc m)) s e (t.read (suc m)) w;
    }

pub book-lines : (ls : List (List ℕ)) (st : State) (at : ℕ) (s : Shape) (ws : List ℤ) (rest : List (List ℕ)) (n : ℕ) → read_book ls st at ≡ found s ws rest n → Taken ls st s ws rest at n
unfolding read_book pick
book-lines [] st at s ws rest n e = go (eqb st.next none) refl e
  where
    go : (b : Bool) → eqb st.next none ≡ b → pick b (found (shape_of st) [] [] at) (stopped 3 at) ≡ found s ws rest n → Taken [] st s ws rest at n
    go true p e = taken_none [] st s ws rest at n (eqb-true st.next none p) e
    go false p e = absurd (let z : ◌≡◌ {A = ℕ} 0 1 = cc in omega arith)
book-lines (l ∷ ls) st at s ws rest n e = go (eqb st.next none) refl e (λ f. let w = front-went (read_line st l) at (λ k vs. read_book ls (step st k vs) (suc at)) s ws rest n f in
    taken_more l ls st s ws w.us rest at n w.k w.vs w.is w.rows (book-lines ls (step st w.k w.vs) (suc at) s w.us rest n w.then))
  where
    go : (b : Bool) → eqb st.next none ≡ b → pick b (found (shape_of st) [] (l ∷ ls) at) (on_front (read_line st l) at (λ k vs. read_book ls (step st k vs) (suc at))) ≡ found s ws rest n
        → (on_front (read_line st l) at (λ k vs. read_book ls (step st k vs) (suc at)) ≡ found s ws rest n → Taken (l ∷ ls) st s ws rest at n) → Taken (l ∷ ls) st s ws rest at n
    go true p e h = taken_none (l ∷ ls) st s ws rest at n (eqb-true st.next none p) e
    go false p e h = h e

-- The rows of a book have as many numbers as its shape says.
pub book-size : (ls : List (List ℕ)) (at : ℕ) (s : Shape) (ws : List ℤ) (rest : List (List ℕ)) (n : ℕ) → read_book ls start at ≡ found s ws rest n → length ws ≡ row_numbers s
book-size ls at s ws rest n e =
    let t = book-lines ls start at s ws rest n e in
    let r = read-rows t.own start 1 s ws (t.read 1) in
    (book-run r.0 s ws r.2).size
