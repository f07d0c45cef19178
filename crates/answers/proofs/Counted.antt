-- The number of a closing line is the number of A lines above it: `ways-counted`. Idea: a line by Line begins with A and has no line feed but its
-- last byte, so the lines printed are as many as the pairs.
use mathlib.Core.Path.{◌≡◌, refl, sym, ap, ◌∙◌}
use mathlib.Core.Bool.{Bool, true, false}
use mathlib.Core.List.{List, [], ◌∷◌, ◌++◌, map, append_assoc}
use mathlib.Core.Logic.{◌⊎◌, inl, inr, ⊎_elim}
use Prim.Native.Nat.{ℕ, ◌<◌}
use native.Mathlib.Nat.{zero-add}
use native.Mathlib.Omega.{arith}
use borrow.Author.Tests.{eqb-true}
use lib.Dec.{eqb, ltb}
use lib.IntN.{ℤ, pos}
use lib.ListN.{length, take, get_or, length-map, length-take}
use Rattle.logic.specs.Lists.{Every}
use Rattle.logic.specs.Tests.{both, either, pick, concat_map}
use Rattle.logic.proofs.Tests.{all, all-at}
use Rattle.sets.specs.Sets.{size, member}
use Rattle.sets.specs.declared.Pair.{Pair}
use Rattle.book.specs.declared.Shape.{Shape}
use Rattle.text.specs.Fields.{column_of, in_columns, digit_of, written_all}
use Rattle.text.specs.Lines.{lines, unlines}
use Rattle.text.specs.ALines.{from, taken_fields, mark, a_line}
use Rattle.text.specs.Reading.{read_text}
use Rattle.text.specs.Reading.Outcome.{accepted}
use Rattle.text.proofs.Texts.{Plain, lines-unlines, plain-append, columns-plain, fields-plain}
use Rattle.answers.specs.Operations.{on_text}
use Rattle.answers.specs.Ways.{most_lines, lines_of, count_columns, closing_line, closing, printed, listed, ways_of, number_from, Counted}

-- ---- the lines printed
module _ (w n : ℕ) where
  -- A line by Line without its line feed.
  abbrev numbers_text : Pair → List ℕ
  numbers_text p = written_all (map pos (size p.taken ∷ taken_fields w p.taken))

  abbrev line_text : Pair → List ℕ
  line_text p = 65 ∷ (numbers_text p ++ map (mark p) (from 1 n))

  line-is : (p : Pair) → a_line w n p ≡ line_text p ++ (10 ∷ [])
  unfolding a_line
  line-is p = ap (λ (l : List ℕ). 65 ∷ l) (sym (append_assoc (numbers_text p) (map (mark p) (from 1 n)) (10 ∷ [])))

  mark-plain : (p : Pair) (i : ℕ) → mark p i ≡ 10 → ⊥
  unfolding mark pick
  mark-plain p i e = go (member i p.held) (member i p.denied) e
    where
      go : (a b : Bool) → pick {A = ℕ} a 43 (pick b 45 46) ≡ 10 → ⊥
      go true b e = omega arith
      go false true e = omega arith
      go false false e = omega arith

  marks-plain : (p : Pair) (is : List ℕ) → Plain (map (mark p) is)
  unfolding Plain
  marks-plain p [] = tt
  marks-plain p (i ∷ is) = (mark-plain p i, marks-plain p is)

  line_plain : (p : Pair) → Plain (line_text p)
  unfolding Plain
  line_plain p = (λ e. omega arith, plain-append (numbers_text p) (map (mark p) (from 1 n)) (fields-plain (map pos (size p.taken ∷ taken_fields w p.taken))) (marks-plain p (from 1 n)))

  only-a : (ps : List Pair) → Every (λ l. get_or l 0 0 ≡ 65) (map line_text ps)
  only-a [] = tt
  only-a (p ∷ ps) = (refl, only-a ps)

  module _ (l : List ℕ) where
    -- The lines of the pairs and a last one, with and without their line feeds.
    lines_are : (ps : List Pair) → lines_of w n ps ++ (l ++ (10 ∷ [])) ≡ unlines (map line_text ps ++ (l ∷ []))
    unfolding lines_of concat_map unlines
    lines_are [] = refl
    lines_are (p ∷ ps) =
        append_assoc (a_line w n p) (lines_of w n ps) (l ++ (10 ∷ []))
        ∙ ap (λ (x : List ℕ). x ++ (lines_of w n ps ++ (l ++ (10 ∷ [])))) (line-is p)
        ∙ append_assoc (line_text p) (10 ∷ []) (lines_of w n ps ++ (l ++ (10 ∷ [])))
        ∙ ap (λ (x : List ℕ). line_text p ++ (10 ∷ x)) (lines_are ps)

    all_plain : Plain l → (ps : List Pair) → Every Plain (map line_text ps ++ (l ∷ []))
    all_plain h [] = (h, tt)
    all_plain h (p ∷ ps) = (line_plain p, all_plain h ps)

-- ---- the number
-- Every count that a listing can have, computed.
abbrev says : ℕ → Bool
says k = eqb (number_from 0 (in_columns count_columns false k)) k

test-counts : all says 10000 ≡ true
unfolding number_from in_columns column_of digit_of both either pick
test-counts = refl

-- ---- the closing line
letter-is : (t : Bool) → (pick {A = ℕ} t 77 69 ≡ 69) ⊎ (pick {A = ℕ} t 77 69 ≡ 77)
unfolding pick
letter-is true = inr refl
letter-is false = inl refl

closing-plain : (x k : ℕ) → (x ≡ 69) ⊎ (x ≡ 77) → Plain (x ∷ in_columns count_columns false k)
unfolding Plain
closing-plain x k c = (λ e. ⊎_elim (λ h. omega arith) (λ h. omega arith) c, columns-plain count_columns false k)

module _ (m w n : ℕ) (ps : List Pair) (few : m < 10000) where
  abbrev above : List (List ℕ)
  above = map (line_text w n) (take m ps)

  abbrev letter : ℕ
  letter = pick (ltb m (length ps)) 77 69

  abbrev field : List ℕ
  field = in_columns count_columns false (length (take m ps))

  count : length above ≡ length (take m ps)
  count = length-map (take m ps) (line_text w n)

  whole : printed 0 m w n ps ≡ unlines (above ++ ((letter ∷ field) ∷ []))
  unfolding printed closing closing_line
  whole = ap (λ k. lines_of w n (take m ps) ++ closing_line letter k) (zero-add (length (take m ps))) ∙ lines_are w n (letter ∷ field) (take m ps)

  counted : Counted (printed 0 m w n ps)
  counted = record {
    above = above;
    letter = letter;
    field = field;
    whole = whole;
    cut = ap lines whole ∙ lines-unlines (above ++ ((letter ∷ field) ∷ [])) (all_plain w n (letter ∷ field) (closing-plain letter (length (take m ps)) (letter-is (ltb m (length ps)))) (take m ps));
    only = only-a w n (take m ps);
    closes = letter-is (ltb m (length ps));
    right = rw count refl;
    number = eqb-true _ _ (all-at says 10000 (length (take m ps)) test-counts (omega (arith, length-take m ps))) ∙ sym count;
  }

pub ways-counted : (bs : List ℕ) (s : Shape) (ws : List ℤ) → read_text bs ≡ accepted s ws → Counted (ways_of bs)
unfolding ways_of on_text listed
ways-counted bs s ws e = rw e (counted most_lines _ _ _ (omega arith))
