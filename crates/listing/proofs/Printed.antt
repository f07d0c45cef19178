-- Lines and the closing line, and a buffer that holds them in front.
use Prim.Native.Nat.{ℕ, ◌+◌, ◌<◌, ◌≤◌}
use mathlib.Core.Path.{◌≡◌, refl, sym, ap, ◌∙◌}
use mathlib.Core.Bool.{Bool, true, false}
use mathlib.Core.List.{List, [], ◌∷◌, ◌++◌, append_assoc}
use native.Mathlib.Nat.{add_assoc}
use native.Mathlib.Omega.{arith}
use lib.Dec.{ltb}
use lib.ListN.{length, take, drop, length-append}
use lib.Seq.{sets, sets-eq, take_all, take-append_seam, take-append-add, length-take-le}
use Rattle.logic.specs.Tests.{pick, concat_map}
use Rattle.sets.specs.declared.Pair.{Pair}
use Rattle.text.specs.ALines.{a_line}
use Rattle.answers.specs.Ways.{lines_of, closing_line, closing, printed}
use borrow.Author.Tests.{lt-ltb, le-ltb, ltb-true, ltb-false}

pub lines-append : (w n : ℕ) (ps qs : List Pair) → lines_of w n (ps ++ qs) ≡ lines_of w n ps ++ lines_of w n qs
unfolding lines_of concat_map
lines-append w n [] qs = refl
lines-append w n (p ∷ ps) qs = ap (λ (l : List ℕ). a_line w n p ++ l) (lines-append w n ps qs) ∙ sym (append_assoc (a_line w n p) (lines_of w n ps) (lines_of w n qs))

ltb-past : (k a b : ℕ) → ltb (k + a) (k + b) ≡ ltb a b
ltb-past k a b = go (ltb a b) refl
  where
    go : (x : Bool) → ltb a b ≡ x → ltb (k + a) (k + b) ≡ x
    go true e = lt-ltb (k + a) (k + b) (let h = ltb-true a b e in omega arith)
    go false e = le-ltb (k + a) (k + b) (let h = ltb-false a b e in omega arith)

-- A listing whose first pairs are printed goes on with the others, and counts them.
pub printed-past : (d k m w n : ℕ) (ps qs : List Pair) → length ps ≡ k → printed d (k + m) w n (ps ++ qs) ≡ lines_of w n ps ++ printed (d + k) m w n qs
unfolding printed closing
printed-past d k m w n ps qs e =
    rw (← e, take-append-add ps qs m, lines-append w n ps (take m qs), length-append ps qs, length-append ps (take m qs), ltb-past (length ps) m (length qs), ← add_assoc d (length ps) (length (take m qs)))
    (append_assoc (lines_of w n ps) (lines_of w n (take m qs)) _)

-- A listing that is not cut off, and one that is.
pub printed_ended : (d m w n : ℕ) (ps : List Pair) → length ps ≤ m → printed d m w n ps ≡ lines_of w n ps ++ closing_line 69 (d + length ps)
unfolding printed closing pick
printed_ended d m w n ps h = rw (take_all m ps h, le-ltb m (length ps) h) refl

pub printed-cut : (d m w n : ℕ) (ps : List Pair) → m < length ps → printed d m w n ps ≡ lines_of w n (take m ps) ++ closing_line 77 (d + m)
unfolding printed closing pick
printed-cut d m w n ps h = rw (lt-ltb m (length ps) h, length-take-le m ps (omega arith)) refl

-- ---- the buffer
pub front-is : (l xs : List ℕ) → length xs ≤ length l → take (length xs) (sets l 0 xs) ≡ xs
front-is l xs h = let e : 0 + length xs ≡ length xs = omega arith in rw (sets-eq xs l 0 (rw e h)) (take-append_seam xs (drop (0 + length xs) l))
