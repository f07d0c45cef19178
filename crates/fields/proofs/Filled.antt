-- Numbers that are filled, counted one by one.
use mathlib.Core.Path.{◌≡◌, sym, ap, ◌∙◌}
use mathlib.Core.Bool.{Bool, true, false, not}
use mathlib.Core.List.{List, ◌∷◌}
use Prim.Native.Nat.{ℕ, ◌+◌, ◌<◌, ◌≤◌}
use native.Mathlib.Numerals.{add-one}
use native.Mathlib.Omega.{arith}
use lib.Dec.{eqb, ltb}
use lib.IntN.{ℤ, pos}
use lib.ListN.{get_or, take, drop, length, drop_of_length-le}
use lib.Seq.{drop-cons}
use borrow.Author.Tests.{le-ltb, eq-eqb, ne_eqb}
use mir.Syntax.{w32}
use mir.Val.{of_z, SFits}
use Rattle.logic.specs.Tests.{pick}
use Rattle.book.specs.declared.Kind.{Kind}
use Rattle.text.specs.Lines.{between, filled_in, headless}
use Rattle.fields.proofs.Numbers.{count-is}

module _ (t : List ℤ) (i n m : ℕ) (h : i < length t) (f : n + filled_in (drop i t) ≡ m) (s : SFits w32 (get_or t i (pos 0))) where
  here : drop i t ≡ get_or t i (pos 0) ∷ drop (i + 1) t
  here = drop-cons t i (pos 0) h ∙ ap (λ (k : ℕ). get_or t i (pos 0) ∷ drop k t) (sym (add-one i))

  test : (b : Bool) → eqb (of_z w32 (get_or t i (pos 0))) 0 ≡ b → between (pos 0) (pos 0) (get_or t i (pos 0)) ≡ b
  test b e = sym (count-is (get_or t i (pos 0)) 0 (omega arith) s) ∙ e

  pub filled_more : (of_z w32 (get_or t i (pos 0)) ≡ 0 → ⊥) → n + 1 + filled_in (drop (i + 1) t) ≡ m
  unfolding filled_in pick
  filled_more e = let p = rw (here, test false (ne_eqb _ 0 e)) at f in omega (arith, p)

  pub filled-same : of_z w32 (get_or t i (pos 0)) ≡ 0 → n + filled_in (drop (i + 1) t) ≡ m
  unfolding filled_in pick
  filled-same e = rw (here, test true (eq-eqb _ 0 e)) at f

pub filled-end : (t : List ℤ) (i n m : ℕ) → length t ≤ i → n + filled_in (drop i t) ≡ m → n ≡ m
unfolding filled_in
filled-end t i n m h f = let p = rw (drop_of_length-le t {i = i} h) at f in omega (arith, p)

pub headless-is : (x : Kind) (l : List ℤ) (n : ℕ) → n ≡ filled_in (take x.heads l) → ltb n x.filled ≡ headless x l
unfolding headless
headless-is x l n e = rw e

pub no-heads-asked : (x : Kind) (l : List ℤ) → x.filled ≡ 0 → not (eqb x.filled 0) ≡ headless x l
unfolding headless
no-heads-asked x l e = rw (eq-eqb x.filled 0 e) (sym (le-ltb (filled_in (take x.heads l)) x.filled (omega arith)))
