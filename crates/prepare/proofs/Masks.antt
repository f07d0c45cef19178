-- The masks that the functions make of a row's numbers are those of the row's rule or Q line.
-- A number's mask is that of the entry that it names; masks of entries are joined from the last to the first.
use mathlib.Core.Path.{◌≡◌, refl, sym, ap, ◌∙◌}
use mathlib.Core.Bool.{Bool, true, false}
use mathlib.Core.List.{List, ◌++◌}
use Prim.Native.Nat.{ℕ, zero, suc, ◌+◌, ◌-◌, ◌*◌, ◌%◌, ◌^◌, ◌<◌, ◌≤◌}
use native.Mathlib.Omega.{arith}
use lib.Bits.{or_zero_r}
use lib.IntN.{ℤ, negsuc, nat_abs}
use lib.IntN as Z
use lib.Signed.{lt_z}
use Rattle.logic.proofs.Decide.{clash}
use Rattle.book.specs.Kinds.{entries_each}
use Rattle.sets.proofs.Digits.{shifted}
use Rattle.sets.specs.declared.Pair.{Pair}
use Rattle.sets.specs.Pairs.{join_of}
use Rattle.meaning.specs.Literals.{Literal}
use Rattle.meaning.specs.Meant.{entry, number, at, entries_at, rule_at, condition_at}
use Rattle.masks.specs.declared.Masks.{Masks}
use Rattle.bridge.specs.Packed.{nothing, mask_of, mask_all, masks_of, line_of}
use Rattle.bridge.proofs.Entries.{none-taken}
use Rattle.prepare.specs.Packing.{Readable, LineReadable}
use Rattle.prepare.proofs.Numbers.{back, Small, back-same, back-small, no-neg}
use Rattle.prepare.proofs.Preferences.{names_same}

-- ---- one number
-- The pair that has the set w on one side: denied for a negative number, else held.
abbrev pub side_of : Bool → ℕ → Pair
side_of true w = record { taken = 0; held = 0; denied = w }
side_of false w = record { taken = 0; held = w; denied = 0 }

place : (i : ℕ) → suc i - 1 ≡ i
place i = omega arith

entry-none : (x : ℤ) → nat_abs x ≡ 0 → nothing ≡ mask_all (entry x)
unfolding entry mask_all
entry-none (Z.pos zero) e = refl
entry-none (Z.pos (suc i)) e = absurd (omega arith)
entry-none (negsuc i) e = absurd (omega arith)

entry-one : (x : ℤ) (b : Bool) → lt_z x (Z.pos 0) ≡ b → (nat_abs x ≡ 0 → ⊥) → side_of b (2 ^ (nat_abs x - 1)) ≡ mask_all (entry x)
unfolding entry mask_all mask_of join_of
entry-one (Z.pos zero) b e n = absurd (n refl)
entry-one (Z.pos (suc i)) true e n = absurd (no-neg (suc i) e)
entry-one (Z.pos (suc i)) false e n = rw (place i, or_zero_r (2 ^ i)) refl
entry-one (negsuc i) true e n = rw (place i, or_zero_r (2 ^ i)) refl
entry-one (negsuc i) false e n = absurd (clash (sym e))

module _ (x : ℤ) (h : Small x) (i : ℕ) (e : i ≡ nat_abs (back x)) where
  size_is : i ≡ nat_abs x
  size_is = e ∙ ap nat_abs (back-same x h)

  pub shift_small : i - 1 < 64
  shift_small = let s = size_is in omega arith

  pub mask-none : i ≡ 0 → nothing ≡ mask_all (entry x)
  mask-none z = entry-none x (sym size_is ∙ z)

  pub mask_one : (b : Bool) → lt_z (back x) (Z.pos 0) ≡ b → (i ≡ 0 → ⊥) → side_of b (1 * 2 ^ (i - 1) % 2 ^ 64) ≡ mask_all (entry x)
  mask_one b s n =
      rw (shifted (i - 1) shift_small, size_is) (entry-one x b (rw (back-same x h) at s) (λ z. n (size_is ∙ z)))

-- ---- entries
entry-join : (x : ℤ) (ls : List Literal) → mask_all (entry x ++ ls) ≡ join_of (mask_all (entry x)) (mask_all ls)
unfolding mask_all entry join_of
entry-join (Z.pos zero) ls = refl
entry-join (Z.pos (suc i)) ls = simp or_zero_r
entry-join (negsuc i) ls = simp or_zero_r

pub entries-start : (t : List ℤ) (k n : ℕ) → nothing ≡ mask_all (entries_at t k (n - n))
unfolding entries_at mask_all
entries-start t k n = let e : n - n ≡ 0 = omega arith in rw e refl

entries-more : (t : List ℤ) (k m : ℕ) → mask_all (entries_at t k (suc m)) ≡ join_of (mask_all (entry (at t k))) (mask_all (entries_at t (k + 1) m))
unfolding entries_at
entries-more t k m = entry-join (at t k) (entries_at t (k + 1) m)

-- One more number in front.
pub entries-turn : (t : List ℤ) (k n i : ℕ) (m e d : Pair) → Readable t k n → 0 < i → i ≤ n → m ≡ mask_all (entries_at t (k + i) (n - i))
    → e ≡ mask_all (entry (back (at t (k + (i - 1))))) → d ≡ join_of e m → d ≡ mask_all (entries_at t (k + (i - 1)) (n - (i - 1)))
entries-turn t k n i m e d r h l em ee ed =
    let a : n - (i - 1) ≡ suc (n - i) = omega arith in
    let b : k + (i - 1) + 1 ≡ k + i = omega arith in
    let f : e ≡ mask_all (entry (at t (k + (i - 1)))) = ee ∙ ap (λ (z : ℤ). mask_all (entry z)) (back-same _ (r.small (i - 1) (omega arith))) in
    ed ∙ rw (f, em, a, entries-more t (k + (i - 1)) (n - i), b) refl

pub entries-all : (t : List ℤ) (k n i : ℕ) (m : Pair) → i ≤ 0 → m ≡ mask_all (entries_at t (k + i) (n - i)) → m ≡ mask_all (entries_at t k n)
entries-all t k n i m h e = let a : k + i ≡ k = omega arith in let b : n - i ≡ n = omega arith in rw (a, b) at e

-- ---- a rule
pub readable-at : (t : List ℤ) (k m : ℕ) → Readable t k m → (i : ℕ) → i < m → Small (back (at t (k + i)))
readable-at t k m r i h = back-small (at t (k + i)) (r.small i h)

pub readable-part : (t : List ℤ) (k m j n : ℕ) → Readable t k m → j + n ≤ m → Readable t (k + j) n
readable-part t k m j n r h = record {
  room = let q = r.room in omega arith;
  small = λ i l. let e : k + j + i ≡ k + (j + i) = omega arith in rw e (r.small (j + i) (omega arith));
}

pub readable-front : (t : List ℤ) (k m n : ℕ) → Readable t k m → n ≤ m → Readable t k n
readable-front t k m n r h = record { room = let q = r.room in omega arith; small = λ i l. r.small i (omega arith) }

pub rule-is : (t : List ℤ) (k h own : ℕ) (a n b : Pair) → a ≡ mask_all (entries_at t k h) → n ≡ mask_all (entries_at t (k + h) entries_each) → b ≡ mask_all (entries_at t (k + h + entries_each) entries_each)
    → ◌≡◌ {A = Masks} (record { head = a; need = record { taken = own; held = n.held; denied = n.denied }; bar = b }) (masks_of (record { own = own; rule = rule_at h t k }))
unfolding masks_of rule_at
rule-is t k h own a n b ea en eb = let e : k + h + entries_each ≡ k + (h + entries_each) = omega arith in rw (ea, en, eb, e) refl

-- ---- a Q line
untaken : (p : Pair) → p.taken ≡ 0 → p ≡ record { taken = 0; held = p.held; denied = p.denied }
untaken p e = ap (λ (t : ℕ). record { taken = t; held = p.held; denied = p.denied }) e

pub line-is : (t : List ℤ) (k : ℕ) → LineReadable t k → (u l : ℕ) (n b : Pair) → u ≡ 2 ^ (number (back (at t k)) - 1) → l ≡ 2 ^ (number (back (at t (k + 1))) - 1)
    → n ≡ mask_all (entries_at t (k + 2) entries_each) → b ≡ mask_all (entries_at t (k + 2 + entries_each) entries_each)
    → ◌≡◌ {A = Masks} (record { head = record { taken = 0; held = u; denied = l }; need = n; bar = b }) (line_of (condition_at t k))
unfolding line_of condition_at
line-is t k r u l n b eu el en eb =
    let e : k + 2 + entries_each ≡ k + (2 + entries_each) = omega arith in
    let f = untaken n (rw en (none-taken (entries_at t (k + 2) entries_each))) in
    rw f (rw (eu, el, names_same _ r.upper, names_same _ r.lower, en, eb, e) refl)
