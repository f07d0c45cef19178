-- What each return and loop turn of the functions on names and bytes is by the definitions.
use mathlib.Core.Path.{◌≡◌, refl, sym, ap, ◌∙◌}
use mathlib.Core.Bool.{Bool, true, false}
use mathlib.Core.List.{List, [], ◌∷◌, append_assoc}
use Prim.Native.Nat.{ℕ, suc, ◌+◌, ◌-◌, ◌<◌, ◌≤◌}
use native.Mathlib.Nat.{div-div-eq-div-mul}
use native.Mathlib.Omega.{arith}
use lib.ListN.{length, get_or, take, drop, drop_of_length-le}
use lib.Bits.{bit_or}
use lib.Dec.{eqb}
use lib.Seq.{sets, sets-eq, drop-cons, drop-drop}
use borrow.Rule.Slice.PartMut.{put_mid}
use Rattle.std.proofs.lemmas.Slice.{between_to_end}
use borrow.Author.Tests.{eq-eqb, ne_eqb, eqb-true, eqb-false}
use Rattle.logic.specs.Tests.{both, either}
use Rattle.logic.proofs.Tests.{and_both}
use Rattle.sets.proofs.Words.{or-zero}
use Rattle.std.specs.Char.{is_ascii_digit, is_ascii_uppercase}
use Rattle.std.specs.List.{between}
use Rattle.std.specs.Int.{to_le_bytes, from_le_bytes}
use mir.Syntax.{w64}
use Rattle.entry.specs.Names.{letter, follows, chain, name_spelt}
use Rattle.entry.specs.Bytes.{word_of, digits, zeros}

-- ---- letters
module _ (b : ℕ) where
  letter-is : letter b ≡ either (is_ascii_digit b) (is_ascii_uppercase b)
  unfolding letter
  letter-is = simp and_both

  pub letter-digit : (d : Bool) → d ≡ is_ascii_digit b → d ≡ true → d ≡ letter b
  unfolding either
  letter-digit d e y = rw (letter-is, ← e, y) refl

  pub letter-capital : (d u : Bool) → d ≡ is_ascii_digit b → d ≡ false → u ≡ is_ascii_uppercase b → u ≡ letter b
  unfolding either
  letter-capital d u e n f = rw (letter-is, ← e, n) f

module _ (a b : ℕ) where
  pub follows-space : b ≡ 32 → true ≡ follows a b
  unfolding follows either
  follows-space e = rw (eq-eqb b 32 e)

  pub follows-letter : (b ≡ 32 → ⊥) → (t r : Bool) → t ≡ letter a → t ≡ true → r ≡ letter b → r ≡ follows a b
  unfolding follows either both
  follows-letter n t r et y er = rw (ne_eqb b 32 n, ← et, y) er

  pub follows-none : (b ≡ 32 → ⊥) → (t : Bool) → t ≡ letter a → t ≡ false → t ≡ follows a b
  unfolding follows either both
  follows-none n t et o = rw (ne_eqb b 32 n, ← et, o) refl

-- ---- parts of a slice
pub part-next : (s : List ℕ) (n i : ℕ) → i < n → n ≤ length s → take (n - i) (drop i s) ≡ get_or s i 0 ∷ take (n - (i + 1)) (drop (i + 1) s)
part-next s n i h g =
    let e : n - i ≡ suc (n - (i + 1)) = omega arith in
    let f : i + 1 ≡ suc i = omega arith in
    rw (e, f, drop-cons s i 0 (omega arith))

-- The part from a place on, as the program cuts it.
pub rest_is : (s : List ℕ) (i : ℕ) → between i (length s) s ≡ drop i s
rest_is s i = between_to_end s i (length s) (omega arith)

-- ---- names
module _ (s : List ℕ) where
  unfoldable pub Chained : ℕ → Type 0
  Chained i = chain (get_or s (i - 1) 0) (take (8 - i) (drop i s)) ≡ name_spelt (take 8 s)

  module _ (g : 8 ≤ length s) where
    pub name-none : (t : Bool) → t ≡ letter (get_or s 0 0) → t ≡ false → false ≡ name_spelt (take 8 s)
    unfolding name_spelt both
    name-none t e o = rw (part-next s 8 0 (omega arith) g, ← e, o)

    pub chain-start : (t : Bool) → t ≡ letter (get_or s 0 0) → t ≡ true → Chained 1
    unfolding Chained name_spelt both
    chain-start t e y = rw (part-next s 8 0 (omega arith) g, ← e, y) refl

    module _ (i : ℕ) (h : i < 8) (inv : Chained i) (t : Bool) (e : t ≡ follows (get_or s (i - 1) 0) (get_or s i 0)) where
      pub chain_next : t ≡ true → Chained (i + 1)
      unfolding Chained chain both
      chain_next y = let z : i + 1 - 1 ≡ i = omega arith in rw z (rw (part-next s 8 i h g, ← e, y) at inv)

      pub chain-none : t ≡ false → false ≡ name_spelt (take 8 s)
      unfolding Chained chain both
      chain-none o = rw (part-next s 8 i h g, ← e, o) at inv

  pub chain-end : (i : ℕ) → 8 ≤ i → Chained i → true ≡ name_spelt (take 8 s)
  unfolding Chained chain
  chain-end i h inv = let z : 8 - i ≡ 0 = omega arith in rw z at inv

-- ---- zeros
or-zeros : (a b : ℕ) (o : Bool) → both (eqb (bit_or a b) 0) o ≡ both (eqb a 0) (both (eqb b 0) o)
unfolding both
or-zeros a b o = go (eqb a 0) (eqb b 0) refl refl
  where
    go : (x y : Bool) → eqb a 0 ≡ x → eqb b 0 ≡ y → both (eqb (bit_or a b) 0) o ≡ both x (both y o)
    go true true e f = rw (eqb-true a 0 e, eqb-true b 0 f)
    go true false e f = rw (ne_eqb (bit_or a b) 0 (λ z. eqb-false b 0 f (or-zero a b z).1))
    go false y e f = rw (ne_eqb (bit_or a b) 0 (λ z. eqb-false a 0 e (or-zero a b z).0))

both-true : (a : Bool) → both a true ≡ a
unfolding both
both-true true = refl
both-true false = refl

-- What the first i bytes come to, with those behind them.
module _ (s : List ℕ) where
  unfoldable pub Zeros : ℕ → ℕ → Type 0
  Zeros any i = both (eqb any 0) (zeros (drop i s)) ≡ zeros s

  pub zeros-start : Zeros 0 0
  unfolding Zeros both
  zeros-start = refl

  pub zeros-next : (any i : ℕ) → i < length s → Zeros any i → Zeros (bit_or any (get_or s i 0)) (i + 1)
  unfolding Zeros zeros
  zeros-next any i h inv = let z : i + 1 ≡ suc i = omega arith in rw (z, or-zeros any (get_or s i 0) (zeros (drop (suc i) s))) (rw (drop-cons s i 0 h) at inv)

  pub zeros-end : (any i : ℕ) → length s ≤ i → Zeros any i → eqb any 0 ≡ zeros s
  unfolding Zeros zeros
  zeros-end any i h inv = sym (both-true (eqb any 0)) ∙ (rw (drop_of_length-le s {i = i} h) at inv)

-- ---- numbers
pub eight : (s : List ℕ) → 8 ≤ length s
    → take 8 s ≡ get_or s 0 0 ∷ get_or s 1 0 ∷ get_or s 2 0 ∷ get_or s 3 0 ∷ get_or s 4 0 ∷ get_or s 5 0 ∷ get_or s 6 0 ∷ get_or s 7 0 ∷ []
eight s g =
    rw (
      drop-cons s 0 0 (omega arith),
      drop-cons s 1 0 (omega arith),
      drop-cons s 2 0 (omega arith),
      drop-cons s 3 0 (omega arith),
      drop-cons s 4 0 (omega arith),
      drop-cons s 5 0 (omega arith),
      drop-cons s 6 0 (omega arith),
      drop-cons s 7 0 (omega arith),
    )

pub word-is : (s : List ℕ) → 8 ≤ length s → from_le_bytes w64 (take 8 s) ≡ word_of (take 8 s)
unfolding word_of
word-is s g = rw (eight s g) (omega arith)

digits-are : (v : ℕ) → to_le_bytes w64 v ≡ digits 8 v
unfolding digits
digits-are v = simp div-div-eq-div-mul

pub eight-digits : (v : ℕ) → length (digits 8 v) ≡ 8
unfolding digits
eight-digits v = refl

pub word-put : (s bs : List ℕ) (at v : ℕ) → at + 8 ≤ length s → bs ≡ to_le_bytes w64 v → put_mid at (at + 8 - at) s bs ≡ sets s at (digits 8 v)
word-put s bs at v h e =
    let k : at + 8 - at ≡ 8 = omega arith in
    let d : bs ≡ digits 8 v = e ∙ digits-are v in
    let l : length bs ≡ 8 = ap length d ∙ eight-digits v in
    rw (k, ← d, sets-eq bs s at (omega arith), l, drop-drop 8 at s) (sym (append_assoc (take at s) bs (drop (at + 8) s)))
