-- Numbers and pairs as bytes: written and read again, read and written again, and put in a slice.
use mathlib.Core.Path.{◌≡◌, refl, sym, ap}
use mathlib.Core.List.{List, [], ◌∷◌, ◌++◌}
use Prim.Native.Nat.{ℕ, zero, suc, ◌+◌, ◌*◌, ◌/◌, ◌%◌, ◌<◌, ◌≤◌, ◌^◌}
use native.Mathlib.Omega.{arith}
use lib.ListN.{length, take, drop}
use lib.Seq.{sets, length-take-le, get_or-drop}
use Rattle.logic.proofs.Stores.{sets-append}
use Rattle.sets.specs.declared.Pair.{Pair}
use Rattle.entry.specs.Bytes.{AreBytes, word_of, digits, pair_bytes, pair_of}
use Rattle.entry.proofs.Leaves.{eight, eight-digits}

-- ---- pairs put
pub pair-long : (p : Pair) → length (pair_bytes p) ≡ 24
unfolding pair_bytes digits
pair-long p = refl

pub pair_put : (s s₁ s₂ s₃ : List ℕ) (at : ℕ) (p : Pair) → s₁ ≡ sets s at (digits 8 p.taken) → s₂ ≡ sets s₁ (at + 8) (digits 8 p.held) → s₃ ≡ sets s₂ (at + 16) (digits 8 p.denied) → s₃ ≡ sets s at (pair_bytes p)
unfolding pair_bytes
pair_put s s₁ s₂ s₃ at p e₁ e₂ e₃ =
    let a : at + length (digits 8 p.taken) ≡ at + 8 = ap (λ (k : ℕ). at + k) (eight-digits p.taken) in
    let b : at + 8 + length (digits 8 p.held) ≡ at + 16 = omega (arith, eight-digits p.held) in
    sym (rw (
      sets-append (digits 8 p.taken) (digits 8 p.held ++ digits 8 p.denied) s at,
      a,
      ← e₁,
      sets-append (digits 8 p.held) (digits 8 p.denied) s₁ (at + 8),
      b,
      ← e₂,
      ← e₃,
    ))

-- ---- lists of bytes
bytes-tail : (b : ℕ) (bs : List ℕ) → AreBytes (b ∷ bs) → AreBytes bs
bytes-tail b bs h i = h (suc i)

pub bytes_drop : (n : ℕ) (bs : List ℕ) → AreBytes bs → AreBytes (drop n bs)
bytes_drop n bs h i = rw (get_or-drop n bs i 0) (h (n + i))

pub bytes_take : (n : ℕ) (bs : List ℕ) → AreBytes bs → AreBytes (take n bs)
bytes_take zero bs h i = omega arith
bytes_take (suc n) [] h i = omega arith
bytes_take (suc n) (b ∷ bs) h zero = h zero
bytes_take (suc n) (b ∷ bs) h (suc i) = bytes_take n bs (bytes-tail b bs h) i

pub pair_is : (bs : List ℕ) (a b c : ℕ) → a ≡ word_of (take 8 bs) → b ≡ word_of (take 8 (drop 8 bs)) → c ≡ word_of (take 8 (drop 16 bs)) → record { taken = a; held = b; denied = c } ≡ pair_of bs
unfolding pair_of
pair_is bs a b c ea eb ec = rw (ea, eb, ec)

-- ---- numbers read and written again
low_byte : (b w : ℕ) → b < 256 → (b + w * 256) % 256 ≡ b
low_byte b w h = omega arith

high-bytes : (b w : ℕ) → b < 256 → (b + w * 256) / 256 ≡ w
high-bytes b w h = omega arith

pub digits-word : (m : ℕ) (bs : List ℕ) → length bs ≡ m → AreBytes bs → digits m (word_of bs) ≡ bs
unfolding digits word_of
digits-word zero [] e h = refl
digits-word zero (b ∷ bs) e h = absurd (omega arith)
digits-word (suc m) [] e h = absurd (omega arith)
digits-word (suc m) (b ∷ bs) e h = rw (low_byte b (word_of bs) (h 0), high-bytes b (word_of bs) (h 0), digits-word m bs (omega arith) (bytes-tail b bs h))

pub word_back : (bs : List ℕ) → 8 ≤ length bs → AreBytes bs → digits 8 (word_of (take 8 bs)) ≡ take 8 bs
word_back bs l h = digits-word 8 (take 8 bs) (length-take-le 8 bs l) (bytes_take 8 bs h)

pub word-digits : (v : ℕ) → v < 2 ^ 64 → word_of (digits 8 v) ≡ v
unfolding word_of digits
word-digits v h = omega arith

pub word_fits : (bs : List ℕ) → 8 ≤ length bs → AreBytes bs → word_of (take 8 bs) < 2 ^ 64
unfolding word_of
word_fits bs l h = rw (eight bs l) (omega (arith, h 0, h 1, h 2, h 3, h 4, h 5, h 6, h 7))
