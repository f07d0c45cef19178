-- Pairs put, entries put in and taken out: what the copies leave.
use mathlib.Core.Path.{◌≡◌, sym, ap, ◌∙◌}
use mathlib.Core.List.{List, [], ◌++◌, append_assoc, append-nil}
use Prim.Native.Nat.{ℕ, ◌+◌, ◌-◌, ◌≤◌}
use native.Mathlib.Omega.{arith}
use lib.ListN.{length, take, drop, replicate, length-append, length-drop, drop_of_length-le}
use lib.Seq.{sets, sets-eq, length-take-le, take-add, take_all, take_at, drop_at, drop-append-le}
use borrow.Rule.Slice.PartMut.{put_mid, mid_of}
use Rattle.sets.specs.declared.Pair.{Pair}
use Rattle.entry.specs.Bytes.{entry_row, pair_bytes}
use Rattle.entry.proofs.Numbers.{pair-long}
use Rattle.entry.proofs.Leaves.{rest_is}

pub sets-mid : (p q r v : List ℕ) (at : ℕ) → length p ≡ at → length v ≡ length q → sets (p ++ (q ++ r)) at v ≡ p ++ (v ++ r)
sets-mid p q r v at h g =
    let a = length-append p (q ++ r) in
    let b = length-append q r in
    let l : length (p ++ q) ≡ at + length v = omega (arith, length-append p q) in
    let d : drop (at + length v) (p ++ (q ++ r)) ≡ r = ap (drop (at + length v)) (sym (append_assoc p q r)) ∙ drop_at (p ++ q) r (at + length v) l in
    sets-eq v (p ++ (q ++ r)) at (omega arith) ∙ (ap (λ (x : List ℕ). (x ++ v) ++ drop (at + length v) (p ++ (q ++ r))) (take_at p (q ++ r) at h) ∙ (ap (λ (x : List ℕ). (p ++ v) ++ x) d ∙ append_assoc p v r))

-- What a write to all that stands from a place on leaves.
put-rest : (s r : List ℕ) (at : ℕ) → put_mid at (length s - at) s r ≡ take at s ++ r
put-rest s r at =
    let e : drop (length s - at) (drop at s) ≡ [] = drop_of_length-le (drop at s) {i = length s - at} (omega (arith, length-drop at s)) in
    rw (e, append-nil r)

module _ (s : List ℕ) (h : length s ≡ 1024) (at : ℕ) (g : at + 32 ≤ 1024) where
  long : length (drop at s) ≡ 1024 - at
  long = omega (arith, length-drop at s)

  front : length (take at s) ≡ at
  front = length-take-le at s (omega arith)

  -- What stood from the place on moved by an entry towards the end, a name and a pair put there.
  pub inserted : (n : List ℕ) (p : Pair) (o r s₁ m s₃ : List ℕ) → length n ≡ 8 → o ≡ s → r ≡ mid_of at (992 - at) o → s₁ ≡ put_mid (at + 32) (length s - (at + 32)) s r → m ≡ n
      → s₃ ≡ sets (put_mid at (at + 8 - at) s₁ m) (at + 8) (pair_bytes p) → s₃ ≡ take at s ++ (entry_row n p ++ take (992 - at) (drop at s))
  unfolding entry_row
  inserted n p o r s₁ m s₃ hn eo er e₁ em e₃ =
      let x = drop at s in
      let y = take 32 x in
      let w = take (992 - at) x in
      let a = take at s in
      let z : at + 8 - at ≡ 8 = omega arith in
      let ly : length y ≡ 32 = length-take-le 32 x (omega (arith, long)) in
      let d₁ : s₁ ≡ a ++ (y ++ w) = e₁ ∙ (put-rest s r (at + 32) ∙ rw (er, eo, take-add at 32 s) (append_assoc a y w)) in
      let s₂ = put_mid at (at + 8 - at) s₁ m in
      let d₂ : s₂ ≡ a ++ (n ++ (drop 8 y ++ w)) = rw (em, z, d₁, take_at a (y ++ w) at front, drop_at a (y ++ w) at front, drop-append-le 8 y w (omega arith)) in
      let d₃ : s₂ ≡ (a ++ n) ++ (drop 8 y ++ w) = d₂ ∙ sym (append_assoc a n (drop 8 y ++ w)) in
      let la : length (a ++ n) ≡ at + 8 = omega (arith, length-append a n, front) in
      let lb : length (pair_bytes p) ≡ length (drop 8 y) = omega (arith, pair-long p, length-drop 8 y) in
      e₃ ∙ (ap (λ (l : List ℕ). sets l (at + 8) (pair_bytes p)) d₃ ∙ (sets-mid (a ++ n) (drop 8 y) w (pair_bytes p) (at + 8) la lb ∙ (append_assoc a n (pair_bytes p ++ w) ∙ ap (λ (l : List ℕ). a ++ l) (sym (append_assoc n (pair_bytes p) w)))))

  -- What stood behind the entry at the place moved by an entry towards the start, zeros put at the end.
  pub removed : (o r s₁ z s₂ : List ℕ) → o ≡ s → r ≡ mid_of (at + 32) (1024 - (at + 32)) o → s₁ ≡ put_mid at (992 - at) s r → z ≡ replicate (length (mid_of 992 (length s₁ - 992) s₁)) 0 → s₂ ≡ put_mid 992 (length s₁ - 992) s₁ z
      → s₂ ≡ take at s ++ (drop (at + 32) s ++ replicate 32 0)
  removed o r s₁ z s₂ eo er e₁ ez e₂ =
      let x = drop at s in
      let a = take at s in
      let b = drop (at + 32) s in
      let t = drop (992 - at) x in
      let er' : r ≡ b = er ∙ rw eo (take_all (1024 - (at + 32)) b (omega (arith, length-drop (at + 32) s))) in
      let d₁ : s₁ ≡ (a ++ b) ++ t = e₁ ∙ rw er' (sym (append_assoc a b t)) in
      let l₁ : length (a ++ b) ≡ 992 = omega (arith, length-append a b, front, length-drop (at + 32) s) in
      let lt : length t ≡ 32 = omega (arith, length-drop (992 - at) x, long) in
      let d : drop 992 s₁ ≡ t = rw d₁ (drop_at (a ++ b) t 992 l₁) in
      let lz : z ≡ replicate 32 0 = rw (rest_is s₁ 992, d, lt) at ez in
      e₂ ∙ (put-rest s₁ z 992 ∙ rw (d₁, take_at (a ++ b) t 992 l₁, lz) (append_assoc a b (replicate 32 0)))
