-- What the search needs to know of a view (docs/SEARCH.md, facts (a) to (f)): (a), (b), (c), (e), (f) are fields of MaskView; here are (d) and the bound by a closure.
-- Both are its field `minimal` at a well chosen closed pair: the view without an unsupported set, and what the view shares with a closure.
use mathlib.Core.Path.{◌≡◌}
use mathlib.Core.List.{List}
use mathlib.Core.Logic.{◌⊎◌, inl, inr, ⊎_elim}
use Prim.Native.Nat.{ℕ, ◌<◌}
use native.Mathlib.Nat.{le_refl}
use native.Mathlib.Omega.{arith}
use lib.Bits.{bit_and, and_zero_r, xor_zero_r}
use Rattle.logic.proofs.Decide.{decides_eq, holds-or-not}
use Rattle.sets.specs.declared.Pair.{Pair}
use Rattle.sets.specs.Sets.{Within, without}
use Rattle.sets.specs.Pairs.{Sub, Off, meet_of, minus_of}
use Rattle.sets.proofs.Digits.{bit-lt, bit-and}
use Rattle.sets.proofs.Words.{both_ways, and_l, sub-and}
use Rattle.sets.proofs.Pairs.{sub_refl, sub_trans, meet-l, meet-r, minus-sub, minus-off, off-sub, off-of-meet, within-is, apart-is}
use Rattle.masks.specs.declared.Masks.{Masks}
use Rattle.masks.specs.Views.{masks_at, Fires, MaskView}

pub fires-or-not : (r : Masks) (v c : Pair) → (Fires r v c) ⊎ (Fires r v c → ⊥)
fires-or-not r v c =
    ⊎_elim (λ f. ⊎_elim (λ g. inl (record { needed = f; unbarred = g })) (λ g. inr (λ x. g x.unbarred)) (holds-or-not (apart-is r.bar v)))
    (λ f. inr (λ x. f x.needed))
    (holds-or-not (within-is r.need c))

-- Heads that are apart from what v shares with c are apart from v, if c has those of them that are within the bound.
off_part : (x a v c : Pair) → Sub x a → Sub x c → Off a (meet_of v c) → Off x v
unfolding meet_of
off_part x a v c f g o = record {
  held = λ i. omega (arith, bit-and v.held c.held i, f.held i, g.held i, o.held i, bit-lt x.held i, bit-lt v.held i, bit-lt c.held i);
  denied = λ i. omega (arith, bit-and v.denied c.denied i, f.denied i, g.denied i, o.denied i, bit-lt x.denied i, bit-lt v.denied i, bit-lt c.denied i);
  taken = λ i. omega (arith, bit-and v.taken c.taken i, f.taken i, g.taken i, o.taken i, bit-lt x.taken i, bit-lt v.taken i, bit-lt c.taken i);
}

off-shared : (a hi v c : Pair) → Sub v hi → Sub (meet_of a hi) c → Off a (meet_of v c) → Off a v
off-shared a hi v c f g o = off-of-meet a hi f (off_part (meet_of a hi) a v c (meet-l a hi) g o)

module _ {ws : List ℕ} {n : ℕ} {ranks : List ℕ} {v : Pair} (w : MaskView ws n ranks v) where
  -- (d) If every rule with a satisfied body has a head that the view has beside m, the view has nothing of m.
  pub unsupported : (m : Pair) → m.taken ≡ 0 → ((k : ℕ) → k < n → Fires (masks_at ws k) v v → Off (masks_at ws k).head (minus_of v m) → ⊥) → Off v m
  unfolding minus_of
  unsupported m e f =
      let c : Pair = minus_of v m in
      let g : Sub v c = w.minimal c (keep v.taken m.taken e) (minus-sub v m)
      (λ k h x. f k h (record { needed = sub_trans x.needed (minus-sub v m); unbarred = x.unbarred })) in
      off-sub g (sub_refl m) (minus-off v m)
    where
      keep : (a b : ℕ) → b ≡ 0 → without a b ≡ a
      keep a b e = rw (e, and_zero_r a) (xor_zero_r a)

  -- (d) The view has a member of m, and every rule with a satisfied body but rule j has a head that the view has beside m: the view satisfies the
  -- body of rule j, and has none of its heads beside m.
  pub only-support : (m : Pair) (j : ℕ) → m.taken ≡ 0 → (Off v m → ⊥)
      → ((k : ℕ) → k < n → (k ≡ j → ⊥) → Fires (masks_at ws k) v v → Off (masks_at ws k).head (minus_of v m) → ⊥)
      → Fires (masks_at ws j) v v × Off (masks_at ws j).head (minus_of v m)
  only-support m j e o f =
      ⊎_elim (λ x. ⊎_elim (λ y. (x, y))
      (λ y. absurd (o (unsupported m e (λ k h z q. ⊎_elim (λ (s : k ≡ j). y (rw s at q)) (λ s. f k h s z q) (holds-or-not (decides_eq k j))))))
      (holds-or-not (apart-is (masks_at ws j).head (minus_of v m))))
      (λ x. absurd (o (unsupported m e (λ k h y. f k h (λ q. x (rw q at y)) y))))
      (fires-or-not (masks_at ws j) v v)

  -- A pair c that has the view's exceptions, and what each rule adds that can fire from c between lo and hi, has the whole view.
  pub bounded : (lo hi c : Pair) → Sub lo v → Sub v hi → Within v.taken c.taken
      → ((k : ℕ) → k < n → Fires (masks_at ws k) lo c → Sub (meet_of (masks_at ws k).head hi) c) → Sub v c
  unfolding meet_of
  bounded lo hi c fl fh ft f =
      let d : Pair = meet_of v c in
      let g : Sub v d = w.minimal d (same v.taken c.taken ft) (meet-l v c)
      (λ k h x o. let y : Fires (masks_at ws k) v v = record { needed = sub_trans x.needed (meet-l v c); unbarred = x.unbarred } in
      let z : Fires (masks_at ws k) lo c = record { needed = sub_trans x.needed (meet-r v c); unbarred = off-sub (sub_refl _) fl x.unbarred } in
      (w.rules k h).closed y (off-shared (masks_at ws k).head hi v c fh (f k h z) o)) in
      sub_trans g (meet-r v c)
    where
      same : (a b : ℕ) → Within a b → bit_and a b ≡ a
      same a b f = both_ways (bit_and a b) a (and_l a b) (sub-and a b a (λ i. le_refl _) f)
