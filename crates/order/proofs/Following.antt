-- The set after a set: in its lowest run of ones the highest moves up by one place and the others move down to the end; where there is no place
-- above, the next size begins.
use mathlib.Core.Path.{◌≡◌, sym, ◌∙◌}
use mathlib.Core.Logic.{◌⊎◌, inl, inr, ⊎_elim}
use Prim.Native.Nat.{ℕ, suc, ◌+◌, ◌-◌, ◌*◌, ◌/◌, ◌%◌, ◌^◌, ◌<◌, ◌≤◌}
use native.Mathlib.Nat.{add_comm, suc-mul, mod-eq_of_lt, mod-lt, mul-le-mul_right}
use native.Mathlib.Numerals.{add-one}
use native.Mathlib.Omega.{arith}
use lib.Pow.{high, low, pow-add, pow_pos, pow_mono, pow-lt, high_ones, mod-pow-add, split, shr_lt}
use Rattle.logic.proofs.Decide.{decides_eq, holds-or-not}
use Rattle.sets.specs.Sets.{bit_of, size_to, Lowest}
use Rattle.sets.proofs.Digits.{bit-mod, bit-zero, lt-or-le, shifted}
use Rattle.sets.proofs.Lowest.{lowest-mod, lowest-some}
use Rattle.sets.proofs.Sizes.{size-narrow, size-zero, size-empty, size-least, size-most, size-first, size-split, size-even}
use Rattle.order.specs.Order.{Earlier, fewer, smaller}
use Rattle.order.specs.Formula.{set_at, NextSet, widest}
use Rattle.order.specs.Runs.{Run}
use Rattle.order.proofs.Places.{place-earlier}
use Rattle.order.proofs.Rule.{order-rule}

-- ---- the run of ones
-- The numbers a + 1 to a + l, with a set of the first a.
run-size : (l a z : ℕ) → z < 2 ^ a → size_to (l + a) (2 ^ (l + a) - 2 ^ a + z) ≡ l + size_to a z
run-size l a z h =
    let e = add_comm a l in
    let x = rw (e, size-first l l (omega arith)) at (size-split a l (2 ^ l - 1) z h) in
    rw (high_ones l a) x

-- No set of l of the first l + a numbers comes after the run.
run-last : (l a y : ℕ) → y < 2 ^ (l + a) → size_to (l + a) y ≡ l → 2 ^ (l + a) < y + 2 ^ a → ⊥
run-last l a y h e m =
    let p : 2 ^ a ≤ 2 ^ (l + a) = pow_mono (omega arith) in
    let z : ℕ = y + 2 ^ a - 2 ^ (l + a) in
    let ez : 2 ^ (l + a) - 2 ^ a + z ≡ y = omega arith in
    let hz : z < 2 ^ a = omega arith in
    let x = rw ez at (run-size l a z hz) in
    let f : size_to a z ≡ 0 = omega arith in
    let g = size-empty a z f in
    let k = mod-eq_of_lt hz in
    omega arith

run-itself : (l a : ℕ) → size_to (l + a) (2 ^ (l + a) - 2 ^ a) ≡ l
run-itself l a =
    let p = pow_pos a in
    let e : 2 ^ (l + a) - 2 ^ a + 0 ≡ 2 ^ (l + a) - 2 ^ a = omega arith in
    let x = rw (e, size-zero a) at (run-size l a 0 p) in
    omega arith

-- ---- what follows
follows : (w t r : ℕ) → w ≤ 64 → ((u : ℕ) → t < 2 ^ w → u < 2 ^ w → Earlier t u → (r < 2 ^ w) × Earlier t r × ((u ≡ r) ⊎ Earlier r u)) → NextSet w t r
follows w t r h f = record {
  next = λ k l e.
      let rule = order-rule w h in
      let j : k < 2 ^ w = omega arith in
      let later = rw e at (rule.rises k (k + 1) (omega arith) l) in
      let c = f (set_at w (k + 1)) (rw e at (rule.below k j)) (rule.below (k + 1) l) later in
      let p = rule.present r c.0 in
      ⊎_elim (λ x. x)
      (λ x. let a = place-earlier {w = w} {f = set_at w} rule k p.0 j (rw (e, p.2) c.1) in
      let b = place-earlier {w = w} {f = set_at w} rule p.0 (k + 1) p.1 (rw p.2 x) in absurd (omega arith))
      c.2;
}

-- By sizes over w digits.
earlier-sizes : (w a b : ℕ) → w ≤ 64 → a < 2 ^ w → b < 2 ^ w → Earlier a b → (size_to w a < size_to w b) ⊎ ((size_to w a ≡ size_to w b) × (a < b))
earlier-sizes w a b h ha hb (fewer l) = let x = size-narrow w a h ha in let y = size-narrow w b h hb in inl (omega arith)
earlier-sizes w a b h ha hb (smaller e l) = let x = size-narrow w a h ha in let y = size-narrow w b h hb in inr (omega arith, l)

sizes-earlier : (w a b : ℕ) → w ≤ 64 → a < 2 ^ w → b < 2 ^ w → (size_to w a < size_to w b) ⊎ ((size_to w a ≡ size_to w b) × (a < b)) → Earlier a b
sizes-earlier w a b h ha hb (inl l) = let x = size-narrow w a h ha in let y = size-narrow w b h hb in fewer (omega arith)
sizes-earlier w a b h ha hb (inr l) = let x = size-narrow w a h ha in let y = size-narrow w b h hb in smaller (omega (arith, l.0)) l.1

-- The last set of a size: the next size begins.
next_more : (l a t : ℕ) → l + a ≤ 64 → t % 2 ^ (l + a) + 2 ^ a ≡ 2 ^ (l + a) → NextSet (l + a) t (2 ^ suc l - 1)
next_more l a t h e = follows (l + a) t (2 ^ suc l - 1) h (λ u ht hu m.
    let et : t ≡ 2 ^ (l + a) - 2 ^ a = let k = mod-eq_of_lt ht in omega arith in
    let st : size_to (l + a) t ≡ l = rw et (run-itself l a) in
    let least = size-least (l + a) u in
    let eu = mod-eq_of_lt hu in
    ⊎_elim
    (λ (c : size_to (l + a) t < size_to (l + a) u).
    let most = size-most (l + a) u in
    let q = pow_pos (suc l) in
    let sr = size-first (l + a) (suc l) (omega arith) in
    let fit : 2 ^ suc l ≤ 2 ^ (l + a) = pow_mono (omega arith) in
    let hr : 2 ^ suc l - 1 < 2 ^ (l + a) = omega arith in (
      hr,
      sizes-earlier (l + a) t (2 ^ suc l - 1) h ht hr (inl (omega arith)),
      ⊎_elim (λ (x : u ≡ 2 ^ suc l - 1). inl x)
          (λ n. inr (sizes-earlier (l + a) (2 ^ suc l - 1) u h hr hu
          (⊎_elim (λ (y : suc l < size_to (l + a) u). inl (omega arith))
          (λ y. let f : size_to (l + a) u ≡ suc l = omega arith in let g = rw f at least in inr (omega arith, omega arith))
          (lt-or-le (suc l) (size_to (l + a) u)))))
          (holds-or-not (decides_eq u (2 ^ suc l - 1))),
    ))
    (λ c. absurd (run-last l a u hu (omega (arith, c.0)) (omega (arith, c.1))))
    (earlier-sizes (l + a) t u h ht hu m))

-- Another set of the same size: the highest of the lowest run moves up by one place, the others down to the end.
module _ (l a d t : ℕ) (h : suc l + a + suc d ≤ 64) (e : t % 2 ^ (suc l + a) + 2 ^ a ≡ 2 ^ (suc l + a)) (z : bit_of t (suc l + a) ≡ 0) (ht : t < 2 ^ (suc l + a + suc d)) where
  abbrev b : ℕ
  b = suc l + a

  abbrev top : ℕ
  top = t / 2 ^ b

  abbrev r : ℕ
  r = (top + 1) * 2 ^ b + (2 ^ l - 1)

  low_fits : 2 ^ l - 1 < 2 ^ b
  low_fits = let p = pow_pos l in let q : 2 ^ l ≤ 2 ^ b = pow_mono (omega arith) in omega arith

  parts : (u : ℕ) → (u / 2 ^ b * 2 ^ b + u % 2 ^ b ≡ u) × (u % 2 ^ b < 2 ^ b) × (size_to (b + suc d) u ≡ size_to (suc d) (u / 2 ^ b) + size_to b (u % 2 ^ b))
  parts u =
      let m : u % 2 ^ b < 2 ^ b = mod-lt u (pow_pos b) in
      let s = split u b in
      (s, m, rw s at (size-split b (suc d) (u / 2 ^ b) (u % 2 ^ b) m))

  size-t : size_to (b + suc d) t ≡ size_to (suc d) top + suc l
  size-t =
      let m : t % 2 ^ b ≡ 2 ^ b - 2 ^ a = omega arith in
      (parts t).2 ∙ (rw m (let x = run-itself (suc l) a in omega arith))

  size-r : size_to (b + suc d) r ≡ size_to (b + suc d) t
  size-r =
      let x = size-split b (suc d) (top + 1) (2 ^ l - 1) low_fits in
      let y = size-even d top z in
      let w = size-first b l (omega arith) in
      let v = size-t in
      omega arith

  r-fits : r < 2 ^ (b + suc d)
  r-fits =
      let c : suc d + b ≡ b + suc d = omega arith in
      let m : top < 2 ^ suc d = shr_lt (suc d) b (rw c ht) in
      let n : top + 2 ≤ 2 ^ suc d = omega arith in
      let p = mul-le-mul_right (2 ^ b) n in
      let q = rw c at (pow-add 2 (suc d) b) in
      let f = low_fits in
      let s1 = suc-mul (top + 1) (2 ^ b) in
      let g : suc (top + 1) ≡ top + 2 = omega arith in
      let s2 = rw g at s1 in
      omega arith

  t-before : t < r
  t-before =
      let s = parts t in
      let g : suc top ≡ top + 1 = omega arith in
      let k = rw g at (suc-mul top (2 ^ b)) in
      omega (arith, s.0, s.1)

  at_least : (u : ℕ) → size_to (b + suc d) t ≡ size_to (b + suc d) u → t < u → r ≤ u
  at_least u es lt =
      let st = parts t in
      let su = parts u in
      let g : suc top ≡ top + 1 = omega arith in
      let k = rw g at (suc-mul top (2 ^ b)) in
      let v = size-t in
      ⊎_elim
      (λ (c : u / 2 ^ b < top). let p = mul-le-mul_right (2 ^ b) c in let q = suc-mul (u / 2 ^ b) (2 ^ b) in absurd (omega (arith, st.0, su.0, su.1)))
      (λ (c : top ≤ u / 2 ^ b). ⊎_elim
      (λ (f : u / 2 ^ b ≡ top).
      let y : size_to b (u % 2 ^ b) ≡ suc l = let x = rw f at su.2 in omega arith in
      let x = rw f at su.0 in
      absurd (run-last (suc l) a (u % 2 ^ b) su.1 y (omega (arith, st.0))))
      (λ n. ⊎_elim
      (λ (f : u / 2 ^ b ≡ top + 1).
      let y : size_to b (u % 2 ^ b) ≡ l = let x = rw f at su.2 in let w = size-even d top z in omega arith in
      let x = rw f at su.0 in
      let q = rw (y, mod-eq_of_lt su.1) at (size-least b (u % 2 ^ b)) in
      omega arith)
      (λ m. let n2 : top + 2 ≤ u / 2 ^ b = omega arith in
      let p = mul-le-mul_right (2 ^ b) n2 in
      let g2 : suc (top + 1) ≡ top + 2 = omega arith in
      let k2 = rw g2 at (suc-mul (top + 1) (2 ^ b)) in
      let f = low_fits in
      omega (arith, su.0))
      (holds-or-not (decides_eq (u / 2 ^ b) (top + 1))))
      (holds-or-not (decides_eq (u / 2 ^ b) top)))
      (lt-or-le (u / 2 ^ b) top)

  after-t : (u : ℕ) → u < 2 ^ (b + suc d) → Earlier t u → (r < 2 ^ (b + suc d)) × Earlier t r × ((u ≡ r) ⊎ Earlier r u)
  after-t u hu m =
      let sr = size-r in (
        r-fits,
        sizes-earlier (b + suc d) t r h ht r-fits (inr (sym size-r, t-before)),
        ⊎_elim (λ c. inr (sizes-earlier (b + suc d) r u h r-fits hu (inl (omega arith))))
            (λ c. ⊎_elim (λ x. inl x)
            (λ n. let y = at_least u c.0 c.1 in inr (sizes-earlier (b + suc d) r u h r-fits hu (inr (size-r ∙ c.0, omega arith))))
            (holds-or-not (decides_eq u r)))
            (earlier-sizes (b + suc d) t u h ht hu m),
      )

next-same : (l a d t : ℕ) → suc l + a + suc d ≤ 64 → t % 2 ^ (suc l + a) + 2 ^ a ≡ 2 ^ (suc l + a) → bit_of t (suc l + a) ≡ 0
    → NextSet (suc l + a + suc d) t ((t / 2 ^ (suc l + a) + 1) * 2 ^ (suc l + a) + (2 ^ l - 1))
next-same l a d t h e z = follows (suc l + a + suc d) t _ h (λ u ht hu m. after-t l a d t h e z ht u hu m)

-- ---- the same with the places by name
next_last : (l a x t : ℕ) → l + a ≡ x → x ≤ 64 → t % 2 ^ x + 2 ^ a ≡ 2 ^ x → NextSet x t (2 ^ suc l - 1)
next_last l a x t e h r = rw (← e) (next_more l a t (omega arith) (rw (← e) at r))

next-within : (l a d b x t : ℕ) → suc l + a ≡ b → b + suc d ≡ x → x ≤ 64 → t % 2 ^ b + 2 ^ a ≡ 2 ^ b → bit_of t b ≡ 0 → NextSet x t ((t / 2 ^ b + 1) * 2 ^ b + (2 ^ l - 1))
next-within l a d b x t e f h r z = rw (← f, ← e) (next-same l a d t (omega arith) (rw (← e) at r) (rw (← e) at z))

-- ---- as words have it
-- After the empty set the sets of one number begin.
pub next-none : (x : ℕ) → x ≤ widest → NextSet x 0 1
next-none x h = next_last 0 x x 0 (omega arith) (omega arith) (let z = mod-eq_of_lt (pow_pos x) in omega arith)

-- A word with zeros below place k has none but zeros there.
none-there : (v k i : ℕ) → v % 2 ^ k ≡ 0 → i < k → bit_of v i ≡ 1 → ⊥
none-there v k i e h o = let x = rw e at (bit-mod v k i h) in let y = bit-zero i in omega arith

-- The lowest one of t stands at place a.
module _ (x t a : ℕ) (small : x ≤ widest) (ht : t < 2 ^ x) (some : 0 < t) (am : a ≤ 64) (la : Lowest t a) where
  limit : 2 ^ x ≤ 2 ^ widest
  limit = pow_mono small

  pub low_word : a < 64
  low_word = let q = limit in lowest-some t a la some (omega arith) am

  a-below : a < x
  a-below = ⊎_elim (λ l. l)
      (λ (l : x ≤ a). let q : 2 ^ x ≤ 2 ^ a = pow_mono l in let s : t < 2 ^ a = omega arith in let m = mod-eq_of_lt s in let n = lowest-mod t a la in absurd (omega arith))
      (lt-or-le a x)

  small_one : 2 ^ a < 2 ^ x
  small_one = pow-lt a-below

  -- As far as place a there are zeros and then a one.
  odd_part : t % 2 ^ suc a ≡ 2 ^ a
  odd_part =
      let e : 1 + a ≡ suc a = omega arith in
      let m = rw e at (mod-pow-add t 1 a) in
      let o = la.member low_word in
      let z = lowest-mod t a la in
      m ∙ rw (o, z) (omega arith)

  -- No more than 2 ^ a is missing from t to the numbers past x.
  up-most : t + 2 ^ a ≤ 2 ^ x
  up-most =
      let e : x - a + a ≡ x = let l = a-below in omega arith in
      let m : t / 2 ^ a < 2 ^ (x - a) = shr_lt (x - a) a (rw e ht) in
      let p = mul-le-mul_right (2 ^ a) m in
      let q = rw e at (pow-add 2 (x - a) a) in
      let s = split t a in
      let z = lowest-mod t a la in
      let k = suc-mul (t / 2 ^ a) (2 ^ a) in
      omega arith

  pub carried-is : t + 1 * 2 ^ a % 2 ^ 64 ≡ t + 2 ^ a
  carried-is = let o = shifted a low_word in omega arith

  pub carried-fits : t + 1 * 2 ^ a % 2 ^ 64 < 2 ^ 64
  carried-fits = let e = carried-is in let m = up-most in let q = limit in omega arith

  -- With 2 ^ a added, the lowest run of ones, from a on, becomes a one at its end, at place b.
  module _ (up b : ℕ) (eu : up ≡ t + 2 ^ a) (bm : b ≤ 64) (lb : Lowest up b) where
    b-word : b < 64
    b-word = let q = limit in let m = up-most in lowest-some up b lb (omega arith) (omega arith) bm

    up-even : up % 2 ^ suc a ≡ 0
    up-even =
        let s = split t (suc a) in
        let o = odd_part in
        let k = suc-mul (t / 2 ^ suc a) (2 ^ suc a) in
        let p = pow_pos (suc a) in
        let e : suc (t / 2 ^ suc a) * 2 ^ suc a + 0 ≡ up = omega arith in
        rw e at (low (suc (t / 2 ^ suc a)) (suc a) p)

    run-some : a < b
    run-some = ⊎_elim (λ l. l) (λ (l : b ≤ a). absurd (none-there up (suc a) b up-even (omega arith) (lb.member b-word))) (lt-or-le a b)

    run-parts : (t % 2 ^ b + 2 ^ a ≡ 2 ^ b) × (bit_of t b ≡ 0) × ((t / 2 ^ b + 1) * 2 ^ b ≡ up)
    run-parts =
        let l : 2 ^ a < 2 ^ b = pow-lt run-some in
        let p = pow_pos a in
        let q : ℕ = up / 2 ^ b in
        let o : q % 2 ≡ 1 = lb.member b-word in
        let s = split up b in
        let z = lowest-mod up b lb in
        let eq : suc (q - 1) ≡ q = omega arith in
        let k = rw eq at (suc-mul (q - 1) (2 ^ b)) in
        let d : 2 ^ b - 2 ^ a < 2 ^ b = omega arith in
        let e : (q - 1) * 2 ^ b + (2 ^ b - 2 ^ a) ≡ t = omega arith in
        let hi = rw e at (high (q - 1) b d) in
        let lo = rw e at (low (q - 1) b d) in
        let g : t / 2 ^ b + 1 ≡ q = omega arith in
        (omega arith, rw hi (omega arith), rw g (omega arith))

    b-most : b ≤ x
    b-most = ⊎_elim
        (λ (l : x < b). let q : 2 ^ x < 2 ^ b = pow-lt l in let m = up-most in let s : up < 2 ^ b = omega arith in let n = mod-eq_of_lt s in let z = lowest-mod up b lb in absurd (omega arith))
        (λ l. l) (lt-or-le x b)

    pub run : Run x t a b up
    run = let p = run-parts in record { some = run-some; within = b-most; ones = p.0; ends = p.1; is = sym p.2; most = let m = up-most in omega arith }

module _ (x t a b up : ℕ) (small : x ≤ widest) (r : Run x t a b up) where
  length_most : b - a ≤ widest
  length_most = omega (arith, r.within)

  -- The run ends with the last number.
  module _ (past : x ≤ b) where
    more-one : 1 * 2 ^ (b - a + 1) % 2 ^ 64 ≡ 2 ^ (b - a + 1)
    more-one = let l = length_most in shifted (b - a + 1) (omega arith)

    pub more-positive : 1 ≤ 1 * 2 ^ (b - a + 1) % 2 ^ 64
    more-positive = let p = pow_pos (b - a + 1) in rw more-one p

    pub more-follows : NextSet x t (1 * 2 ^ (b - a + 1) % 2 ^ 64 - 1)
    more-follows =
        let eb : b ≡ x = omega (arith, r.within) in
        let e : b - a + a ≡ x = omega (arith, r.some) in
        rw (more-one, add-one (b - a)) (next_last (b - a) a x t e (omega arith) (rw eb at r.ones))

  -- There is a number above it.
  module _ (below : b < x) where
    same-one : 1 * 2 ^ (b - a - 1) % 2 ^ 64 ≡ 2 ^ (b - a - 1)
    same-one = shifted (b - a - 1) (omega arith)

    pub same-positive : 1 ≤ 1 * 2 ^ (b - a - 1) % 2 ^ 64
    same-positive = let p = pow_pos (b - a - 1) in rw same-one p

    pub sum_fits : up + (1 * 2 ^ (b - a - 1) % 2 ^ 64 - 1) < 2 ^ 64
    sum_fits =
        let c : b - a - 1 ≤ widest = omega arith in
        let p : 2 ^ (b - a - 1) ≤ 2 ^ widest = pow_mono c in
        let q : 2 ^ x ≤ 2 ^ widest = pow_mono small in
        let o = same-one in
        omega (arith, r.most)

    pub same-follows : NextSet x t (up + (1 * 2 ^ (b - a - 1) % 2 ^ 64 - 1))
    same-follows =
        let e : suc (b - a - 1) + a ≡ b = omega (arith, r.some) in
        let f : b + suc (x - b - 1) ≡ x = omega arith in
        rw (same-one, r.is) (next-within (b - a - 1) a (x - b - 1) b x t e f (omega arith) r.ones r.ends)
