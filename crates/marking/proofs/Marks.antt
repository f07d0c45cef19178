-- Marks that are set word by word: each is the mark of a struck set, and no struck set is left out; and the exceptions that a set outranks,
-- gathered word by word.
use Rattle.std.proofs.Common.{◌≡◌, ℕ, ◌+◌, ◌-◌, ◌*◌, ◌/◌, ◌%◌, ◌^◌, ◌<◌, ◌≤◌, true, eqb, ◌⊎◌, List, [], ◌∷◌, length, get_or, take, set, replicate, sym, refl, ap, ◌∙◌, inl, inr, ⊎_elim, le_trans, le_refl, mod-lt, arith, length-set, length-take, length-take-le, get_or-set_other, get_or-take, get_or-set_same, pow-add, eq-eqb, eqb-true}
use lib.Bits.{bit_and, bit_or}
use lib.ListN.{get_or-replicate, get_or-eq_default, length-replicate}
use Rattle.logic.specs.Tests.{Decides}
use Rattle.logic.proofs.Decide.{decided, reworded, holds-or-not, decides_eq}
use Rattle.logic.proofs.Tests.{all, all-at}
use Rattle.sets.specs.Sets.{bit_of, Within, Apart, without}
use Rattle.sets.proofs.Digits.{bit-and, bit-or, bit-without, bit-single, bit-lt, bit-zero, shifted, lt-or-le}
use Rattle.sets.proofs.Words.{and_none, none-and, off-is, off-sub, or_l, or_r, and_r, sub-or, sub-le, zero_minus, none-off}
use Rattle.meaning.specs.Books.{Book}
use Rattle.marking.specs.declared.Strike.{Strike}
use Rattle.marking.specs.Marks.{marks_in, IsMarked, shut_out, bit_on, InRange, Struck, shares, between, Marked, Digit, DigitBetween, Selected, Pattern, Spans, Next, all_ones, Clear, NoneAt, RightMarks, Outranked, WithRank}
use Rattle.marking.proofs.Steps.{outside, outside-lt, outside-off, outside-parts, room, later, next-in, bit-number, words-within, within-words, ones-at}

-- ---- one look
module _ (m : List ℕ) (t : ℕ) where
  pub look-shut : (bit_and t (get_or m 0 0) ≡ 0 → ⊥) → Decides true (IsMarked m t)
  look-shut n = decided (λ e. shut_out (λ a. n (none-and t (get_or m 0 0) (λ k. let q = a k in omega arith)))) (λ k. refl)

  pub look-noted : bit_and t (get_or m 0 0) ≡ 0 → Decides (eqb (bit_of (get_or m (t / 64 + 1) 0) (t % 64)) 1) (IsMarked m t)
  look-noted z = reworded (decides_eq _ 1) (λ e. bit_on e) only
    where
      only : IsMarked m t → bit_of (get_or m (t / 64 + 1) 0) (t % 64) ≡ 1
      only (shut_out d) = absurd (d (λ k. let q = and_none t (get_or m 0 0) z k in omega arith))
      only (bit_on e) = e

-- Words of zeros mark nothing, nor does a part of them.
module _ (n k : ℕ) where
  abbrev zeros : List ℕ
  zeros = take n (replicate k 0)

  zero-at : (i : ℕ) → ◌≡◌ {A = ℕ} (get_or (replicate k 0) i 0) 0
  zero-at i = ⊎_elim (λ h. get_or-replicate k i 0 0 h) (λ h. get_or-eq_default (replicate k 0) 0 (rw (length-replicate {A = ℕ} k 0) h)) (lt-or-le i k)

  zero_in : (i : ℕ) → get_or zeros i 0 ≡ 0
  zero_in i =
      ⊎_elim (λ h. get_or-take n (replicate k 0) i 0 h ∙ zero-at i) (λ h. get_or-eq_default zeros 0 (let l = length-take n (replicate {A = ℕ} k 0) in omega arith)) (lt-or-le i n)

  pub zeros-clear : Clear zeros
  zeros-clear = record { none = none }
    where
      none : (t : ℕ) → IsMarked zeros t → ⊥
      none t (shut_out d) = d (rw (zero_in 0) (none-off t))
      none t (bit_on e) = let x = rw (zero_in (t / 64 + 1)) at e in let y = bit-zero (t % 64) in omega arith

-- The sets of x exceptions fill their words.
pub words-full : (x : ℕ) → 6 ≤ x → 64 * (2 ^ x / 64) ≡ 2 ^ x
words-full x h =
    let e : x ≡ 6 + (x - 6) = omega arith in
    let p : 2 ^ x ≡ 64 * 2 ^ (x - 6) = ap (λ (m : ℕ). 2 ^ m) e ∙ pow-add 2 6 (x - 6) in
    omega arith

-- A part of words of zeros has its length.
pub zeros-long : (n k : ℕ) → n ≤ k → length (zeros n k) ≡ n
zeros-long n k h = length-take-le n (replicate k 0) (rw (length-replicate {A = ℕ} k 0) h)

pub words-in : (x k : ℕ) → 6 ≤ x → 2 ^ x ≤ 64 * k → (n : ℕ) → n ≡ 2 ^ x / 64 + 1 → n ≤ k + 1
words-in x k h l n e = omega arith

-- ---- the numbers of a word
-- A word of numbers with a digit, found by looking at all 64.
pub digit-is : (i d : ℕ) → all (λ k. eqb (bit_of d k) (bit_of k i)) 64 ≡ true → Digit i d
digit-is i d e = record { is = λ k h. eqb-true _ _ (all-at (λ k. eqb (bit_of d k) (bit_of k i)) 64 k e h) }

-- The words of all six digits.
abbrev pub digits : List ℕ
digits = 0xaaaa_aaaa_aaaa_aaaa ∷ 0xcccc_cccc_cccc_cccc ∷ 0xf0f0_f0f0_f0f0_f0f0 ∷ 0xff00_ff00_ff00_ff00 ∷ 0xffff_0000_ffff_0000 ∷ 0xffff_ffff_0000_0000 ∷ []

pub digit-at : (i : ℕ) → i < 6 → Digit i (get_or digits i 0)
digit-at i h = digit-is i (get_or digits i 0) (all-at (λ i. all (λ k. eqb (bit_of (get_or digits i 0) k) (bit_of k i)) 64) 6 i refl h)

module _ (p i d lo hi : ℕ) (g : Digit i d) (sub : Within lo hi) where
  -- lo has the digit; hi has it not; it may be either.
  pub selected-with : bit_of lo i ≡ 1 → Selected p (λ k. DigitBetween lo hi k i) (bit_and p d)
  selected-with e = record {
    from = λ k h x. let a = bit-and p d k in let b = g.is k h in let c = sub i in let u = bit-lt p k in let v = bit-lt d k in let w = bit-lt hi i in (omega arith, (omega arith, omega arith));
    all = λ k h x f. let a = bit-and p d k in let b = g.is k h in let c = f.0 in let v = bit-lt d k in omega arith;
  }

  pub selected-without : bit_of hi i ≡ 0 → Selected p (λ k. DigitBetween lo hi k i) (without p d)
  selected-without e = record {
    from = λ k h x. let a = bit-without p d k in let b = g.is k h in let c = sub i in let u = bit-lt p k in (omega arith, (omega arith, omega arith));
    all = λ k h x f. let a = bit-without p d k in let b = g.is k h in let c = f.1 in omega arith;
  }

  pub selected-all : (bit_of lo i ≡ 1 → ⊥) → (bit_of hi i ≡ 0 → ⊥) → Selected p (λ k. DigitBetween lo hi k i) p
  selected-all n o = record {
    from = λ k h x. let u = bit-lt lo i in let v = bit-lt hi i in let w = bit-lt k i in (x, (omega arith, omega arith));
    all = λ k h x f. x;
  }

module _ (lo hi : ℕ) where
  pub pattern-none : Pattern 0 lo hi all_ones
  pattern-none = record { from = λ k h x i l. absurd (omega arith); all = λ k h f. ones-at k h }

  pub pattern-more : (m p r : ℕ) → Pattern m lo hi p → Selected p (λ k. DigitBetween lo hi k m) r → Pattern (m + 1) lo hi r
  pattern-more m p r f c = record {
    from = λ k h x i l. ⊎_elim (λ a. f.from k h (c.from k h x).0 i a) (λ a. let e : i ≡ m = omega arith in rw e (c.from k h x).1) (lt-or-le i m);
    all = λ k h g. c.all k h (f.all k h (λ i l. g i (omega arith))) (g m (omega arith));
  }

-- The word that has the set left out, and the others.
module _ (p but w : ℕ) where
  pub other_word : (but / 64 ≡ w → ⊥) → Selected p (λ k. w * 64 + k ≡ but → ⊥) p
  other_word n = record { from = λ k h x. (x, λ e. n (omega arith)); all = λ k h x o. x }

  pub own-word : but / 64 ≡ w → Selected p (λ k. w * 64 + k ≡ but → ⊥) (without p (1 * 2 ^ (but % 64) % 2 ^ 64))
  own-word e = rw (shifted (but % 64) (omega (arith, mod-lt but {m = 64} (omega arith)))) record {
    from = λ k h x.
        let a = bit-without p (2 ^ (but % 64)) k in
        let u = bit-lt p k in
        (omega arith, λ o. let b = has k (omega arith) in omega arith);
    all = λ k h x o. let a = bit-without p (2 ^ (but % 64)) k in let b = has-not k (λ d. o (omega arith)) in omega arith;
  }
    where
      has : (k : ℕ) → but % 64 ≡ k → bit_of (2 ^ (but % 64)) k ≡ 1
      has k d = eqb-true _ _ (bit-single (but % 64) k ∙ eq-eqb _ _ d)

      has-not : (k : ℕ) → (but % 64 ≡ k → ⊥) → bit_of (2 ^ (but % 64)) k ≡ 0
      has-not k n =
          let l = bit-lt (2 ^ (but % 64)) k in
          let o : bit_of (2 ^ (but % 64)) k ≡ 1 → ⊥ = λ x. n (eqb-true _ _ (sym (bit-single (but % 64) k) ∙ eq-eqb _ _ x)) in
          omega arith

-- ---- marks more and more
-- Nothing to mark; two steps; the first word; another word.
pub marked-none : (m : List ℕ) (P : ℕ → Type 0) → ((t : ℕ) → P t → ⊥) → Marked m P m
marked-none m P n = record { only = λ t x. inl x; stays = λ t x. x; same = refl; all = λ t h x. absurd (n t x) }

pub marked-both : (l m n : List ℕ) (P Q R : ℕ → Type 0) → Marked l P m → Marked m Q n → ((t : ℕ) → P t ⊎ Q t → R t) → ((t : ℕ) → t < marks_in l → R t → P t ⊎ Q t) → Marked l R n
marked-both l m n P Q R f g into back = record {
  only = λ t x. ⊎_elim (λ y. ⊎_elim (λ z. inl z) (λ z. inr (into t (inl z))) (f.only t y)) (λ y. inr (into t (inr y))) (g.only t x);
  stays = λ t x. g.stays t (f.stays t x);
  same = g.same ∙ f.same;
  all = λ t h x. ⊎_elim (λ y. g.stays t (f.all t h y)) (λ y. g.all t (rw f.same h) y) (back t h x);
}

module _ (m : List ℕ) where
  module _ (any : ℕ) (room : 0 < length m) where
    abbrev first : ℕ
    first = get_or m 0 0

    abbrev shut : List ℕ
    shut = set m 0 (bit_or first any)

    shut-first : get_or shut 0 0 ≡ bit_or first any
    shut-first = get_or-set_same m 0 (bit_or first any) 0 room

    shut-other : (t : ℕ) → get_or shut (t / 64 + 1) 0 ≡ get_or m (t / 64 + 1) 0
    shut-other t = get_or-set_other m 0 (t / 64 + 1) (bit_or first any) 0 (λ e. omega arith)

    either-off : (t : ℕ) → Apart first t → Apart any t → Apart (bit_or first any) t
    either-off t a b i = let o = bit-or first any i in let x = a i in let y = b i in omega arith

    pub marked-first : Marked m (λ t. Apart any t → ⊥) shut
    marked-first = record { only = only; stays = stays; same = length-set m 0 (bit_or first any); all = λ t h x. shut_out (rw shut-first (λ a. x (off-sub any (bit_or first any) t t (or_r first any) (λ i. le_refl _) a))) }
      where
        only : (t : ℕ) → IsMarked shut t → IsMarked m t ⊎ (Apart any t → ⊥)
        only t (shut_out d) = ⊎_elim (λ a. inr (λ b. rw shut-first at d (either-off t a b))) (λ n. inl (shut_out n)) (holds-or-not (off-is first t))
        only t (bit_on e) = inl (bit_on (sym (ap (λ (x : ℕ). bit_of x (t % 64)) (shut-other t)) ∙ e))

        stays : (t : ℕ) → IsMarked m t → IsMarked shut t
        stays t (shut_out d) = shut_out (rw shut-first (λ a. d (off-sub first (bit_or first any) t t (or_l first any) (λ i. le_refl _) a)))
        stays t (bit_on e) = bit_on (ap (λ (x : ℕ). bit_of x (t % 64)) (shut-other t) ∙ e)

  module _ (w new : ℕ) (room : w + 1 < length m) where
    abbrev word : ℕ
    word = get_or m (w + 1) 0

    abbrev more : List ℕ
    more = set m (w + 1) (bit_or word new)

    more-first : get_or more 0 0 ≡ get_or m 0 0
    more-first = get_or-set_other m (w + 1) 0 (bit_or word new) 0 (λ e. omega arith)

    more-there : (t : ℕ) → t / 64 ≡ w → get_or more (t / 64 + 1) 0 ≡ bit_or word new
    more-there t e = rw e (get_or-set_same m (w + 1) (bit_or word new) 0 room)

    more-other : (t : ℕ) → (t / 64 ≡ w → ⊥) → get_or more (t / 64 + 1) 0 ≡ get_or m (t / 64 + 1) 0
    more-other t n = get_or-set_other m (w + 1) (t / 64 + 1) (bit_or word new) 0 (λ e. n (omega arith))

    pub marked-word : Marked m (λ t. (t / 64 ≡ w) × (bit_of new (t % 64) ≡ 1)) more
    marked-word = record { only = only; stays = stays; same = length-set m (w + 1) (bit_or word new); all = λ t h x. bit_on (rw (more-there t x.0) (new-at t x.1)) }
      where
        new-at : (t : ℕ) → bit_of new (t % 64) ≡ 1 → bit_of (bit_or word new) (t % 64) ≡ 1
        new-at t x = let o = bit-or word new (t % 64) in let l = bit-lt word (t % 64) in omega arith

        old-at : (t : ℕ) → bit_of word (t % 64) ≡ 1 → bit_of (bit_or word new) (t % 64) ≡ 1
        old-at t x = let o = bit-or word new (t % 64) in let l = bit-lt new (t % 64) in omega arith

        one_of : (t : ℕ) → bit_of (bit_or word new) (t % 64) ≡ 1 → (bit_of new (t % 64) ≡ 1 → ⊥) → bit_of word (t % 64) ≡ 1
        one_of t x n = let o = bit-or word new (t % 64) in let k = bit-lt word (t % 64) in let l = bit-lt new (t % 64) in omega arith

        only : (t : ℕ) → IsMarked more t → IsMarked m t ⊎ ((t / 64 ≡ w) × (bit_of new (t % 64) ≡ 1))
        only t (shut_out d) = inl (shut_out (rw more-first at d))
        only t (bit_on x) =
            ⊎_elim
            (λ e. ⊎_elim (λ y. inr (e, y)) (λ n. inl (bit_on (rw e (one_of t (rw (more-there t e) at x) n)))) (holds-or-not (decides_eq (bit_of new (t % 64)) 1)))
            (λ n. inl (bit_on (rw (more-other t n) at x)))
            (holds-or-not (decides_eq (t / 64) w))

        stays : (t : ℕ) → IsMarked m t → IsMarked more t
        stays t (shut_out d) = shut_out (rw more-first d)
        stays t (bit_on x) =
            ⊎_elim (λ e. bit_on (rw (more-there t e) (old-at t (rw e at x)))) (λ n. bit_on (rw (more-other t n) x)) (holds-or-not (decides_eq (t / 64) w))

-- ---- the words of a range
module _ (lo hi : ℕ) where
  -- Nothing comes after hi.
  pub next-none : (w end : ℕ) → w ≡ hi → Next lo hi (w + 1) end end
  next-none w end e = record { least = λ v h l s. let x = sub-le v hi s.below in absurd (omega arith); stands = λ l. absurd (omega arith) }

  module _ (w : ℕ) (s : Spans lo hi w) (fits : hi < 2 ^ 64) where
    -- What is within hi of the sum that is carried over the rest.
    abbrev carried : ℕ
    carried = bit_and (bit_or w (outside hi) + 1) hi

    off : Apart (outside hi) hi
    off = outside-off hi fits

    pub next_fits : (w ≡ hi → ⊥) → bit_or w (outside hi) + 1 < 2 ^ 64
    next_fits n = room hi (outside hi) off w (outside-lt hi) fits s.below n

    pub next-later : (w ≡ hi → ⊥) → w < bit_or carried lo
    next-later n = later hi (outside hi) off w lo s.below (outside-parts hi fits (bit_or w (outside hi) + 1) (next_fits n))

    pub next-there : (end : ℕ) → Next lo hi (w + 1) end (bit_or carried lo)
    next-there end = record {
      least = λ v h l x. next-in hi (outside hi) off w v lo s.above s.below x.above x.below (omega arith);
      stands = λ l. record { above = or_r carried lo; below = sub-or carried lo hi (and_r (bit_or w (outside hi) + 1) hi) (λ i. le_trans (s.above i) (s.below i)) };
    }

-- ---- the sets of a range
-- The sets of the range in the words before w.
pub record Reached (s : Strike) (w t : ℕ) : Type 0 where
  pub in-range : InRange s t
  pub before : t / 64 < w

module _ (s : Strike) where
  abbrev low : ℕ
  low = s.lo / 64

  abbrev high : ℕ
  high = s.hi / 64

  in_words : (t : ℕ) → InRange s t → Spans low high (t / 64)
  in_words t f = record { above = words-within s.lo t f.above; below = words-within t s.hi f.below }

  -- Marking begins with the word of lo.
  pub range-begins : Within s.lo s.hi → Spans low high low
  range-begins f = record { above = λ i. le_refl _; below = words-within s.lo s.hi f }

  pub range_none : (m : List ℕ) → Marked m (Reached s low) m
  range_none m = marked-none m (Reached s low) (λ t x. let y = sub-le low (t / 64) (in_words t x.in-range).above in let z = x.before in omega arith)

  module _ (p w new : ℕ) (f : Pattern 6 s.lo s.hi p) (c : Selected p (λ k. w * 64 + k ≡ s.but → ⊥) new) (x : Spans low high w) where
    -- The new marks of a word are those of its sets in the range.
    word_in : (t : ℕ) → (t / 64 ≡ w) × (bit_of new (t % 64) ≡ 1) → InRange s t
    word_in t e =
        let h = mod-lt t {m = 64} (omega arith) in
        let k = c.from (t % 64) h e.1 in
        let g = f.from (t % 64) h k.0 in
        record {
          above = within-words s.lo t (rw e.0 x.above) (λ i l. rw (bit-number t i l) at (g i l).0);
          below = within-words t s.hi (rw e.0 x.below) (λ i l. rw (bit-number t i l) at (g i l).1);
          other = λ o. k.1 (let q = e.0 in omega arith);
        }

    in-word : (t : ℕ) → InRange s t → t / 64 ≡ w → bit_of new (t % 64) ≡ 1
    in-word t r e =
        let h = mod-lt t {m = 64} (omega arith) in
        c.all (t % 64) h (f.all (t % 64) h (λ i l. (rw (bit-number t i l) (r.above i), rw (bit-number t i l) (r.below i)))) (λ o. r.other (omega arith))

    -- One word more, up to the next one.
    pub range-more : (l m o : List ℕ) (end v : ℕ) → length m ≡ end + 1 → w < end → Marked l (Reached s w) m → o ≡ set m (w + 1) (bit_or (get_or m (w + 1) 0) new) → w < v
        → Next low high (w + 1) end v → Marked l (Reached s v) o
    range-more l m o end v e h g d b n =
        marked-both l m o (Reached s w) (λ t. (t / 64 ≡ w) × (bit_of new (t % 64) ≡ 1)) (Reached s v) g (rw d (marked-word m w new (omega arith)))
        (λ t y. ⊎_elim (λ z. record { in-range = z.in-range; before = omega (arith, z.before) }) (λ z. record { in-range = word_in t z; before = omega (arith, z.0) }) y)
        (λ t a z. ⊎_elim (λ k. inl (record { in-range = z.in-range; before = k }))
        (λ k. ⊎_elim (λ o. inr (o, in-word t z.in-range o)) (λ o. absurd (past t a z (omega arith))) (holds-or-not (decides_eq (t / 64) w)))
        (lt-or-le (t / 64) w))
      where
        past : (t : ℕ) → t < marks_in l → Reached s v t → w < t / 64 → ⊥
        past t a z k = let y = n.least (t / 64) (omega arith) (omega (arith, a, g.same)) (in_words t z.in-range) in omega (arith, z.before)

  -- All words have been marked.
  pub range_all : (l m : List ℕ) (w : ℕ) → length l ≤ w + 1 → Marked l (Reached s w) m → Marked l (InRange s) m
  range_all l m w h g = record {
    only = λ t x. ⊎_elim (λ y. inl y) (λ y. inr y.in-range) (g.only t x);
    stays = g.stays;
    same = g.same;
    all = λ t a x. g.all t a (record { in-range = x; before = omega arith });
  }

  -- The first word, then the range; or there is none.
  module _ (l m : List ℕ) (f : Marked l (λ t. Apart s.any t → ⊥) m) where
    pub struck-both : (n : List ℕ) → Marked m (InRange s) n → Marked l (Struck s) n
    struck-both n g = marked-both l m n _ _ _ f g (λ t x. ⊎_elim (λ y. shares y) (λ y. between y) x) (λ t h x. back t x)
      where
        back : (t : ℕ) → Struck s t → (Apart s.any t → ⊥) ⊎ InRange s t
        back t (shares y) = inl y
        back t (between y) = inr y

    pub struck-first : (without s.lo s.hi ≡ 0 → ⊥) → Marked l (Struck s) m
    struck-first n = struck-both m (marked-none m (InRange s) (λ t x. n (zero_minus s.lo s.hi (λ i. le_trans (x.above i) (x.below i)))))

-- Marks of sets that no resolution has are right.
pub right-more : (b : Book) (m n : List ℕ) (P : ℕ → Type 0) → RightMarks b m → Marked m P n → ((t : ℕ) → P t → NoneAt b t) → RightMarks b n
right-more b m n P r f g = record { right = λ t x. ⊎_elim (λ y. r.right t y) (λ k. g t k) (f.only t x) }

-- ---- outranked exceptions
module _ (rank a taken b : ℕ) where
  pub rank-added : bit_of taken a ≡ 1 → WithRank rank a taken b (bit_or b rank)
  rank-added e = record {
    from = λ c d.
        let o = bit-or b rank c in
        let x = bit-lt b c in
        let y = bit-lt rank c in
        ⊎_elim (λ z. inl z) (λ n. inr (e, omega arith)) (holds-or-not (decides_eq (bit_of b c) 1));
  }

  pub rank_left : WithRank rank a taken b b
  rank_left = record { from = λ c d. inl d }

-- The first k words.
pub record Upto (ranks : List ℕ) (taken k r : ℕ) : Type 0 where
  pub by : (c : ℕ) → bit_of r c ≡ 1 → (a : ℕ) × (a < k) × (bit_of taken a ≡ 1) × (bit_of (get_or ranks a 0) c ≡ 1)

module _ (ranks : List ℕ) (taken : ℕ) where
  pub none-upto : Upto ranks taken 0 0
  none-upto = record { by = λ c d. let z = bit-zero c in absurd (omega arith) }

  pub upto-more : (k b r : ℕ) → Upto ranks taken k b → WithRank (get_or ranks k 0) k taken b r → Upto ranks taken (k + 1) r
  upto-more k b r u w = record {
    by = λ c d. ⊎_elim (λ e. let x = u.by c e in (x.0, omega (arith, x.1), x.2, x.3)) (λ e. (k, omega arith, e.0, e.1)) (w.from c d);
  }

  pub upto_all : (k r : ℕ) → k ≤ length ranks → Upto ranks taken k r → Outranked ranks taken r
  upto_all k r h u = record { by = λ c d. let x = u.by c d in record { upper = x.0; ranked = omega (arith, x.1); taken_has = x.2; outranks = x.3 } }
