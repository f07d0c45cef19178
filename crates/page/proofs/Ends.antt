-- What the bounds of a node have settled of the statements ahead.
-- One statement at a time: a pair within the bounds has the one value that they leave, so the pairs with another value do not pass.
use Rattle.std.proofs.Common.{◌≡◌, ℕ, zero, suc, ◌+◌, ◌-◌, ◌/◌, ◌%◌, ◌^◌, ◌<◌, ◌≤◌, Bool, true, false, List, [], ◌∷◌, ◌++◌, sym, refl, ap, ◌∙◌, sub-one, arith}
use lib.Bits.{bit_or}
use Rattle.logic.specs.Lists.{Among}
use Rattle.logic.specs.Tests.{both, pick, keep}
use Rattle.logic.proofs.Decide.{clash, fails, is}
use Rattle.logic.proofs.Members.{every-at}
use Rattle.sets.specs.declared.Pair.{Pair}
use Rattle.sets.specs.Sets.{member, bit_of, without}
use Rattle.sets.specs.Pairs.{minus_of}
use Rattle.sets.proofs.Digits.{bit-lt, bit-or, bit-without}
use Rattle.masks.specs.declared.Bounds.{Bounds}
use Rattle.bounds.specs.Sound.{In}
use Rattle.meaning.specs.Order.{value}
use Rattle.queue.specs.declared.waiting.Waiting.{Waiting}
use Rattle.page.specs.Sought.{Sought}
use Rattle.page.specs.declared.Node.{Node}
use Rattle.page.specs.declared.Stretch.{Stretch}
use Rattle.page.specs.Orders.{given, tried, all_from, passes}
use Rattle.page.specs.Pages.{Covers, passing, GoneOn, Settled}
use Rattle.page.proofs.General.{keep-none, keep_append}
use Rattle.page.proofs.Assignments.{value-most}
use Rattle.page.proofs.Orders.{among-tried, all-value}

-- ---- one value
-- The digit that a shift brings to the end is not 1.
pub shut_at : (a k : ℕ) → (a / 2 ^ k % 2 ≡ 1 → ⊥) → bit_of a k ≡ 0
shut_at a k n = zero_or (a / 2 ^ k % 2) (bit-lt a k) n
  where
    zero_or : (x : ℕ) → x < 2 → (x ≡ 1 → ⊥) → x ≡ 0
    zero_or zero h n = refl
    zero_or (suc zero) h n = absurd (n refl)
    zero_or (suc (suc x)) h n = absurd (omega arith)

module _ (b : Bounds) (x : Pair) (ex : x ≡ minus_of b.hi b.lo) (i : ℕ) (shut : bit_of (bit_or x.held x.denied) (i - 1) ≡ 0) where
  -- A word between two that agree at a place has their digit there.
  between : (lo hi u : ℕ) → bit_of lo (i - 1) ≤ bit_of u (i - 1) → bit_of u (i - 1) ≤ bit_of hi (i - 1) → bit_of (without hi lo) (i - 1) ≡ 0 → bit_of u (i - 1) ≡ bit_of lo (i - 1)
  between lo hi u p q z = omega (arith, bit-without hi lo (i - 1), bit-lt hi (i - 1), bit-lt lo (i - 1), bit-lt u (i - 1))

  -- A pair within the bounds has the lower end's value at a statement that is not open.
  pub value-settled : (u : Pair) → In b u → value u i ≡ value b.lo i
  unfolding value member minus_of
  value-settled u w =
      let o = bit-or x.held x.denied (i - 1) in
      let zh : bit_of x.held (i - 1) ≡ 0 = omega (arith, bit-lt x.held (i - 1)) in
      let zd : bit_of x.denied (i - 1) ≡ 0 = omega (arith, bit-lt x.denied (i - 1)) in
      let eh : bit_of (without b.hi.held b.lo.held) (i - 1) ≡ 0 = rw (ap (λ (p : Pair). p.held) ex) at zh in
      let ed : bit_of (without b.hi.denied b.lo.denied) (i - 1) ≡ 0 = rw (ap (λ (p : Pair). p.denied) ex) at zd in
      rw (
        between b.lo.held b.hi.held u.held (w.lo.held (i - 1)) (w.hi.held (i - 1)) eh,
        between b.lo.denied b.hi.denied u.denied (w.lo.denied (i - 1)) (w.hi.denied (i - 1)) ed,
      ) refl

-- ---- one statement
module _ (n l : ℕ) (p : Pair) (g : Pair → Bool) (h : l < n) where
  -- No pair of another value's branch passes.
  none_of : (w z : ℕ) → z ≤ 2 → (w ≡ z → ⊥) → ((u : Pair) → Among u (all_from n (suc l) p) → g u ≡ true → value u (n - l) ≡ w) → keep g (all_from n l (given p (n - l) z)) ≡ []
  unfolding all_from
  none_of w z few ne f =
      keep-none g (all_from n l (given p (n - l) z))
      (λ u m. fails (is (g u)) (λ t. ne (sym (f u (among-tried (λ q. all_from n l q) p (n - l) z u few m) t) ∙ every-at (λ q. value q (n - l) ≡ z) u (all_from n l (given p (n - l) z)) (all-value n l z p h few) m)))

  three : keep g (all_from n (suc l) p) ≡ keep g (all_from n l (given p (n - l) 0)) ++ (keep g (all_from n l (given p (n - l) 1)) ++ (keep g (all_from n l (given p (n - l) 2)) ++ []))
  unfolding all_from tried keep
  three = rw (
    keep_append g (all_from n l (given p (n - l) 0)) (all_from n l (given p (n - l) 1) ++ (all_from n l (given p (n - l) 2) ++ [])),
    keep_append g (all_from n l (given p (n - l) 1)) (all_from n l (given p (n - l) 2) ++ []),
    keep_append g (all_from n l (given p (n - l) 2)) [],
  ) refl

  append-none : {A : Type 0} (xs : List A) → xs ++ [] ≡ xs
  append-none [] = refl
  append-none (x ∷ xs) = ap (λ (ys : List _). x ∷ ys) (append-none xs)

  -- Of the three branches only that of the one value is left.
  pub one_value : (w : ℕ) → w ≤ 2 → ((u : Pair) → Among u (all_from n (suc l) p) → g u ≡ true → value u (n - l) ≡ w) → keep g (all_from n (suc l) p) ≡ keep g (all_from n l (given p (n - l) w))
  one_value zero k f = three ∙ rw (none_of 0 1 (omega arith) (λ e. omega arith) f, none_of 0 2 (omega arith) (λ e. omega arith) f) (append-none _)
  one_value (suc zero) k f = three ∙ rw (none_of 1 0 (omega arith) (λ e. omega arith) f, none_of 1 2 (omega arith) (λ e. omega arith) f) (append-none _)
  one_value (suc (suc zero)) k f = three ∙ rw (none_of 2 0 (omega arith) (λ e. omega arith) f, none_of 2 1 (omega arith) (λ e. omega arith) f) (append-none _)
  one_value (suc (suc (suc w))) k f = absurd (omega arith)

-- ---- statement after statement
among_next : (n l : ℕ) (p u : Pair) (w : ℕ) → w ≤ 2 → Among u (all_from n l (given p (n - l) w)) → Among u (all_from n (suc l) p)
unfolding all_from
among_next n l p u w h m = among-tried (λ r. all_from n l r) p (n - l) w u h m

gone_one : (n left : ℕ) (d : Node) (pair : Pair) (l : ℕ) → d.equal ≡ false → left ≤ n → 0 < l → (x : Pair) → x ≡ minus_of d.bounds.hi d.bounds.lo
    → bit_of (bit_or x.held x.denied) (n - (l - 1) - 1) ≡ 0 → GoneOn n left d (record { pair = pair; left = l })
    → (w : ℕ) → w ≡ value d.bounds.lo (n - (l - 1)) → (next : Pair) → next ≡ given pair (n - (l - 1)) w → GoneOn n left d (record { pair = next; left = l - 1 })
gone_one n left d pair zero later few h x ex shut f w ew next en = absurd (omega arith)
gone_one n left d pair (suc l) later few h x ex shut f w ew next en = rw (en, ew, sub-one) record {
  fewer = omega (arith, f.fewer);
  own = λ e. absurd (clash (sym later ∙ e));
  among = λ u m. f.among u (onto u m);
  kept = λ g c. f.kept g c ∙ one_value n l pair g (omega (arith, f.fewer)) (value d.bounds.lo (n - l)) (value-most d.bounds.lo (n - l))
      (λ u m t. value-settled d.bounds x ex (n - l) (let e : n - (suc l - 1) - 1 ≡ n - l - 1 = omega arith in rw e at shut) u (c.kept u t (f.among u m)));
}
  where
    onto : (u : Pair) → Among u (all_from n l (given pair (n - l) (value d.bounds.lo (n - l)))) → Among u (all_from n (suc l) pair)
    onto u m = among_next n l pair u (value d.bounds.lo (n - l)) (value-most d.bounds.lo (n - l)) m

-- The same of the statement at place i.
pub gone-turn : (n left : ℕ) (d : Node) (pair : Pair) (i : ℕ) → d.equal ≡ false → left ≤ n → i < n → (x : Pair) → x ≡ minus_of d.bounds.hi d.bounds.lo
    → bit_of (bit_or x.held x.denied) i ≡ 0 → GoneOn n left d (record { pair = pair; left = n - i })
    → (w : ℕ) → w ≡ value d.bounds.lo (i + 1) → (next : Pair) → next ≡ given pair (i + 1) w → GoneOn n left d (record { pair = next; left = n - (i + 1) })
gone-turn n left d pair i later few h x ex shut f w ew next en =
    let own : n - (n - i - 1) ≡ i + 1 = omega arith in
    let place : n - (n - i - 1) - 1 ≡ i = omega arith in
    let fewer : n - i - 1 ≡ n - (i + 1) = omega arith in
    rw (← fewer) (gone_one n left d pair (n - i) later few (omega arith) x ex (rw place shut) f w (rw own ew) next (rw own en))

pub gone-all : (n left : ℕ) (d : Node) (pair : Pair) (i : ℕ) → n ≤ i → GoneOn n left d (record { pair = pair; left = n - i }) → GoneOn n left d (record { pair = pair; left = 0 })
gone-all n left d pair i h f = let e : n - i ≡ 0 = omega arith in rw e at f

-- ---- settling goes on from there
module _ (P : Pair → Type 0) (q : Sought) (left : ℕ) (d : Node) (a : Stretch) (f : GoneOn q.statements left d a) (live : Waiting) (hint : Pair) where
  abbrev next : Node
  next = record { equal = d.equal; pair = a.pair; bounds = d.bounds; live = live; hint = hint }

  passing-same : (g : Pair → Bool) → Covers g q.statements left d.pair d.bounds → (b : Bool) → d.equal ≡ b
      → passing g q left d (all_from q.statements left d.pair) ≡ passing g q a.left next (all_from q.statements a.left a.pair)
  unfolding passes pick both
  passing-same g c true e = let o = f.own e in rw (o.0, o.1) refl
  passing-same g c false e = rw e (f.kept g c)

  pub settle-ahead : (at : ℕ) (o o' : List ℕ) (r : ℕ) → Settled P q a.left next at o o' r → Settled P q left d at o o' r
  settle-ahead at o o' r s = record {
    most = s.most;
    page = λ g tg c. rw (passing-same g c d.equal refl)
        (s.page g (record { right = λ u m. tg.right u (f.among u m) }) (record { kept = λ u t m. c.kept u t (f.among u m) }));
  }
