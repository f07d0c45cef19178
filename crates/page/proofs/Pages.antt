-- Pages: a page of nothing, a page with no room left, a page of one pair, and two pages one after the other.
-- By what is taken of a joined list and what is written at joined places.
use Rattle.std.proofs.Common.{◌≡◌, ℕ, zero, suc, ◌+◌, ◌-◌, ◌*◌, ◌<◌, ◌≤◌, List, [], ◌∷◌, ◌++◌, length, get_or, take, set, refl, ap, ◌∙◌, arith, length-append}
use lib.Seq.{sets}
use Rattle.logic.proofs.Stores.{sets-append}
use Rattle.sets.specs.declared.Pair.{Pair}
use Rattle.sets.specs.Pairs.{flat}
use Rattle.page.specs.Pages.{pair_at, pairs_in, Page}

pub flat_append : (a b : List Pair) → flat (a ++ b) ≡ flat a ++ flat b
unfolding flat
flat_append [] b = refl
flat_append (x ∷ a) b = rw (flat_append a b)

pub flat-length : (a : List Pair) → length (flat a) ≡ length a * 3
unfolding flat
flat-length [] = refl
flat-length (x ∷ a) = let ih = flat-length a in omega arith

take_split : (k : ℕ) (a b : List Pair) → take k (a ++ b) ≡ take k a ++ take (k - length (take k a)) b
take_split zero a b = refl
take_split (suc k) [] b = let e : suc k - 0 ≡ suc k = omega arith in rw e
take_split (suc k) (x ∷ a) b =
    let e : suc k - suc (length (take k a)) ≡ k - length (take k a) = omega arith in
    rw (e, take_split k a b)

take_none : (k : ℕ) → ◌≡◌ {A = List Pair} (take k []) []
take_none zero = refl
take_none (suc k) = refl

pub page-none : (cap at : ℕ) (o : List ℕ) → Page cap at o o [] at
unfolding flat
page-none cap at o = record { count = rw (take_none (cap - at)) (omega arith); filled = rw (take_none (cap - at)) }

-- Where there is no room the page of any list is what there was.
pub page-full : (cap at : ℕ) (o : List ℕ) (xs : List Pair) → cap ≤ at → Page cap at o o xs at
unfolding flat
page-full cap at o xs h = let e : cap - at ≡ 0 = omega arith in record { count = rw e (omega arith); filled = rw e }

pub page-append : (cap at r r' : ℕ) (o o' o'' : List ℕ) (xs ys : List Pair) → Page cap at o o' xs r → Page cap r o' o'' ys r' → Page cap at o o'' (xs ++ ys) r'
page-append cap at r r' o o' o'' xs ys p q =
    let a : List Pair = take (cap - at) xs in
    let e : cap - r ≡ (cap - at) - length a = omega (arith, p.count) in
    let s : take (cap - at) (xs ++ ys) ≡ a ++ take (cap - r) ys = take_split (cap - at) xs ys ∙ rw e in
    let m : at * 3 + length (flat a) ≡ r * 3 = omega (arith, flat-length a, p.count) in
    record {
      count = rw s (simp length-append (omega (arith, p.count, q.count)));
      filled = rw (s, flat_append a (take (cap - r) ys), sets-append (flat a) (flat (take (cap - r) ys)) o (at * 3), m, ← p.filled) q.filled;
    }

pub page-one : (cap at : ℕ) (o o' : List ℕ) (p : Pair) → at < cap → o' ≡ sets o (at * 3) (flat (p ∷ [])) → Page cap at o o' (p ∷ []) (at + 1)
page-one cap at o o' p h e =
    let q : cap - at ≡ suc (cap - at - 1) = omega arith in
    let t : take (cap - at) (p ∷ []) ≡ p ∷ [] = rw q (ap (λ (l : List Pair). p ∷ l) (take_none (cap - at - 1))) in
    record { count = rw t; filled = rw t e }

-- The three words that are written for a pair.
pub put_is : (o : List ℕ) (i : ℕ) (p : Pair) → set (set (set o i p.taken) (i + 1) p.held) (i + 2) p.denied ≡ sets o i (flat (p ∷ []))
unfolding flat
put_is o i p = let e : i + 1 ≡ suc i = omega arith in let f : i + 2 ≡ suc (suc i) = omega arith in rw (e, f)

-- ---- pairs as numbers
shift : (a b c : ℕ) (l : List ℕ) (i : ℕ) → pair_at (a ∷ b ∷ c ∷ l) (suc i) ≡ pair_at l i
unfolding pair_at
shift a b c l i k =
    let e : suc i * 3 ≡ suc (suc (suc (i * 3))) = omega arith in
    let f : suc i * 3 + 1 ≡ suc (suc (suc (i * 3 + 1))) = omega arith in
    let g : suc i * 3 + 2 ≡ suc (suc (suc (i * 3 + 2))) = omega arith in
    let at : ℕ → ℕ = λ j. get_or (a ∷ b ∷ c ∷ l) j 0 in
    record { taken = ap at e k; held = ap at f k; denied = ap at g k }

pairs-shift : (a b c : ℕ) (l : List ℕ) (k i : ℕ) → pairs_in (a ∷ b ∷ c ∷ l) (suc i) k ≡ pairs_in l i k
unfolding pairs_in
pairs-shift a b c l zero i = refl
pairs-shift a b c l (suc k) i = rw (shift a b c l i, pairs-shift a b c l k (suc i))

-- The pairs at the front of a slice that holds them.
pub pairs-front : (k : ℕ) (ps : List Pair) (l : List ℕ) → k ≤ length ps → pairs_in (flat ps ++ l) 0 k ≡ take k ps
unfolding pairs_in flat pair_at
pairs-front zero ps l h = refl
pairs-front (suc k) [] l h = absurd (omega arith)
pairs-front (suc k) (p ∷ ps) l h = ap (λ (qs : List Pair). p ∷ qs) (pairs-shift p.taken p.held p.denied (flat ps ++ l) k 0 ∙ pairs-front k ps l (omega arith))

pub pairs-length : (l : List ℕ) (k i : ℕ) → length (pairs_in l i k) ≡ k
unfolding pairs_in
pairs-length l zero i = refl
pairs-length l (suc k) i = ap suc (pairs-length l k (suc i))
