-- Calls made one after the other: what a list of calls is answered and hands out is what its front is answered and hands out, and then the rest
-- from the point reached. With demand 3 of the answers, that is what `run` leaves.
use mathlib.Core.Path.{◌≡◌, refl, sym, ap, ◌∙◌}
use mathlib.Core.Bool.{Bool, true, false}
use mathlib.Core.List.{List, [], ◌∷◌, ◌++◌, append-nil, append_assoc}
use Prim.Native.Nat.{ℕ, zero, suc, ◌+◌, ◌-◌, ◌*◌, ◌/◌, ◌%◌, ◌<◌, ◌≤◌}
use native.Mathlib.Nat.{div-mul-le_self}
use native.Mathlib.Numerals.{add-one}
use native.Mathlib.Omega.{arith}
use lib.Dec.{eqb, ltb}
use lib.ListN.{length, take, drop, length-append, length-take, length-drop}
use lib.Seq.{sets}
use borrow.Rule.Slice.PartMut.{put_mid}
use borrow.Author.Tests.{ltb-false, lt-ltb, le-ltb, eq-eqb, ne_eqb}
use Rattle.logic.specs.Tests.{pick}
use Rattle.logic.proofs.Stores.{sets-append}
use Rattle.sets.specs.declared.Pair.{Pair}
use Rattle.sets.specs.Pairs.{flat}
use Rattle.page.proofs.Pages.{flat_append, flat-length}
use Rattle.text.proofs.Lent.{over-sets}
use Rattle.meaning.specs.Order.{Point}
use Rattle.meaning.specs.Listings.{Answer, found, end, refused, Call, handed, moved, answered, answers_to, listing, reached}
use Rattle.std.specs.Prelude.{Option, Some, None, Result, Ok, Err}
use Rattle.answers.specs.Operations.{answer_of, asks, first_answer, after_answer}
use Rattle.answers.proofs.Copies.{part-put}
use Rattle.answers.proofs.Listed.{demand3-of-text, point-alone-of-texts}
use Rattle.text.specs.declared.Refusal.{Refusal}
use Rattle.calls.specs.declared.Handed.{Handed}
use Rattle.calls.specs.Calls.{as_point, call_of, call_at, calls_from, calls_of, row, rows, Makes, Ran, run_refusal}

-- ---- one answer
module _ (bs : List ℕ) where
  pub answer-other : (kind : ℕ) (p : Pair) (s : Option Pair) (r : Result (Option Pair) Refusal) → (kind ≡ 0 → ⊥) → answer_of r ≡ after_answer bs p → answer_of r ≡ answered (asks bs) (call_of kind p) (as_point s)
  unfolding answered asks call_of
  answer-other zero p s r n e = absurd (n refl)
  answer-other (suc k) p s r n e = e

  pub answer-first : (kind : ℕ) (p : Pair) (s : Option Pair) (r : Result (Option Pair) Refusal) → kind ≡ 0 → s ≡ None → answer_of r ≡ first_answer bs → answer_of r ≡ answered (asks bs) (call_of kind p) (as_point s)
  unfolding answered asks call_of as_point
  answer-first kind p s r z d e = rw (z, d) e

  pub answer-after : (kind : ℕ) (p q : Pair) (s : Option Pair) (r : Result (Option Pair) Refusal) → kind ≡ 0 → s ≡ Some q → answer_of r ≡ after_answer bs q → answer_of r ≡ answered (asks bs) (call_of kind p) (as_point s)
  unfolding answered asks call_of as_point
  answer-after kind p q s r z d e = rw (z, d) e

-- ---- answers as numbers
-- A copied row is stored from its place on.
pub row-put : (l xs ys : List ℕ) (i : ℕ) → i + 4 ≤ length l → length xs ≡ length (take (i + 4 - i) (drop i l)) → xs ≡ ys → put_mid i (i + 4 - i) l xs ≡ sets l i ys
row-put l xs ys i h n e = part-put l xs ys i (i + 4) e (rw (← e) (omega (arith, n, length-take (i + 4 - i) (drop i l), length-drop i l))) h

module _ (l l' : List ℕ) (i : ℕ) (a : Result (Option Pair) Refusal) where
  pub found-put : (p : Pair) → a ≡ Ok (Some p) → l' ≡ sets l i (1 ∷ p.taken ∷ p.held ∷ p.denied ∷ []) → l' ≡ sets l i (row (answer_of a))
  unfolding row answer_of
  found-put p d e = rw d e

  pub end-put : a ≡ Ok None → l' ≡ sets l i (0 ∷ 0 ∷ 0 ∷ 0 ∷ []) → l' ≡ sets l i (row (answer_of a))
  unfolding row answer_of
  end-put d e = rw d e

  pub refused-put : (q : Refusal) → a ≡ Err q → l' ≡ sets l i (2 ∷ q.number ∷ q.line ∷ 0 ∷ []) → l' ≡ sets l i (row (answer_of a))
  unfolding row answer_of
  refused-put q d e = rw d e

row-length : (y : Answer) → length (row y) ≡ 4
unfolding row
row-length (found p) = refl
row-length end = refl
row-length (refused k line) = refl

pub rows-length : (ys : List Answer) → length (rows ys) ≡ length ys * 4
unfolding rows
rows-length [] = refl
rows-length (y ∷ ys) = omega (arith, length-append (row y) (rows ys), row-length y, rows-length ys)

pub rows_append : (xs ys : List Answer) → rows (xs ++ ys) ≡ rows xs ++ rows ys
unfolding rows
rows_append [] ys = refl
rows_append (x ∷ xs) ys = rw (rows_append xs ys) (sym (append_assoc (row x) (rows xs) (rows ys)))

-- ---- one call
module _ (bs ns : List ℕ) (k : ℕ) (from : Point) (n : ℕ) (ans out : List ℕ) where
  one : (x : Answer) → x ≡ answered (asks bs) (call_at ns k) from → (ans' out' : List ℕ) (r : Handed) → r.count ≡ n + length (handed x) → as_point r.spot ≡ moved x from
      → ans' ≡ sets ans (k * 4) (row x) → out' ≡ sets out (n * 3) (flat (handed x)) → Makes bs ns k 1 from n ans ans' out out' r
  unfolding calls_from answers_to listing reached rows
  one x e ans' out' r c s f g = record {
    count = rw (← e, append-nil (handed x)) c;
    spot = rw (← e) s;
    answers = rw (← e, append-nil (row x)) f;
    pairs = rw (← e, append-nil (handed x)) g;
  }

  module _ (a : Result (Option Pair) Refusal) (ans' : List ℕ) (e : answer_of a ≡ answered (asks bs) (call_at ns k) from) (f : ans' ≡ sets ans (k * 4) (row (answer_of a))) where
    pub called-found : (q : Pair) (out' : List ℕ) → a ≡ Ok (Some q) → out' ≡ sets out (n * 3) (flat (q ∷ [])) → Makes bs ns k 1 from n ans ans' out out' (record { count = n + 1; spot = Some q })
    unfolding answer_of handed moved as_point
    called-found q out' d g = one (found q) (rw d at e) ans' out' (record { count = n + 1; spot = Some q }) refl refl (rw d at f) g

    pub called-end : (s : Option Pair) → from ≡ as_point s → a ≡ Ok None → Makes bs ns k 1 from n ans ans' out out (record { count = n; spot = s })
    unfolding answer_of handed moved flat
    called-end s z d = one end (rw d at e) ans' out (record { count = n; spot = s }) (omega arith) (sym z) (rw d at f) refl

    pub called-refused : (q : Refusal) (s : Option Pair) → from ≡ as_point s → a ≡ Err q → Makes bs ns k 1 from n ans ans' out out (record { count = n; spot = s })
    unfolding answer_of handed moved flat
    called-refused q s z d = one (refused q.number q.line) (rw d at e) ans' out (record { count = n; spot = s }) (omega arith) (sym z) (rw d at f) refl

-- ---- many calls
module _ (bs : List ℕ) where
  listing-append : (cs ds : List Call) (from : Point) → listing (asks bs) (cs ++ ds) from ≡ listing (asks bs) cs from ++ listing (asks bs) ds (reached (asks bs) cs from)
  unfolding listing reached
  listing-append [] ds from = refl
  listing-append (c ∷ cs) ds from =
      ap (λ (l : List Pair). handed (answered (asks bs) c from) ++ l) (listing-append cs ds (moved (answered (asks bs) c from) from))
      ∙ sym (append_assoc (handed (answered (asks bs) c from)) _ _)

  answers-append : (cs ds : List Call) (from : Point) → answers_to (asks bs) (cs ++ ds) from ≡ answers_to (asks bs) cs from ++ answers_to (asks bs) ds (reached (asks bs) cs from)
  unfolding answers_to reached
  answers-append [] ds from = refl
  answers-append (c ∷ cs) ds from = ap (λ (l : List Answer). answered (asks bs) c from ∷ l) (answers-append cs ds (moved (answered (asks bs) c from) from))

  reached-append : (cs ds : List Call) (from : Point) → reached (asks bs) (cs ++ ds) from ≡ reached (asks bs) ds (reached (asks bs) cs from)
  unfolding reached
  reached-append [] ds from = refl
  reached-append (c ∷ cs) ds from = reached-append cs ds (moved (answered (asks bs) c from) from)

  answers-length : (cs : List Call) (from : Point) → length (answers_to (asks bs) cs from) ≡ length cs
  unfolding answers_to
  answers-length [] from = refl
  answers-length (c ∷ cs) from = ap suc (answers-length cs (moved (answered (asks bs) c from) from))

  -- One call hands out one pair at most.
  handed-most : (x : Answer) → length (handed x) ≤ 1
  unfolding handed
  handed-most (found p) = omega arith
  handed-most end = omega arith
  handed-most (refused k l) = omega arith

  listing-most : (cs : List Call) (from : Point) → length (listing (asks bs) cs from) ≤ length cs
  unfolding listing
  listing-most [] from = omega arith
  listing-most (c ∷ cs) from =
      let x = answered (asks bs) c from in
      omega (arith, length-append (handed x) (listing (asks bs) cs (moved x from)), handed-most x, listing-most cs (moved x from))

calls-more : (ns : List ℕ) (m k : ℕ) → calls_from ns k (suc m) ≡ calls_from ns k m ++ calls_from ns (k + m) 1
unfolding calls_from
calls-more ns zero k = let e : k + 0 ≡ k = omega arith in rw e refl
calls-more ns (suc m) k = let e : k + suc m ≡ suc k + m = omega arith in rw e (ap (λ (l : List Call). call_at ns k ∷ l) (calls-more ns m (suc k)))

calls-length : (ns : List ℕ) (m k : ℕ) → length (calls_from ns k m) ≡ m
unfolding calls_from
calls-length ns zero k = refl
calls-length ns (suc m) k = ap suc (calls-length ns m (suc k))

module _ (bs ns : List ℕ) (from : Point) (ans out : List ℕ) where
  pub makes_none : (s : Option Pair) → from ≡ as_point s → Makes bs ns 0 0 from 0 ans ans out out (record { count = 0; spot = s })
  unfolding calls_from answers_to listing reached rows flat
  makes_none s e = record { count = refl; spot = sym e; answers = refl; pairs = refl }

  pub makes-more : (k : ℕ) (ans₁ out₁ ans' out' : List ℕ) (h r : Handed) → Makes bs ns 0 k from 0 ans ans₁ out out₁ h → Makes bs ns k 1 (as_point h.spot) h.count ans₁ ans' out₁ out' r
      → Makes bs ns 0 (k + 1) from 0 ans ans' out out' r
  makes-more k ans₁ out₁ ans' out' h r f g =
      let z : 0 + k ≡ k = omega arith in
      let cs = calls_from ns 0 k in
      let ds = calls_from ns k 1 in
      let c : calls_from ns 0 (k + 1) ≡ cs ++ ds = rw (add-one k) (calls-more ns k 0 ∙ ap (λ (i : ℕ). calls_from ns 0 k ++ calls_from ns i 1) z) in
      let xs = listing (asks bs) cs from in
      let ys = listing (asks bs) ds (reached (asks bs) cs from) in
      let us = answers_to (asks bs) cs from in
      let vs = answers_to (asks bs) ds (reached (asks bs) cs from) in
      let l : listing (asks bs) (calls_from ns 0 (k + 1)) from ≡ xs ++ ys = rw c (listing-append bs cs ds from) in
      let w : answers_to (asks bs) (calls_from ns 0 (k + 1)) from ≡ us ++ vs = rw c (answers-append bs cs ds from) in
      let a = length-append xs ys in
      let e : 0 * 3 + length (flat xs) ≡ h.count * 3 = omega (arith, flat-length xs, f.count) in
      let d : 0 * 4 + length (rows us) ≡ k * 4 = omega (arith, rows-length us, answers-length bs cs from, calls-length ns k 0) in
      record {
        count = rw l (omega (arith, f.count, rw f.spot at g.count));
        spot = rw c (g.spot ∙ ap (reached (asks bs) ds) f.spot ∙ sym (reached-append bs cs ds from));
        answers = rw (w, rows_append us vs, sets-append (rows us) (rows vs) ans (0 * 4), d, ← f.answers) (rw f.spot at g.answers);
        pairs = rw (l, flat_append xs ys, sets-append (flat xs) (flat ys) out (0 * 3), e, ← f.pairs) (rw f.spot at g.pairs);
      }

  -- As many calls as were to be made.
  pub makes-all : (ans' out' : List ℕ) (r : Handed) (k m n : ℕ) → k ≤ m → m ≤ k → m ≡ n → Makes bs ns 0 k from 0 ans ans' out out' r → Makes bs ns 0 n from 0 ans ans' out out' r
  makes-all ans' out' r k m n h g e f = let d : k ≡ n = omega arith in rw d at f

  -- All calls made, in slices with room for what they leave, are what `run` promises.
  pub made_all : (ans' out' : List ℕ) (r : Handed) → length ns ≤ length ans → length ns / 4 * 3 ≤ length out → Makes bs ns 0 (length ns / 4) from 0 ans ans' out out' r
      → Ran bs (calls_of ns) from ans ans' out out' r
  unfolding calls_of
  made_all ans' out' r h g f =
      let cs = calls_from ns 0 (length ns / 4) in
      let us = answers_to (asks bs) cs from in
      let xs = listing (asks bs) cs from in
      let n = calls-length ns (length ns / 4) 0 in
      let a : length (rows us) ≤ length ans = omega (arith, rows-length us, answers-length bs cs from, n, div-mul-le_self (length ns) 4) in
      let b : length (flat xs) ≤ length out = omega (arith, flat-length xs, listing-most bs cs from, n) in
      record {
        answers = f.answers ∙ over-sets ans (rows us) a;
        pairs = f.pairs ∙ over-sets out (flat xs) b;
        count = f.count ∙ omega arith;
        spot = f.spot;
        demand3 = λ s ws e l c. demand3-of-text bs s ws e (calls_from ns 0 (length ns / 4)) from l c;
        alone = λ s ws e c bs' s' ws' e' d. point-alone-of-texts bs bs' s s' ws ws' e e' d (calls_from ns 0 (length ns / 4)) from c;
      }

-- One call more has handed out one pair more at most.
pub one-most : (bs ns : List ℕ) (k : ℕ) (from : Point) (n : ℕ) (ans ans' out out' : List ℕ) (r : Handed) → Makes bs ns k 1 from n ans ans' out out' r → r.count ≤ n + 1
one-most bs ns k from n ans ans' out out' r f = omega (arith, f.count, listing-most bs (calls_from ns k 1) from, calls-length ns 1 k)

-- ---- the refusal of a run
module _ (n a p : ℕ) where
  pub not-whole : (n % 4 ≡ 0 → ⊥) → 16 ≡ run_refusal n a p
  unfolding run_refusal pick
  not-whole f = rw (ne_eqb (n % 4) 0 f) refl

  pub answers-short : n % 4 ≡ 0 → a < n → 15 ≡ run_refusal n a p
  unfolding run_refusal pick
  answers-short e h = rw (eq-eqb (n % 4) 0 e, lt-ltb a n h) refl

  pub pairs-short : n % 4 ≡ 0 → n ≤ a → p < n / 4 * 3 → 15 ≡ run_refusal n a p
  unfolding run_refusal pick
  pairs-short e h g = rw (eq-eqb (n % 4) 0 e, le-ltb a n h, lt-ltb p (n / 4 * 3) g) refl

  pub not_short : n % 4 ≡ 0 → n ≤ a → n / 4 * 3 ≤ p → run_refusal n a p ≡ 0
  unfolding run_refusal pick
  not_short e h g = rw (eq-eqb (n % 4) 0 e, le-ltb a n h, le-ltb p (n / 4 * 3) g) refl

  -- Where none applies there is room.
  pub room-enough : run_refusal n a p ≡ 0 → (n ≤ a) × (n / 4 * 3 ≤ p)
  unfolding run_refusal pick
  room-enough = go (eqb (n % 4) 0) (ltb a n) refl (ltb p (n / 4 * 3)) refl
    where
      go : (x y : Bool) → ltb a n ≡ y → (z : Bool) → ltb p (n / 4 * 3) ≡ z → ◌≡◌ {A = ℕ} (pick x (pick y 15 (pick z 15 0)) 16) 0 → (n ≤ a) × (n / 4 * 3 ≤ p)
      go true false e false d h = (ltb-false a n e, ltb-false p (n / 4 * 3) d)
      go true false e true d h = absurd (omega arith)
      go true true e z d h = absurd (omega arith)
      go false y e z d h = absurd (omega arith)
