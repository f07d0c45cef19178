-- Lists of calls as bytes, made one after the other: what each call leaves, what one call more leaves, and all of them.
use mathlib.Core.Path.{◌≡◌, refl, sym, ap, ◌∙◌}
use mathlib.Core.Bool.{Bool, true, false}
use mathlib.Core.Option.{some, none}
use mathlib.Core.List.{List, [], ◌∷◌, ◌++◌, append-nil}
use Prim.Native.Nat.{ℕ, zero, suc, ◌+◌, ◌*◌, ◌/◌, ◌%◌, ◌<◌, ◌≤◌}
use native.Mathlib.Nat.{div-mul-le_self}
use native.Mathlib.Numerals.{add-one}
use native.Mathlib.Omega.{arith}
use lib.Dec.{eqb, ltb}
use lib.ListN.{length, get_or, take, length-drop, drop}
use lib.Seq.{sets}
use borrow.Author.Tests.{lt-ltb, le-ltb, ltb-false, eq-eqb, ne_eqb}
use Rattle.logic.specs.Lists.{Every}
use Rattle.logic.specs.Tests.{pick}
use Rattle.logic.proofs.Stores.{sets-append}
use Rattle.sets.specs.declared.Pair.{Pair}
use Rattle.text.specs.declared.Refusal.{Refusal}
use Rattle.text.proofs.Lent.{over-sets}
use Rattle.meaning.specs.Listings.{Answer}
use Rattle.answers.specs.Operations.{Told, answer_of}
use Rattle.answers.specs.Operations.Told.{told, turned}
use Rattle.calls.specs.Calls.{row, rows}
use Rattle.calls.proofs.Calls.{rows-length, rows_append}
use Rattle.std.specs.List.{between}
use Rattle.entry.proofs.Leaves.{rest_is}
use Rattle.entry.specs.Bytes.{AreBytes, pair_of}
use Rattle.entry.proofs.Numbers.{bytes_drop}
use Rattle.std.specs.Prelude.{Result, Ok, Err, ⊤, Option as Maybe, Some, None}
use Rattle.points.specs.Points.{Entry, Fits}
use Rattle.points.specs.Stores.{store_of, go_told, set_told, drop_told, went_is, kept_is, Met}
use Rattle.points.proofs.Packed.{pair_fits}
use Rattle.points.specs.Calls.{PointCall, drop_point, PointAnswer, given, point_answer, left_by, kept_answer, went_answer, point_answers, left_by_all, Sized}
use Rattle.visits.specs.Visits.{point_call_of, point_call_at, point_calls_from, point_calls, as_answer, as_answers, Visited, KeptAll, keep_refusal}
use Rattle.points.proofs.Memory.{all-remembered}

-- ---- answers put down
-- What Set and Drop answer, and Go, as First and After answer.
pub kept-as : (a : Result ⊤ Refusal) (r : Result (Maybe Pair) Refusal) → ((x : ⊤) → a ≡ Ok x → r ≡ Ok None) → ((q : Refusal) → a ≡ Err q → r ≡ Err q) → answer_of r ≡ as_answer (kept_answer a)
unfolding answer_of as_answer kept_answer
kept-as (Ok x) r f g = rw (f x refl)
kept-as (Err q) r f g = rw (g q refl)

pub went-as : (a : Result Pair Refusal) (r : Result (Maybe Pair) Refusal) → ((p : Pair) → a ≡ Ok p → r ≡ Ok (Some p)) → ((q : Refusal) → a ≡ Err q → r ≡ Err q) → answer_of r ≡ as_answer (went_answer a)
unfolding answer_of as_answer went_answer
went-as (Ok p) r f g = rw (f p refl)
went-as (Err q) r f g = rw (g q refl)

kept-given : (t : Told (List Entry)) → kept_answer (kept_is t) ≡ given (λ (es : List Entry). none) t
unfolding kept_answer kept_is given
kept-given (told es) = refl
kept-given (turned q line) = refl

went-given : (t : Told Pair) → went_answer (went_is t) ≡ given some t
unfolding went_answer went_is given
went-given (told p) = refl
went-given (turned q line) = refl

drop-kind : (b : ℕ) (n : List ℕ) (p : Pair) → (b ≡ 0 → ⊥) → (b ≡ 1 → ⊥) → point_call_of b n p ≡ drop_point n
unfolding point_call_of
drop-kind zero n p y z = absurd (y refl)
drop-kind (suc zero) n p y z = absurd (z refl)
drop-kind (suc (suc b)) n p y z = refl

-- ---- one call
module _ (ns : List ℕ) (k : ℕ) (bs bs' ans ans' : List ℕ) where
  one : left_by bs (point_call_at ns k) ≡ bs' → (a : PointAnswer) → a ≡ point_answer bs (point_call_at ns k) → ans' ≡ sets ans (k * 4) (row (as_answer a)) → Visited ns k 1 bs bs' ans ans'
  unfolding point_calls_from left_by_all point_answers as_answers rows
  one l a e f = record { store = sym l; answers = rw (← e, append-nil (row (as_answer a))) f }

  module _ (b : ℕ) (eb : b ≡ get_or ns (k * 33) 0) (n : List ℕ) (fn : n ≡ take 8 (between (k * 33 + 1) (length ns) ns)) where
    en : n ≡ take 8 (drop (k * 33 + 1) ns)
    en = rw (rest_is ns (k * 33 + 1)) at fn

    pub set-called : b ≡ 0 → (p : Pair) → p ≡ pair_of (between (k * 33 + 9) (length ns) ns) → (r : Result ⊤ Refusal) → Met bs (set_told (store_of bs) n p) r bs' → ans' ≡ sets ans (k * 4) (row (as_answer (kept_answer r))) → Visited ns k 1 bs bs' ans ans'
    unfolding point_call_at point_call_of left_by point_answer
    set-called z p fp r m f =
        let ep : p ≡ pair_of (drop (k * 33 + 9) ns) = rw (rest_is ns (k * 33 + 9)) at fp in
        let w : get_or ns (k * 33) 0 ≡ 0 = sym eb ∙ z in
        let t = set_told (store_of bs) n p in
        one (rw (w, ← en, ← ep) (sym m.store)) (kept_answer r) (rw (w, ← en, ← ep) (ap kept_answer m.answer ∙ kept-given t)) f

    pub go-called : b ≡ 1 → (r : Result Pair Refusal) → r ≡ went_is (go_told (store_of bs) n) → bs' ≡ bs → ans' ≡ sets ans (k * 4) (row (as_answer (went_answer r))) → Visited ns k 1 bs bs' ans ans'
    unfolding point_call_at point_call_of left_by point_answer
    go-called z r m g f =
        let w : get_or ns (k * 33) 0 ≡ 1 = sym eb ∙ z in
        one (rw w (sym g)) (went_answer r) (rw (w, ← en) (ap went_answer m ∙ went-given (go_told (store_of bs) n))) f

    is-drop : (b ≡ 0 → ⊥) → (b ≡ 1 → ⊥) → point_call_at ns k ≡ drop_point n
    unfolding point_call_at
    is-drop y z = rw (← eb, ← en) (drop-kind b n (pair_of (drop (k * 33 + 9) ns)) y z)

    pub drop-called : (b ≡ 0 → ⊥) → (b ≡ 1 → ⊥) → (r : Result ⊤ Refusal) → Met bs (drop_told (store_of bs) n) r bs' → ans' ≡ sets ans (k * 4) (row (as_answer (kept_answer r))) → Visited ns k 1 bs bs' ans ans'
    unfolding left_by point_answer
    drop-called y z r m f =
        let e = is-drop y z in
        one (rw e (sym m.store)) (kept_answer r) (rw e (ap kept_answer m.answer ∙ kept-given (drop_told (store_of bs) n))) f

-- ---- many calls
left-append : (cs ds : List PointCall) (bs : List ℕ) → left_by_all bs (cs ++ ds) ≡ left_by_all (left_by_all bs cs) ds
unfolding left_by_all
left-append [] ds bs = refl
left-append (c ∷ cs) ds bs = left-append cs ds (left_by bs c)

answers-append : (cs ds : List PointCall) (bs : List ℕ) → as_answers (point_answers bs (cs ++ ds)) ≡ as_answers (point_answers bs cs) ++ as_answers (point_answers (left_by_all bs cs) ds)
unfolding point_answers as_answers left_by_all
answers-append [] ds bs = refl
answers-append (c ∷ cs) ds bs = ap (λ (l : List Answer). as_answer (point_answer bs c) ∷ l) (answers-append cs ds (left_by bs c))

answers-length : (cs : List PointCall) (bs : List ℕ) → length (as_answers (point_answers bs cs)) ≡ length cs
unfolding point_answers as_answers
answers-length [] bs = refl
answers-length (c ∷ cs) bs = ap suc (answers-length cs (left_by bs c))

calls-more : (ns : List ℕ) (m k : ℕ) → point_calls_from ns k (suc m) ≡ point_calls_from ns k m ++ point_calls_from ns (k + m) 1
unfolding point_calls_from
calls-more ns zero k = let e : k + 0 ≡ k = omega arith in rw e refl
calls-more ns (suc m) k = let e : k + suc m ≡ suc k + m = omega arith in rw e (ap (λ (l : List PointCall). point_call_at ns k ∷ l) (calls-more ns m (suc k)))

calls-length : (ns : List ℕ) (m k : ℕ) → length (point_calls_from ns k m) ≡ m
unfolding point_calls_from
calls-length ns zero k = refl
calls-length ns (suc m) k = ap suc (calls-length ns m (suc k))

module _ (ns bs ans : List ℕ) where
  pub made_none : Visited ns 0 0 bs bs ans ans
  unfolding point_calls_from left_by_all point_answers as_answers rows
  made_none = record { store = refl; answers = refl }

  pub made_more : (k : ℕ) (bs₁ bs' ans₁ ans' : List ℕ) → Visited ns 0 k bs bs₁ ans ans₁ → Visited ns k 1 bs₁ bs' ans₁ ans' → Visited ns 0 (k + 1) bs bs' ans ans'
  made_more k bs₁ bs' ans₁ ans' f g =
      let z : 0 + k ≡ k = omega arith in
      let cs = point_calls_from ns 0 k in
      let ds = point_calls_from ns k 1 in
      let c : point_calls_from ns 0 (k + 1) ≡ cs ++ ds = rw (add-one k) (calls-more ns k 0 ∙ ap (λ (i : ℕ). point_calls_from ns 0 k ++ point_calls_from ns i 1) z) in
      let us = as_answers (point_answers bs cs) in
      let vs = as_answers (point_answers (left_by_all bs cs) ds) in
      let w : as_answers (point_answers bs (point_calls_from ns 0 (k + 1))) ≡ us ++ vs = rw c (answers-append cs ds bs) in
      let d : 0 * 4 + length (rows us) ≡ k * 4 = omega (arith, rows-length us, answers-length cs bs, calls-length ns k 0) in
      record {
        store = rw c (g.store ∙ ap (λ (l : List ℕ). left_by_all l ds) f.store ∙ sym (left-append cs ds bs));
        answers = rw (w, rows_append us vs, sets-append (rows us) (rows vs) ans (0 * 4), d, ← f.answers) (rw f.store at g.answers);
      }

  -- As many calls as were to be made.
  pub made-many : (bs' ans' : List ℕ) (k n : ℕ) → k ≡ n → Visited ns 0 k bs bs' ans ans' → Visited ns 0 n bs bs' ans ans'
  made-many bs' ans' k n e f = rw e at f

-- ---- the calls of a slice of bytes have pairs of 64-bit numbers
call-sized : (b : ℕ) (n : List ℕ) (p : Pair) → Fits p → Sized (point_call_of b n p)
unfolding Sized point_call_of
call-sized zero n p f = f
call-sized (suc zero) n p f = tt
call-sized (suc (suc k)) n p f = tt

calls-sized : (ns : List ℕ) → AreBytes ns → (m k : ℕ) → (k + m) * 33 ≤ length ns → Every Sized (point_calls_from ns k m)
unfolding point_calls_from point_call_at
calls-sized ns h zero k l = tt
calls-sized ns h (suc m) k l =
    let d : 24 ≤ length (drop (k * 33 + 9) ns) = omega (arith, length-drop (k * 33 + 9) ns) in (
      call-sized (get_or ns (k * 33) 0) (take 8 (drop (k * 33 + 1) ns)) (pair_of (drop (k * 33 + 9) ns)) (pair_fits (drop (k * 33 + 9) ns) d (bytes_drop (k * 33 + 9) ns h)),
      calls-sized ns h m (suc k) (omega arith),
    )

-- All calls made, in a slice with room for what they answer, are what `keep` promises.
pub made_all : (ns bs ans bs' ans' : List ℕ) → AreBytes ns → length ns / 33 * 4 ≤ length ans → Visited ns 0 (length ns / 33) bs bs' ans ans' → KeptAll (point_calls ns) bs bs' ans ans'
unfolding point_calls
made_all ns bs ans bs' ans' h g f =
    let cs = point_calls_from ns 0 (length ns / 33) in
    let us = as_answers (point_answers bs cs) in
    let a : length (rows us) ≤ length ans = omega (arith, rows-length us, answers-length cs bs, calls-length ns (length ns / 33) 0) in
    let z = calls-sized ns h (length ns / 33) 0 (omega (arith, div-mul-le_self (length ns) 33)) in
    record {
      answers = f.answers ∙ over-sets ans (rows us) a;
      store = f.store;
      promise = λ n l. let r = all-remembered cs n bs l z in (rw (← r.0) (f.answers ∙ over-sets ans (rows us) a), rw f.store r.1);
    }

-- ---- the refusal of a list
module _ (n a : ℕ) where
  pub not-whole : (n % 33 ≡ 0 → ⊥) → 16 ≡ keep_refusal n a
  unfolding keep_refusal pick
  not-whole f = rw (ne_eqb (n % 33) 0 f) refl

  pub answers-short : n % 33 ≡ 0 → a < n / 33 * 4 → 15 ≡ keep_refusal n a
  unfolding keep_refusal pick
  answers-short e h = rw (eq-eqb (n % 33) 0 e, lt-ltb a (n / 33 * 4) h) refl

  pub not_short : n % 33 ≡ 0 → n / 33 * 4 ≤ a → keep_refusal n a ≡ 0
  unfolding keep_refusal pick
  not_short e h = rw (eq-eqb (n % 33) 0 e, le-ltb a (n / 33 * 4) h) refl

  -- Where none applies there is room.
  pub room-enough : keep_refusal n a ≡ 0 → n / 33 * 4 ≤ a
  unfolding keep_refusal pick
  room-enough = go (eqb (n % 33) 0) (ltb a (n / 33 * 4)) refl
    where
      go : (x y : Bool) → ltb a (n / 33 * 4) ≡ y → ◌≡◌ {A = ℕ} (pick x (pick y 15 0) 16) 0 → n / 33 * 4 ≤ a
      go true false e h = ltb-false a (n / 33 * 4) e
      go true true e h = absurd (omega arith)
      go false y e h = absurd (omega arith)
