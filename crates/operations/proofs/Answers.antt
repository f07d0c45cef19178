-- What the operations answer: the text's refusal, the pair's, or what the prepared book gives. A page of one pair is the next answer.
use mathlib.Core.Path.{◌≡◌, refl, sym, ap}
use mathlib.Core.List.{List}
use Prim.Native.Nat.{ℕ, zero, suc, ◌/◌}
use lib.IntN.{ℤ}
use lib.ListN.{length, get_or}
use Rattle.sets.specs.declared.Pair.{Pair}
use Rattle.sets.specs.Pairs.{flat}
use Rattle.book.specs.declared.Shape.{Shape}
use Rattle.text.specs.declared.Refusal.{Refusal}
use Rattle.text.specs.Reading.{read_text, over}
use Rattle.text.specs.Reading.{Outcome}
use Rattle.text.specs.Reading.Outcome.{accepted, refused as unread}
use Rattle.std.specs.Prelude.{Some, None, Ok, Err}
use Rattle.answers.specs.Operations.{told, turned, answer_of, told_of, counted, left, on_text, unless_down, first_answer, after_answer, judge_answer, first_page, page_after, PageMet}
use Rattle.answers.proofs.Listed.{unless-other, unless-none}
use Rattle.meaning.specs.Books.{Book}
use Rattle.meaning.specs.Meant.{book_of}
use Rattle.meaning.specs.Order.{Point, start, at, LawfulPoint}
use Rattle.meaning.specs.Listings.{Answer, found, end, refused, FirstLater}
use Rattle.meaning.specs.Twins.Verdicts.{pair_refusal, verdict}
use Rattle.meaning.specs.Twins.Next.{next_from, onward_from, page_from}
use Rattle.meaning.proofs.Next.{next-is}
use Rattle.meaning.proofs.Refusals.{lawful-none, none-lawful}
use Rattle.engine.specs.Loaded.{VerdictIs, PageIs}
use Rattle.operations.specs.Loads.{Loads, RefusedFor, LoadsFor, found_in}
use Rattle.operations.specs.Loads.RefusedFor.{by_text, by_pair}

-- ---- refusals
-- The refusal of the text, or of the pair, is what is answered.
pub turned-down : {A : Type 0} (down : ℕ → ℕ → A) (on : Book → A) (bs : List ℕ) (p : Pair) (q : Refusal) → RefusedFor bs p q
    → on_text down (λ b. unless_down down (pair_refusal b p) (on b)) (read_text bs) ≡ down q.number q.line
unfolding on_text
turned-down down on bs p q (by_text e) = rw e refl
turned-down down on bs p q (by_pair s rows e k n z) = rw (e, ← k, z) (unless-other down q.number (on (book_of s rows)) n)

pub judge-down : (bs : List ℕ) (p : Pair) (q : Refusal) → RefusedFor bs p q → turned q.number q.line ≡ judge_answer bs p
unfolding judge_answer
judge-down bs p q f = sym (turned-down turned (λ b. told (verdict b p)) bs p q f)

pub first-page-down : (bs : List ℕ) (m : ℕ) (o : List ℕ) (q : Refusal) → read_text bs ≡ unread q.number q.line → PageMet (first_page bs m) o o (Err q)
unfolding told_of counted left first_page on_text
first-page-down bs m o q e = rw e (record { count = refl; filled = refl })

pub page-after-down : (bs : List ℕ) (p : Pair) (m : ℕ) (o : List ℕ) (q : Refusal) → RefusedFor bs p q → PageMet (page_after bs p m) o o (Err q)
unfolding told_of counted left page_after
page-after-down bs p m o q f = rw (turned-down turned (λ b. told (page_from b (m / 3) (at p))) bs p q f) (record { count = refl; filled = refl })

-- ---- the accepted text
pub first-page-accepted : (bs : List ℕ) (s : Shape) (ws ranks : List ℕ) → Loads bs (Ok s) ws ranks → (o o' : List ℕ) (r : ℕ) → PageIs s ws ranks start o o' r → PageMet (first_page bs (length o)) o o' (Ok r)
unfolding told_of counted left first_page on_text
first-page-accepted bs s ws ranks d o o' r f = rw d.1 (record { count = ap told (f.count d.0 d.2 tt); filled = f.filled d.0 d.2 tt })

module _ (bs : List ℕ) (p : Pair) (s : Shape) (ws ranks : List ℕ) (d : LoadsFor bs p (Ok s) ws ranks) where
  -- What is answered of a lawful pair.
  lawful-told : {A : Type 0} (down : ℕ → ℕ → A) (on : Book → A) → on_text down (λ b. unless_down down (pair_refusal b p) (on b)) (read_text bs) ≡ on (book_of s d.0)
  unfolding on_text
  lawful-told down on = rw d.1 (unless-none down (pair_refusal (book_of s d.0) p) (on (book_of s d.0)) (lawful-none (book_of s d.0) p d.3))

  pub judge-accepted : (r : ℕ) → VerdictIs s ws ranks p r → told r ≡ judge_answer bs p
  unfolding judge_answer
  judge-accepted r f = rw (lawful-told turned (λ b. told (verdict b p))) (ap told (f.is d.0 d.2 d.3))

  pub page-after-accepted : (o o' : List ℕ) (r : ℕ) → PageIs s ws ranks (at p) o o' r → PageMet (page_after bs p (length o)) o o' (Ok r)
  unfolding told_of counted left page_after
  page-after-accepted o o' r f = rw (lawful-told turned (λ b. told (page_from b (length o / 3) (at p)))) (record { count = ap told (f.count d.0 d.2 d.3); filled = f.filled d.0 d.2 d.3 })

-- ---- a page of one pair
pub found-end : (k : ℕ) (o : List ℕ) → k ≡ 0 → None ≡ found_in k o
unfolding found_in
found-end k o e = rw e refl

pub found_some : (k : ℕ) (o : List ℕ) → (k ≡ 0 → ⊥) → Some (record { taken = get_or o 0 0; held = get_or o 1 0; denied = get_or o 2 0 }) ≡ found_in k o
unfolding found_in
found_some zero o n = absurd (n refl)
found_some (suc k) o n = refl

one_found : (b : Book) (from : Point) (x : Answer) (o o' : List ℕ) (r : ℕ) → FirstLater b from x → r ≡ length (onward_from x (λ p. page_from b 0 (at p)))
    → o' ≡ over o (flat (onward_from x (λ p. page_from b 0 (at p)))) → answer_of (Ok (found_in r o')) ≡ x
unfolding onward_from page_from found_in answer_of over flat
one_found b from (found p) o o' r f e g = rw (e, g) refl
one_found b from end o o' r f e g = rw e refl
one_found b from (refused k l) o o' r f e g = absurd f

next-found : (b : Book) (from : Point) (o o' : List ℕ) (r : ℕ) → LawfulPoint b from → length o ≡ 3 → r ≡ length (page_from b (length o / 3) from)
    → o' ≡ over o (flat (page_from b (length o / 3) from)) → answer_of (Ok (found_in r o')) ≡ next_from b from
unfolding page_from
next-found b from o o' r l n e g = one_found b from (next_from b from) o o' r (next-is b from l) (rw n at e) (rw n at g)

-- What First and After answer, by a page of one pair.
module _ (bs o o' : List ℕ) where
  pub first-found : (r : ℕ) → length o ≡ 3 → PageMet (first_page bs (length o)) o o' (Ok r) → answer_of (Ok (found_in r o')) ≡ first_answer bs
  unfolding told_of counted left first_page first_answer on_text
  first-found r n f = go (read_text bs) refl
    where
      go : (x : Outcome) → read_text bs ≡ x → answer_of (Ok (found_in r o')) ≡ first_answer bs
      go (unread q line) e = let c = rw e at f.count in cc
      go (accepted s ws) e = let c = rw e at f.count in let g = rw e at f.filled in rw e (next-found (book_of s ws) start o o' r tt n (cc) g)

  pub first-not : (m : ℕ) (q : Refusal) → PageMet (first_page bs m) o o' (Err q) → answer_of (Err q) ≡ first_answer bs
  unfolding told_of counted left first_page first_answer on_text answer_of
  first-not m q f = go (read_text bs) refl
    where
      go : (x : Outcome) → read_text bs ≡ x → answer_of (Err q) ≡ first_answer bs
      go (unread k line) e = let c = rw e at f.count in rw e (cc)
      go (accepted s ws) e = let c = rw e at f.count in cc

  module _ (p : Pair) where
    pub after-found : (r : ℕ) → length o ≡ 3 → PageMet (page_after bs p (length o)) o o' (Ok r) → answer_of (Ok (found_in r o')) ≡ after_answer bs p
    unfolding told_of counted left page_after after_answer on_text unless_down
    after-found r n f = go (read_text bs) refl
      where
        pair : (s : Shape) (ws : List ℤ) → read_text bs ≡ accepted s ws → (k : ℕ) → pair_refusal (book_of s ws) p ≡ k → answer_of (Ok (found_in r o')) ≡ after_answer bs p
        pair s ws e zero z =
            let c = rw (e, z) at f.count in
            let g = rw (e, z) at f.filled in
            rw (e, z) (next-found (book_of s ws) (at p) o o' r (none-lawful (book_of s ws) p z) n (cc) g)
        pair s ws e (suc k) z = let c = rw (e, z) at f.count in cc

        go : (x : Outcome) → read_text bs ≡ x → answer_of (Ok (found_in r o')) ≡ after_answer bs p
        go (unread q line) e = let c = rw e at f.count in cc
        go (accepted s ws) e = pair s ws e (pair_refusal (book_of s ws) p) refl

    pub after-not : (m : ℕ) (q : Refusal) → PageMet (page_after bs p m) o o' (Err q) → answer_of (Err q) ≡ after_answer bs p
    unfolding told_of counted left page_after after_answer on_text unless_down answer_of
    after-not m q f = go (read_text bs) refl
      where
        pair : (s : Shape) (ws : List ℤ) → read_text bs ≡ accepted s ws → (k : ℕ) → pair_refusal (book_of s ws) p ≡ k → answer_of (Err q) ≡ after_answer bs p
        pair s ws e zero z = let c = rw (e, z) at f.count in cc
        pair s ws e (suc k) z = let c = rw (e, z) at f.count in rw (e, z) (cc)

        go : (x : Outcome) → read_text bs ≡ x → answer_of (Err q) ≡ after_answer bs p
        go (unread k line) e = let c = rw e at f.count in rw e (cc)
        go (accepted s ws) e = pair s ws e (pair_refusal (book_of s ws) p) refl
