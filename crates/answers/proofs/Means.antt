-- What the operations compute is what the definitions say, and nothing else is: `judge-means`, `first-means`, `after-means`, and the same of
-- pages, Line and `ways`. Idea: the text is refused or accepted, the pair lawful or refused, and each is so in one way.
use mathlib.Core.Path.{◌≡◌, refl, sym, ap, ◌∙◌}
use mathlib.Core.Bool.{Bool, true, false}
use mathlib.Core.List.{List}
use mathlib.Core.Logic.{⊎_elim, ◌↔◌}
use Prim.Native.Nat.{ℕ, suc, ◌/◌}
use native.Mathlib.Omega.{arith}
use borrow.Author.Tests.{ltb-true, ltb-false, lt-ltb, le-ltb}
use lib.Dec.{ltb}
use lib.IntN.{ℤ}
use lib.ListN.{length, take, length-take}
use lib.Seq.{take-take}
use Rattle.logic.specs.Tests.{pick}
use Rattle.sets.specs.declared.Pair.{Pair}
use Rattle.book.specs.declared.Shape.{Shape}
use Rattle.text.specs.Reading.{Outcome, read_text}
use Rattle.text.specs.Reading.Outcome.{accepted, refused as unread}
use Rattle.meaning.specs.Books.{Book}
use Rattle.meaning.specs.Meant.{book_of}
use Rattle.meaning.specs.Order.{Point, start, at, LawfulPoint, AllLater}
use Rattle.meaning.specs.Listings.{Answer, refused, FirstLater}
use Rattle.meaning.specs.Twins.Verdicts.{pair_refusal, verdict}
use Rattle.meaning.specs.Twins.Next.{next_from, page_from}
use Rattle.meaning.proofs.Laws.{verdict-iff}
use Rattle.meaning.proofs.Next.{next-iff}
use Rattle.meaning.proofs.Pages.{page-is}
use Rattle.meaning.proofs.Refusals.{lawful-or-refused, refusal-one, lawful-none}
use Rattle.meaning.proofs.Sorted.{all-later}
use Rattle.answers.specs.Operations.{Told, told, turned, on_text, unless_down, first_answer, after_answer, judge_answer, first_page, page_after, fields_in, line_in, room_for, line_answer}
use Rattle.answers.specs.Ways.{most_lines, closing, printed, listed, failed, ways_of}
use Rattle.answers.specs.Means.{Means, text_refused, pair_refused, not_refused, Judges, Pages, Lines, WaysPrints}
use Rattle.answers.proofs.Listed.{unless-none, unless-refused}

-- What is computed of a book from a point: the refusal of the point's pair, or the rest.
abbrev guarded : {A : Type 0} → (ℕ → ℕ → A) → Point → (Book → A) → Book → A
guarded down start g b = g b
guarded down (at p) g b = unless_down down (pair_refusal b p) (g b)

module _ {A : Type 0} (down : ℕ → ℕ → A) (right : Book → Point → A → Type 0) (bs : List ℕ) (from : Point) (g : Book → A)
    (is : (b : Book) → LawfulPoint b from → (x : A) → right b from x ↔ (x ≡ g b)) where
  on-book : (s : Shape) (ws : List ℤ) → read_text bs ≡ accepted s ws → (at' : Point) → at' ≡ from → Means down right bs from (guarded down at' g (book_of s ws))
  on-book s ws e start d = not_refused s ws from (g (book_of s ws)) e (rw (← d) tt) ((is (book_of s ws) (rw (← d) tt) (g (book_of s ws))).1 refl)
  on-book s ws e (at p) d =
      ⊎_elim
      (λ l. rw (unless-none down (pair_refusal (book_of s ws) p) (g (book_of s ws)) l.1) (not_refused s ws from (g (book_of s ws)) e (rw (← d) l.0) ((is (book_of s ws) (rw (← d) l.0) (g (book_of s ws))).1 refl)))
      (λ f. rw (unless-refused down (book_of s ws) p (pair_refusal (book_of s ws) p) (g (book_of s ws)) f, ← d) (pair_refused s ws p (pair_refusal (book_of s ws) p) e f))
      (lawful-or-refused (book_of s ws) p)

  computed : (o : Outcome) → read_text bs ≡ o → Means down right bs from (on_text down (guarded down from g) o)
  unfolding on_text
  computed (unread q line) e = text_refused from q line e
  computed (accepted s ws) e = on-book s ws e from refl

  lawful-guarded : (b : Book) (at' : Point) → LawfulPoint b at' → guarded down at' g b ≡ g b
  lawful-guarded b start l = refl
  lawful-guarded b (at p) l = unless-none down (pair_refusal b p) (g b) (lawful-none b p l)

  only : (at' : Point) (x : A) → at' ≡ from → Means down right bs at' x → x ≡ on_text down (guarded down at' g) (read_text bs)
  unfolding on_text
  only at' x d (text_refused f q line e) = rw e refl
  only (at p) x d (pair_refused s ws q k e f) = rw (e, refusal-one (book_of s ws) p k f) (sym (unless-refused down (book_of s ws) p k (g (book_of s ws)) f))
  only at' x d (not_refused s ws f y e l r) = rw (e, lawful-guarded (book_of s ws) at' l) ((is (book_of s ws) (rw (← d) l) x).0 (rw (← d) r))

  -- The computed answer means what it should, and it alone.
  means : (x : A) → (x ≡ on_text down (guarded down from g) (read_text bs)) ↔ Means down right bs from x
  means x = (λ e. rw e (computed (read_text bs) refl), only from x refl)

told-one : {A : Type 0} (x y : A) → told x ≡ told y → x ≡ y
told-one x y e = cc

turned-one : {A : Type 0} (q l q' l' : ℕ) → ◌≡◌ {A = Told A} (turned q l) (turned q' l') → (q ≡ q') × (l ≡ l')
turned-one q l q' l' e = (cc, cc)

told-not : {A : Type 0} (q line : ℕ) (x : A) → turned q line ≡ told x → ⊥
told-not q line x e = let z : ◌≡◌ {A = ℕ} 0 1 = cc in omega arith

-- First and After: the first resolution later than the point, or End.
pub first-means : (bs : List ℕ) (x : Answer) → (x ≡ first_answer bs) ↔ Means refused FirstLater bs start x
unfolding first_answer
first-means bs x = means refused FirstLater bs start (λ b. next_from b start) (λ b l y. next-iff b start l y) x

pub after-means : (bs : List ℕ) (p : Pair) (x : Answer) → (x ≡ after_answer bs p) ↔ Means refused FirstLater bs (at p) x
unfolding after_answer
after-means bs p x = means refused FirstLater bs (at p) (λ b. next_from b (at p)) (λ b l y. next-iff b (at p) l y) x

-- Judge: verdict k exactly where the text is accepted, the pair lawful and the verdict of its book on the pair k.
pub judge-means : (bs : List ℕ) (p : Pair) (x : Told ℕ) → (x ≡ judge_answer bs p) ↔ Means turned Judges bs (at p) x
unfolding judge_answer
judge-means bs p x = means turned Judges bs (at p) (λ b. told (verdict b p)) is x
  where
    is : (b : Book) → LawfulPoint b (at p) → (y : Told ℕ) → Judges b (at p) y ↔ (y ≡ told (verdict b p))
    is b l (told k) = (λ v. ap told (sym ((verdict-iff b p l k).1 v)), λ e. rw (told-one k (verdict b p) e) ((verdict-iff b p l (verdict b p)).0 refl))
    is b l (turned q line) = (λ v. absurd v, λ e. absurd (told-not q line (verdict b p) e))

-- A computed answer with what it means.
pub with-meaning : {A : Type 0} (x y : A) (P : Type 0) → (x ≡ y) ↔ P → x ≡ y → (x ≡ y) × P
with-meaning x y P i e = (e, i.0 e)

-- A page: the first of all later resolutions, as many as there is room for.
pages-are : (k : ℕ) (from : Point) (b : Book) → LawfulPoint b from → (y : Told (List Pair)) → Pages k b from y ↔ (y ≡ told (page_from b k from))
pages-are k from b l (told xs) = (
  λ r. ap told (r.2 ∙ sym (page-is b k from r.0 l r.1)),
  λ e. let a = all-later b from l in (a.0, a.1, told-one xs (page_from b k from) e ∙ page-is b k from a.0 l a.1),
)
pages-are k from b l (turned q line) = (λ r. absurd r, λ e. absurd (told-not q line (page_from b k from) e))

pub first-page-means : (bs : List ℕ) (m : ℕ) (x : Told (List Pair)) → (x ≡ first_page bs m) ↔ Means turned (Pages (m / 3)) bs start x
unfolding first_page
first-page-means bs m x = means turned (Pages (m / 3)) bs start (λ b. told (page_from b (m / 3) start)) (pages-are (m / 3) start) x

pub page-after-means : (bs : List ℕ) (p : Pair) (m : ℕ) (x : Told (List Pair)) → (x ≡ page_after bs p m) ↔ Means turned (Pages (m / 3)) bs (at p) x
unfolding page_after
page-after-means bs p m x = means turned (Pages (m / 3)) bs (at p) (λ b. told (page_from b (m / 3) (at p))) (pages-are (m / 3) (at p)) x

-- Line: the pair's line, or 15 where the buffer is shorter.
lines_are : (m : ℕ) (l : List ℕ) (z : Bool) → ltb m (length l) ≡ z → (b : Book) (p : Pair) → l ≡ line_in b p → (y : Told (List ℕ))
    → Lines m b (at p) y ↔ (y ≡ room_for m (line_in b p))
unfolding room_for pick
lines_are m l true h b p d (told k) = rw (← d, h) (λ r. absurd (let g = ltb-true m (length l) h in omega (arith, ap length r.0, r.1)), λ e. absurd (told-not 15 0 k (sym e)))
lines_are m l true h b p d (turned q line) = rw (← d, h) (λ r. rw (r.0, r.1) refl, λ e. ((turned-one q line 15 0 e).0, (turned-one q line 15 0 e).1, ltb-true m (length l) h))
lines_are m l false h b p d (told k) = rw (← d, h) (λ r. ap told r.0, λ e. (told-one k l e, rw (told-one k l e) (ltb-false m (length l) h)))
lines_are m l false h b p d (turned q line) = rw (← d, h) (λ r. absurd (let g = ltb-false m (length l) h in omega (arith, r.2)), λ e. absurd (told-not q line l e))

pub line-means : (bs : List ℕ) (p : Pair) (m : ℕ) (x : Told (List ℕ)) → (x ≡ line_answer bs p m) ↔ Means turned (Lines m) bs (at p) x
unfolding line_answer
line-means bs p m x = means turned (Lines m) bs (at p) (λ b. room_for m (line_in b p)) (λ b l y. lines_are m (line_in b p) (ltb m (length (line_in b p))) refl b p refl y) x

-- The first m + 1 are more than m exactly if all are, and are printed as all are.
more : (m : ℕ) (xs : List Pair) → ltb m (length (take (suc m) xs)) ≡ ltb m (length xs)
more m xs = go (ltb m (length xs)) refl
  where
    go : (z : Bool) → ltb m (length xs) ≡ z → ltb m (length (take (suc m) xs)) ≡ ltb m (length xs)
    go true e = let h = ltb-true m (length xs) e in rw e (lt-ltb m (length (take (suc m) xs)) (omega (arith, length-take (suc m) xs)))
    go false e = let h = ltb-false m (length xs) e in rw e (le-ltb m (length (take (suc m) xs)) (omega (arith, length-take (suc m) xs)))

front-printed : (b : Book) (all : List Pair) → AllLater b start all → printed 0 most_lines (fields_in b) b.statements all ≡ listed b most_lines start
unfolding listed printed closing
front-printed b all a =
    let e = page-is b (suc most_lines) start all tt a in
    rw e (rw (take-take most_lines (suc most_lines) all (omega arith), more most_lines all) refl)

-- `ways`: all lines, or the first 9,999 of them, and E or M with how many they are.
pub ways-means : (bs x : List ℕ) → (x ≡ ways_of bs) ↔ Means failed WaysPrints bs start x
unfolding ways_of
ways-means bs x = means failed WaysPrints bs start (λ b. listed b most_lines start) is x
  where
    is : (b : Book) → LawfulPoint b start → (y : List ℕ) → WaysPrints b start y ↔ (y ≡ listed b most_lines start)
    is b l y = (
      λ r. r.2 ∙ front-printed b r.0 r.1,
      λ e. let a = all-later b start tt in (a.0, a.1, e ∙ sym (front-printed b a.0 a.1)),
    )
