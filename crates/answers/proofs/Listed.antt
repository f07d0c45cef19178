-- Demand 3 of the answers that First and After are to give for an accepted text: a refused call answers its refusal, and every other the
-- computed answer, so the claim about lists of calls follows. And a page is what calls of First and After hand out.
use mathlib.Core.Path.{◌≡◌, refl, sym, ap, ◌∙◌}
use mathlib.Core.List.{List, [], ◌∷◌, ◌++◌}
use mathlib.Core.Logic.{⊎_elim}
use Prim.Native.Nat.{ℕ, zero, suc, ◌/◌}
use native.Mathlib.Omega.{arith}
use lib.IntN.{ℤ}
use lib.ListN.{replicate}
use Rattle.sets.specs.declared.Pair.{Pair}
use Rattle.book.specs.declared.Shape.{Shape}
use Rattle.text.specs.Reading.{read_text}
use Rattle.text.specs.Reading.Outcome.{accepted}
use Rattle.meaning.specs.Books.{Book, Lawful, PairRefused, past_exceptions, past_statements, shared}
use Rattle.meaning.specs.Meant.{book_of}
use Rattle.meaning.specs.Order.{Point, start, at, LawfulPoint}
use Rattle.meaning.specs.Listings.{Answer, found, end, refused, Operation, first, after, point_of, FirstLater, Refused, unlawful, short, Call, go_on, onward, handed, moved, answered, answers_to, listing, Calls, Meets, Demand3, PointAlone}
use Rattle.meaning.specs.Twins.Verdicts.{pair_refusal}
use Rattle.meaning.specs.Twins.Next.{next_from, onward_from, page_from}
use Rattle.meaning.proofs.Refusals.{lawful-or-refused, refusal-one, lawful-none}
use Rattle.meaning.proofs.Next.{next-is}
use Rattle.meaning.proofs.Demand3.{meets-by-equality, demand3, point-alone}
use Rattle.answers.specs.Operations.{told, turned, on_text, unless_down, first_answer, after_answer, first_page, page_after, asks}

-- A number that is not 0 is answered as a refusal.
pub unless-other : {A : Type 0} (down : ℕ → ℕ → A) (k : ℕ) (x : A) → (k ≡ 0 → ⊥) → unless_down down k x ≡ down k 0
unfolding unless_down
unless-other down zero x n = absurd (n refl)
unless-other down (suc k) x n = refl

-- With number 0 the rest is answered.
pub unless-none : {A : Type 0} (down : ℕ → ℕ → A) (k : ℕ) (x : A) → k ≡ 0 → unless_down down k x ≡ x
unfolding unless_down
unless-none down k x e = rw e refl

-- A pair's refusal is answered.
pub unless-refused : {A : Type 0} (down : ℕ → ℕ → A) (b : Book) (p : Pair) (k : ℕ) (x : A) → PairRefused b p k → unless_down down k x ≡ down k 0
unfolding unless_down
unless-refused down b p k x (past_exceptions n) = refl
unless-refused down b p k x (past_statements t n) = refl
unless-refused down b p k x (shared t h d n) = refl

module _ (bs : List ℕ) (s : Shape) (ws : List ℤ) (e : read_text bs ≡ accepted s ws) where
  turns : (op : Operation) (room k : ℕ) → Refused (book_of s ws) 0 op room k → asks bs op room ≡ refused k 0
  unfolding asks after_answer on_text
  turns (after p) room k (unlawful q r j f) = rw (e, refusal-one (book_of s ws) p k f) (unless-refused refused (book_of s ws) p k (next_from (book_of s ws) (at p)) f)
  turns op room k (short o r l h) = absurd (omega arith)

  answers : (op : Operation) (room : ℕ) → ((k : ℕ) → Refused (book_of s ws) 0 op room k → ⊥) → asks bs op room ≡ next_from (book_of s ws) (point_of op)
  unfolding asks first_answer after_answer on_text unless_down
  answers first room n = rw e refl
  answers (after p) room n =
      ⊎_elim (λ l. rw (e, l.1) refl) (λ f. absurd (n (pair_refusal (book_of s ws) p) (unlawful p room (pair_refusal (book_of s ws) p) f))) (lawful-or-refused (book_of s ws) p)

  -- What First and After answer is what is asked of them, call by call.
  pub text-meets : Meets (book_of s ws) 0 (asks bs)
  text-meets = meets-by-equality (book_of s ws) 0 (asks bs) turns answers

  -- Demand 3 of every list of calls.
  pub demand3-of-text : (cs : List Call) (from : Point) → LawfulPoint (book_of s ws) from → Calls (book_of s ws) 0 (asks bs) cs from
      → Demand3 (book_of s ws) 0 from cs (answers_to (asks bs) cs from) (listing (asks bs) cs from)
  demand3-of-text = demand3 (book_of s ws) 0 (asks bs) text-meets

  -- ---- a page is what First and After would hand out
  asked : (from : Point) → LawfulPoint (book_of s ws) from → asks bs (onward from) 0 ≡ next_from (book_of s ws) from
  unfolding asks first_answer after_answer on_text unless_down
  asked start l = rw e refl
  asked (at p) l = rw (e, lawful-none (book_of s ws) p l) refl

  none_more : (k : ℕ) (from : Point) → next_from (book_of s ws) from ≡ end → page_from (book_of s ws) k from ≡ []
  unfolding page_from onward_from
  none_more zero from d = refl
  none_more (suc k) from d = rw d refl

  step-found : (k : ℕ) (from : Point) (p : Pair) → page_from (book_of s ws) k (at p) ≡ listing (asks bs) (replicate k (go_on 0)) (at p)
      → onward_from (found p) (λ q. page_from (book_of s ws) k (at q)) ≡ handed (found p) ++ listing (asks bs) (replicate k (go_on 0)) (moved (found p) from)
  unfolding onward_from handed moved
  step-found k from p h = ap (λ (ps : List Pair). p ∷ ps) h

  step_end : (k : ℕ) (from : Point) → [] ≡ listing (asks bs) (replicate k (go_on 0)) from
      → onward_from end (λ q. page_from (book_of s ws) k (at q)) ≡ handed end ++ listing (asks bs) (replicate k (go_on 0)) (moved end from)
  unfolding onward_from handed moved
  step_end k from h = h

  -- k calls that go on hand out the first k of the later resolutions.
  pub handed-page : (k : ℕ) (from : Point) → LawfulPoint (book_of s ws) from → page_from (book_of s ws) k from ≡ listing (asks bs) (replicate k (go_on 0)) from
  unfolding page_from listing answered
  handed-page zero from l = refl
  handed-page (suc k) from l = rw (asked from l) (on (next_from (book_of s ws) from) (next-is (book_of s ws) from l) refl (λ p h. handed-page k (at p) h) (handed-page k from l))
    where
      on : (x : Answer) → FirstLater (book_of s ws) from x → next_from (book_of s ws) from ≡ x
          → ((p : Pair) → Lawful (book_of s ws) p → page_from (book_of s ws) k (at p) ≡ listing (asks bs) (replicate k (go_on 0)) (at p))
          → page_from (book_of s ws) k from ≡ listing (asks bs) (replicate k (go_on 0)) from
          → onward_from x (λ p. page_from (book_of s ws) k (at p)) ≡ handed x ++ listing (asks bs) (replicate k (go_on 0)) (moved x from)
      on (found p) f d next same = step-found k from p (next p f.0.view.lawful)
      on end f d next same = step_end k from (sym (none_more k from d) ∙ same)
      on (refused q line) f d next same = absurd f

  pub first-page-handed : (m : ℕ) → first_page bs m ≡ told (listing (asks bs) (replicate (m / 3) (go_on 0)) start)
  unfolding first_page on_text
  first-page-handed m = rw e (ap told (handed-page (m / 3) start tt))

  pub page-after-handed : (p : Pair) → Lawful (book_of s ws) p → (m : ℕ) → page_after bs p m ≡ told (listing (asks bs) (replicate (m / 3) (go_on 0)) (at p))
  unfolding page_after on_text
  page-after-handed p l m =
      rw (e, unless-none turned (pair_refusal (book_of s ws) p) (told (page_from (book_of s ws) (m / 3) (at p))) (lawful-none (book_of s ws) p l)) (ap told (handed-page (m / 3) (at p) l))

-- Texts with the same book: the point alone decides what comes next.
pub point-alone-of-texts : (bs bs' : List ℕ) (s s' : Shape) (ws ws' : List ℤ) → read_text bs ≡ accepted s ws → read_text bs' ≡ accepted s' ws' → book_of s ws ≡ book_of s' ws'
    → (cs : List Call) (from : Point) → Calls (book_of s ws) 0 (asks bs) cs from → PointAlone (asks bs) (asks bs') cs from
point-alone-of-texts bs bs' s s' ws ws' e e' d = point-alone (book_of s ws) 0 (asks bs) (asks bs') (text-meets bs s ws e) (rw d (text-meets bs' s' ws' e'))
