-- Demand 3 of every list of calls follows from what First and After answer call by call. Idea: a call that goes on hands out the head of the
-- list of all later resolutions and leaves its tail; a refused call leaves the list as it is.
use mathlib.Core.Path.{◌≡◌, refl, sym, ap, ◌∙◌}
use mathlib.Core.Bool.{Bool, true, false}
use mathlib.Core.List.{List, [], ◌∷◌, ◌++◌}
use mathlib.Core.Logic.{◌⊎◌, inl, inr, ⊎_elim, ◌↔◌}
use Prim.Native.Nat.{ℕ, zero, suc, ◌+◌, ◌≤◌}
use native.Mathlib.Omega.{arith}
use lib.Dec.{ltb}
use lib.ListN.{length, take, drop}
use lib.Seq.{take-add}
use borrow.Author.Tests.{ltb-true, lt-ltb}
use Rattle.logic.specs.Lists.{Among}
use Rattle.logic.proofs.Members.{every-at, every_of}
use Rattle.sets.specs.declared.Pair.{Pair}
use Rattle.meaning.specs.Books.{Book, PairRefused, past_exceptions, past_statements, shared}
use Rattle.meaning.specs.Resolutions.{Resolution}
use Rattle.meaning.specs.Order.{Before, Point, start, at, LawfulPoint, Later, AllLater}
use Rattle.meaning.specs.Listings.{Answer, found, end, refused, Operation, first, after, point_of, FirstLater, Refused, unlawful, short, Call, go_on, turned_down, onward, handed, moved, goings, answered, answers_to, listing, reached, OfKind, Calls, Meets, Script, Demand3, PointAlone}
use Rattle.meaning.specs.Twins.Next.{next_from}
use Rattle.meaning.specs.Twins.Verdicts.{pair_refusal}
use Rattle.meaning.proofs.Refusals.{lawful-or-refused, refusal-one, lawful-none}
use Rattle.meaning.proofs.Sorted.{all-later}
use Rattle.meaning.proofs.Next.{next-iff}
use Rattle.meaning.proofs.Ordered.{before-irreflexive, before-transitive}

later-still : (from : Point) (q r : Pair) → Later from q → Before q r → Later from r
later-still start q r l x = tt
later-still (at p) q r l x = before-transitive p q r l x

no_end : (p : Pair) → found p ≡ end → ⊥
no_end p e = let z : ◌≡◌ {A = ℕ} 0 1 = cc in omega arith

module _ (b : Book) (from : Point) where
  -- The first later resolution is the head.
  pub head_first : (p q : Pair) (qs : List Pair) → AllLater b from (q ∷ qs) → FirstLater b from (found p) → p ≡ q
  head_first p q qs a f = go (a.all p f.0 f.1) (f.2 q a.only.0.0 a.only.0.1)
    where
      go : (q ≡ p) ⊎ Among p qs → (p ≡ q) ⊎ Before p q → p ≡ q
      go (inl e) o = sym e
      go (inr m) (inl e) = e
      go (inr m) (inr x) = absurd (before-irreflexive p (before-transitive p q p x (every-at (Before q) p qs a.ascending.0 m)))

  -- What is later than the head is the tail.
  pub tail-later : (q : Pair) (qs : List Pair) → AllLater b from (q ∷ qs) → AllLater b (at q) qs
  tail-later q qs a =
      record {
        only = every_of (λ p. Resolution b p × Before q p) qs (λ r m. ((every-at (λ p. Resolution b p × Later from p) r qs a.only.1 m).0, every-at (Before q) r qs a.ascending.0 m));
        all = λ r x l. ⊎_elim (λ e. absurd (before-irreflexive q (rw (← e) at l))) (λ m. m) (a.all r x (later-still from q r a.only.0.1 l));
        ascending = a.ascending.1;
      }

  -- An answer hands out the first of the list and leaves the rest later than the point that it moves to.
  going : (xs : List Pair) (x : Answer) → FirstLater b from x → AllLater b from xs → (handed x ≡ take 1 xs) × AllLater b (moved x from) (drop 1 xs)
  unfolding handed moved
  going [] (found p) f a = absurd (a.all p f.0 f.1)
  going (q ∷ qs) (found p) f a = let e = head_first p q qs a f in rw e (refl, tail-later q qs a)
  going [] end f a = (refl, a)
  going (q ∷ qs) end f a = absurd (f q a.only.0.0 a.only.0.1)
  going xs (refused k line) f a = absurd f

  -- It is the head of the list; where the list is empty, End.
  next-answer : (x : Pair) (xs : List Pair) (y : Answer) → FirstLater b from y → AllLater b from (x ∷ xs) → y ≡ found x
  next-answer x xs (found p) f a = ap found (head_first p x xs a f)
  next-answer x xs end f a = absurd (f x a.only.0.0 a.only.0.1)
  next-answer x xs (refused k l) f a = absurd f

  ended : (y : Answer) → FirstLater b from y → AllLater b from [] → y ≡ end
  ended (found p) f a = absurd (a.all p f.0 f.1)
  ended end f a = refl
  ended (refused k l) f a = absurd f

-- An operation that is not refused is asked from a lawful point.
lawful-point : (b : Book) (needed : ℕ) (op : Operation) (room : ℕ) → ((k : ℕ) → Refused b needed op room k → ⊥) → LawfulPoint b (point_of op)
lawful-point b needed first room n = tt
lawful-point b needed (after p) room n = ⊎_elim (λ l. l.0) (λ f. absurd (n (pair_refusal b p) (unlawful p room (pair_refusal b p) f))) (lawful-or-refused b p)

-- In a script a call that goes on is answered End exactly when the calls before it have left none.
module _ (b : Book) (needed : ℕ) where
  ends_at : (before rest : List Call) (room : ℕ) (xs : List Pair) (ahead behind : List Answer) (y : Answer)
      → Script b needed (before ++ (go_on room ∷ rest)) xs (ahead ++ (y ∷ behind)) → length ahead ≡ length before → (y ≡ end) ↔ (length xs ≤ goings before)
  unfolding goings
  ends_at [] rest room [] [] behind y s e = (λ _. omega arith, λ _. s.0)
  ends_at [] rest room (x ∷ xs) [] behind y s e = (λ d. absurd (no_end x (sym s.0 ∙ d)), λ h. absurd (omega arith))
  ends_at [] rest room xs (z ∷ ahead) behind y s e = absurd (omega arith)
  ends_at (c ∷ before) rest room xs [] behind y s e = absurd (omega arith)
  ends_at (go_on r ∷ before) rest room [] (z ∷ ahead) behind y s e =
      let i = ends_at before rest room [] ahead behind y s.1 (omega arith) in (λ d. omega arith, λ h. i.1 (omega arith))
  ends_at (go_on r ∷ before) rest room (x ∷ xs) (z ∷ ahead) behind y s e =
      let i = ends_at before rest room xs ahead behind y s.1 (omega arith) in (λ d. let h = i.0 d in omega arith, λ h. i.1 (omega arith))
  ends_at (turned_down op r ∷ before) rest room xs (z ∷ ahead) behind y s e = ends_at before rest room xs ahead behind y s.1 (omega arith)

  script-ends : (cs : List Call) (xs : List Pair) (ys : List Answer) → Script b needed cs xs ys
      → (before rest : List Call) (room : ℕ) (ahead behind : List Answer) (y : Answer) → cs ≡ before ++ (go_on room ∷ rest) → ys ≡ ahead ++ (y ∷ behind)
      → length ahead ≡ length before → (y ≡ end) ↔ (length xs ≤ goings before)
  script-ends cs xs ys s before rest room ahead behind y e d n = ends_at before rest room xs ahead behind y (rw (e, d) at s) n

module _ (b : Book) (needed : ℕ) (ask : Operation → ℕ → Answer) (meets : Meets b needed ask) where
  same_point : (from : Point) → point_of (onward from) ≡ from
  same_point start = refl
  same_point (at p) = refl

  -- The answer to a call that goes on.
  onward-first : (from : Point) (room : ℕ) → OfKind b needed (go_on room) from → FirstLater b from (ask (onward from) room)
  onward-first from room n = rw (same_point from) at (meets.answers (onward from) room n)

  -- One call, with the number that it counts for.
  stepped : (c : Call) (from : Point) (xs : List Pair) → AllLater b from xs → OfKind b needed c from
      → (handed (answered ask c from) ≡ take (goings (c ∷ [])) xs) × AllLater b (moved (answered ask c from) from) (drop (goings (c ∷ [])) xs)
  unfolding answered goings handed moved
  stepped (go_on room) from xs a n = going b from xs (ask (onward from) room) (onward-first from room n) a
  stepped (turned_down op room) from xs a n = rw (meets.refuses op room n.0 n.1) (refl, a)

  one_more : (c : Call) (cs : List Call) → goings (c ∷ cs) ≡ goings (c ∷ []) + goings cs
  unfolding goings
  one_more (go_on room) cs = omega arith
  one_more (turned_down op room) cs = omega arith

  -- What a list of calls hands out.
  handing : (cs : List Call) (from : Point) (xs : List Pair) → AllLater b from xs → Calls b needed ask cs from → listing ask cs from ≡ take (goings cs) xs
  unfolding listing goings
  handing [] from xs a c = refl
  handing (c ∷ cs) from xs a k =
      let s = stepped c from xs a k.0 in
      rw (one_more c cs, s.0, handing cs (moved (answered ask c from) from) (drop (goings (c ∷ [])) xs) s.1 k.1) (sym (take-add (goings (c ∷ [])) (goings cs) xs))

  -- What it is answered.
  pub scripted : (cs : List Call) (from : Point) (xs : List Pair) → AllLater b from xs → Calls b needed ask cs from → Script b needed cs xs (answers_to ask cs from)
  unfolding answers_to answered goings
  scripted [] from xs a k = tt
  scripted (go_on room ∷ cs) from [] a k = (
    ended b from (ask (onward from) room) (onward-first from room k.0) a,
    scripted cs (moved (ask (onward from) room) from) [] (stepped (go_on room) from [] a k.0).1 k.1,
  )
  scripted (go_on room ∷ cs) from (x ∷ xs) a k = (
    next-answer b from x xs (ask (onward from) room) (onward-first from room k.0) a,
    scripted cs (moved (ask (onward from) room) from) xs (stepped (go_on room) from (x ∷ xs) a k.0).1 k.1,
  )
  scripted (turned_down op room ∷ cs) from xs a k = (
    (k.0.0, k.0.1, meets.refuses op room k.0.0 k.0.1),
    scripted cs (moved (ask op room) from) xs (stepped (turned_down op room) from xs a k.0).1 k.1,
  )

  -- The claim, whole, for every lawful beginning and every list of calls.
  pub demand3 : (cs : List Call) (from : Point) → LawfulPoint b from → Calls b needed ask cs from → Demand3 b needed from cs (answers_to ask cs from) (listing ask cs from)
  demand3 cs from l k =
      let a = all-later b from l in
      let s = scripted cs from a.0 a.1 k in
      record {
        all = a.0;
        later = a.1;
        script = s;
        handed_out = handing cs from a.0 a.1 k;
        ends = script-ends b needed cs a.0 (answers_to ask cs from) s;
      }

-- Of a list of calls, those after its front: they are answered from the point that the front has reached, and are calls of a listing from there.
rest-answers : (ask : Operation → ℕ → Answer) (front es : List Call) (from : Point) → drop (length front) (answers_to ask (front ++ es) from) ≡ answers_to ask es (reached ask front from)
unfolding answers_to reached
rest-answers ask [] es from = refl
rest-answers ask (c ∷ front) es from = rest-answers ask front es (moved (answered ask c from) from)

rest-calls : (b : Book) (needed : ℕ) (ask : Operation → ℕ → Answer) (front es : List Call) (from : Point) → Calls b needed ask (front ++ es) from
    → Calls b needed ask es (reached ask front from)
unfolding reached
rest-calls b needed ask [] es from k = k
rest-calls b needed ask (c ∷ front) es from k = rest-calls b needed ask front es (moved (answered ask c from) from) k.1

module _ (b : Book) (needed : ℕ) (ask ask' : Operation → ℕ → Answer) (m : Meets b needed ask) (m' : Meets b needed ask') where
  same_answer : (c : Call) (from : Point) → OfKind b needed c from → answered ask c from ≡ answered ask' c from
  unfolding answered
  same_answer (go_on room) from n =
      let op = onward from in
      let l = lawful-point b needed op room n in
      (next-iff b (point_of op) l (ask op room)).0 (m.answers op room n) ∙ sym ((next-iff b (point_of op) l (ask' op room)).0 (m'.answers op room n))
  same_answer (turned_down op room) from n = m.refuses op room n.0 n.1 ∙ sym (m'.refuses op room n.0 n.1)

  -- Two engines that answer call by call as they should give the same answers from the same point.
  alike : (es : List Call) (from : Point) → Calls b needed ask es from → answers_to ask es from ≡ answers_to ask' es from
  unfolding answers_to
  alike [] from k = refl
  alike (c ∷ cs) from k =
      ap (λ (l : List Answer). answered ask c from ∷ l) (alike cs (moved (answered ask c from) from) k.1)
      ∙ ap (λ (a : Answer). a ∷ answers_to ask' cs (moved a from)) (same_answer c from k.0)

  -- So the point alone decides.
  pub point-alone : (cs : List Call) (from : Point) → Calls b needed ask cs from → PointAlone ask ask' cs from
  point-alone cs from k front es ds onto e d =
      ap (λ (l : List Call). drop (length front) (answers_to ask l from)) e
      ∙ rest-answers ask front es from
      ∙ alike es (reached ask front from) (rest-calls b needed ask front es from (rw e at k))
      ∙ ap (answers_to ask' es) d
      ∙ sym (rest-answers ask' ds es onto)

-- The same from equations: a refused operation answers the refusal, any other the computed answer.
pub meets-by-equality : (b : Book) (needed : ℕ) (ask : Operation → ℕ → Answer)
    → ((op : Operation) (room k : ℕ) → Refused b needed op room k → ask op room ≡ refused k 0)
    → ((op : Operation) (room : ℕ) → ((k : ℕ) → Refused b needed op room k → ⊥) → ask op room ≡ next_from b (point_of op)) → Meets b needed ask
meets-by-equality b needed ask r e =
    record { refuses = r; answers = λ op room n. (next-iff b (point_of op) (lawful-point b needed op room n) (ask op room)).1 (e op room n) }

-- ---- the demand can be met: a model engine that answers by the definitions
-- The answer, or the refusal with a number that is not 0.
unfoldable pub refused_by : ℕ → Answer → Answer
refused_by zero x = x
refused_by (suc k) x = refused (suc k) 0

unfoldable pub with_room : Bool → Answer → Answer
with_room true x = refused 15 0
with_room false x = x

unfoldable pub model : Book → ℕ → Operation → ℕ → Answer
model b needed first room = with_room (ltb room needed) (next_from b start)
model b needed (after p) room = refused_by (pair_refusal b p) (with_room (ltb room needed) (next_from b (at p)))

pub model-meets : (b : Book) (needed : ℕ) → Meets b needed (model b needed)
unfolding model refused_by with_room
model-meets b needed = meets-by-equality b needed (model b needed) turns answers
  where
    turned : (p : Pair) (k : ℕ) (x : Answer) → PairRefused b p k → refused_by k x ≡ refused k 0
    turned p k x (past_exceptions n) = refl
    turned p k x (past_statements t n) = refl
    turned p k x (shared t h d n) = refl

    turns : (op : Operation) (room k : ℕ) → Refused b needed op room k → model b needed op room ≡ refused k 0
    turns first room k (short op r l h) = rw (lt-ltb room needed h) refl
    turns (after p) room k (unlawful q r j f) = rw (refusal-one b p k f) (turned p k (with_room (ltb room needed) (next_from b (at p))) f)
    turns (after p) room k (short op r l h) = rw (lawful-none b p l, lt-ltb room needed h) refl

    enough : (op : Operation) (room : ℕ) → LawfulPoint b (point_of op) → ((k : ℕ) → Refused b needed op room k → ⊥) → (y : Bool) → ltb room needed ≡ y
        → with_room y (next_from b (point_of op)) ≡ next_from b (point_of op)
    enough op room l n true e = absurd (n 15 (short op room l (ltb-true room needed e)))
    enough op room l n false e = refl

    answers : (op : Operation) (room : ℕ) → ((k : ℕ) → Refused b needed op room k → ⊥) → model b needed op room ≡ next_from b (point_of op)
    answers first room n = enough first room tt n (ltb room needed) refl
    answers (after p) room n =
        ⊎_elim (λ l. rw l.1 (enough (after p) room l.0 n (ltb room needed) refl))
        (λ f. absurd (n (pair_refusal b p) (unlawful p room (pair_refusal b p) f))) (lawful-or-refused b p)
