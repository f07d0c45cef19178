-- Demand 3 for programs in C: whatever list of calls of `bantameasel_first` and `bantameasel_after` a program makes, what it reads off the structs
-- that they hand back is the script of all later resolutions. Idea: the structs hold what First and After answer, and the way back loses nothing.
use mathlib.Core.Path.{◌≡◌, refl, sym, ap, ◌∙◌}
use mathlib.Core.List.{List, [], ◌∷◌, map}
use Prim.Native.Nat.{ℕ}
use lib.IntN.{ℤ}
use Rattle.book.specs.declared.Shape.{Shape}
use Rattle.text.specs.Reading.{read_text}
use Rattle.text.specs.Reading.Outcome.{accepted}
use Rattle.meaning.specs.Books.{Book}
use Rattle.meaning.specs.Meant.{book_of}
use Rattle.meaning.specs.Order.{Point, start, at, LawfulPoint}
use Rattle.meaning.specs.Listings.{Operation, first, after, onward, Call, go_on, turned_down, moved, answered, answers_to, listing, reached, Calls, Demand3}
use Rattle.answers.specs.Operations.{first_answer, after_answer, asks}
use Rattle.answers.proofs.Means.{first-means, after-means}
use Rattle.answers.proofs.Listed.{demand3-of-text, point-alone-of-texts}
use Rattle.across.specs.declared.PairAnswer.{PairAnswer}
use Rattle.across.specs.Across.{answer_in, answer_from, HandedBack, pairs_from}
use Rattle.across.proofs.Across.{answer-same}
use Rattle.bantameasel.proofs.bantameasel_first.Statement as first-c
use Rattle.bantameasel.proofs.bantameasel_first.Met as first-met
use Rattle.bantameasel.proofs.bantameasel_after.Statement as after-c
use Rattle.bantameasel.proofs.bantameasel_after.Met as after-met

-- What is read off the struct of a call is what First or After answered.
module _ (bs : List ℕ) where
  asked-back : (op : Operation) (room : ℕ) → answer_from (answer_in (asks bs op room)) ≡ asks bs op room
  unfolding asks
  asked-back first room = answer-same bs start (first_answer bs) ((first-means bs (first_answer bs)).0 refl)
  asked-back (after p) room = answer-same bs (at p) (after_answer bs p) ((after-means bs p (after_answer bs p)).0 refl)

  read_off : (c : Call) (from : Point) (r : PairAnswer) → r ≡ answer_in (answered (asks bs) c from) → answer_from r ≡ answered (asks bs) c from
  unfolding answered
  read_off (go_on room) from r e = ap answer_from e ∙ asked-back (onward from) room
  read_off (turned_down op room) from r e = ap answer_from e ∙ asked-back op room

-- And so of a list of calls: the answers, the pairs, that they are calls of a listing, and the structs themselves.
pub record ReadOff (b : Book) (bs : List ℕ) (cs : List Call) (from : Point) (rs : List PairAnswer) : Type 0 where
  pub answers : map answer_from rs ≡ answers_to (asks bs) cs from
  pub pairs : pairs_from rs ≡ listing (asks bs) cs from
  pub calls : Calls b 0 (asks bs) cs from
  pub structs : rs ≡ map answer_in (answers_to (asks bs) cs from)

all-read-off : (b : Book) (bs : List ℕ) (cs : List Call) (from : Point) (rs : List PairAnswer) → HandedBack b bs cs from rs → ReadOff b bs cs from rs
unfolding answers_to listing pairs_from
all-read-off b bs [] from [] h = record { answers = refl; pairs = refl; calls = tt; structs = refl }
all-read-off b bs [] from (r ∷ rs) h = absurd h
all-read-off b bs (c ∷ cs) from [] h = absurd h
all-read-off b bs (c ∷ cs) from (r ∷ rs) h =
    let e = read_off bs c from r h.1 in
    let rest = all-read-off b bs cs (moved (answered (asks bs) c from) from) rs (rw e at h.2) in
    record {
      answers = rw (e, rest.answers) refl;
      pairs = rw (e, rest.pairs) refl;
      calls = (h.0, rest.calls);
      structs = ap (λ (x : PairAnswer). x ∷ rs) h.1 ∙ ap (λ (xs : List PairAnswer). answer_in (answered (asks bs) c from) ∷ xs) rest.structs;
    }

-- What the two C functions are proved to meet; and of every list of calls that a program makes of them, with the structs that they hand back:
-- demand 3; and in texts with the same book, from the same point, the same structs.
pub record Claim (M : Type 1) : Type 2 where
  pub first-meets : first-c.statement M
  pub after-meets : after-c.statement M
  pub listed : (bs : List ℕ) (s : Shape) (ws : List ℤ) → read_text bs ≡ accepted s ws → (cs : List Call) (from : Point) → LawfulPoint (book_of s ws) from
      → (rs : List PairAnswer) → HandedBack (book_of s ws) bs cs from rs → Demand3 (book_of s ws) 0 from cs (map answer_from rs) (pairs_from rs)
  pub alone : (bs bs' : List ℕ) (s s' : Shape) (ws ws' : List ℤ) → read_text bs ≡ accepted s ws → read_text bs' ≡ accepted s' ws' → book_of s ws ≡ book_of s' ws'
      → (cs : List Call) (from : Point) (rs rs' : List PairAnswer) → HandedBack (book_of s ws) bs cs from rs → HandedBack (book_of s' ws') bs' cs from rs' → rs ≡ rs'

pub claim : {M : Type 1} → Claim M
unfolding reached
claim = record {
  first-meets = first-met.met;
  after-meets = after-met.met;
  listed = λ bs s ws e cs from l rs h.
      let k = all-read-off (book_of s ws) bs cs from rs h in
      rw (k.answers, k.pairs) (demand3-of-text bs s ws e cs from l k.calls);
  alone = λ bs bs' s s' ws ws' e e' d cs from rs rs' h h'.
      let k = all-read-off (book_of s ws) bs cs from rs h in
      let j = all-read-off (book_of s' ws') bs' cs from rs' h' in
      k.structs ∙ ap (map answer_in) (point-alone-of-texts bs bs' s s' ws ws' e e' d cs from k.calls [] cs [] from refl refl) ∙ sym j.structs;
}
