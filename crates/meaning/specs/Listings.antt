-- A listing and its calls (document 01, 'Six operations'), over the answers that First and After give for one accepted book.
use Rattle.std.specs.Prelude.{ℕ, suc, ◌<◌, ◌≤◌, ◌≡◌, List, [], ◌∷◌, ◌++◌, ◌⊎◌, ◌↔◌, length, take, drop}
use Rattle.sets.specs.declared.Pair.{Pair}
use Rattle.meaning.specs.Books.{Book, PairRefused}
use Rattle.meaning.specs.Resolutions.{Resolution}
use Rattle.meaning.specs.Order.{Before, Point, start, at, LawfulPoint, Later, AllLater}

-- What First and After answer: a pair, End, or a refusal's number and line.
pub data Answer : Type 0 where
  found : Pair → Answer
  end : Answer
  refused : ℕ → ℕ → Answer

-- First, or After with a pair.
pub data Operation : Type 0 where
  first : Operation
  after : Pair → Operation

-- The point that the operation answers from.
abbrev pub point_of : Operation → Point
point_of first = start
point_of (after p) = at p

-- The answer from a point: the first resolution later than the point, or End if there is none.
abbrev pub FirstLater : Book → Point → Answer → Type 0
FirstLater b from (found p) = Resolution b p × Later from p × ((q : Pair) → Resolution b q → Later from q → (p ≡ q) ⊎ Before p q)
FirstLater b from end = (q : Pair) → Resolution b q → Later from q → ⊥
FirstLater b from (refused k line) = ⊥

-- The operation is refused with this number: 12 to 14 for its pair; else 15 for a lent buffer with less room than the answer needs
-- (`needed` 0: the operation lends none).
pub data Refused (b : Book) (needed : ℕ) : Operation → ℕ → ℕ → Type 0 where
  unlawful : (p : Pair) (room k : ℕ) → PairRefused b p k → Refused b needed (after p) room k
  short : (op : Operation) (room : ℕ) → LawfulPoint b (point_of op) → room < needed → Refused b needed op room 15

-- A call of a listing, with the room in the buffer that it lends: going on from the point, or one that is refused.
pub data Call : Type 0 where
  go_on : ℕ → Call
  turned_down : Operation → ℕ → Call

-- Going on: First if the point is before the first pair, else After with the point.
abbrev pub onward : Point → Operation
onward start = first
onward (at p) = after p

-- A pair that is answered is handed out.
unfoldable pub handed : Answer → List Pair
handed (found p) = p ∷ []
handed end = []
handed (refused k line) = []

-- It becomes the point; at End and at a refusal the point stays.
unfoldable pub moved : Answer → Point → Point
moved (found p) from = at p
moved end from = from
moved (refused k line) from = from

-- How many calls of the list are not refused.
unfoldable pub goings : List Call → ℕ
goings [] = 0
goings (go_on room ∷ cs) = suc (goings cs)
goings (turned_down op room ∷ cs) = goings cs

-- `ask` is what the engine answers for the book's text, an operation and the room in the lent buffer.
module _ (ask : Operation → ℕ → Answer) where
  -- What the engine answers to the call at the point.
  unfoldable pub answered : Call → Point → Answer
  answered (go_on room) from = ask (onward from) room
  answered (turned_down op room) from = ask op room

  -- The answers to the calls, each call finding the point as the call before left it.
  unfoldable pub answers_to : List Call → Point → List Answer
  answers_to [] from = []
  answers_to (c ∷ cs) from = answered c from ∷ answers_to cs (moved (answered c from) from)

  -- The pairs handed out.
  unfoldable pub listing : List Call → Point → List Pair
  listing [] from = []
  listing (c ∷ cs) from = handed (answered c from) ++ listing cs (moved (answered c from) from)

  -- The point reached.
  unfoldable pub reached : List Call → Point → Point
  reached [] from = from
  reached (c ∷ cs) from = reached cs (moved (answered c from) from)

module _ (b : Book) (needed : ℕ) where
  -- The call is of its kind at the point: it goes on where no refusal applies, or one applies.
  abbrev pub OfKind : Call → Point → Type 0
  OfKind (go_on room) from = (k : ℕ) → Refused b needed (onward from) room k → ⊥
  OfKind (turned_down op room) from = (k : ℕ) × Refused b needed op room k

  -- The calls, answered so, are those of a listing that begins at the point.
  abbrev pub Calls : (Operation → ℕ → Answer) → List Call → Point → Type 0
  Calls ask [] from = Unit {0}
  Calls ask (c ∷ cs) from = OfKind c from × Calls ask cs (moved (answered ask c from) from)

  -- What is asked of First and After call by call.
  pub record Meets (ask : Operation → ℕ → Answer) : Type 0 where
    pub refuses : (op : Operation) (room k : ℕ) → Refused b needed op room k → ask op room ≡ refused k 0
    pub answers : (op : Operation) (room : ℕ) → ((k : ℕ) → Refused b needed op room k → ⊥) → FirstLater b (point_of op) (ask op room)

  -- What a list of calls is answered, xs being the resolutions that are left: a call that goes on is answered with the next of them, or End
  -- when none is left; a refused call with its refusal, and the same are left.
  abbrev pub Script : List Call → List Pair → List Answer → Type 0
  Script [] xs [] = Unit {0}
  Script [] xs (y ∷ ys) = ⊥
  Script (c ∷ cs) xs [] = ⊥
  Script (go_on room ∷ cs) [] (y ∷ ys) = (y ≡ end) × Script cs [] ys
  Script (go_on room ∷ cs) (x ∷ xs) (y ∷ ys) = (y ≡ found x) × Script cs xs ys
  Script (turned_down op room ∷ cs) xs (y ∷ ys) = ((k : ℕ) × Refused b needed op room k × (y ≡ refused k 0)) × Script cs xs ys

  -- Demand 3 of a whole list of calls from a point, whose answers are ys and whose pairs handed out are ps. There is the list of all resolutions
  -- later than the point, in order, each once, and the answers are its script; the pairs are the first so many of it, as many as calls not
  -- refused or as there are; and a call that is not refused answers End exactly when those before it have left none.
  pub record Demand3 (from : Point) (cs : List Call) (ys : List Answer) (ps : List Pair) : Type 0 where
    pub all : List Pair
    pub later : AllLater b from all
    pub script : Script cs all ys
    pub handed_out : ps ≡ take (goings cs) all
    pub ends : (before rest : List Call) (room : ℕ) (ahead behind : List Answer) (y : Answer) → cs ≡ before ++ (go_on room ∷ rest) → ys ≡ ahead ++ (y ∷ behind)
        → length ahead ≡ length before → (y ≡ end) ↔ (length all ≤ goings before)

-- The point alone decides. The calls cs, made from a point and answered by `ask`, have come to some point after their front; the answers from
-- there to the rest, es, are those of any other listing that has come to that point, through whatever calls ds, answered by ask'.
abbrev pub PointAlone : (ask ask' : Operation → ℕ → Answer) → List Call → Point → Type 0
PointAlone ask ask' cs from = (front es ds : List Call) (onto : Point) → cs ≡ front ++ es → reached ask front from ≡ reached ask' ds onto
    → drop (length front) (answers_to ask cs from) ≡ drop (length ds) (answers_to ask' (ds ++ es) onto)
