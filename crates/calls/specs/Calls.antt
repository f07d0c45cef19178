-- A list of calls as numbers, what making them through First and After leaves, and demand 3 of it: `Runs`, the contract of `run`.
use Rattle.std.specs.Prelude.{ℕ, zero, suc, ◌+◌, ◌*◌, ◌/◌, ◌%◌, ◌≡◌, List, [], ◌∷◌, ◌++◌, eqb, ltb, ℤ, length, get_or, Option, Some, None, Result, Ok, Err}
use Rattle.std.proofs.lemmas.List.Edits.{sets}
use Rattle.logic.specs.Tests.{pick}
use Rattle.sets.specs.declared.Pair.{Pair}
use Rattle.sets.specs.Pairs.{flat}
use Rattle.book.specs.declared.Shape.{Shape}
use Rattle.text.specs.declared.Refusal.{Refusal}
use Rattle.text.specs.Reading.{read_text, over}
use Rattle.text.specs.Reading.Outcome.{accepted}
use Rattle.meaning.specs.Meant.{book_of}
use Rattle.meaning.specs.Order.{Point, start, at, LawfulPoint}
use Rattle.meaning.specs.Listings.{Answer, found, end, refused, Call, go_on, turned_down, after, answers_to, listing, reached, Calls, Demand3, PointAlone}
use Rattle.answers.specs.Operations.{asks}
use Rattle.calls.specs.declared.Handed.{Handed}

-- The point where a listing stands: before the first pair, or at a pair.
unfoldable pub as_point : Option Pair → Point
as_point None = start
as_point (Some p) = at p

-- ---- calls and answers as numbers, four each
-- Kind 0 goes on; any other kind is After with the pair. First and After lend no buffer, so the room does not matter.
unfoldable pub call_of : ℕ → Pair → Call
call_of zero p = go_on 0
call_of (suc k) p = turned_down (after p) 0

-- Call k of the numbers: the kind, and a pair.
unfoldable pub call_at : List ℕ → ℕ → Call
call_at ns k = call_of (get_or ns (k * 4) 0) (record { taken = get_or ns (k * 4 + 1) 0; held = get_or ns (k * 4 + 2) 0; denied = get_or ns (k * 4 + 3) 0 })

-- The m calls from call k on; all calls of the numbers.
unfoldable pub calls_from : List ℕ → ℕ → ℕ → List Call
calls_from ns k zero = []
calls_from ns k (suc m) = call_at ns k ∷ calls_from ns (suc k) m

unfoldable pub calls_of : List ℕ → List Call
calls_of ns = calls_from ns 0 (length ns / 4)

-- An answer: 1 and the pair; 0 at the End; 2 and the refusal's number and line.
unfoldable pub row : Answer → List ℕ
row (found p) = 1 ∷ p.taken ∷ p.held ∷ p.denied ∷ []
row end = 0 ∷ 0 ∷ 0 ∷ 0 ∷ []
row (refused k line) = 2 ∷ k ∷ line ∷ 0 ∷ []

unfoldable pub rows : List Answer → List ℕ
rows [] = []
rows (y ∷ ys) = row y ++ rows ys

-- ---- what is left
-- The m calls from call k on, made from the point with n pairs handed out before: how many pairs there are then, the point that is reached,
-- the slice of answers with the answers, and the slice of pairs with the pairs that were handed out.
pub record Makes (bs ns : List ℕ) (k m : ℕ) (from : Point) (n : ℕ) (ans ans' out out' : List ℕ) (r : Handed) : Type 0 where
  pub count : r.count ≡ n + length (listing (asks bs) (calls_from ns k m) from)
  pub spot : as_point r.spot ≡ reached (asks bs) (calls_from ns k m) from
  pub answers : ans' ≡ sets ans (k * 4) (rows (answers_to (asks bs) (calls_from ns k m) from))
  pub pairs : out' ≡ sets out (n * 3) (flat (listing (asks bs) (calls_from ns k m) from))

-- The calls cs, made one after the other from a point through First and After, whose answers are `asks` (their contracts), and what they leave:
-- every answer, every pair handed out, their number, and the point reached. And this is demand 3. For an accepted text, a lawful point and calls
-- of a listing these answers and pairs are the script of all later resolutions (`Demand3`); and these answers, from each point that the calls have
-- come to, are those of every listing that has come to that point in a text with the same book (`PointAlone`).
pub record Ran (bs : List ℕ) (cs : List Call) (from : Point) (ans ans' out out' : List ℕ) (r : Handed) : Type 0 where
  pub answers : ans' ≡ over ans (rows (answers_to (asks bs) cs from))
  pub pairs : out' ≡ over out (flat (listing (asks bs) cs from))
  pub count : r.count ≡ length (listing (asks bs) cs from)
  pub spot : as_point r.spot ≡ reached (asks bs) cs from
  pub demand3 : (s : Shape) (ws : List ℤ) → read_text bs ≡ accepted s ws → LawfulPoint (book_of s ws) from → Calls (book_of s ws) 0 (asks bs) cs from
      → Demand3 (book_of s ws) 0 from cs (answers_to (asks bs) cs from) (listing (asks bs) cs from)
  pub alone : (s : Shape) (ws : List ℤ) → read_text bs ≡ accepted s ws → Calls (book_of s ws) 0 (asks bs) cs from
      → (bs' : List ℕ) (s' : Shape) (ws' : List ℤ) → read_text bs' ≡ accepted s' ws' → book_of s ws ≡ book_of s' ws' → PointAlone (asks bs) (asks bs') cs from

-- The refusal of n numbers with so much room for answers and for pairs: 16 where they are not four a call; 15 where there is less room than
-- for the answers, or than for as many pairs as calls; 0 if none.
unfoldable pub run_refusal : ℕ → ℕ → ℕ → ℕ
run_refusal n a p = pick (eqb (n % 4) 0) (pick (ltb a n) 15 (pick (ltb p (n / 4 * 3)) 15 0)) 16

-- A refused run has made no call and leaves both slices as they were; any other has made them all.
abbrev pub Runs : (bs ns : List ℕ) (from : Point) (ans ans' out out' : List ℕ) → Result Handed Refusal → Type 0
Runs bs ns from ans ans' out out' (Err q) =
    (q.number ≡ run_refusal (length ns) (length ans) (length out)) × (q.number ≡ 0 → ⊥) × (q.line ≡ 0) × (ans' ≡ ans) × (out' ≡ out)
Runs bs ns from ans ans' out out' (Ok r) = (run_refusal (length ns) (length ans) (length out) ≡ 0) × Ran bs (calls_of ns) from ans ans' out out' r
