-- A list of calls of Set, Go and Drop as bytes, and what `keep` leaves that makes them one after the other: the promise of request (h), whose words are
-- in points/specs/Calls.
use Rattle.std.specs.Prelude.{ℕ, zero, suc, ◌+◌, ◌*◌, ◌/◌, ◌%◌, ◌≡◌, List, [], ◌∷◌, eqb, ltb, length, get_or, take, drop, Result, Ok, Err, ⊤}
use Rattle.std.proofs.Math.Option.{some, none}
use Rattle.std.proofs.lemmas.List.Edits.{sets}
use Rattle.logic.specs.Tests.{pick}
use Rattle.sets.specs.declared.Pair.{Pair}
use Rattle.text.specs.Reading.{over}
use Rattle.meaning.specs.Listings.{Answer, found, end, refused}
use Rattle.answers.specs.Operations.Told.{told, turned}
use Rattle.calls.specs.Calls.{rows}
use Rattle.entry.specs.Bytes.{pair_of}
use Rattle.text.specs.declared.Refusal.{Refusal}
use Rattle.points.specs.Calls.{PointCall, set_point, go_to, drop_point, PointAnswer, point_answers, left_by_all, Note, remembered_all, notes_after, LeftBy}

-- ---- a list of calls as bytes, 33 each: the kind (0 Set, 1 Go, any other Drop), then the name and the pair as in an entry
unfoldable pub point_call_of : ℕ → List ℕ → Pair → PointCall
point_call_of zero n p = set_point n p
point_call_of (suc zero) n p = go_to n
point_call_of (suc (suc k)) n p = drop_point n

unfoldable pub point_call_at : List ℕ → ℕ → PointCall
point_call_at ns k = point_call_of (get_or ns (k * 33) 0) (take 8 (drop (k * 33 + 1) ns)) (pair_of (drop (k * 33 + 9) ns))

unfoldable pub point_calls_from : List ℕ → ℕ → ℕ → List PointCall
point_calls_from ns k zero = []
point_calls_from ns k (suc m) = point_call_at ns k ∷ point_calls_from ns (suc k) m

unfoldable pub point_calls : List ℕ → List PointCall
point_calls ns = point_calls_from ns 0 (length ns / 33)

-- Answers are written down as those of First and After are: 1 and the pair; 0 where Set or Drop is done; 2 and the refusal's number and line.
unfoldable pub as_answer : PointAnswer → Answer
as_answer (told (some p)) = found p
as_answer (told none) = end
as_answer (turned q line) = refused q line

unfoldable pub as_answers : List PointAnswer → List Answer
as_answers [] = []
as_answers (a ∷ as') = as_answer a ∷ as_answers as'

-- ---- what `keep` leaves
-- The m calls from call k on: the bytes of the store, and the slice of answers with the answers in their places.
pub record Visited (ns : List ℕ) (k m : ℕ) (bs bs' ans ans' : List ℕ) : Type 0 where
  pub store : bs' ≡ left_by_all bs (point_calls_from ns k m)
  pub answers : ans' ≡ sets ans (k * 4) (rows (as_answers (point_answers bs (point_calls_from ns k m))))

-- The calls cs, made one after the other through Set, Go and Drop on the store bs: every answer, and the bytes at the end. And the promise: where bs
-- is what noted calls have left from an empty store (with no notes: the empty store itself), each answer is the remembered one, and the bytes are
-- what the notes then have left; so the next list of calls, next week, goes on from there.
pub record KeptAll (cs : List PointCall) (bs bs' ans ans' : List ℕ) : Type 0 where
  pub answers : ans' ≡ over ans (rows (as_answers (point_answers bs cs)))
  pub store : bs' ≡ left_by_all bs cs
  pub promise : (h : List Note) → LeftBy h bs → (ans' ≡ over ans (rows (as_answers (remembered_all h cs)))) × LeftBy (notes_after h cs) bs'

-- The refusal of n bytes of calls with room for a numbers of answers: 16 where they are not 33 a call, 15 where there is less room than four numbers
-- a call; 0 if none.
unfoldable pub keep_refusal : ℕ → ℕ → ℕ
keep_refusal n a = pick (eqb (n % 33) 0) (pick (ltb a (n / 33 * 4)) 15 0) 16

-- A refused list has made no call and leaves both slices as they were; any other has made them all.
abbrev pub Keeping : (ns bs bs' ans ans' : List ℕ) → Result ⊤ Refusal → Type 0
Keeping ns bs bs' ans ans' (Err q) = (q.number ≡ keep_refusal (length ns) (length ans)) × (q.number ≡ 0 → ⊥) × (q.line ≡ 0) × (bs' ≡ bs) × (ans' ≡ ans)
Keeping ns bs bs' ans ans' (Ok x) = (keep_refusal (length ns) (length ans) ≡ 0) × KeptAll (point_calls ns) bs bs' ans ans'
