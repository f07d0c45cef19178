-- The answers of the operations as a program in C has them: the refusal and its line, 0 and 0 where there is none; and the answer, or zeros where
-- it was refused.
use Rattle.std.specs.Prelude.{ℕ, ◌≡◌, List, [], ◌∷◌, ◌++◌, eqb, replicate, Result, Ok, Err, ⊤}
use Rattle.std.proofs.Math.Option.{some, none}
use Rattle.logic.specs.Tests.{pick}
use Rattle.sets.specs.declared.Pair.{Pair}
use Rattle.book.specs.declared.Shape.{Shape}
use Rattle.text.specs.declared.Refusal.{Refusal}
use Rattle.meaning.specs.Books.{Book}
use Rattle.meaning.specs.Order.{Point}
use Rattle.meaning.specs.Listings.{Answer, found, end, refused, Call, handed, moved, answered, OfKind}
use Rattle.answers.specs.Operations.{Told, told, turned, asks}
use Rattle.points.specs.Stores.{store_of, go_told, set_told, drop_told, went_is, kept_is}
use Rattle.points.specs.Calls.{PointCall, set_point, go_to, drop_point, PointAnswer, given, left_by}
use Rattle.across.specs.declared.BookAnswer.{BookAnswer}
use Rattle.across.specs.declared.Amount.{Amount}
use Rattle.across.specs.declared.VerdictAnswer.{VerdictAnswer}
use Rattle.across.specs.declared.PairAnswer.{PairAnswer}
use Rattle.across.specs.declared.Done.{Done}

-- The version as one number, 100 for each whole version and 1 for each part of one: 2.5.
abbrev pub version_number : ℕ
version_number = 205

-- The pair beside an answer that has none.
unfoldable pub no_pair : Pair
no_pair = record { taken = 0; held = 0; denied = 0 }

-- Of Read: the edition, n and the five counts. What is reserved is 0.
unfoldable pub book_in : Result Shape Refusal → BookAnswer
book_in (Ok s) = record {
  refusal = 0;
  edition = 1;
  line = 0;
  statements = s.statements;
  plain = s.plain;
  exceptions = s.exceptions;
  preferences = s.preferences;
  conditionals = s.conditionals;
  alternatives = s.alternatives;
  reserved = replicate 2 0;
}
book_in (Err q) = record {
  refusal = q.number;
  edition = 0;
  line = q.line;
  statements = 0;
  plain = 0;
  exceptions = 0;
  preferences = 0;
  conditionals = 0;
  alternatives = 0;
  reserved = replicate 2 0;
}

-- Of Write, Line and pages: how many.
unfoldable pub amount_in : Told ℕ → Amount
amount_in (told k) = record { refusal = 0; line = 0; amount = k }
amount_in (turned q l) = record { refusal = q; line = l; amount = 0 }

-- Of Judge: the verdict.
unfoldable pub verdict_in : Told ℕ → VerdictAnswer
verdict_in (told k) = record { refusal = 0; verdict = k; line = 0 }
verdict_in (turned q l) = record { refusal = q; verdict = 0; line = l }

-- Of First and After: found 1 and the pair, or found 0 at the End.
unfoldable pub answer_in : Answer → PairAnswer
answer_in (found p) = record { refusal = 0; found = 1; line = 0; pair = p }
answer_in end = record { refusal = 0; found = 0; line = 0; pair = no_pair }
answer_in (refused q l) = record { refusal = q; found = 0; line = l; pair = no_pair }

-- Of Set and Drop: that it is done. Of Go: found 1 and the pair.
unfoldable pub done_of : Result ⊤ Refusal → Done
done_of (Ok x) = record { refusal = 0; line = 0 }
done_of (Err q) = record { refusal = q.number; line = q.line }

unfoldable pub gone_of : Result Pair Refusal → PairAnswer
gone_of (Ok p) = answer_in (found p)
gone_of (Err q) = answer_in (refused q.number q.line)

-- ---- the way back: what a program in C reads off a struct
unfoldable pub verdict_from : VerdictAnswer → Told ℕ
verdict_from r = pick (eqb r.refusal 0) (told r.verdict) (turned r.refusal r.line)

unfoldable pub answer_from : PairAnswer → Answer
answer_from r = pick (eqb r.refusal 0) (pick (eqb r.found 0) end (found r.pair)) (refused r.refusal r.line)

unfoldable pub gone_from : PairAnswer → Told Pair
gone_from r = pick (eqb r.refusal 0) (told r.pair) (turned r.refusal r.line)

-- The structs rs are what a program in C gets for the calls cs of a listing of the book's text bs, made one after the other from the point: each
-- call is of its kind at the point; its struct is what the contract of First or of After says of it; the next call finds the point as it is read
-- off that struct.
abbrev pub HandedBack : Book → List ℕ → List Call → Point → List PairAnswer → Type 0
HandedBack b bs [] from [] = Unit {0}
HandedBack b bs [] from (r ∷ rs) = ⊥
HandedBack b bs (c ∷ cs) from [] = ⊥
HandedBack b bs (c ∷ cs) from (r ∷ rs) = OfKind b 0 c from × (r ≡ answer_in (answered (asks bs) c from)) × HandedBack b bs cs (moved (answer_from r) from) rs

-- The pairs read off the structs.
unfoldable pub pairs_from : List PairAnswer → List Pair
pairs_from [] = []
pairs_from (r ∷ rs) = handed (answer_from r) ++ pairs_from rs

-- ---- a store
-- What a program in C gets for a call of Set, Go or Drop: a struct of either kind.
pub data PointStruct : Type 0 where
  done : Done → PointStruct
  gone : PairAnswer → PointStruct

-- The struct of each call on the bytes of a store, by the contracts of the three functions.
unfoldable pub struct_to : List ℕ → PointCall → PointStruct
struct_to bs (set_point n p) = done (done_of (kept_is (set_told (store_of bs) n p)))
struct_to bs (go_to n) = gone (gone_of (went_is (go_told (store_of bs) n)))
struct_to bs (drop_point n) = done (done_of (kept_is (drop_told (store_of bs) n)))

-- What it reads off the struct.
unfoldable pub point_from : PointStruct → PointAnswer
point_from (done r) = pick (eqb r.refusal 0) (told none) (turned r.refusal r.line)
point_from (gone r) = given some (gone_from r)

-- The structs rs are what a program in C gets for the calls cs on the store bs, made one after the other: each is what the contract of its function
-- says, and the next call finds the bytes that the one before has left.
abbrev pub StoreBack : List ℕ → List PointCall → List PointStruct → Type 0
StoreBack bs [] [] = Unit {0}
StoreBack bs [] (r ∷ rs) = ⊥
StoreBack bs (c ∷ cs) [] = ⊥
StoreBack bs (c ∷ cs) (r ∷ rs) = (r ≡ struct_to bs c) × StoreBack (left_by bs c) cs rs
