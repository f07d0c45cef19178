-- Lists of calls of Set, Go and Drop on one store, made one after the other, and the promise about them (document 02, request (h)): 'After any list of
-- these calls from an empty store, Go gives the pair last set under that name and not dropped since; a refused call changes nothing.'
use Rattle.std.specs.Prelude.{ℕ, suc, ◌-◌, List, [], ◌∷◌, eqb, replicate}
use Rattle.std.proofs.Math.Option.{Option, some, none}
use Rattle.logic.specs.Tests.{pick}
use Rattle.sets.specs.declared.Pair.{Pair}
use Rattle.answers.specs.Operations.{Told}
use Rattle.answers.specs.Operations.Told.{told, turned}
use Rattle.entry.specs.Names.{is_name, same_name}
use Rattle.std.specs.Prelude.{Result, Ok, Err}
use Rattle.text.specs.declared.Refusal.{Refusal}
use Rattle.points.specs.Points.{Entry, Fits, leaves}
use Rattle.points.specs.Stores.{store_of, if_there, go_told, set_told, drop_told}

-- ---- calls
pub data PointCall : Type 0 where
  set_point : List ℕ → Pair → PointCall
  go_to : List ℕ → PointCall
  drop_point : List ℕ → PointCall

-- An answer: Go's pair (`told (some p)`); Set or Drop done (`told none`); a refusal's number and line.
abbrev pub PointAnswer : Type 0
PointAnswer = Told (Option Pair)

unfoldable pub given : {A : Type 0} → (A → Option Pair) → Told A → PointAnswer
given f (told x) = told (f x)
given f (turned q line) = turned q line

-- What a call answers on the bytes of a store, and the bytes that it leaves: the contracts of Set, Go and Drop.
unfoldable pub point_answer : List ℕ → PointCall → PointAnswer
point_answer bs (set_point n p) = given (λ (es : List Entry). none) (set_told (store_of bs) n p)
point_answer bs (go_to n) = given some (go_told (store_of bs) n)
point_answer bs (drop_point n) = given (λ (es : List Entry). none) (drop_told (store_of bs) n)

unfoldable pub left_by : List ℕ → PointCall → List ℕ
left_by bs (set_point n p) = leaves bs (set_told (store_of bs) n p)
left_by bs (go_to n) = bs
left_by bs (drop_point n) = leaves bs (drop_told (store_of bs) n)

-- The answers as Set, Drop and Go give them.
unfoldable pub kept_answer : Result (Unit {0}) Refusal → PointAnswer
kept_answer (Ok x) = told none
kept_answer (Err q) = turned q.number q.line

unfoldable pub went_answer : Result Pair Refusal → PointAnswer
went_answer (Ok p) = told (some p)
went_answer (Err q) = turned q.number q.line

-- What calls answer and leave that are made one after the other.
unfoldable pub point_answers : List ℕ → List PointCall → List PointAnswer
point_answers bs [] = []
point_answers bs (c ∷ cs) = point_answer bs c ∷ point_answers (left_by bs c) cs

unfoldable pub left_by_all : List ℕ → List PointCall → List ℕ
left_by_all bs [] = bs
left_by_all bs (c ∷ cs) = left_by_all (left_by bs c) cs

-- ---- what is remembered of calls, with no store: the notes of a list of calls, the last one first
pub record Note : Type 0 where
  pub call : PointCall
  pub answer : PointAnswer

-- The pair last set under a name and not dropped since; m before the call. A refused call changes nothing.
unfoldable pub set_or_dropped : List ℕ → PointCall → PointAnswer → Option Pair → Option Pair
set_or_dropped n c (turned q line) m = m
set_or_dropped n (set_point k p) (told x) m = pick (same_name k n) (some p) m
set_or_dropped n (go_to k) (told x) m = m
set_or_dropped n (drop_point k) (told x) m = pick (same_name k n) none m

unfoldable pub last_set : List ℕ → List Note → Option Pair
last_set n [] = none
last_set n (a ∷ h) = set_or_dropped n a.call a.answer (last_set n h)

-- How many names there are: a name set that was not there is one more, a name dropped one less. k before the call, with the notes before it.
unfoldable pub names_by : PointCall → PointAnswer → List Note → ℕ → ℕ
names_by c (turned q line) h k = k
names_by (set_point n p) (told x) h k = if_there (last_set n h) (λ (q : Pair). k) (suc k)
names_by (go_to n) (told x) h k = k
names_by (drop_point n) (told x) h k = k - 1

unfoldable pub names : List Note → ℕ
names [] = 0
names (a ∷ h) = names_by a.call a.answer h (names h)

-- What a call should answer after these notes: 25 for a misspelt name, and for an absent one of Go and Drop; 26 where Set meets 32 other names;
-- the pair last set and not dropped since.
unfoldable pub remembered : List Note → PointCall → PointAnswer
remembered h (set_point n p) = pick (is_name n) (if_there (last_set n h) (λ (q : Pair). told none) (pick (eqb (names h) 32) (turned 26 0) (told none))) (turned 25 0)
remembered h (go_to n) = pick (is_name n) (if_there (last_set n h) (λ (q : Pair). told (some q)) (turned 25 0)) (turned 25 0)
remembered h (drop_point n) = pick (is_name n) (if_there (last_set n h) (λ (q : Pair). told none) (turned 25 0)) (turned 25 0)

-- The same of calls made one after the other, and the notes then.
unfoldable pub remembered_all : List Note → List PointCall → List PointAnswer
remembered_all h [] = []
remembered_all h (c ∷ cs) = remembered h c ∷ remembered_all (record { call = c; answer = remembered h c } ∷ h) cs

unfoldable pub notes_after : List Note → List PointCall → List Note
notes_after h [] = h
notes_after h (c ∷ cs) = notes_after (record { call = c; answer = remembered h c } ∷ h) cs

-- ---- the promise
-- 1,024 zeros.
unfoldable pub empty_store : List ℕ
empty_store = replicate 1024 0

-- A pair of three 64-bit numbers, as every pair is that a program passes.
unfoldable pub Sized : PointCall → Type 0
Sized (set_point n p) = Fits p
Sized (go_to n) = Unit {0}
Sized (drop_point n) = Unit {0}

-- These bytes are what the noted calls have left, made one after the other from an empty store, and the notes have their answers.
pub data LeftBy : List Note → List ℕ → Type 0 where
  at_first : LeftBy [] empty_store
  then_called : (h : List Note) (bs : List ℕ) (c : PointCall) → LeftBy h bs → Sized c → LeftBy (record { call = c; answer = point_answer bs c } ∷ h) (left_by bs c)
