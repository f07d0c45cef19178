-- What Set, Go and Drop answer, computed: how the bytes of a store are read, what is made of the entries, and the refusals in their order. That this
-- is what Points says is proved in proofs/Means.
use Rattle.std.specs.Prelude.{ℕ, zero, suc, ◌*◌, Bool, List, [], ◌∷◌, ◌≡◌, eqb, length, take, drop}
use Rattle.std.proofs.Math.Option.{Option, some, none}
use Rattle.logic.specs.Tests.{pick}
use Rattle.sets.specs.declared.Pair.{Pair}
use Rattle.answers.specs.Operations.{Told}
use Rattle.answers.specs.Operations.Told.{told, turned}
use Rattle.points.specs.Points.{Entry, OfStore, leaves}
use Rattle.entry.specs.Names.{name_spelt, is_name, before, compare_to, same_name}
use Rattle.entry.specs.Bytes.{pair_of, zeros}
use Rattle.std.specs.declared.cmp.Ordering.{Ordering}
use Rattle.std.specs.declared.cmp.Ordering.TheVariants.{Less, Equal, Greater}
use Rattle.std.specs.Prelude.{Result, Ok, Err, Option as Maybe, Some, None}
use Rattle.text.specs.declared.Refusal.{Refusal}

-- ---- how bytes are read
-- The name of entry k, the name of the entry before it, and that it is greater. Nothing comes before the first.
unfoldable pub name_at : List ℕ → ℕ → List ℕ
name_at s k = take 8 (drop (k * 32) s)

unfoldable pub name_before : List ℕ → ℕ → List ℕ
name_before s zero = []
name_before s (suc k) = name_at s k

unfoldable pub rises : List ℕ → ℕ → Bool
rises s k = before (name_before s k) (name_at s k)

-- The first m pieces of 32 bytes as entries.
unfoldable pub entry_of : List ℕ → Entry
entry_of bs = record { name = take 8 bs; pair = pair_of (drop 8 bs) }

unfoldable pub entries_of : ℕ → List ℕ → List Entry
entries_of zero bs = []
entries_of (suc m) bs = entry_of bs ∷ entries_of m (drop 32 bs)

-- m pieces, after k entries of which a is the last name: a name that rises is one more entry; else all must be zeros.
unfoldable pub count_from : ℕ → ℕ → List ℕ → List ℕ → Maybe ℕ
count_from zero k a bs = Some k
count_from (suc m) k a bs = pick (name_spelt (take 8 bs)) (pick (before a (take 8 bs)) (count_from m (suc k) (take 8 bs) (drop 32 bs)) None) (pick (zeros bs) (Some k) None)

unfoldable pub entry_count : List ℕ → Maybe ℕ
entry_count bs = pick (eqb (length bs) 1024) (count_from 32 0 [] bs) None

-- What bytes hold: the entries of a store, or nothing.
pub data Contents : Type 0 where
  holds : List Entry → Contents
  nothing : Contents

unfoldable pub held_of : Maybe ℕ → List ℕ → Contents
held_of (Some k) bs = holds (entries_of k bs)
held_of None bs = nothing

unfoldable pub store_of : List ℕ → Contents
store_of bs = held_of (entry_count bs) bs

-- ---- names in lists of entries
-- The pair under a name, or none.
unfoldable pub lookup : List Entry → List ℕ → Option Pair
lookup [] n = none
lookup (e ∷ es) n = pick (same_name e.name n) (some e.pair) (lookup es n)

-- By the order of e's name and the new one.
unfoldable pub by_order : {A : Type 0} → Ordering → A → A → A → A
by_order Less a b c = a
by_order Equal a b c = b
by_order Greater a b c = c

-- The name set, in its place; the name dropped.
unfoldable pub set_in : List Entry → List ℕ → Pair → List Entry
set_in [] n p = record { name = n; pair = p } ∷ []
set_in (e ∷ es) n p = by_order (compare_to e.name n) (e ∷ set_in es n p) (record { name = n; pair = p } ∷ es) (record { name = n; pair = p } ∷ e ∷ es)

unfoldable pub drop_in : List Entry → List ℕ → List Entry
drop_in [] n = []
drop_in (e ∷ es) n = pick (same_name e.name n) es (e ∷ drop_in es n)

-- Where a name is, entries counted from i.
unfoldable pub find_in : List Entry → ℕ → List ℕ → Result ℕ ℕ
find_in [] i n = Err i
find_in (e ∷ es) i n = by_order (compare_to e.name n) (find_in es (suc i) n) (Ok i) (Err i)

-- How many entries there are, and where a name is among them.
unfoldable pub locate_in : Maybe ℕ → List ℕ → List ℕ → Result (ℕ × Result ℕ ℕ) Refusal
locate_in None bs n = Err (record { number = 24; line = 0 })
locate_in (Some k) bs n = pick (is_name n) (Ok (k, find_in (entries_of k bs) 0 n)) (Err (record { number = 25; line = 0 }))

-- ---- what the operations answer
unfoldable pub if_there : {A : Type 0} → Option Pair → (Pair → A) → A → A
if_there (some p) f a = f p
if_there none f a = a

-- 24, then 25 for a misspelt name, then what the entries give.
unfoldable pub on_store : {A : Type 0} → Contents → List ℕ → (List Entry → Told A) → Told A
on_store nothing n f = turned 24 0
on_store (holds es) n f = pick (is_name n) (f es) (turned 25 0)

unfoldable pub go_told : Contents → List ℕ → Told Pair
go_told h n = on_store h n (λ es. if_there (lookup es n) told (turned 25 0))

unfoldable pub set_told : Contents → List ℕ → Pair → Told (List Entry)
set_told h n p = on_store h n (λ es. if_there (lookup es n) (λ q. told (set_in es n p)) (pick (eqb (length es) 32) (turned 26 0) (told (set_in es n p))))

unfoldable pub drop_told : Contents → List ℕ → Told (List Entry)
drop_told h n = on_store h n (λ es. if_there (lookup es n) (λ q. told (drop_in es n)) (turned 25 0))

-- The answers as the operations give them.
unfoldable pub went_is : Told Pair → Result Pair Refusal
went_is (told p) = Ok p
went_is (turned q line) = Err (record { number = q; line = line })

-- And the other way, of Go.
unfoldable pub went_told : Result Pair Refusal → Told Pair
went_told (Ok p) = told p
went_told (Err q) = turned q.number q.line

unfoldable pub kept_is : {A : Type 0} → Told A → Result (Unit {0}) Refusal
kept_is (told x) = Ok tt
kept_is (turned q line) = Err (record { number = q; line = line })

-- An operation that changes the store has met its definition: its answer, and the bytes at exit.
pub record Met (bs : List ℕ) (t : Told (List Entry)) (r : Result (Unit {0}) Refusal) (bs' : List ℕ) : Type 0 where
  pub answer : r ≡ kept_is t
  pub store : bs' ≡ leaves bs t

-- And what it has done is right: its answer, in the form that the caller gets, and the bytes at exit are those of what Points allows.
pub record Meant {R : Type 0} (form : Told (List Entry) → R) (right : List Entry → Told (List Entry) → Type 0) (bs n : List ℕ) (r : R) (bs' : List ℕ) : Type 0 where
  pub gives : Told (List Entry)
  pub means : OfStore right bs n gives
  pub answer : r ≡ form gives
  pub store : bs' ≡ leaves bs gives
