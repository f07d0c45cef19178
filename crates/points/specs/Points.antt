-- Named stopping points (document 02, request (h)): what a store is, and what Set, Go and Drop answer and leave, in the request's words.
use Rattle.std.specs.Prelude.{ℕ, ◌*◌, ◌-◌, ◌<◌, ◌≤◌, ◌^◌, List, [], ◌∷◌, ◌++◌, ◌⊎◌, ◌↔◌, ◌≡◌, length, replicate}
use Rattle.logic.specs.Lists.{Every, Among}
use Rattle.sets.specs.declared.Pair.{Pair}
use Rattle.answers.specs.Operations.{Told}
use Rattle.answers.specs.Operations.Told.{told, turned}
use Rattle.entry.specs.Names.{Spelt, Precedes}
use Rattle.entry.specs.Bytes.{entry_row}

-- ---- a store
-- A name with its pair.
pub record Entry : Type 0 where
  pub name : List ℕ
  pub pair : Pair

-- The bytes of entries; the store of entries: packed from the start, zeros behind.
unfoldable pub entry_rows : List Entry → List ℕ
entry_rows [] = []
entry_rows (e ∷ es) = entry_row e.name e.pair ++ entry_rows es

unfoldable pub packed : List Entry → List ℕ
packed es = entry_rows es ++ replicate (1024 - length es * 32) 0

-- In strictly ascending order of name: each comes before all that follow it.
abbrev pub Ascending : List Entry → Type 0
Ascending [] = Unit {0}
Ascending (e ∷ es) = Every (λ (d : Entry). Precedes e.name d.name) es × Ascending es

-- Three numbers of 8 bytes.
pub record Fits (p : Pair) : Type 0 where
  pub taken : p.taken < 2 ^ 64
  pub held : p.held < 2 ^ 64
  pub denied : p.denied < 2 ^ 64

-- The bytes are the store of these entries.
pub record Store (bs : List ℕ) (es : List Entry) : Type 0 where
  pub bytes : bs ≡ packed es
  pub few : length es ≤ 32
  pub named : Every (λ (e : Entry). Spelt e.name) es
  pub ascending : Ascending es
  pub fits : Every (λ (e : Entry). Fits e.pair) es

-- The pair p stands under the name n; none does.
abbrev pub Under : List Entry → List ℕ → Pair → Type 0
Under es n p = Among (record { name = n; pair = p }) es

abbrev pub Absent : List Entry → List ℕ → Type 0
Absent es n = (p : Pair) → Under es n p → ⊥

-- ---- the operations
-- The answer x of an operation on a store and a name: 24 where the bytes are no store, first of all; then 25 where the name is misspelt; else the
-- bytes are the store of some entries, the name is spelt as it should be, and x is right of the entries.
pub data OfStore {A : Type 0} (right : List Entry → Told A → Type 0) (bs n : List ℕ) : Told A → Type 0 where
  no_store : ((es : List Entry) → Store bs es → ⊥) → OfStore right bs n (turned 24 0)
  misspelt : (es : List Entry) → Store bs es → (Spelt n → ⊥) → OfStore right bs n (turned 25 0)
  named : (es : List Entry) (x : Told A) → Store bs es → Spelt n → right es x → OfStore right bs n x

-- Of Go: the pair under the name, or 25.
abbrev pub Goes : List ℕ → List Entry → Told Pair → Type 0
Goes n es (told p) = Under es n p
Goes n es (turned q line) = Absent es n × (q ≡ 25) × (line ≡ 0)

-- Of Set: a store that has p under n, and under every other name what was there; or 26 where there are 32 other names.
abbrev pub Sets : List ℕ → Pair → List Entry → Told (List Entry) → Type 0
Sets n p es (told ds) = ((Absent es n → ⊥) ⊎ (length es < 32)) × Store (packed ds) ds × ((m : List ℕ) (q : Pair) → Under ds m q ↔ (((m ≡ n) × (q ≡ p)) ⊎ ((m ≡ n → ⊥) × Under es m q)))
Sets n p es (turned q line) = Absent es n × (length es ≡ 32) × (q ≡ 26) × (line ≡ 0)

-- Of Drop: a store that has nothing under n, and under every other name what was there (it is packed, so the gap is closed); or 25.
abbrev pub Drops : List ℕ → List Entry → Told (List Entry) → Type 0
Drops n es (told ds) = (Absent es n → ⊥) × Store (packed ds) ds × ((m : List ℕ) (q : Pair) → Under ds m q ↔ ((m ≡ n → ⊥) × Under es m q))
Drops n es (turned q line) = Absent es n × (q ≡ 25) × (line ≡ 0)

-- The bytes that Set and Drop leave: the store of the entries left; after a refusal the bytes as they were.
unfoldable pub leaves : List ℕ → Told (List Entry) → List ℕ
leaves bs (told es) = packed es
leaves bs (turned q line) = bs
