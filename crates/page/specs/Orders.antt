-- The pairs with one set of exceptions in the order of document 01, and of these the ones that a test picks and that are later than a point.
use Rattle.std.specs.Prelude.{◌≡◌, ℕ, zero, suc, ◌-◌, ◌^◌, Bool, true, false, List, [], ◌∷◌, ◌++◌}
use Rattle.logic.specs.Lists.{Among, Every}
use Rattle.logic.specs.Tests.{both, pick, keep}
use Rattle.sets.specs.declared.Pair.{Pair}
use Rattle.sets.specs.Pairs.{join_of, minus_of}
use Rattle.page.specs.declared.Value.{Value}
use Rattle.page.specs.declared.Value.TheVariants.{Absent, Held, Denied}
use Rattle.meaning.specs.Books.{Book, Lawful}
use Rattle.meaning.specs.Order.{Ascending, Point, at, Later}
use Rattle.meaning.specs.Twins.Tables.{differs_from}

-- The value's number in the order of pairs, as `value` of Order has it.
abbrev pub number : Value → ℕ
number Absent = 0
number Held = 1
number Denied = 2

-- The pair that takes these exceptions and says nothing of any statement.
abbrev pub bare : ℕ → Pair
bare taken = record { taken = taken; held = 0; denied = 0 }

-- Both conclusions about statement i.
unfoldable pub about : ℕ → Pair
about i = record { taken = 0; held = 2 ^ (i - 1); denied = 2 ^ (i - 1) }

-- The conclusion about statement i that the value w stands for: 0 none, 1 that it is held, 2 that it is denied.
unfoldable pub said : ℕ → ℕ → Pair
said i zero = bare 0
said i (suc zero) = record { taken = 0; held = 2 ^ (i - 1); denied = 0 }
said i (suc (suc w)) = record { taken = 0; held = 0; denied = 2 ^ (i - 1) }

-- The pair p with the value w at statement i.
unfoldable pub given : Pair → ℕ → ℕ → Pair
given p i w = join_of (minus_of p (about i)) (said i w)

-- The last v of the values absent, held, denied are tried at statement i, in this order; f lists the pairs for each.
unfoldable pub tried : (Pair → List Pair) → Pair → ℕ → ℕ → List Pair
tried f p i zero = []
tried f p i (suc v) = f (given p i (3 - suc v)) ++ tried f p i v

-- All pairs that differ from p at most at the last `left` of n statements, in the order of pairs.
unfoldable pub all_from : ℕ → ℕ → Pair → List Pair
all_from n zero p = p ∷ []
all_from n (suc left) p = tried (λ q. all_from n left q) p (n - left) 3

-- The pair q passes the test g and, where t is true, is later than the point by the last `left` of n statements.
unfoldable pub passes : (Pair → Bool) → ℕ → Pair → ℕ → Bool → Pair → Bool
passes g n point left t q = both (pick t (differs_from left (suc n - left) point q) true) (g q)

-- Of all pairs that differ from p at most at the last `left` of n statements those that pass, in the order of pairs.
unfoldable pub list_from : (Pair → Bool) → ℕ → Pair → ℕ → Bool → Pair → List Pair
list_from g n point left t p = keep (passes g n point left t) (all_from n left p)

-- The pairs with these exceptions that have the property P and are later than the point, in the order of pairs, each once.
pub record PartOf (b : Book) (from : Point) (exceptions : ℕ) (P : Pair → Type 0) (xs : List Pair) : Type 0 where
  pub only : Every (λ p. Lawful b p × (p.taken ≡ exceptions) × Later from p × P p) xs
  pub all : (p : Pair) → Lawful b p → p.taken ≡ exceptions → Later from p → P p → Among p xs
  pub ascending : Ascending xs

-- The search begins at a right place for the point: where t is true at the point itself, which takes these exceptions,
-- else before all pairs with these exceptions, each of which is later than the point.
pub record Begins (b : Book) (from : Point) (exceptions : ℕ) (t : Bool) (point : Pair) : Type 0 where
  pub within : t ≡ true → (from ≡ at point) × Lawful b point × (point.taken ≡ exceptions)
  pub before : t ≡ false → (q : Pair) → q.taken ≡ exceptions → Later from q
