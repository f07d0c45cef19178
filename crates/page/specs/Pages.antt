-- What the search promises: a page, the first so many pairs of a list in a lent slice; and what settling a statement and trying its values need.
use Rattle.std.specs.Prelude.{Option, Some, None, ◌≡◌, ℕ, zero, suc, ◌+◌, ◌-◌, ◌*◌, ◌<◌, ◌≤◌, Bool, true, List, [], ◌∷◌, length, take, slice_index}
use Rattle.std.proofs.lemmas.List.Edits.{sets}
use Rattle.logic.specs.Lists.{Among}
use Rattle.logic.specs.Tests.{Decides, keep}
use Rattle.sets.specs.declared.Pair.{Pair}
use Rattle.sets.specs.Pairs.{flat}
use Rattle.sets.specs.Sets.{Apart}
use Rattle.masks.specs.declared.Bounds.{Bounds}
use Rattle.masks.specs.Views.{MaskView}
use Rattle.bounds.specs.Sound.{In}
use Rattle.meaning.specs.Order.{value as value_at}
use Rattle.page.specs.Sought.{Sought}
use Rattle.page.specs.declared.Node.{Node}
use Rattle.page.specs.declared.Stretch.{Stretch}
use Rattle.page.specs.Orders.{bare, given, tried, all_from, passes, list_from}

-- ---- pages
-- From place `at` on the slice has the first pairs of xs, as many as there is room for up to `cap`; the place after them is r, nothing else changes.
pub record Page (cap at : ℕ) (o o' : List ℕ) (xs : List Pair) (r : ℕ) : Type 0 where
  pub count : r ≡ at + length (take (cap - at) xs)
  pub filled : o' ≡ sets o (at * 3) (flat (take (cap - at) xs))

-- The pair at a place of a page, and the k pairs from there on.
unfoldable pub pair_at : List ℕ → ℕ → Pair
pair_at l i = record { taken = slice_index l (i * 3); held = slice_index l (i * 3 + 1); denied = slice_index l (i * 3 + 2) }

unfoldable pub pairs_in : List ℕ → ℕ → ℕ → List Pair
pairs_in l i zero = []
pairs_in l i (suc k) = pair_at l i ∷ pairs_in l (suc i) k

-- The test g decides for every pair of the list whether it has the property P: that it is a view, or one of those that are wanted.
pub record Tests (P : Pair → Type 0) (xs : List Pair) (g : Pair → Bool) : Type 0 where
  pub right : (v : Pair) → Among v xs → Decides (g v) (P v)

-- Of the list only views pass the test g.
pub record Picks (ws : List ℕ) (n : ℕ) (ranks : List ℕ) (xs : List Pair) (g : Pair → Bool) : Type 0 where
  pub view : (v : Pair) → Among v xs → g v ≡ true → MaskView ws n ranks v

-- ---- a statement's value within bounds
-- The pair is coherent and has the value w at statement i; the pair is a view and has it.
pub record Giving (i w : ℕ) (v : Pair) : Type 0 where
  pub coherent : Apart v.held v.denied
  pub gives : value_at v i ≡ w

pub record ViewGiving (ws : List ℕ) (n : ℕ) (ranks : List ℕ) (i w : ℕ) (v : Pair) : Type 0 where
  pub view : MaskView ws n ranks v
  pub gives : value_at v i ≡ w

-- No view is within the bounds.
pub record Barren (ws : List ℕ) (n : ℕ) (ranks : List ℕ) (b : Bounds) : Type 0 where
  pub none : (v : Pair) → MaskView ws n ranks v → In b v → ⊥

-- Every pair that passes the test g and differs from the settled pair at most at the last `left` of n statements is within the bounds.
pub record Covers (g : Pair → Bool) (n left : ℕ) (p : Pair) (b : Bounds) : Type 0 where
  pub kept : (v : Pair) → g v ≡ true → Among v (all_from n left p) → In b v

-- ---- the search
-- The words and the ranks are those of the task's rules, and its statements are numbers of a word.
pub record Suits (ws ranks : List ℕ) (q : Sought) : Type 0 where
  pub rules : q.rules * 8 ≤ length ws
  pub ranked : length ranks ≤ 64
  pub few : q.statements ≤ 64

-- And the page has the task's room, with the place `at` in it or at its end.
pub record Fits (ws ranks o : List ℕ) (q : Sought) (at : ℕ) : Type 0 where
  pub suits : Suits ws ranks q
  pub place : at ≤ q.room
  pub long : q.room * 3 ≤ length o

-- The search can go on with `left` statements to settle.
pub record Ready (ws ranks o : List ℕ) (q : Sought) (left at : ℕ) : Type 0 where
  pub fits : Fits ws ranks o q at
  pub unsettled : left ≤ q.statements

-- The bounds of the node d, where `left` statements are to be settled, lose no pair that passes. The code need not know it: pages are promised where it is so.
abbrev pub Covered : (Pair → Bool) → Sought → ℕ → Node → Type 0
Covered g q left d = Covers g q.statements left d.pair d.bounds

-- Of the pairs xs those that pass at the node d, where `left` statements are to be settled.
abbrev pub passing : (Pair → Bool) → Sought → ℕ → Node → List Pair → List Pair
passing g q left d xs = keep (passes g q.statements q.point left d.equal) xs

-- Settling the last `left` statements from the node d: the page of all pairs with the property P that come from there.
pub record Settled (P : Pair → Type 0) (q : Sought) (left : ℕ) (d : Node) (at : ℕ) (o o' : List ℕ) (r : ℕ) : Type 0 where
  pub most : r ≤ q.room
  pub page : (g : Pair → Bool) → Tests P (all_from q.statements left d.pair) g → Covered g q left d
      → Page q.room at o o' (passing g q left d (all_from q.statements left d.pair)) r

-- What a node's bounds have settled of the statements ahead: the pair has more of its values, and fewer statements are left. Every pair that comes from
-- there comes from the node, and of those from the node none else passes a test that the bounds lose nothing of. The point's own branch goes no further.
pub record GoneOn (n left : ℕ) (d : Node) (r : Stretch) : Type 0 where
  pub fewer : r.left ≤ left
  pub own : d.equal ≡ true → (r.left ≡ left) × (r.pair ≡ d.pair)
  pub among : (u : Pair) → Among u (all_from n r.left r.pair) → Among u (all_from n left d.pair)
  pub kept : (g : Pair → Bool) → Covers g n left d.pair d.bounds → keep g (all_from n left d.pair) ≡ keep g (all_from n r.left r.pair)

-- The pairs that come from the node d with the last v values tried at a statement that `left` others follow.
abbrev pub tried_from : Sought → ℕ → ℕ → Node → List Pair
tried_from q left v d = tried (λ p. all_from q.statements left p) d.pair (q.statements - left) v

-- Trying these values: the page of those with the property among them.
pub record Tried (P : Pair → Type 0) (q : Sought) (left v : ℕ) (d : Node) (at : ℕ) (o o' : List ℕ) (r : ℕ) : Type 0 where
  pub most : r ≤ q.room
  pub page : (g : Pair → Bool) → Tests P (tried_from q left v d) g → Covered g q (suc left) d
      → Page q.room at o o' (passing g q (suc left) d (tried_from q left v d)) r

-- The pairs that come from the node d with the value w at the statement.
abbrev pub branch_from : Sought → ℕ → ℕ → Node → List Pair
branch_from q left w d = all_from q.statements left (given d.pair (q.statements - left) w)

-- Trying this value: the page of those with the property among them.
pub record TriedOne (P : Pair → Type 0) (q : Sought) (left w : ℕ) (d : Node) (at : ℕ) (o o' : List ℕ) (r : ℕ) : Type 0 where
  pub most : r ≤ q.room
  pub page : (g : Pair → Bool) → Tests P (branch_from q left w d) g → Covered g q (suc left) d
      → Page q.room at o o' (passing g q (suc left) d (branch_from q left w d)) r

-- What a branch needs: the statement is one of the book's, the value one of three.
pub record BranchReady (ws ranks : List ℕ) (q : Sought) (left w : ℕ) : Type 0 where
  pub suits : Suits ws ranks q
  pub unsettled : left < q.statements
  pub value : w ≤ 2

-- The node c goes on from d with the value w: it has that value, its bounds lose no view that passes where those of d lose none, and what is later
-- than the point stays so.
pub record Child (ws ranks : List ℕ) (q : Sought) (left w : ℕ) (d c : Node) : Type 0 where
  pub pair : c.pair ≡ given d.pair (q.statements - left) w
  pub covers : (g : Pair → Bool) → Picks ws q.rules ranks (branch_from q left w d) g → Covered g q (suc left) d → Covered g q left c
  pub same : (g : Pair → Bool) → passing g q (suc left) d (branch_from q left w d) ≡ passing g q left c (all_from q.statements left c.pair)

-- The branch of the value w: where it is cut nothing is lost, where it is open it goes on.
pub record Branched (ws ranks : List ℕ) (q : Sought) (left w : ℕ) (d : Node) (r : Option Node) : Type 0 where
  pub cut : r ≡ None → (g : Pair → Bool) → Picks ws q.rules ranks (branch_from q left w d) g → Covered g q (suc left) d
      → passing g q (suc left) d (branch_from q left w d) ≡ []
  pub opened : (c : Node) → r ≡ Some c → Child ws ranks q left w d c

-- The node begins a search for the pairs with these exceptions within the bounds b; where t is true it is the point's own.
pub record Started (exceptions : ℕ) (b : Bounds) (t : Bool) (d : Node) : Type 0 where
  pub own : d.equal ≡ t
  pub pair : d.pair ≡ bare exceptions
  pub bounds : d.bounds ≡ b

-- The page of all pairs with these exceptions that have the property P, where t is true of those later than the point, if none is beyond the bounds b.
pub record Listed (P : Pair → Type 0) (q : Sought) (exceptions : ℕ) (b : Bounds) (t : Bool) (at : ℕ) (o o' : List ℕ) (r : ℕ) : Type 0 where
  pub most : r ≤ q.room
  pub page : (g : Pair → Bool) → Tests P (all_from q.statements q.statements (bare exceptions)) g
      → Covers g q.statements q.statements (bare exceptions) b
      → Page q.room at o o' (list_from g q.statements q.point q.statements t (bare exceptions)) r
