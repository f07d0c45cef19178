-- The promise of request (h) for programs in C: whatever list of calls of `bantameasel_set`, `bantameasel_go` and `bantameasel_drop` a program makes on a
-- store, what it reads off the structs that they hand back is what is remembered of the calls.
use mathlib.Core.Path.{◌≡◌, ◌∙◌}
use mathlib.Core.Option.{some}
use mathlib.Core.List.{List, map}
use Prim.Native.Nat.{ℕ}
use Rattle.logic.specs.Lists.{Every}
use Rattle.sets.specs.declared.Pair.{Pair}
use Rattle.meaning.specs.Listings.{found}
use Rattle.points.specs.Stores.{store_of, go_told, went_is}
use Rattle.points.specs.Calls.{PointCall, Note, last_set, remembered_all, notes_after, left_by_all, Sized, LeftBy}
use Rattle.points.proofs.Memory.{all-remembered, last_set_lem}
use Rattle.across.specs.Across.{answer_from, gone_of, PointStruct, point_from, StoreBack}
use Rattle.across.proofs.Across.{all_back, gone-found}
use Rattle.bantameasel.proofs.bantameasel_set.Statement as set-c
use Rattle.bantameasel.proofs.bantameasel_set.Met as set-met
use Rattle.bantameasel.proofs.bantameasel_go.Statement as go-c
use Rattle.bantameasel.proofs.bantameasel_go.Met as go-met
use Rattle.bantameasel.proofs.bantameasel_drop.Statement as drop-c
use Rattle.bantameasel.proofs.bantameasel_drop.Met as drop-met

-- What the three C functions are proved to meet; and of every list of calls on a store that noted calls have left from an empty one, with the structs
-- that they hand back: the answers are the remembered ones, and the bytes then are what the notes have left. What is read off the struct of Go is the
-- pair last set, so that a listing goes on from it with all of demand 3 (Demand3, from the point after that pair).
pub record Claim (M : Type 1) : Type 2 where
  pub set-meets : set-c.statement M
  pub go_meets : go-c.statement M
  pub drop-meets : drop-c.statement M
  pub remembered : (h : List Note) (bs : List ℕ) → LeftBy h bs → (cs : List PointCall) → Every Sized cs → (rs : List PointStruct) → StoreBack bs cs rs
      → (map point_from rs ≡ remembered_all h cs) × LeftBy (notes_after h cs) (left_by_all bs cs)
  pub found-again : (h : List Note) (bs n : List ℕ) (p : Pair) → LeftBy h bs → last_set n h ≡ some p → answer_from (gone_of (went_is (go_told (store_of bs) n))) ≡ found p

pub claim : {M : Type 1} → Claim M
claim = record {
  set-meets = set-met.met;
  go_meets = go-met.met;
  drop-meets = drop-met.met;
  remembered = λ h bs l cs f rs b. let r = all-remembered cs h bs l f in (all_back cs bs rs b ∙ r.0, r.1);
  found-again = λ h bs n p l e. gone-found (go_told (store_of bs) n) p (last_set_lem h bs n p l e);
}
