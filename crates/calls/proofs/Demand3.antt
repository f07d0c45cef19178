-- Demand 3, whole, about the engine's own First and After: what these functions, and the function that makes any list of calls through them,
-- are proved to meet. The sentence is the contract of `run`: `Runs`, and in it `Ran`, `Demand3` and `PointAlone`.
use Rattle.operations.proofs.first.Statement as first
use Rattle.operations.proofs.first.Met as first-met
use Rattle.operations.proofs.after.Statement as after
use Rattle.operations.proofs.after.Met as after-met
use Rattle.calls.proofs.run.Statement as run
use Rattle.calls.proofs.run.Met as run-met

-- First and After answer what `asks` names, by their contracts, and `run` makes the calls through them: every answer that it leaves is theirs.
pub record Claim (M : Type 1) : Type 2 where
  pub first-meets : first.statement M
  pub after-meets : after.statement M
  pub run-meets : run.statement M

pub claim : {M : Type 1} → Claim M
claim = record { first-meets = first-met.met; after-meets = after-met.met; run-meets = run-met.met }
