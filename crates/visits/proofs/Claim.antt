-- Request (h), whole, about the engine's own Set, Go and Drop: what these functions are proved to meet, and the function that makes any list of calls
-- through them (the promise is its contract: `Keeping`, and in it `KeptAll`); and going on from a name, by one step and with a whole listing.
use Rattle.points.proofs.set_point.Statement as set-point
use Rattle.points.proofs.set_point.Met as set-point-met
use Rattle.points.proofs.go_to.Statement as go-to
use Rattle.points.proofs.go_to.Met as go-to-met
use Rattle.points.proofs.drop_point.Statement as drop-point
use Rattle.points.proofs.drop_point.Met as drop-point-met
use Rattle.visits.proofs.keep.Statement as keep
use Rattle.visits.proofs.keep.Met as keep-met
use Rattle.visits.proofs.go_on.Statement as go_on
use Rattle.visits.proofs.go_on.Met as go-on-met
use Rattle.visits.proofs.list_on.Statement as list_on
use Rattle.visits.proofs.list_on.Met as list-on-met

pub record Claim (M : Type 1) : Type 2 where
  pub set-meets : set-point.statement M
  pub go_meets : go-to.statement M
  pub drop-meets : drop-point.statement M
  pub keep_meets : keep.statement M
  pub go-on-meets : go_on.statement M
  pub list-on-meets : list_on.statement M

pub claim : {M : Type 1} → Claim M
claim = record {
  set-meets = set-point-met.met;
  go_meets = go-to-met.met;
  drop-meets = drop-point-met.met;
  keep_meets = keep-met.met;
  go-on-meets = go-on-met.met;
  list-on-meets = list-on-met.met;
}
