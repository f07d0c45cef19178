use Rattle.listing.proofs.Promised.{refusal-short, begins-refused, prepared-was, begins-accepted}
use native.Mathlib.Omega.{arith}
use borrow.Author.Rules.{rules}
use Rattle.listing.proofs.begin.Goals as goal

pub put_failed-requires : goal.put_failed-requires
put_failed-requires c = let k = refusal-short _ c.in-Err.q c.in-Err.ensures in (k.0, k.1, omega arith)

pub opening-part-requires : goal.opening-part-requires
opening-part-requires c = prepared-was _ _ _ _ c.in-Ok.ensures

pub returns-in-Err : goal.returns-in-Err
returns-in-Err c = begins-refused _ _ c.in-Err.ensures _ _ _ _ (omega arith) c.put_failed.auto.out c.put_failed.ensures

pub returns-in-Ok : goal.returns-in-Ok
returns-in-Ok c = begins-accepted _ _ _ _ c.in-Ok.ensures _ _ _ c.opening-part.ensures (search rules)
