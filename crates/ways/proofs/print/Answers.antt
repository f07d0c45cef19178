use Rattle.prepare.proofs.Packing.{blank-words}
use lib.Seq.{length-take-le}
use mathlib.Core.Path.{sym}
use native.Mathlib.Omega.{arith}
use Rattle.answers.specs.Ways.{most_lines}
use Rattle.listing.proofs.Steps.{first_goes_on}
use Rattle.ways.proofs.Stands.{place-small, stood, first-next, whole-sent}
use Rattle.ways.proofs.print.Goals as goal

pub begin-b-requires : goal.begin-b-requires
begin-b-requires c = blank-words

pub slice_bounds-send-end : goal.slice_bounds-send-end
slice_bounds-send-end c = sym (length-take-le _ _ c.begin-b.ensures.fits)

pub send-sent-requires : goal.send-sent-requires
send-sent-requires c =
    let b = c.begin-b.ensures in
    rw c.untouched.ensures (first-next _ _ _ _ _ b, rw (length-take-le _ _ b.fits) (place-small 0 most_lines _ (omega arith) (omega arith) b.small))

pub returns-in_default : goal.returns-in_default
returns-in_default c = whole-sent _ _ _ _ _ c.begin-b.ensures c.in_default.is _ (rw c.untouched.ensures at c.send-sent.ensures)

pub rest-requires : goal.rest-requires
rest-requires c =
    let b = c.begin-b.ensures in
    rw (← c.in_ok-from.ensures) at (stood _ _ _ _ _ _ _ _ _ _ (first_goes_on _ _ _ _ _ b _ _ c.in-Some.is) b.fits (rw c.untouched.ensures at c.send-sent.ensures))
