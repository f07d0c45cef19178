use lib.Seq.{length-take-le}
use mathlib.Core.Path.{sym}
use Rattle.listing.proofs.Steps.{step}
use Rattle.ways.proofs.Stands.{place-small, stood}
use Rattle.ways.proofs.go_on.Goals as goal

pub slice_bounds-send-end : goal.slice_bounds-send-end
slice_bounds-send-end c = sym (length-take-le _ _ c.go_on-part.ensures.fits)

pub send-requires : goal.send-requires
send-requires c =
    let l = c.go_on-part.ensures in
    let f = c.requires in
    let s = step _ _ _ _ _ _ _ f _ _ l in
    (s.next, rw (length-take-le _ _ l.fits) (place-small _ _ _ f.few f.short l.small))

pub returns : goal.returns
returns c =
    let l = c.go_on-part.ensures in
    rw c.after.ensures (stood _ _ _ _ _ _ _ _ _ c.send.result (step _ _ _ _ _ _ _ c.requires _ _ l) l.fits c.send.ensures)
