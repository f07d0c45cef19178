use Rattle.across.proofs.Across.{gone-across}
use Rattle.bantameasel.proofs.bantameasel_go.Goals as goal

pub returns-clause-of_store : goal.returns-clause-of_store
returns-clause-of_store c =
    let s = c.args in
    let g = c.go_to in
    (gone-across s.store.now s.name.bytes g.result _ c.into.ensures g.ensures.value g.ensures.of_store).1
