use Rattle.std.proofs.lemmas.Result.{err_from_is_err_and}
use Rattle.visits.proofs.Gone.{listed_at, listed-not}
use Rattle.visits.proofs.list_on.Goals as goal

pub returns-in_err-from : goal.returns-in_err-from
returns-in_err-from c =
    let s = c.args in
    let p = err_from_is_err_and c.from_residual.result c.from_residual.ensures.1 in
    rw (p.1, p.2) (listed-not s.text.now s.store.now s.name.bytes c.go_to.result c.go_to.ensures.value _ _ _ _ c.in_err-from.was)

pub returns : goal.returns
returns c = let s = c.args in listed_at s.text.now s.store.now s.name.bytes c.go_to.result c.go_to.ensures.value _ _ _ _ _ _ _ c.in_ok-from.was c.run.ensures
