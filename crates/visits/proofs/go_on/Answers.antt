use Rattle.std.proofs.lemmas.Result.{err_from_is_err_and}
use Rattle.visits.proofs.Gone.{gone_at, gone-not}
use Rattle.visits.proofs.go_on.Goals as goal

pub returns-in_err-p : goal.returns-in_err-p
returns-in_err-p c =
    let s = c.args in
    let p = err_from_is_err_and c.from_residual.result c.from_residual.ensures.1 in
    rw (p.1, p.2) (gone-not s.text.now s.store.now s.name.bytes c.go_to.result c.go_to.ensures.value _ c.in_err-p.was)

pub returns : goal.returns
returns c = let s = c.args in gone_at s.text.now s.store.now s.name.bytes c.go_to.result c.go_to.ensures.value _ _ c.in_ok-p.was c.after.ensures.result_value
