use native.Mathlib.Omega.{arith}
use Rattle.std.proofs.lemmas.Result.{err_from_is_err_and}
use Rattle.points.proofs.Means.{go-meant}
use Rattle.points.proofs.Answers.{located, go-neither, go-before, go-at, at_long, at_in, at_room}
use Rattle.points.proofs.go_to.Goals as goal

pub returns-in_err-place : goal.returns-in_err-place
returns-in_err-place c =
    let s = c.args in
    let p = err_from_is_err_and c.from_residual.result c.from_residual.ensures.1 in
    let whole = go-meant s.store.now s.name.bytes (λ k. (c.type_inv.store k).fits) _ (rw (p.1, p.2) (go-neither s.store.now s.name.bytes c.locate.result c.locate.ensures _ c.in_err-place.was)) in
    record { value = whole.0; of_store = whole.1 }

pub returns-in_default : goal.returns-in_default
returns-in_default c =
    let s = c.args in
    let o = c.in_ok-place in
    let q = c.refused.ensures in
    let whole = go-meant s.store.now s.name.bytes (λ k. (c.type_inv.store k).fits) _ (go-before s.store.now s.name.bytes c.locate.result c.locate.ensures _ _ (located _ _ _ _ o.was c.in_default.is) _ q.0 q.1) in
    record { value = whole.0; of_store = whole.1 }

pub overflow_mul-i : goal.overflow_mul-i
overflow_mul-i c = let s = c.args in record { fits = omega (arith, at_in s.store.now s.name.bytes c.locate.result c.locate.ensures _ _ (located _ _ _ _ c.in_ok-place.was c.in-Ok.is)) }

pub overflow_add-i : goal.overflow_add-i
overflow_add-i c = let s = c.args in record { fits = omega (arith, at_in s.store.now s.name.bytes c.locate.result c.locate.ensures _ _ (located _ _ _ _ c.in_ok-place.was c.in-Ok.is)) }

pub slice_bounds-pair_at-count : goal.slice_bounds-pair_at-count
slice_bounds-pair_at-count c =
    let s = c.args in
    let d = located _ _ _ _ c.in_ok-place.was c.in-Ok.is in
    omega (arith, at_in s.store.now s.name.bytes c.locate.result c.locate.ensures _ _ d, at_long s.store.now s.name.bytes c.locate.result c.locate.ensures _ _ d)

pub slice_bounds-pair_at-start : goal.slice_bounds-pair_at-start
slice_bounds-pair_at-start c =
    let s = c.args in
    let d = located _ _ _ _ c.in_ok-place.was c.in-Ok.is in
    omega (arith, at_in s.store.now s.name.bytes c.locate.result c.locate.ensures _ _ d, at_long s.store.now s.name.bytes c.locate.result c.locate.ensures _ _ d)

pub pair_at-requires : goal.pair_at-requires
pair_at-requires c = let s = c.args in at_room s.store.now s.name.bytes c.locate.result c.locate.ensures _ _ (located _ _ _ _ c.in_ok-place.was c.in-Ok.is)

pub returns : goal.returns
returns c =
    let s = c.args in
    let whole = go-meant s.store.now s.name.bytes (λ k. (c.type_inv.store k).fits) _ (go-at s.store.now s.name.bytes c.locate.result c.locate.ensures _ _ (located _ _ _ _ c.in_ok-place.was c.in-Ok.is) _ c.pair_at.ensures) in
    record { value = whole.0; of_store = whole.1 }
