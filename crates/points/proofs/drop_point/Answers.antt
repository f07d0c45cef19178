use native.Mathlib.Omega.{arith}
use Rattle.std.proofs.lemmas.Result.{err_from_is_err_and}
use Rattle.entry.specs.Bytes.{AreBytes}
use Rattle.points.specs.Stores.{drop_told}
use Rattle.points.proofs.Means.{drop-meant}
use Rattle.points.proofs.Answers.{located, keep-neither, drop-before, drop_at, at_long, at_in}
use Rattle.points.proofs.drop_point.Goals as goal

pub returns-in_err-place : goal.returns-in_err-place
unfolding drop_told
returns-in_err-place c =
    let s = c.args in
    let b : AreBytes s.store.now = λ k. (c.slice_known-1.given k).fits in
    let p = err_from_is_err_and c.from_residual.result c.from_residual.ensures.1 in
    let whole = drop-meant s.store.now s.name.bytes b _ _ (rw (p.1, p.2) (keep-neither s.store.now s.name.bytes c.locate.result c.locate.ensures _ _ c.in_err-place.was)) in
    record { met = whole.0; meant = whole.1 }

pub overflow_mul-i : goal.overflow_mul-i
overflow_mul-i c = let s = c.args in record { fits = omega (arith, at_in s.store.now s.name.bytes c.locate.result c.locate.ensures _ _ (located _ _ _ _ c.in_ok-place.was c.in-Ok.is)) }

pub remove-requires : goal.remove-requires
remove-requires c =
    let s = c.args in
    let d = located _ _ _ _ c.in_ok-place.was c.in-Ok.is in
    (at_long s.store.now s.name.bytes c.locate.result c.locate.ensures _ _ d, at_in s.store.now s.name.bytes c.locate.result c.locate.ensures _ _ d)

pub returns-in-Ok : goal.returns-in-Ok
returns-in-Ok c =
    let s = c.args in
    let b : AreBytes s.store.now = λ k. (c.slice_known-1.given k).fits in
    let whole = drop-meant s.store.now s.name.bytes b _ _ (drop_at s.store.now s.name.bytes c.locate.result c.locate.ensures _ _ (located _ _ _ _ c.in_ok-place.was c.in-Ok.is) _ b c.remove.ensures) in
    record { met = whole.0; meant = whole.1 }

pub returns-in-Err : goal.returns-in-Err
returns-in-Err c =
    let s = c.args in
    let q = c.refused.ensures in
    let b : AreBytes s.store.now = λ k. (c.slice_known-1.given k).fits in
    let whole = drop-meant s.store.now s.name.bytes b _ _ (drop-before s.store.now s.name.bytes c.locate.result c.locate.ensures _ _ (located _ _ _ _ c.in_ok-place.was c.in-Err.is) _ q.0 q.1) in
    record { met = whole.0; meant = whole.1 }
