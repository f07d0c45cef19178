use native.Mathlib.Omega.{arith}
use borrow.Author.Rules.{rules}
use Rattle.std.proofs.lemmas.Result.{err_from_is_err_and}
use Rattle.entry.specs.Bytes.{AreBytes}
use Rattle.points.specs.Stores.{set_told}
use Rattle.points.proofs.Means.{set-meant}
use Rattle.points.proofs.Answers.{located, keep-neither, set_full, set_before, set_at, at_long, at_in, before-long, before-in}
use Rattle.points.proofs.set_point.Goals as goal

pub returns-in_err-k : goal.returns-in_err-k
unfolding set_told
returns-in_err-k c =
    let s = c.args in
    let g = c.well_formed.1.1.0.1.1 in
    let b : AreBytes s.store.now = λ k. (c.slice_known-1.given k).fits in
    let p = err_from_is_err_and c.from_residual.result c.from_residual.ensures.1 in
    let whole = set-meant s.store.now s.name.bytes s.p b (record { taken = g.0.1; held = g.1.0.1; denied = g.1.1.0.1 }) _ _ (rw (p.1, p.2) (keep-neither s.store.now s.name.bytes c.locate.result c.locate.ensures _ _ c.in_err-k.was)) in
    record { met = whole.0; meant = whole.1 }

pub overflow_mul-i : goal.overflow_mul-i
overflow_mul-i c = let s = c.args in record { fits = omega (arith, at_in s.store.now s.name.bytes c.locate.result c.locate.ensures _ _ (located _ _ _ _ c.in_ok-k.was c.in-Ok.is)) }

pub overflow_add-i : goal.overflow_add-i
overflow_add-i c = let s = c.args in record { fits = omega (arith, at_in s.store.now s.name.bytes c.locate.result c.locate.ensures _ _ (located _ _ _ _ c.in_ok-k.was c.in-Ok.is)) }

pub put_pair-requires : goal.put_pair-requires
put_pair-requires c =
    let s = c.args in
    let d = located _ _ _ _ c.in_ok-k.was c.in-Ok.is in
    omega (arith, at_in s.store.now s.name.bytes c.locate.result c.locate.ensures _ _ d, at_long s.store.now s.name.bytes c.locate.result c.locate.ensures _ _ d)

pub returns-then-k-eq32 : goal.returns-then-k-eq32
returns-then-k-eq32 c =
    let s = c.args in
    let q = c.refused.ensures in
    let g = c.well_formed.1.1.0.1.1 in
    let b : AreBytes s.store.now = λ k. (c.slice_known-1.given k).fits in
    let whole = set-meant s.store.now s.name.bytes s.p b (record { taken = g.0.1; held = g.1.0.1; denied = g.1.1.0.1 }) _ _ (set_full s.store.now s.name.bytes c.locate.result c.locate.ensures _ _ (located _ _ _ _ c.in_ok-k.was c.in-Err.is) _ _ (search rules) q.0 q.1) in
    record { met = whole.0; meant = whole.1 }

pub overflow_mul-i-in-Err : goal.overflow_mul-i-in-Err
overflow_mul-i-in-Err c = let s = c.args in record { fits = omega (arith, before-in s.store.now s.name.bytes c.locate.result c.locate.ensures _ _ (located _ _ _ _ c.in_ok-k.was c.in-Err.is) (search rules)) }

pub insert-requires : goal.insert-requires
insert-requires c =
    let s = c.args in
    let d = located _ _ _ _ c.in_ok-k.was c.in-Err.is in
    (before-long s.store.now s.name.bytes c.locate.result c.locate.ensures _ _ d, before-in s.store.now s.name.bytes c.locate.result c.locate.ensures _ _ d (search rules))

pub returns-in-Ok : goal.returns-in-Ok
returns-in-Ok c =
    let s = c.args in
    let g = c.well_formed.1.1.0.1.1 in
    let b : AreBytes s.store.now = λ k. (c.slice_known-1.given k).fits in
    let whole = set-meant s.store.now s.name.bytes s.p b (record { taken = g.0.1; held = g.1.0.1; denied = g.1.1.0.1 }) _ _ (set_at s.store.now s.name.bytes c.locate.result c.locate.ensures _ _ (located _ _ _ _ c.in_ok-k.was c.in-Ok.is) _ _ b c.put_pair.ensures) in
    record { met = whole.0; meant = whole.1 }

pub returns-else-k-eq32 : goal.returns-else-k-eq32
returns-else-k-eq32 c =
    let s = c.args in
    let g = c.well_formed.1.1.0.1.1 in
    let b : AreBytes s.store.now = λ k. (c.slice_known-1.given k).fits in
    let whole = set-meant s.store.now s.name.bytes s.p b (record { taken = g.0.1; held = g.1.0.1; denied = g.1.1.0.1 }) _ _ (set_before s.store.now s.name.bytes c.locate.result c.locate.ensures _ _ (located _ _ _ _ c.in_ok-k.was c.in-Err.is) _ _ (search rules) b c.insert.ensures) in
    record { met = whole.0; meant = whole.1 }
