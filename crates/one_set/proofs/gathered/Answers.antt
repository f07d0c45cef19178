use Rattle.one_set.proofs.Plans.{collected-none, collected-some, gathered_none, gathered-some}
use Rattle.ranges.proofs.Ranges.{refuted-none}
use Rattle.std.proofs.Common.{refl, rules}
use Rattle.one_set.proofs.gathered.Goals as goal

pub returns-then-not-within : goal.returns-then-not-within
returns-then-not-within c = let f = refuted-none _ _ _ _ _ _ _ _ _ refl c.narrowed-rest.ensures c.within.ensures (search rules) in gathered_none _ _ _ _ _ _ _ _ _ f (c.mark_around.ensures f)

pub returns-then-s-eq0 : goal.returns-then-s-eq0
returns-then-s-eq0 c = let f = collected-none _ _ _ _ _ _ c.narrowed-rest.ensures _ _ _ c.collect-s.ensures c.requires.2 (search rules) in gathered_none _ _ _ _ _ _ _ _ _ f (c.mark_shaven.ensures f)

pub returns : goal.returns
returns c = gathered-some _ _ _ _ _ _ _ _ _ (collected-some _ _ _ _ _ _ c.narrowed-rest.ensures _ _ _ c.collect-s.ensures (search rules)) c.narrowed-rest.ensures c.collect-s.ensures
