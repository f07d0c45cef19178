use Rattle.one_set.proofs.Looks.{looked-viewless, looked-found, looked-fallen}
use Rattle.probe.proofs.Attempts.{shave-more}
use Rattle.ranges.proofs.Ranges.{refuted-none}
use Rattle.std.proofs.Common.{refl, rules}
use Rattle.one_set.proofs.look_harder.Goals as goal

pub returns-then-not-within : goal.returns-then-not-within
returns-then-not-within c = λ p. let f = refuted-none _ _ _ _ _ _ _ _ _ refl (shave-more p c.shaved-s.ensures) c.within.ensures (search rules) in looked-viewless _ _ _ _ _ _ _ _ f (c.mark_shaven.ensures f)

pub returns-then-search : goal.returns-then-search
returns-then-search c = λ p. looked-found _ _ _ _ _ _ _ _ p _ _ c.shaved-s.ensures _ c.search.ensures (search rules)

pub returns : goal.returns
returns c = λ p. looked-fallen _ _ _ _ _ _ _ _ (shave-more p c.shaved-s.ensures) _ _ c.search.ensures (search rules)
