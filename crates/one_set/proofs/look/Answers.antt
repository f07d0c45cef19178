use Rattle.one_set.proofs.Looks.{looked-viewless, looked-barred, looked-has, looked-lacks, looked-again}
use Rattle.ranges.proofs.Ranges.{refuted-none}
use Rattle.std.proofs.Common.{refl, rules}
use Rattle.one_set.proofs.look.Goals as goal

pub returns-then-not-within : goal.returns-then-not-within
returns-then-not-within c = let f = refuted-none _ _ _ _ _ _ _ _ _ refl c.narrowed-rest.ensures c.within.ensures (search rules) in looked-viewless _ _ _ _ _ _ _ _ f (c.mark_around.ensures f)

pub returns-then-barred : goal.returns-then-barred
returns-then-barred c = looked-barred _ _ _ _ _ _ _ _ c.narrowed-rest.ensures _ (c.barred.ensures _) (search rules)

pub returns-in-Has : goal.returns-in-Has
returns-in-Has c = looked-has _ _ _ _ _ _ _ _ c.narrowed-rest.ensures _ _ c.attempt-a.ensures _ c.in-Has.is

pub returns-in-Lacks : goal.returns-in-Lacks
returns-in-Lacks c = looked-lacks _ _ _ _ _ _ _ _ c.narrowed-rest.ensures _ _ c.attempt-a.ensures _ c.in-Lacks.is

pub returns-in-Stopped : goal.returns-in-Stopped
returns-in-Stopped c = looked-again _ _ _ _ _ _ _ _ c.narrowed-rest.ensures _ _ c.attempt-a.ensures _ _ _ (c.look_harder.ensures c.narrowed-rest.ensures)
