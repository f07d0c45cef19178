use mathlib.Core.Path.{◌≡◌}
use lib.ListN.{length}
use Rattle.least.specs.Rows.{Gathered}
use Rattle.least.proofs.rows.gather.Given as goal

abbrev pub invariant-loop-k : goal.invariant-loop-k
invariant-loop-k l = (length l.rows ≡ length l.initial.rows) × Gathered l.rules.words.now l.k l.b l.rows l.m
