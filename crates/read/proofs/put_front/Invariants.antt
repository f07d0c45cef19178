use Rattle.book.specs.Kinds.{front}
use Rattle.book.specs.Counts.{front_of}
use mathlib.Core.List.{map}
use lib.IntN.{pos}
use Rattle.logic.proofs.Stores.{Putting}
use Rattle.read.proofs.Whole.{each_of}
use Rattle.read.proofs.put_front.Given as goal

abbrev pub invariant-loop-i : goal.invariant-loop-i
invariant-loop-i l = Putting (each_of (map pos (front_of l.fn.s))) front l.initial.table 0 l.table l.i l.i
