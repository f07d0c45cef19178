use Rattle.std.proofs.Common.{◌≡◌, ℕ, ◌≤◌, List, length, take, arith, rules}
use Rattle.std.specs.declared.cmp.Ordering.{Ordering}
use Rattle.std.proofs.lemmas.List.{take_all, length-take-le}
use Rattle.entry.specs.Names.{compare_to}
use Rattle.points.proofs.Scans.{find-start, find-equal, find-greater, find-next, find-end}
use Rattle.points.proofs.find.Goals as goal

-- Of a name only the first eight bytes are compared.
front : (a n : List ℕ) (o : Ordering) → 8 ≤ length n → o ≡ compare_to a (take 8 n) → o ≡ compare_to a (take 8 (take 8 n))
front a n o h e = let l = length-take-le 8 n h in rw (take_all 8 (take 8 n) (omega (arith, l))) e

pub loop-i-init : goal.loop-i-init
loop-i-init c = find-start _ _ _

pub returns-in-Equal : goal.returns-in-Equal
returns-in-Equal c = find-equal _ _ _ c.loop-i.i (search rules) c.loop-i.invariant c.compare.result (length-take-le 8 _ c.requires.1) (front _ _ _ c.requires.1 c.compare.ensures) c.in-Equal.is

pub returns-in-Greater : goal.returns-in-Greater
returns-in-Greater c = find-greater _ _ _ c.loop-i.i (search rules) c.loop-i.invariant c.compare.result (length-take-le 8 _ c.requires.1) (front _ _ _ c.requires.1 c.compare.ensures) c.in-Greater.is

pub loop-i-preserved : goal.loop-i-preserved
loop-i-preserved c = find-next _ _ _ c.loop-i.i (search rules) c.loop-i.invariant c.compare.result (length-take-le 8 _ c.requires.1) (front _ _ _ c.requires.1 c.compare.ensures) c.in-Less.is

pub returns : goal.returns
returns c = find-end _ _ _ c.loop-i.i (omega arith) c.loop-i.invariant
