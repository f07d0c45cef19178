use Rattle.page.specs.Sought.{sought}
use Rattle.walk.proofs.Walks.{Walking, left}
use Prim.Native.Nat.{◌^◌, ◌<◌}
use Rattle.walk.proofs.walk.Given as goal

abbrev pub invariant-loop-next : goal.invariant-loop-next
invariant-loop-next l =
    Walking l.book.rules.words.now l.book.ranks.now l.root (sought l.book.rules.count l.task) l.x l.from l.known l.at l.initial.marks l.initial.memory l.initial.out l.s.past l.next l.r l.marks l.memory l.out × (l.r < l.task.room)

abbrev pub decreases-loop-next : goal.decreases-loop-next
decreases-loop-next l = left (2 ^ l.x) l.next
