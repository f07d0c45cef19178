use Rattle.standing.proofs.Domination.{answer-free, answer-barred, answer-searched}
use borrow.Author.Rules.{rules}
use Rattle.standing.proofs.stands.Goals as goal

pub returns-then-known_free : goal.returns-then-known_free
returns-then-known_free c = answer-free _ _ _ _ _ _ _ _ c.lines_in-m.ensures c.mates-u.ensures _ c.known_free.ensures (search rules)

pub returns-then-known_barred : goal.returns-then-known_barred
returns-then-known_barred c = answer-barred _ _ _ _ _ _ _ _ c.lines_in-m.ensures c.mates-u.ensures _ c.known_barred.ensures (search rules)

pub returns : goal.returns
returns c = answer-searched _ _ _ _ _ _ _ _ c.lines_in-m.ensures c.mates-u.ensures _ _ c.undominated.ensures
