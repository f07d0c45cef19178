use Rattle.read.proofs.FieldLaws.{part, Rest}
use Rattle.read.proofs.read_fields.Given as goal

abbrev pub invariant-loop-i : goal.invariant-loop-i
invariant-loop-i l = Rest l.text l.at (part l.x.from l.x.fields) l.n l.exceptions l.st.rows l.to l.initial.t l.t l.i l.seen
