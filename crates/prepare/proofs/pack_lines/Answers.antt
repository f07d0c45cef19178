use Rattle.std.proofs.Common.{rules, refl, arith}
use Prim.Native.Nat.{◌+◌, ◌*◌}
use Rattle.book.specs.Kinds.{conditional_numbers}
use Rattle.prepare.specs.Packing.{LineReadable, line_row}
use Rattle.prepare.proofs.Packing.{line-readable, line-flat, starts-small, conditionals-few}
use Rattle.prepare.proofs.pack_lines.Goals as goal

pub pack_rows-requires-clause-given : goal.pack_rows-requires-clause-given
pack_rows-requires-clause-given c = λ k h.
    let f = conditionals-few _ _ c.requires.0 in
    let s = starts-small _ _ c.requires.0 _ _ (omega arith) c.start_of-from.ensures in
    let r : LineReadable c.args.rows.now (c.start_of-from.result + k * conditional_numbers) = line-readable _ _ c.requires.0 _ h _ (rw c.start_of-from.ensures refl) in
    search rules

pub pack_rows-requires-clause-flat : goal.pack_rows-requires-clause-flat
pack_rows-requires-clause-flat c = λ k r e. search (rules, line-flat)

pub returns : goal.returns
unfolding line_row
returns c = c.pack_rows.ensures _ (λ k r e. rw (← c.start_of-from.ensures) (search rules))
