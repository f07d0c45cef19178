use Rattle.std.proofs.Common.{rules, arith, ◌≡◌}
use Prim.Native.Nat.{◌<◌}
use Rattle.book.specs.Kinds.{exception}
use Rattle.prepare.specs.Packing.{rule_row}
use Rattle.prepare.proofs.Packing.{row-readable, row_small, kind-few, flat}
use Rattle.prepare.proofs.pack_kind.Goals as goal

pub pack_rows-requires-clause-given : goal.pack_rows-requires-clause-given
pack_rows-requires-clause-given c = λ k h.
    let p = c.requires in
    let f : c.args.q ≡ exception → k < 64 = λ e. let q = (kind-few _ _ p.0 _ p.1 p.2).1 e in omega (arith, c.count_of-m.ensures) in
    let s = row_small _ _ p.0 _ p.1 p.2 _ _ _ _ c.count_of-m.ensures c.start_of-from.ensures c.kind_at-x.ensures h in
    let r = row-readable _ _ p.0 _ p.1 p.2 _ _ _ _ c.count_of-m.ensures c.start_of-from.ensures c.kind_at-x.ensures h in
    search rules

pub pack_rows-requires-clause-flat : goal.pack_rows-requires-clause-flat
pack_rows-requires-clause-flat c = λ k r e. search (rules, flat)

pub returns : goal.returns
unfolding rule_row
returns c = rw (← c.count_of-m.ensures) (c.pack_rows.ensures _ (λ k r e. rw (← c.start_of-from.ensures, ← c.kind_at-x.ensures) (search rules)))
