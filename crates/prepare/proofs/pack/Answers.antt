use Rattle.prepare.proofs.Packing.{rule-counts, conditionals-few, packs-of}
use native.Mathlib.Omega.{arith}
use Rattle.prepare.proofs.pack.Goals as goal

pub pack_kind-requires : goal.pack_kind-requires
pack_kind-requires c = let w = c.requires in let h = w.1 in let q = rule-counts _ _ w.0 in (w.0, omega arith, omega arith, omega (arith, q.0), omega arith)

pub pack_kind-requires-2 : goal.pack_kind-requires-2
pack_kind-requires-2 c = let w = c.requires in let h = w.1 in let q = rule-counts _ _ w.0 in let e = c.pack_kind.ensures.same in (w.0, omega arith, omega arith, omega (arith, q.1), omega arith)

pub pack_kind-requires-3 : goal.pack_kind-requires-3
pack_kind-requires-3 c = let w = c.requires in let h = w.1 in let q = rule-counts _ _ w.0 in let e = c.pack_kind.ensures.same in let f = c.pack_kind-2.ensures.same in (w.0, omega arith, omega arith, omega (arith, q.2), omega arith)

pub pack_lines-requires : goal.pack_lines-requires
pack_lines-requires c = let w = c.requires in let h = w.1 in let q = conditionals-few _ _ w.0 in let e = c.pack_kind.ensures.same in let f = c.pack_kind-2.ensures.same in let g = c.pack_kind-3.ensures.same in (w.0, omega arith)

pub returns : goal.returns
returns c = let w = c.requires in packs-of _ _ _ _ _ _ _ w.0.limits w.1 w.2 c.pack_kind.ensures c.pack_kind-2.ensures c.pack_kind-3.ensures c.pack_lines.ensures
