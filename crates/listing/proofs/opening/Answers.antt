use Rattle.answers.specs.Ways.{most_lines}
use Rattle.listing.specs.Parts.{part_lines}
use Rattle.listing.proofs.Promised.{part-few, lists}
use lib.ListN.{length-replicate}
use Prim.Native.Nat.{ℕ, ◌*◌}
use native.Mathlib.Omega.{arith}
use borrow.Author.Rules.{rules}
use Rattle.listing.proofs.opening.Goals as goal

pub put_part-requires : goal.put_part-requires
put_part-requires c =
    let page = c.first_in-k in
    let pre = c.requires in
    (c.line_fields-w.ensures.1, pre.loaded.limits.statements, part-few _ _ _ _ most_lines _ _ _ (length-replicate {A = ℕ} (part_lines * 3) 0) page.ensures pre.rows pre.loaded tt, search rules, search rules, omega arith)

pub returns : goal.returns
returns c =
    let page = c.first_in-k in
    let pre = c.requires in
    let few = part-few _ _ _ _ most_lines _ _ _ (length-replicate {A = ℕ} (part_lines * 3) 0) page.ensures pre.rows pre.loaded tt in
    lists _ _ _ _ _ _ _ _ (length-replicate {A = ℕ} (part_lines * 3) 0) page.ensures _ c.line_fields-w.ensures.0 _ _ c.put_part.ensures few (omega arith)
