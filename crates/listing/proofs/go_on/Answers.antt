use Rattle.listing.specs.Parts.{part_lines}
use Rattle.listing.proofs.Promised.{few-taken, part-few, lists}
use lib.ListN.{length-replicate}
use Prim.Native.Nat.{ℕ, ◌*◌}
use borrow.Author.Rules.{rules}
use Rattle.listing.proofs.go_on.Goals as goal

pub after_in-k-requires : goal.after_in-k-requires
after_in-k-requires c = (search rules, few-taken _ _ _ _ c.requires.0)

pub put_part-requires : goal.put_part-requires
put_part-requires c =
    let page = c.after_in-k in
    let pre = c.requires.0 in
    (c.line_fields-w.ensures.1, pre.loaded.limits.statements, part-few _ _ _ _ 0 _ _ _ (length-replicate {A = ℕ} (part_lines * 3) 0) page.ensures pre.rows pre.loaded pre.lawful, search rules, search rules, c.requires.1)

pub returns : goal.returns
returns c =
    let page = c.after_in-k in
    let pre = c.requires.0 in
    let few = part-few _ _ _ _ 0 _ _ _ (length-replicate {A = ℕ} (part_lines * 3) 0) page.ensures pre.rows pre.loaded pre.lawful in
    lists _ _ _ _ _ _ _ _ (length-replicate {A = ℕ} (part_lines * 3) 0) page.ensures _ c.line_fields-w.ensures.0 _ _ c.put_part.ensures few c.requires.1
