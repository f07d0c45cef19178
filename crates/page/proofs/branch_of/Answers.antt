use Rattle.std.proofs.Common.{◌≡◌, None, rules}
use Rattle.page.proofs.Branches.{branch-before, branch-barren, branch-clash, branch-open}
use Rattle.page.proofs.branch_of.Goals as goal

pub returns-then-earlier : goal.returns-then-earlier
returns-then-earlier c = branch-before _ _ _ _ _ _ c.requires _ c.value_at-own.ensures _ c.earlier.ensures (search rules)

pub returns-then-not-within : goal.returns-then-not-within
returns-then-not-within c = branch-clash _ _ _ _ _ _ c.requires _ c.value_at-own.ensures _ c.earlier.ensures (search rules) _ c.narrow-rest.ensures _ c.within.ensures (search rules)

pub returns-in_err-hint : goal.returns-in_err-hint
returns-in_err-hint c =
    let e : c.from_residual.result ≡ None = search rules in
    rw e (branch-barren _ _ _ _ _ _ c.requires _ c.value_at-own.ensures _ c.earlier.ensures (search rules) _ c.narrow-rest.ensures (c.glimpse.ensures (search rules)))

pub returns : goal.returns
returns c = branch-open _ _ _ _ _ _ c.requires _ c.value_at-own.ensures _ c.earlier.ensures (search rules) _ c.narrow-rest.ensures _ _ _ _ c.still-equal.ensures c.given-pair.ensures
