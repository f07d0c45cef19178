-- What is said of rules, ranks and index, said of a prepared book, which holds them.
use Rattle.masks.specs.declared.Bounds.{Bounds}
use Rattle.probe.specs.declared.Outcome.{Outcome}
use Rattle.queue.specs.declared.Prepared.{Prepared}
use Rattle.sets.specs.declared.Pair.{Pair}
use Rattle.standing.specs.declared.memory.Memory.{Memory}
use Rattle.std.specs.Prelude.{Bool, ℕ}
use Rattle.standing.specs.Standing as standing

abbrev pub AttemptedIn : Prepared → Bounds → Bounds → Outcome → Type 0
AttemptedIn k = standing.AttemptedIn k.rules.words.now k.rules.count k.ranks.now

abbrev pub Right : Prepared → Bounds → Memory → Type 0
Right k = standing.Right k.rules.words.now k.rules.count k.ranks.now

abbrev pub Searched : Prepared → Bounds → ℕ → ℕ → Memory → Memory → Bool → Type 0
Searched k = standing.Searched k.rules.words.now k.rules.count k.ranks.now

abbrev pub StandingIn : Prepared → Bounds → Bounds → Bool → Type 0
StandingIn k = standing.StandingIn k.rules.words.now k.rules.count k.ranks.now

abbrev pub StandingView : Prepared → Bounds → Pair → Type 0
StandingView k = standing.StandingView k.rules.words.now k.rules.count k.ranks.now

abbrev pub Unbanned : Prepared → Memory → Bounds → Bounds → Type 0
Unbanned k = standing.Unbanned k.rules.words.now k.rules.count k.ranks.now

abbrev pub UnexceededAt : Prepared → Bounds → Bounds → ℕ → ℕ → Type 0
UnexceededAt k = standing.UnexceededAt k.rules.words.now k.rules.count k.ranks.now

abbrev pub UnexceededIn : Prepared → Bounds → Bounds → ℕ → Type 0
UnexceededIn k = standing.UnexceededIn k.rules.words.now k.rules.count k.ranks.now
