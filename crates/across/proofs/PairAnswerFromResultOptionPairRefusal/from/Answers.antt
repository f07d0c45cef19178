use mathlib.Core.Path.{◌≡◌, sym, ap}
use borrow.Author.Rules.{rules}
use Rattle.std.specs.Prelude.{Result, Ok, Option, Some, None}
use Rattle.sets.specs.declared.Pair.{Pair}
use Rattle.text.specs.declared.Refusal.{Refusal}
use Rattle.answers.specs.Operations.{answer_of}
use Rattle.across.specs.Across.{answer_in, no_pair}
use Rattle.across.proofs.PairAnswerFromResultOptionPairRefusal.from.Goals as goal

pub returns-in-Ok-Some : goal.returns-in-Ok-Some
unfolding answer_in answer_of
returns-in-Ok-Some c = let e : ◌≡◌ {A = Result (Option Pair) Refusal} c.args.found (Ok (Some c.in-Ok-Some.p)) = search rules in sym (ap answer_in (ap answer_of e))

pub returns-in-Ok-None : goal.returns-in-Ok-None
unfolding answer_in answer_of no_pair
returns-in-Ok-None c = let e : ◌≡◌ {A = Result (Option Pair) Refusal} c.args.found (Ok None) = search rules in sym (ap answer_in (ap answer_of e))

pub returns-in-Err : goal.returns-in-Err
unfolding answer_in answer_of no_pair
returns-in-Err c = sym (ap answer_in (ap answer_of c.in-Err.is))
