use Rattle.page.proofs.glimpse.Goals as goal

pub returns : goal.returns
returns c = λ e. record { none = c.ask.ensures.none e }
