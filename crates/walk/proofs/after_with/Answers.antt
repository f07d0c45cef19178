use Rattle.walk.proofs.Walks.{fits-again, after-walked, after-past}
use Rattle.walk.proofs.Places.{place-there}
use Rattle.few.proofs.Gathering.{store-again}
use Rattle.few.specs.Few.{most}
use lib.Pow.{pow_mono}
use native.Mathlib.Omega.{arith}
use native.Mathlib.Nat.{lt_of_lt_of_le}
use borrow.Author.Rules.{rules}
use Rattle.walk.proofs.after_with.Goals as goal

pub overflow_add-next : goal.overflow_add-next
overflow_add-next c = let b = lt_of_lt_of_le (place-there _ c.requires.1 _ _ c.requires.2 c.place_of-next.ensures).0 (pow_mono c.requires.1) in record { fits = omega (arith, b) }

pub walk-requires : goal.walk-requires
walk-requires c = (c.requires.0, c.requires.1, (let h = place-there _ c.requires.1 _ _ c.requires.2 c.place_of-next.ensures in omega (arith, h.0)), c.requires.3, c.requires.5)

pub returns-then-ruled_out : goal.returns-then-ruled_out
returns-then-ruled_out c = let h = place-there _ c.requires.1 _ _ c.requires.2 c.place_of-next.ensures in after-past _ _ _ _ _ c.requires.1 _ c.requires.4 _ c.requires.6 _ _ h.0 h.1 (c.ruled_out.ensures.yes (search rules)) _ _ c.walk.ensures

pub walk-requires-2 : goal.walk-requires-2
walk-requires-2 c = (fits-again _ _ _ _ _ _ _ c.requires.0 c.list_set-at.auto.out c.list_set-at.ensures.most, c.requires.1, (let h = (place-there _ c.requires.1 _ _ c.requires.2 c.place_of-next.ensures).0 in omega arith), rw c.list_set-at.auto.marks c.requires.3, store-again most _ _ c.requires.5 c.list_set-at.auto.store)

pub returns : goal.returns
returns c = let h = place-there _ c.requires.1 _ _ c.requires.2 c.place_of-next.ensures in after-walked _ _ _ _ _ c.requires.1 _ c.requires.4 _ c.requires.6 _ _ h.0 h.1 _ _ _ _ _ _ c.list_set-at.ensures c.walk-2.ensures
