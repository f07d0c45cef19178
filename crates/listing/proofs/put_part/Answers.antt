use Rattle.listing.proofs.Promised.{prints-cut, prints-ended, prints-filled, fills}
use native.Mathlib.Omega.{arith}
use borrow.Author.Rules.{rules}
use Rattle.listing.proofs.put_part.Goals as goal

pub returns-then-m-k : goal.returns-then-m-k
returns-then-m-k c = prints-cut _ _ _ _ _ _ _ (omega arith) c.close_part.ensures

pub returns-then-k-lt-PART : goal.returns-then-k-lt-PART
returns-then-k-lt-PART c = prints-ended _ _ _ _ _ _ _ (omega arith) (omega arith) c.close_part-then-k-lt-PART.ensures

pub returns : goal.returns
returns c = prints-filled _ _ _ _ _ _ _ (omega arith) (omega arith) (fills _ _ _ _ _ _ _ c.put_lines.ensures.0 c.put_lines.ensures.1 (search rules) (search rules) (omega arith) (search rules) _ c.put_lines.auto.out c.pair_at.ensures)
