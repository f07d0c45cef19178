-- An answer and the same with the number of its refusal.
use mathlib.Core.Path.{◌≡◌, ap}
use Rattle.std.specs.Prelude.{Result, Ok, Err}
use Rattle.book.specs.declared.Fault.{Fault}
use Rattle.book.specs.Faults.{number, numbered}

pub numbered-ok : {A : Type 0} (x : Result A Fault) (v : A) → x ≡ Ok v → numbered x ≡ Ok v
numbered-ok x v e = ap numbered e

pub numbered-err : {A : Type 0} (x : Result A Fault) (f : Fault) → x ≡ Err f → numbered x ≡ Err (number f)
numbered-err x f e = ap numbered e
