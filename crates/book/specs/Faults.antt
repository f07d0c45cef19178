-- The refusals of Read and Write and their numbers (document 01, 'Turned down, by place'; document 02, (d), (e), (g)).
use Rattle.std.specs.Prelude.{ℕ, Result, Ok, Err}
use Rattle.book.specs.declared.Fault.{Fault}
use Rattle.book.specs.declared.Fault.TheVariants.{TooLong, NoLineFeed, NotAllowed, LineLength, StrayByte, OutOfRange, Edition, TooMany, NoHead, NoException, WrongTotal, BufferShort, TableLength, Gap, WrongZero, TooManyConditionals, TooManyAlternatives, FewHeads}

abbrev pub number : Fault → ℕ
number TooLong = 1
number NoLineFeed = 2
number NotAllowed = 3
number LineLength = 4
number StrayByte = 5
number OutOfRange = 6
number Edition = 7
number TooMany = 8
number NoHead = 9
number NoException = 10
number WrongTotal = 11
number BufferShort = 15
number TableLength = 16
number Gap = 17
number WrongZero = 18
number TooManyConditionals = 19
number TooManyAlternatives = 22
number FewHeads = 23

-- An answer with the number of its refusal.
abbrev pub numbered : {A : Type 0} → Result A Fault → Result A ℕ
numbered (Ok x) = Ok x
numbered (Err f) = Err (number f)
