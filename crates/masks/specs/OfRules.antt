-- What is said of a book's rules as one value.
use Rattle.std.specs.Prelude.{◌+◌, ◌*◌, ◌≤◌, length}
use Rattle.masks.specs.declared.Rules.{Rules}

-- Behind the rules there is room for the rows of Q lines.
abbrev pub HasLines : Rules → Type 0
HasLines k = (k.count + 32) * 8 ≤ length k.words.now
