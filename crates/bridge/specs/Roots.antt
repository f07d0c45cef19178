-- The bounds of all lawful pairs (document 01, 'The order of pairs'): where every search in a book begins.
use Rattle.std.specs.Prelude.{ℕ, ◌-◌, ◌^◌, length}
use Rattle.masks.specs.declared.Bounds.{Bounds}
use Rattle.meaning.specs.Books.{Book}
use Rattle.bridge.specs.Packed.{nothing}

-- The set of the numbers 1 to k.
abbrev pub up_to : ℕ → ℕ
up_to k = 2 ^ k - 1

-- From nothing to all exceptions taken and all statements held and denied.
unfoldable pub root_of : Book → Bounds
root_of b = record {
  lo = nothing;
  hi = record { taken = up_to (length b.exceptions); held = up_to b.statements; denied = up_to b.statements };
}
