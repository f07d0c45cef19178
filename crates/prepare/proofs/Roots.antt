-- The bounds that are made of a book's shape are its root bounds.
-- The book has as many exceptions as its shape says.
use mathlib.Core.Path.{◌≡◌, sym, ap, ◌∙◌}
use mathlib.Core.List.{List}
use Prim.Native.Nat.{ℕ}
use lib.IntN.{ℤ}
use lib.ListN.{length}
use Rattle.book.specs.declared.Shape.{Shape}
use Rattle.meaning.specs.Meant.{book_of}
use Rattle.meaning.proofs.Meant.{exceptions-count}
use Rattle.masks.specs.declared.Bounds.{Bounds}
use Rattle.bridge.specs.Packed.{nothing}
use Rattle.bridge.specs.Roots.{up_to, root_of}

pub root_is : (s : Shape) (x n : ℕ) → x ≡ up_to s.exceptions → n ≡ up_to s.statements → (t : List ℤ)
    → ◌≡◌ {A = Bounds} (record { lo = nothing; hi = record { taken = x; held = n; denied = n } }) (root_of (book_of s t))
unfolding root_of book_of
root_is s x n ex en t =
    let e : x ≡ up_to (length (book_of s t).exceptions) = ex ∙ ap up_to (sym (exceptions-count s t)) in
    λ i. record { lo = nothing; hi = record { taken = e i; held = en i; denied = en i } }
