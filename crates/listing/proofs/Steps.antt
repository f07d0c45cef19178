-- What the parts are of all that `ways` prints for a text, byte by byte: each is the next bytes, until they are all.
use Prim.Native.Nat.{ℕ, ◌+◌, ◌-◌, ◌≤◌}
use Rattle.std.specs.Prelude.{Option, Some, None, option_map}
use mathlib.Core.List.{List, ◌++◌}
use mathlib.Core.Path.{◌≡◌, refl, sym, ap, ◌∙◌}
use native.Mathlib.Omega.{arith}
use lib.ListN.{length, take, drop, length-append}
use lib.Seq.{take_all, take-append_seam, drop-append_seam, length-take-le}
use Rattle.sets.specs.declared.Pair.{Pair}
use Rattle.book.specs.declared.Shape.{Shape}
use Rattle.meaning.specs.Meant.{book_of}
use Rattle.meaning.specs.Order.{at}
use Rattle.answers.specs.Ways.{ways_of, listed, most_lines}
use Rattle.listing.specs.declared.Part.{Part}
use Rattle.listing.specs.declared.Begun.{Begun}
use Rattle.listing.specs.Parts.{part_lines, Lists, Begins, Next, Midway}
use Rattle.listing.proofs.Promised.{same_pair}
use Rattle.listing.proofs.Whole.{part-goes-on}

-- A part of what `ways` prints for the text, where i bytes were printed and m lines were left before it, of n bytes, and the pair from which the
-- listing goes on after it, if any: the next bytes, which are the last; or the listing goes on after them.
pub record Step (bs ws ranks : List ℕ) (i : ℕ) (s : Shape) (m : ℕ) (o : List ℕ) (n : ℕ) (x : Option Pair) : Type 0 where
  pub next : Next bs i (take n o)
  pub fewer : (p : Pair) → x ≡ Some p → part_lines ≤ m
  pub ends : x ≡ None → i + n ≡ length (ways_of bs)
  pub goes_on : (p : Pair) → x ≡ Some p → Midway bs ws ranks (i + n) s p (m - part_lines)

-- The front of what is left is next.
front-next : (bs xs ys : List ℕ) (i : ℕ) → drop i (ways_of bs) ≡ xs ++ ys → Next bs i xs
front-next bs xs ys i e = rw e (sym (take-append_seam xs ys))

all-next : (bs xs : List ℕ) (i : ℕ) → drop i (ways_of bs) ≡ xs → Next bs i xs
all-next bs xs i e = rw e (sym (take_all (length xs) xs (omega arith)))

module _ (bs ws ranks : List ℕ) (i : ℕ) (s : Shape) (p : Pair) (m : ℕ) (f : Midway bs ws ranks i s p m) (o : List ℕ) (r : Part) (l : Lists s ws ranks (at p) m o r) where
  abbrev left : List ℕ
  left = listed (book_of s f.goes_on.ready.rows) m (at p)

  left_is : drop i (ways_of bs) ≡ left
  left_is = ap (λ j. drop j (ways_of bs)) (sym f.long) ∙ ap (drop (length f.done)) (sym f.goes_on.rest) ∙ drop-append_seam f.done left

  bytes-are : length (take r.bytes o) ≡ r.bytes
  bytes-are = length-take-le r.bytes o l.fits

  whole : r.next ≡ None → take r.bytes o ≡ left
  whole e = l.whole f.goes_on.ready.rows f.goes_on.ready.loaded f.goes_on.ready.lawful e

  next : (x : Option Pair) → r.next ≡ x → Next bs i (take r.bytes o)
  next None e = all-next bs (take r.bytes o) i (left_is ∙ sym (whole e))
  next (Some q) e =
      front-next bs (take r.bytes o) (listed (book_of s f.goes_on.ready.rows) (m - part_lines) (at q)) i
      (left_is ∙ sym (l.front f.goes_on.ready.rows f.goes_on.ready.loaded f.goes_on.ready.lawful q e))

  pub step : Step bs ws ranks i s m o r.bytes r.next
  step = record {
    next = next r.next refl;
    fewer = λ q e. l.fewer q e;
    ends = λ e. omega (arith, f.long, bytes-are, ap length (whole e), ap length f.goes_on.rest, length-append f.done left);
    goes_on = λ q e. record {
      done = f.done ++ take r.bytes o;
      long = omega (arith, f.long, bytes-are, length-append f.done (take r.bytes o));
      goes_on = part-goes-on bs ws ranks f.done s p m f.goes_on o r l q e;
      few = omega (arith, f.few);
      short = omega (arith, f.few, f.short, l.small, l.fewer q e);
    };
  }

module _ (bs ws ranks o : List ℕ) (r : Begun) (b : Begins bs ws ranks o r) where
  begun-are : length (take r.bytes o) ≡ r.bytes
  begun-are = length-take-le r.bytes o b.fits

  -- The first part is all there is,
  pub first_ends : r.next ≡ None → (s : Shape) → Step bs ws ranks 0 s most_lines o r.bytes None
  first_ends e s = record {
    next = all-next bs (take r.bytes o) 0 (sym (b.whole e));
    fewer = λ p d. omega arith;
    ends = λ d. omega (arith, begun-are, ap length (b.whole e));
    goes_on = λ p d. cc;
  }

  -- or the listing of a book of this shape goes on from this pair.
  pub first_goes_on : (s : Shape) (p : Pair) → r.next ≡ Some (s, p) → Step bs ws ranks 0 s most_lines o r.bytes (Some p)
  first_goes_on s p e = record {
    next = front-next bs (take r.bytes o) (listed (book_of s (b.more s p e).ready.rows) (most_lines - part_lines) (at p)) 0 (sym (b.more s p e).rest);
    fewer = λ q d. omega arith;
    ends = λ d. cc;
    goes_on = λ q d.
        let g : Midway bs ws ranks (0 + r.bytes) s p (most_lines - part_lines) = record {
          done = take r.bytes o;
          long = omega (arith, begun-are);
          goes_on = b.more s p e;
          few = omega arith;
          short = omega (arith, b.small);
        } in rw (same_pair p q d) at g;
  }

  -- In one: the first part of what is printed for the text.
  pub first_step : (s : Shape) (x : Option Pair) → r.next ≡ option_map (λ (p : Pair). (s, p)) x → Step bs ws ranks 0 s most_lines o r.bytes x
  first_step s None e = first_ends e s
  first_step s (Some p) e = first_goes_on s p e
