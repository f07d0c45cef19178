-- What `opening`, `go_on` and `begin` promise, from what their parts left.
use Prim.Native.Nat.{ℕ, ◌+◌, ◌-◌, ◌*◌, ◌/◌, ◌^◌, ◌<◌, ◌≤◌}
use mathlib.Core.Path.{◌≡◌, refl, sym, ap, ◌∙◌}
use Rattle.std.specs.Prelude.{Option, Some, None, option_map}
use mathlib.Core.List.{List, ◌++◌}
use mathlib.Core.Logic.{⊎_elim}
use native.Mathlib.Omega.{arith}
use lib.IntN.{ℤ}
use lib.ListN.{length, take}
use lib.Seq.{sets}
use Rattle.sets.specs.declared.Pair.{Pair}
use Rattle.sets.proofs.Digits.{lt-or-le}
use Rattle.book.specs.declared.Shape.{Shape}
use Rattle.book.specs.Limits as limit
use Rattle.text.specs.declared.Refusal.{Refusal}
use Rattle.text.specs.Fields.{written, written_all, columns, in_columns}
use Rattle.text.specs.ALines.{line_fields}
use Rattle.text.specs.Reading.{read_text}
use Rattle.text.specs.Reading.Outcome.{accepted, refused}
use Rattle.meaning.specs.Meant.{book_of}
use Rattle.meaning.specs.Order.{Point, start, at, LawfulPoint}
use Rattle.meaning.specs.Twins.Next.{page_from}
use Rattle.meaning.proofs.Meant.{exceptions-count}
use Rattle.answers.specs.Operations.{on_text, fields_in}
use Rattle.answers.specs.Ways.{lines_of, closing_line, most_lines, failed, ways_of}
use Rattle.answers.proofs.Refused.{text-short}
use Rattle.line.specs.Parts.{line_bytes}
use Rattle.engine.specs.Loaded.{Loaded, PageIs}
use Rattle.listing.specs.declared.Part.{Part}
use Rattle.page.specs.Pages.{pair_at, pairs_in}
use Rattle.listing.specs.Parts.{part_lines, longest_line, closing_bytes, part_bytes, Closes, Fills, Prints, Lists, Prepared, Ready, GoesOn, Begins}
use Rattle.listing.proofs.Pages.{last_point, page-lawful, last-point}
use Rattle.listing.proofs.Printed.{front-is}
use Rattle.listing.proofs.Listed.{front-listed, ended-listed, cut-listed, at_most, statements-same, fields-same, page-count, page-few, page-pairs, page-all, lines-shown, closed-shown}

-- A listing does not both end and go on, and goes on from one pair.
not_both : (x : Option Pair) (p : Pair) → x ≡ None → x ≡ Some p → ⊥
not_both x p e f = cc

pub same_pair : (p q : Pair) → Some p ≡ Some q → p ≡ q
same_pair p q e = cc

-- ---- a page in lines
module _ (w n : ℕ) (ns : List ℕ) (k : ℕ) (out out₁ : List ℕ) (i : ℕ) (e : out₁ ≡ sets out 0 (lines_of w n (pairs_in ns 0 k))) (ei : i ≡ k * line_bytes w n)
    (hw : w ≤ limit.exceptions) (hn : n ≤ limit.statements) (hk : k ≤ part_lines) (ho : length out ≡ part_bytes) where
  room : i ≤ part_lines * longest_line
  room = rw ei (at_most k part_lines w n hk hw hn)

  pub closes : (x d : ℕ) (out₂ : List ℕ) → out₂ ≡ sets out₁ i (closing_line x (d + k)) → length out₂ ≡ length out
      → Closes w n ns k x d out₂ (record { bytes = i + closing_bytes; next = None })
  closes x d out₂ g h = record {
    fits = let r = room in omega arith;
    small = let r = room in omega arith;
    ends = refl;
    is = closed-shown w n ns k out out₁ i e ei x (d + k) out₂ g (let r = room in omega arith);
  }

  pub fills : (p : Pair) → length out₁ ≡ length out → p ≡ pair_at ns (part_lines - 1) → Fills w n ns k out₁ (record { bytes = i; next = Some p })
  fills p h ep = record {
    fits = let r = room in omega arith;
    small = let r = room in omega arith;
    goes_on = ap Some ep;
    is = lines-shown w n ns k out out₁ i e ei (let r = room in omega arith);
  }

module _ (w n : ℕ) (ns : List ℕ) (k m : ℕ) (o : List ℕ) (r : Part) where
  pub prints-cut : m < k → Closes w n ns m 77 (most_lines - m) o r → Prints w n ns k m o r
  prints-cut h c = record { cut = λ _. c; ended = λ a _. absurd (omega arith); filled = λ a _. absurd (omega arith) }

  pub prints-ended : k ≤ m → k < part_lines → Closes w n ns k 69 (most_lines - m) o r → Prints w n ns k m o r
  prints-ended h g c = record { cut = λ a. absurd (omega arith); ended = λ _ _. c; filled = λ _ d. absurd (omega arith) }

  pub prints-filled : k ≤ m → part_lines ≤ k → Fills w n ns part_lines o r → Prints w n ns k m o r
  prints-filled h g f = record { cut = λ a. absurd (omega arith); ended = λ _ d. absurd (omega arith); filled = λ _ e. rw e f }

-- ---- a part of a book
module _ (s : Shape) (ws ranks : List ℕ) (from : Point) (m : ℕ) (o o' : List ℕ) (k : ℕ) (eo : length o ≡ part_lines * 3) (f : PageIs s ws ranks from o o' k) where
  room-is : length o / 3 ≡ part_lines
  room-is = rw eo refl

  pub part-few : (rows : List ℤ) → Loaded s rows ws ranks → LawfulPoint (book_of s rows) from → k ≤ part_lines
  part-few rows d l = page-few s ws ranks from part_lines o o' k room-is f rows d l

  module _ (w : ℕ) (ew : w ≡ line_fields s.exceptions) (out : List ℕ) (r : Part) (p : Prints w s.statements o' k m out r) (few : k ≤ part_lines) (left : m ≤ most_lines) where
    module _ (rows : List ℤ) (d : Loaded s rows ws ranks) (l : LawfulPoint (book_of s rows) from) where
      count : k ≡ length (page_from (book_of s rows) part_lines from)
      count = page-count s ws ranks from part_lines o o' k room-is f rows d l

      pairs-all : lines_of w s.statements (pairs_in o' 0 k) ≡ lines_of (fields_in (book_of s rows)) (book_of s rows).statements (page_from (book_of s rows) part_lines from)
      pairs-all = rw (page-all s ws ranks from part_lines o o' k room-is f rows d l, statements-same s rows, fields-same s rows, ew) refl

    cut : m < k → Lists s ws ranks from m out r
    cut h = let c = p.cut h in record {
      fits = c.fits;
      small = c.small;
      fewer = λ q t. absurd (not_both r.next q c.ends t);
      whole = λ rows d l t.
          let q : lines_of w s.statements (pairs_in o' 0 m) ≡ lines_of (fields_in (book_of s rows)) (book_of s rows).statements (take m (page_from (book_of s rows) part_lines from)) = rw (page-pairs s ws ranks from part_lines o o' k room-is f rows d l m (omega arith), statements-same s rows, fields-same s rows, ew) refl in
          c.is ∙ ap (λ (x : List ℕ). x ++ closing_line 77 (most_lines - m + m)) q ∙ cut-listed (book_of s rows) part_lines m from (let e = count rows d l in omega arith);
      lawful = λ rows d l q t. absurd (not_both r.next q c.ends t);
      front = λ rows d l q t. absurd (not_both r.next q c.ends t);
    }

    ended : k ≤ m → k < part_lines → Lists s ws ranks from m out r
    ended h g = let c = p.ended h g in record {
      fits = c.fits;
      small = c.small;
      fewer = λ q t. absurd (not_both r.next q c.ends t);
      whole = λ rows d l t.
          let e = count rows d l in
          c.is ∙ ap (λ (x : List ℕ). x ++ closing_line 69 (most_lines - m + k)) (pairs-all rows d l)
          ∙ ap (λ j. lines_of (fields_in (book_of s rows)) (book_of s rows).statements (page_from (book_of s rows) part_lines from) ++ closing_line 69 (most_lines - m + j)) e
          ∙ ended-listed (book_of s rows) part_lines m from (omega arith) (omega arith);
      lawful = λ rows d l q t. absurd (not_both r.next q c.ends t);
      front = λ rows d l q t. absurd (not_both r.next q c.ends t);
    }

    filled : k ≤ m → k ≡ part_lines → Lists s ws ranks from m out r
    filled g h = let c = p.filled g h in record {
      fits = c.fits;
      small = c.small;
      fewer = λ q t. omega arith;
      whole = λ rows d l t. absurd (not_both r.next _ t c.goes_on);
      lawful = λ rows d l q t. rw (leads rows d l q t) at (page-lawful (book_of s rows) part_lines from l);
      front = λ rows d l q t. rw (c.is ∙ pairs-all rows d l) (front-listed (book_of s rows) part_lines m from q (sym (count rows d l) ∙ h) (leads rows d l q t) (omega arith) left);
    }
      where
        leads : (rows : List ℤ) → Loaded s rows ws ranks → LawfulPoint (book_of s rows) from → (q : Pair) → r.next ≡ Some q → last_point from (page_from (book_of s rows) part_lines from) ≡ at q
        leads rows d l q t = ap (last_point from) (sym (rw h at (page-all s ws ranks from part_lines o o' k room-is f rows d l))) ∙ last-point (part_lines - 1) 0 from o' ∙ ap at (same_pair _ q (sym (p.filled g h).goes_on ∙ t))

    pub lists : Lists s ws ranks from m out r
    lists = ⊎_elim cut (λ a. ⊎_elim (ended a) (λ c. filled a (omega arith)) (lt-or-le k part_lines)) (lt-or-le m k)

pub few-taken : (s : Shape) (ws ranks : List ℕ) (p : Pair) → Ready s ws ranks p → p.taken < 2 ^ s.exceptions
few-taken s ws ranks p d = rw (exceptions-count s d.rows) at d.lawful.exceptions

-- ---- from the text
module _ (bs : List ℕ) (q : Refusal) (r : read_text bs ≡ refused q.number q.line) where
  pub refusal-short : (q.number < 10000) × (q.line < 10000)
  refusal-short = let k = rw r at (text-short bs) in let h = k.0.high in let g = k.1 in (omega arith, omega arith)

  pub begins-refused : (out out₁ ws ranks : List ℕ) → 10 ≤ length out → length out₁ ≡ length out → out₁ ≡ sets out 0 (failed q.number q.line)
      → Begins bs ws ranks out₁ (record { bytes = 10; next = None })
  unfolding ways_of on_text failed written_all written columns in_columns
  begins-refused out out₁ ws ranks h n e = record {
    fits = omega arith;
    small = omega arith;
    whole = λ c. rw r (rw e (front-is out (failed q.number q.line) h));
    more = λ s p c. cc;
  }

module _ (bs : List ℕ) (s : Shape) (ws ranks : List ℕ) (d : (rows : List ℤ) × (read_text bs ≡ accepted s rows) × Loaded s rows ws ranks) where
  pub prepared-was : Prepared s ws ranks
  prepared-was = record { rows = d.0; loaded = d.2 }

  pub begins-accepted : (out : List ℕ) (r : Part) (x : Option (Shape × Pair)) → Lists s ws ranks start most_lines out r → x ≡ option_map (λ p. (s, p)) r.next
      → Begins bs ws ranks out (record { bytes = r.bytes; next = x })
  unfolding ways_of on_text
  begins-accepted out r x o e = record {
    fits = o.fits;
    small = o.small;
    whole = λ c. rw d.1 (o.whole d.0 d.2 tt (ends r.next x e c));
    more = λ t q c. goes_on t q (goes r.next x t q e c);
  }
    where
      ends : (y : Option Pair) (z : Option (Shape × Pair)) → z ≡ option_map (λ p. (s, p)) y → z ≡ None → y ≡ None
      ends None z f g = refl
      ends (Some p) z f g = cc

      goes : (y : Option Pair) (z : Option (Shape × Pair)) (t : Shape) (q : Pair) → z ≡ option_map (λ p. (s, p)) y → z ≡ Some (t, q) → (s ≡ t) × (y ≡ Some q)
      goes None z t q f g = cc
      goes (Some p) z t q f g = let h : ◌≡◌ {A = Shape × Pair} (s, p) (t, q) = cc in (ap (λ (y : Shape × Pair). y.0) h, ap (λ (y : Shape × Pair). Some y.1) h)

      goes_on : (t : Shape) (q : Pair) → (s ≡ t) × (r.next ≡ Some q) → GoesOn bs ws ranks (take r.bytes out) t q (most_lines - part_lines)
      goes_on t q h =
          let g : GoesOn bs ws ranks (take r.bytes out) s q (most_lines - part_lines) = record { ready = record { rows = d.0; loaded = d.2; lawful = o.lawful d.0 d.2 tt q h.1 }; rest = rw d.1 (o.front d.0 d.2 tt q h.1) } in
          rw h.0 at g
