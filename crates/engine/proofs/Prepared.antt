-- What is answered of a prepared book: its root bounds, the verdict, pages. A page of the walk is the page of the definitions, since both are
-- the front of the one list of all later resolutions.
use mathlib.Core.Path.{◌≡◌, sym, ◌∙◌}
use mathlib.Core.Bool.{Bool, true, false}
use mathlib.Core.List.{List}
use Prim.Native.Nat.{ℕ, ◌-◌, ◌*◌, ◌/◌, ◌≤◌}
use native.Mathlib.Nat.{le_refl, div-mul-le_self}
use native.Mathlib.Omega.{arith}
use lib.IntN.{ℤ}
use lib.ListN.{length, take, length-take}
use lib.Seq.{sets, get_or-take, length-take-le}
use Rattle.sets.specs.declared.Pair.{Pair}
use Rattle.sets.specs.Pairs.{flat}
use Rattle.book.specs.declared.Shape.{Shape}
use Rattle.book.specs.Limits as limit
use Rattle.book.specs.Counts.{InLimits}
use Rattle.book.proofs.Counts.{exceptions-in}
use Rattle.text.specs.Reading.{over}
use Rattle.text.proofs.Lent.{over-sets}
use Rattle.masks.specs.declared.Bounds.{Bounds}
use Rattle.bounds.specs.Sound.{Propagated}
use Rattle.page.specs.Sought.{Sought}
use Rattle.page.specs.Pages.{Page}
use Rattle.page.proofs.Pages.{flat-length}
use Rattle.meaning.specs.Books.{Book}
use Rattle.meaning.specs.Meant.{book_of}
use Rattle.meaning.specs.Order.{Point, start, at, LawfulPoint, AllLater}
use Rattle.meaning.specs.Twins.Next.{page_from}
use Rattle.meaning.proofs.Meant.{exceptions-count}
use Rattle.meaning.proofs.Pages.{page-is}
use Rattle.bridge.specs.Roots.{root_of}
use Rattle.bridge.specs.Rows.{rule_count}
use Rattle.resolution.proofs.Resolutions.{rooted}
use Rattle.judge.specs.Judged.{Judged}
use Rattle.sifting.specs.Sifted.{Serves}
use Rattle.walk.specs.Walks.{beginning, Paged}
use Rattle.engine.specs.Loaded.{Loaded, RootIs, VerdictIs, PageIs, since}

-- The ranks of the book's own exceptions are ranks of the book, so what is answered by them is answered by all.
module _ (s : Shape) (ranks own : List ℕ) (e : own ≡ take s.exceptions ranks) (limits : InLimits s) (long : length ranks ≡ limit.exceptions) where
  own-long : length own ≡ s.exceptions
  own-long = rw e (length-take-le s.exceptions ranks (rw long (exceptions-in s limits)))

  pub own-short : length own ≤ 64
  own-short = omega (arith, own-long, exceptions-in s limits)

  module _ (ws : List ℕ) where
    own-loaded : (rows : List ℤ) → Loaded s rows ws ranks → Loaded s rows ws own
    unfolding book_of
    own-loaded rows l = record {
      packs = l.packs;
      ranked = record {
        each = rw (own-long, exceptions-count s rows) (le_refl s.exceptions);
        named = l.ranked.named;
        lines_named = l.ranked.lines_named;
        outranked = λ a c h. let k = rw own-long at h in rw (e, get_or-take s.exceptions ranks a 0 k) (l.ranked.outranked a c (omega (arith, long, exceptions-in s limits)));
      };
      limits = l.limits;
    }

    pub own-verdict : (p : Pair) (r : ℕ) → VerdictIs s ws own p r → VerdictIs s ws ranks p r
    own-verdict p r f = record { is = λ rows l. f.is rows (own-loaded rows l) }

    pub own-page : (from : Point) (o o' : List ℕ) (r : ℕ) → PageIs s ws own from o o' r → PageIs s ws ranks from o o' r
    own-page from o o' r f = record { count = λ rows l. f.count rows (own-loaded rows l); filled = λ rows l. f.filled rows (own-loaded rows l) }

pub root_is : (s : Shape) (ws ranks : List ℕ) (b o : Bounds) → ((t : List ℤ) → b ≡ root_of (book_of s t)) → Propagated ws (rule_count s) ranks b o → RootIs s ws ranks o
root_is s ws ranks b o e p = record { rooted = λ rows l. rooted (book_of s rows) ws (rule_count s) ranks o l.packs l.ranked (rw (e rows) at p) }

pub verdict-is : (s : Shape) (ws ranks : List ℕ) (root : Bounds) (p : Pair) (r : ℕ) → RootIs s ws ranks root → Judged ws (rule_count s) ranks root p r → VerdictIs s ws ranks p r
verdict-is s ws ranks root p r i j = record { is = λ rows l w. j.is (book_of s rows) (i.rooted rows l) w }

-- A page of the front of the list of all later resolutions.
module _ (b : Book) (from : Point) (o o' : List ℕ) (r k : ℕ) (ek : k ≡ length o / 3) (zs : List Pair) (a : AllLater b from zs) (l : LawfulPoint b from) (g : Page k 0 o o' zs r) where
  same : take (k - 0) zs ≡ page_from b (length o / 3) from
  same = let e : k - 0 ≡ length o / 3 = omega (arith, ek) in rw e (sym (page-is b (length o / 3) from zs l a))

  pub page-count : r ≡ length (page_from b (length o / 3) from)
  page-count = let c = rw same at g.count in omega arith

  pub page-filled : o' ≡ over o (flat (page_from b (length o / 3) from))
  page-filled =
      let z : 0 * 3 ≡ 0 = omega arith in
      let f : o' ≡ sets o 0 (flat (page_from b (length o / 3) from)) = rw (same, z) at g.filled in
      let n = flat-length (page_from b (length o / 3) from) in
      let t : length (page_from b (length o / 3) from) ≤ length o / 3 = rw (page-is b (length o / 3) from zs l a) (let m = length-take (length o / 3) zs in omega arith) in
      f ∙ over-sets o (flat (page_from b (length o / 3) from)) (omega (arith, div-mul-le_self (length o) 3))

module _ (s : Shape) (ws ranks : List ℕ) (root : Bounds) (q : Sought) (i : RootIs s ws ranks root) (er : q.rules ≡ rule_count s) (es : q.statements ≡ s.statements) where
  serves : (rows : List ℤ) → Loaded s rows ws ranks → Serves (book_of s rows) ws ranks root q
  unfolding book_of
  serves rows l = record { rooted = rw er (i.rooted rows l); statements = es }

  few : (rows : List ℤ) → length (book_of s rows).exceptions ≤ s.exceptions
  unfolding book_of
  few rows = rw (exceptions-count s rows) (le_refl s.exceptions)

  module _ (o o' : List ℕ) (r : ℕ) (em : q.room ≡ length o / 3) where
    pages-are : (a : Bool) → Paged ws ranks root q s.exceptions a o o' r → PageIs s ws ranks (beginning a q) o o' r
    pages-are a f = record {
      count = λ rows l p. let d = f.page (book_of s rows) (serves rows l) (few rows) p in page-count (book_of s rows) (beginning a q) o o' r q.room em d.0 d.1 p d.2;
      filled = λ rows l p. let d = f.page (book_of s rows) (serves rows l) (few rows) p in page-filled (book_of s rows) (beginning a q) o o' r q.room em d.0 d.1 p d.2;
    }

    pub page_is : (a : Bool) → Paged ws ranks root q s.exceptions a o o' r → PageIs s ws ranks (since a q.point) o o' r
    unfolding beginning
    page_is false f = pages-are false f
    page_is true f = pages-are true f

    -- The same of the first page, and of one after a pair.
    pub first-is : Paged ws ranks root q s.exceptions false o o' r → PageIs s ws ranks start o o' r
    first-is f = page_is false f

    pub after_is : Paged ws ranks root q s.exceptions true o o' r → PageIs s ws ranks (at q.point) o o' r
    after_is f = page_is true f
