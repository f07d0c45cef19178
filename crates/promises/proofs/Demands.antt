-- The three demands, and request (h) of document 02, about the engine's own functions and about those for C, for every input. What a function meets is
-- its contract, which says its full answer and what it leaves in each lent slice, and that it ends: `F.statement`, proved as `F.met`. Beside the
-- contracts stand laws about the definitions that they name, so that a reader need believe no more than those of the documents.
use mathlib.Core.Path.{◌≡◌, refl}
use mathlib.Core.Bool.{true}
use mathlib.Core.Option.{some}
use mathlib.Core.List.{List, [], ◌∷◌}
use mathlib.Core.Logic.{◌↔◌}
use Prim.Native.Nat.{ℕ, suc, ◌/◌}
use lib.IntN.{ℤ}
use lib.ListN.{length, replicate}
use Rattle.logic.specs.Lists.{Every}
use Rattle.sets.specs.declared.Pair.{Pair}
use Rattle.book.specs.declared.Shape.{Shape}
use Rattle.std.specs.Prelude.{Ok, Err}
use Rattle.text.specs.Fields.{written, Misspells, Short, WellSpelt, spelt}
use Rattle.text.specs.Lines.{lines}
use Rattle.text.specs.Reading.{read_text, read_into, table_of}
use Rattle.text.specs.Reading.Outcome.{accepted, refused as unread}
use Rattle.text.specs.Tables.{test_table}
use Rattle.text.specs.Writing.{text_of, write_into}
use Rattle.text.specs.Writing.Text.{no_text}
use Rattle.text.proofs.Spelling.{value-iff, misspelt-iff, well-spelt-iff}
use Rattle.text.proofs.Inverse.{read-write, write_read}
use Rattle.meaning.specs.Books.{Book, Lawful}
use Rattle.meaning.specs.Meant.{book_of}
use Rattle.meaning.specs.Order.{start, at}
use Rattle.meaning.specs.Resolutions.{Resolution}
use Rattle.meaning.specs.Published.{Chosen}
use Rattle.meaning.specs.Listings.{Answer, refused, first, after, FirstLater, go_on, listing}
use Rattle.meaning.proofs.Laws.{as-published}
use Rattle.meaning.proofs.Shown.{Shown, small-books}
use Rattle.meaning.proofs.SmallBooks.{table}
use Rattle.answers.specs.Operations.{Told, told, turned, left, judge_answer, first_page, page_after, line_answer, asks}
use Rattle.answers.specs.Ways.{failed, ways_of, Counted}
use Rattle.answers.specs.Means.{Means, Judges, Pages, Lines, WaysPrints}
use Rattle.answers.proofs.Counted.{ways-counted}
use Rattle.answers.proofs.Refused.{Known, text-known}
use Rattle.answers.proofs.Means.{judge-means, first-means, after-means, first-page-means, page-after-means, line-means, ways-means}
use Rattle.answers.proofs.Listed.{first-page-handed, page-after-handed}
use Rattle.read.proofs.read.Statement as read
use Rattle.read.proofs.read.Met as read-met
use Rattle.write.proofs.write.Statement as write
use Rattle.write.proofs.write.Met as write-met
use Rattle.line.proofs.line.Statement as line
use Rattle.line.proofs.line.Met as line-met
use Rattle.line.proofs.line_part.Statement as line-part
use Rattle.line.proofs.line_part.Met as line-part-met
use Rattle.operations.proofs.judge.Statement as judge
use Rattle.operations.proofs.judge.Met as judge-met
use Rattle.operations.proofs.first_page.Statement as first-page
use Rattle.operations.proofs.first_page.Met as first-page-met
use Rattle.operations.proofs.page_after.Statement as page-after
use Rattle.operations.proofs.page_after.Met as page-after-met
use Rattle.calls.proofs.Demand3 as engine
use Rattle.listing.proofs.Whole as ways
use Rattle.bantameasel.proofs.Demand3 as across
use Rattle.entry.specs.Names.{Spelt, Precedes, is_name, before, same_name}
use Rattle.entry.specs.Bytes.{AreBytes}
use Rattle.entry.proofs.Orders.{same-iff}
use Rattle.entry.proofs.Spelling.{name-iff, before-iff}
use Rattle.points.specs.Points.{Entry, Fits, Store, OfStore, Goes, Sets, Drops}
use Rattle.points.specs.Stores.{holds, store_of, go_told, set_told, drop_told}
use Rattle.points.specs.Calls.{PointCall, Note, last_set, names, point_answer, point_answers, remembered_all, notes_after, left_by, left_by_all, Sized, LeftBy}
use Rattle.points.proofs.Means.{store-iff, go-means, set-means, drop-means}
use Rattle.points.proofs.Memory.{all-remembered, last_set_lem, names-counted, refused-changes-nothing}
use Rattle.visits.specs.GoingOn.{go_on_answer}
use Rattle.visits.proofs.Gone.{goes_on}
use Rattle.visits.proofs.Claim as points
use Rattle.bantameasel.proofs.Points as points-c
use Rattle.bantameasel.proofs.bantameasel_version.Statement as version-c
use Rattle.bantameasel.proofs.bantameasel_version.Met as version-c-met
use Rattle.bantameasel.proofs.bantameasel_read.Statement as read-c
use Rattle.bantameasel.proofs.bantameasel_read.Met as read-c-met
use Rattle.bantameasel.proofs.bantameasel_write.Statement as write-c
use Rattle.bantameasel.proofs.bantameasel_write.Met as write-c-met
use Rattle.bantameasel.proofs.bantameasel_judge.Statement as judge-c
use Rattle.bantameasel.proofs.bantameasel_judge.Met as judge-c-met
use Rattle.bantameasel.proofs.bantameasel_line.Statement as line-c
use Rattle.bantameasel.proofs.bantameasel_line.Met as line-c-met
use Rattle.bantameasel.proofs.bantameasel_first_page.Statement as first-page-c
use Rattle.bantameasel.proofs.bantameasel_first_page.Met as first-page-c-met
use Rattle.bantameasel.proofs.bantameasel_page_after.Statement as page-after-c
use Rattle.bantameasel.proofs.bantameasel_page_after.Met as page-after-c-met
use Rattle.promises.specs.Misspelt.{read_before, told_before}
use Rattle.promises.proofs.Misspelt.{where-five-stood}

-- Every operation that users call, in the engine and for C: its contract, on every input. Of First and After there are the contracts and that of
-- the function which makes any list of calls through them (`engine.Claim`); of `ways` those of the functions that leave what it writes, and that
-- this is, part after part, the whole of it (`ways.Claim`).
pub record Contracts (M : Type 1) : Type 2 where
  pub read_meets : read.statement M
  pub write_meets : write.statement M
  pub judge-meets : judge.statement M
  pub listing-meets : engine.Claim M
  pub first-page-meets : first-page.statement M
  pub page-after-meets : page-after.statement M
  pub line-meets : line.statement M
  pub line-part-meets : line-part.statement M
  pub ways-meets : ways.Claim M
  pub points-meets : points.Claim M
  pub version-c-meets : version-c.statement M
  pub read-c-meets : read-c.statement M
  pub write-c-meets : write-c.statement M
  pub judge-c-meets : judge-c.statement M
  pub listing-c-meets : across.Claim M
  pub first-page-c-meets : first-page-c.statement M
  pub page-after-c-meets : page-after-c.statement M
  pub line-c-meets : line-c.statement M
  pub points-c-meets : points-c.Claim M

-- Demand 1. Every operation ends on every input, turns down what is faulty by the number and line of the documents, and then leaves every lent
-- buffer untouched: the contracts, in whose definitions a refused Read, Write, Line or page leaves the slice that it was lent. A text is never
-- refused with number 0, nor with a line past the one after its last. Four columns are read as a number exactly where they
-- are how it is written, refused as misspelt exactly by the one of 5, 17 and 18 that they meet, and well spelt exactly where they meet none; and
-- the three stand where 5 stood.
pub record DemandOne : Type 1 where
  pub read-untouched : (l : List ℤ) (q at' : ℕ) → read_into l (unread q at') ≡ l
  pub write-untouched : (l : List ℕ) (q at' : ℕ) → write_into l (no_text q at') ≡ l
  pub left-untouched : (A : Type 0) (f : A → List ℕ) (l : List ℕ) (q at' : ℕ) → left f l (turned q at') ≡ l
  pub numbered : (bs : List ℕ) → Known (suc (length (lines bs))) (read_text bs)
  pub spelt-number : (a b c d : ℕ) (v : ℤ) → (spelt a b c d ≡ Ok v) ↔ (Short v × (written v ≡ a ∷ b ∷ c ∷ d ∷ []))
  pub misspelt : (a b c d q : ℕ) → (spelt a b c d ≡ Err q) ↔ Misspells (a ∷ b ∷ c ∷ d ∷ []) q
  pub well-spelt : (a b c d : ℕ) → WellSpelt (a ∷ b ∷ c ∷ d ∷ []) ↔ ((q : ℕ) → Misspells (a ∷ b ∷ c ∷ d ∷ []) q → ⊥)
  pub as_before : (bs : List ℕ) → read_before bs ≡ told_before (read_text bs)

-- Demand 2. A book is accepted, read and written as the documents lay it out, reading and writing being inverse: the contracts of Read and Write,
-- and the first two laws. The verdict on any pair is the one that follows from answer sets, views, domination and minimality: the contracts of
-- Judge, whose answer is the one that `Means` and `Verdict` allow; resolutions are the published ones, and the small books show it. What Line
-- writes and `ways` prints is also said by the definitions alone, and the number of the closing line is the number of A lines above it.
pub record DemandTwo : Type 0 where
  pub read_back : (bs : List ℕ) (s : Shape) (ws : List ℤ) → read_text bs ≡ accepted s ws → (test_table (table_of s ws) ≡ accepted s ws) × (text_of s ws ≡ bs)
  pub write-back : (t : List ℤ) (s : Shape) (ws : List ℤ) → test_table t ≡ accepted s ws → (read_text (text_of s ws) ≡ accepted s ws) × (table_of s ws ≡ t)
  pub judge-right : (bs : List ℕ) (p : Pair) (x : Told ℕ) → (x ≡ judge_answer bs p) ↔ Means turned Judges bs (at p) x
  pub published : (b : Book) (p : Pair) → Resolution b p ↔ Chosen b p
  pub shown : Every Shown table
  pub line-right : (bs : List ℕ) (p : Pair) (m : ℕ) (x : Told (List ℕ)) → (x ≡ line_answer bs p m) ↔ Means turned (Lines m) bs (at p) x
  pub ways-right : (bs x : List ℕ) → (x ≡ ways_of bs) ↔ Means failed WaysPrints bs start x
  pub ways-counts : (bs : List ℕ) (s : Shape) (ws : List ℤ) → read_text bs ≡ accepted s ws → Counted (ways_of bs)

-- Demand 3, one claim about the whole list of calls of the engine's own First and After: the contract of `run`, in `engine.Claim`, where `asks` is
-- what First and After answer, the first later resolution; and of the structs that C gets, `across.Claim`. And pages: a page is the first so many
-- of all later resolutions, and what as many calls of First and After would hand out.
pub record DemandThree : Type 0 where
  pub first-right : (bs : List ℕ) (x : Answer) → (x ≡ asks bs first 0) ↔ Means refused FirstLater bs start x
  pub after-right : (bs : List ℕ) (p : Pair) (x : Answer) → (x ≡ asks bs (after p) 0) ↔ Means refused FirstLater bs (at p) x
  pub first-page-right : (bs : List ℕ) (m : ℕ) (x : Told (List Pair)) → (x ≡ first_page bs m) ↔ Means turned (Pages (m / 3)) bs start x
  pub page-after-right : (bs : List ℕ) (p : Pair) (m : ℕ) (x : Told (List Pair)) → (x ≡ page_after bs p m) ↔ Means turned (Pages (m / 3)) bs (at p) x
  pub first-page-calls : (bs : List ℕ) (s : Shape) (ws : List ℤ) → read_text bs ≡ accepted s ws → (m : ℕ)
      → first_page bs m ≡ told (listing (asks bs) (replicate (m / 3) (go_on 0)) start)
  pub page-after-calls : (bs : List ℕ) (s : Shape) (ws : List ℤ) → read_text bs ≡ accepted s ws → (p : Pair) → Lawful (book_of s ws) p → (m : ℕ)
      → page_after bs p m ≡ told (listing (asks bs) (replicate (m / 3) (go_on 0)) (at p))

-- Request (h), named stopping points. A store is what the request says, and Set, Go and Drop answer and leave what it says, on every input, refused
-- calls leaving every byte. After any list of these calls from an empty store each answer is the one that is remembered of the calls: Go gives the
-- pair last set under that name and not dropped since (`remembers`; as the contract of the function that makes the calls: `points.Claim`; for C:
-- `points-c.Claim`). Going on from a name is After with that pair, so that all of demand 3 holds of what follows it (`list_on` in `points.Claim`).
pub record PointsKept : Type 0 where
  pub spelling : (n : List ℕ) → (is_name n ≡ true) ↔ Spelt n
  pub order : (a b : List ℕ) → length a ≡ length b → (before a b ≡ true) ↔ Precedes a b
  pub equal-names : (a b : List ℕ) → (same_name a b ≡ true) ↔ (a ≡ b)
  pub stores : (bs : List ℕ) (es : List Entry) → AreBytes bs → (store_of bs ≡ holds es) ↔ Store bs es
  pub go_right : (bs n : List ℕ) → AreBytes bs → (x : Told Pair) → (x ≡ go_told (store_of bs) n) ↔ OfStore (Goes n) bs n x
  pub set-right : (bs n : List ℕ) (p : Pair) → AreBytes bs → Fits p → (x : Told (List Entry)) → (x ≡ set_told (store_of bs) n p) ↔ OfStore (Sets n p) bs n x
  pub drop-right : (bs n : List ℕ) → AreBytes bs → (x : Told (List Entry)) → (x ≡ drop_told (store_of bs) n) ↔ OfStore (Drops n) bs n x
  pub refused-untouched : (bs : List ℕ) (c : PointCall) (q line : ℕ) → point_answer bs c ≡ turned q line → left_by bs c ≡ bs
  pub remembers : (cs : List PointCall) (h : List Note) (bs : List ℕ) → LeftBy h bs → Every Sized cs
      → (point_answers bs cs ≡ remembered_all h cs) × LeftBy (notes_after h cs) (left_by_all bs cs)
  pub names-counted : (h : List Note) (bs : List ℕ) (es : List Entry) → LeftBy h bs → Store bs es → length es ≡ names h
  pub last_set_lem : (h : List Note) (bs n : List ℕ) (p : Pair) → LeftBy h bs → last_set n h ≡ some p → go_told (store_of bs) n ≡ told p
  pub goes_on : (h : List Note) (text store n : List ℕ) (p : Pair) → LeftBy h store → last_set n h ≡ some p → Means refused FirstLater text (at p) (go_on_answer text store n)

pub record Demands (M : Type 1) : Type 2 where
  pub contracts : Contracts M
  pub one : DemandOne
  pub two : DemandTwo
  pub three : DemandThree
  pub points_kept : PointsKept

pub demands : {M : Type 1} → Demands M
unfolding read_into write_into left asks
demands = record {
  contracts = record {
    read_meets = read-met.met;
    write_meets = write-met.met;
    judge-meets = judge-met.met;
    listing-meets = engine.claim;
    first-page-meets = first-page-met.met;
    page-after-meets = page-after-met.met;
    line-meets = line-met.met;
    line-part-meets = line-part-met.met;
    ways-meets = ways.claim;
    points-meets = points.claim;
    version-c-meets = version-c-met.met;
    read-c-meets = read-c-met.met;
    write-c-meets = write-c-met.met;
    judge-c-meets = judge-c-met.met;
    listing-c-meets = across.claim;
    first-page-c-meets = first-page-c-met.met;
    page-after-c-meets = page-after-c-met.met;
    line-c-meets = line-c-met.met;
    points-c-meets = points-c.claim;
  };
  one = record {
    read-untouched = λ l q at'. refl;
    write-untouched = λ l q at'. refl;
    left-untouched = λ A f l q at'. refl;
    numbered = text-known;
    spelt-number = value-iff;
    misspelt = misspelt-iff;
    well-spelt = well-spelt-iff;
    as_before = where-five-stood;
  };
  two = record {
    read_back = read-write;
    write-back = write_read;
    judge-right = judge-means;
    published = as-published;
    shown = small-books;
    line-right = line-means;
    ways-right = ways-means;
    ways-counts = ways-counted;
  };
  three = record {
    first-right = first-means;
    after-right = after-means;
    first-page-right = first-page-means;
    page-after-right = page-after-means;
    first-page-calls = first-page-handed;
    page-after-calls = page-after-handed;
  };
  points_kept = record {
    spelling = name-iff;
    order = before-iff;
    equal-names = same-iff;
    stores = store-iff;
    go_right = go-means;
    set-right = set-means;
    drop-right = drop-means;
    refused-untouched = refused-changes-nothing;
    remembers = all-remembered;
    names-counted = names-counted;
    last_set_lem = last_set_lem;
    goes_on = goes_on;
  };
}
