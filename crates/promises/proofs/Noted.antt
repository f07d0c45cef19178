-- "A point noted before the change goes on to the same resolutions" (document 02, (c)). Any table of sets that meets document 01's rule gives the one
-- order of pairs: `all-later-by`. So the table of 4,096 sets and that of 65,536 list a book of at most 12 exceptions alike, `noted-point`; the engine
-- hands out that list, `goes_on`, in lines of the same bytes, `keeps-fields`. If the book has no Q and no O line, its resolutions are those of document 01,
-- `same-resolutions`, so the list is document 01's by its own words, `goes-on-before`, and it keeps document 01's limits, `keeps-limits`.
use mathlib.Core.Path.{◌≡◌, sym, ap, ◌∙◌}
use mathlib.Core.List.{List, [], ◌∷◌, ◌++◌}
use mathlib.Core.Logic.{◌↔◌}
use Prim.Native.Nat.{ℕ, ◌+◌, ◌^◌, ◌<◌, ◌≤◌}
use native.Mathlib.Omega.{arith}
use lib.IntN.{ℤ}
use lib.ListN.{length, take, replicate}
use lib.Pow.{pow_mono}
use Rattle.logic.specs.Lists.{Every}
use Rattle.logic.specs.Tests.{pick}
use Rattle.logic.proofs.Members.{every-at, every_of, every_map}
use Rattle.sets.specs.declared.Pair.{Pair}
use Rattle.book.specs.declared.Shape.{Shape}
use Rattle.book.specs.Limits as limit
use Rattle.book.specs.Kinds.{kinds, kind, bytes, row_once}
use Rattle.book.specs.Counts.{counts_of, all_counts, count_at, sum_to, total, text_bytes}
use Rattle.book.proofs.Counts.{plain_in, preferences-in}
use Rattle.text.specs.Reading.{read_text}
use Rattle.text.specs.Reading.Outcome.{accepted}
use Rattle.text.specs.Accepted.{Accepted}
use Rattle.text.specs.ALines.{a_line}
use Rattle.text.proofs.Facts.{accepted-facts, text-length}
use Rattle.order.specs.Order.{Earlier, fewer as fewer-set, smaller as smaller-set, Ordered}
use Rattle.order.specs.Formula.{place_of, set_at}
use Rattle.order.proofs.Rule.{order-rule, place-there}
use Rattle.order.proofs.Places.{place-earlier, same-order}
use Rattle.meaning.specs.AnswerSets.{OneHead}
use Rattle.meaning.specs.Books.{Book, Lawful, conclusions, applied}
use Rattle.meaning.specs.Meant.{book_of}
use Rattle.meaning.specs.Order.{Before, fewer, smaller, differs, Ascending, Point, start, at, LawfulPoint, Later, AllLater}
use Rattle.meaning.specs.Views.{Answers, View}
use Rattle.meaning.specs.Resolutions.{Resolution}
use Rattle.meaning.specs.Listings.{go_on, listing}
use Rattle.meaning.proofs.Conditions.{within-plain, dominates-plain, resolution-plain}
use Rattle.meaning.proofs.Meant.{exceptions-count, unconditional}
use Rattle.meaning.proofs.OneHeads.{one-head-answers, rows-one-head}
use Rattle.meaning.proofs.Pages.{page-is}
use Rattle.meaning.proofs.Sorted.{all-later}
use Rattle.answers.specs.Operations.{line_in, asks}
use Rattle.answers.proofs.Listed.{handed-page}
use Rattle.bridge.specs.Ranks.{Names}
use Rattle.bridge.proofs.Rows.{rows_named}
use Rattle.line.proofs.PutLaws.{fields-short, line-54}
use Rattle.walk.proofs.Places.{earlier-before}
use Rattle.operations.proofs.Loading.{lawful-rows}
use Rattle.promises.specs.Noted.{BeforeBy, earlier, differs as differs-by, LaterBy, AscendingBy, AllLaterBy, AllBefore, AnswerSetBefore, ViewBefore, ResolutionBefore, exceptions_before, KeepsLimits}

-- ---- two pairs
-- Pairs with different sets stand in the order of their sets.
before-earlier : (p q : Pair) → (p.taken ≡ q.taken → ⊥) → Before p q → Earlier p.taken q.taken
before-earlier p q n (fewer l) = fewer-set l
before-earlier p q n (smaller e l) = smaller-set e l
before-earlier p q n (differs e i h s l) = absurd (n e)

-- The order of pairs with different sets is that of their places in the order of the sets of w exceptions, for every w that has both: document 01's
-- rule and the engine's formula for places are one order.
module _ (w : ℕ) (small : w ≤ 64) (p q : Pair) (hp : p.taken < 2 ^ w) (hq : q.taken < 2 ^ w) where
  pub place-before : (p.taken ≡ q.taken → ⊥) → Before p q ↔ (place_of w p.taken < place_of w q.taken)
  place-before n =
      let rule = order-rule w small in
      let x = place-there w p.taken hp in
      let y = place-there w q.taken hq in (
        λ b. place-earlier {w = w} {f = set_at w} rule (place_of w p.taken) (place_of w q.taken) x.0 (rw (x.1, y.1) (before-earlier p q n b)),
        λ l. earlier-before p q (rw (x.1, y.1) at (rule.rises (place_of w p.taken) (place_of w q.taken) l y.0)),
      )

-- So two sets stand in one order, whatever the number of exceptions: by the engine's formula the places of sets of 12 exceptions keep their order
-- among those of 16.
pub places-agree : (w v : ℕ) → w ≤ 64 → v ≤ 64 → (s t : ℕ) → s < 2 ^ w → t < 2 ^ w → s < 2 ^ v → t < 2 ^ v → (place_of w s < place_of w t) ↔ (place_of v s < place_of v t)
places-agree w v hw hv s t sw tw sv tv = (go w v hw hv sw tw sv tv, go v w hv hw sv tv sw tw)
  where
    go : (w v : ℕ) → w ≤ 64 → v ≤ 64 → s < 2 ^ w → t < 2 ^ w → s < 2 ^ v → t < 2 ^ v → place_of w s < place_of w t → place_of v s < place_of v t
    go w v hw hv sw tw sv tv l =
        let a = place-there w s sw in
        let b = place-there w t tw in
        let c = place-there v s sv in
        let d = place-there v t tv in
        same-order {w = w} {x = v} {f = set_at w} {g = set_at v} (order-rule w hw) (order-rule v hv) (place_of w s) (place_of w t) (place_of v s) (place_of v t)
        b.0 c.0 (a.1 ∙ sym c.1) (b.1 ∙ sym d.1) l

-- ---- by a table that meets the rule
module _ (w : ℕ) (f : ℕ → ℕ) (rule : Ordered w f) where
  by_place : (p q : Pair) → p.taken < 2 ^ w → q.taken < 2 ^ w → Earlier p.taken q.taken → BeforeBy w f p q
  by_place p q hp hq l =
      let j = rule.present p.taken hp in
      let k = rule.present q.taken hq in
      earlier j.0 k.0 (place-earlier {w = w} {f = f} rule j.0 k.0 j.1 (rw (j.2, k.2) l)) k.1 j.2 k.2

  -- Two pairs that it has both stand in it as they do by the rule.
  before-by : (p q : Pair) → p.taken < 2 ^ w → q.taken < 2 ^ w → Before p q → BeforeBy w f p q
  before-by p q hp hq (fewer l) = by_place p q hp hq (fewer-set l)
  before-by p q hp hq (smaller e l) = by_place p q hp hq (smaller-set e l)
  before-by p q hp hq (differs e i h s l) = differs-by e i h s l

  by_before : (p q : Pair) → BeforeBy w f p q → Before p q
  by_before p q (earlier j k l h ep eq) = earlier-before p q (rw (ep, eq) at (rule.rises j k l h))
  by_before p q (differs-by e i h s l) = differs e i h s l

  by-ascending : (ps : List Pair) → AscendingBy w f ps → Ascending ps
  by-ascending [] a = tt
  by-ascending (p ∷ ps) a = (every_map (λ q. by_before p q) ps a.0, by-ascending ps a.1)

  -- In a book of at most w exceptions.
  module _ (b : Book) (few : length b.exceptions ≤ w) where
    in_table : (p : Pair) → Lawful b p → p.taken < 2 ^ w
    in_table p l = omega (arith, l.exceptions, pow_mono few)

    ascending-by : (ps : List Pair) → Every (Lawful b) ps → Ascending ps → AscendingBy w f ps
    ascending-by [] l a = tt
    ascending-by (p ∷ ps) l a = (
      every_of (BeforeBy w f p) ps (λ q m. before-by p q (in_table p l.0) (in_table q (every-at (Lawful b) q ps l.1 m)) (every-at (Before p) q ps a.0 m)),
      ascending-by ps l.1 a.1,
    )

    by-later : (from : Point) (q : Pair) → LaterBy w f from q → Later from q
    by-later start q l = tt
    by-later (at p) q l = by_before p q l

    later-by : (from : Point) → LawfulPoint b from → (q : Pair) → Lawful b q → Later from q → LaterBy w f from q
    later-by start h q m l = tt
    later-by (at p) h q m l = before-by p q (in_table p h) (in_table q m) l

    -- The list of all later resolutions is the same by the table and by the rule.
    pub all-later-by : (from : Point) → LawfulPoint b from → (ps : List Pair) → AllLaterBy w f b from ps ↔ AllLater b from ps
    all-later-by from h ps = (
      λ a. record {
        only = every_map (λ p x. (x.0, by-later from p x.1)) ps a.only;
        all = λ p r l. a.all p r (later-by from h p r.view.lawful l);
        ascending = by-ascending ps a.ascending;
      },
      λ a. record {
        only = every_map (λ p x. (x.0, later-by from h p x.0.view.lawful x.1)) ps a.only;
        all = λ p r l. a.all p r (by-later from p l);
        ascending = ascending-by ps (every_map (λ p x. x.0.view.lawful) ps a.only) a.ascending;
      },
    )

    -- There is such a list.
    pub some-later-by : (from : Point) → LawfulPoint b from → (ps : List Pair) × AllLaterBy w f b from ps
    some-later-by from h = let a = all-later b from h in (a.0, (all-later-by from h a.0).1 a.1)

-- ---- resolutions
-- In a book without Q lines whose rules have one head or none, a view and a resolution are those of document 01.
module _ (b : Book) (none : b.conditional ≡ []) (one : (p : Pair) → Every OneHead (b.plain ++ applied b p)) where
  answers-before : (p : Pair) → Answers b p ↔ AnswerSetBefore (b.plain ++ applied b p) (conclusions p)
  answers-before p = let k = one-head-answers (b.plain ++ applied b p) (one p) (conclusions p) in (
    λ a. let h = k.0 a in record { consistent = h.0; least = h.1; unbroken = h.2 },
    λ a. k.1 (a.consistent, a.least, a.unbroken),
  )

  view-before : (p : Pair) → View b p ↔ ViewBefore b p
  view-before p = let w = within-plain b none p in let k = answers-before p in (
    λ v. record { lawful = v.lawful; answers = k.0 v.answers; unranked = λ r. v.unranked (w.1 r); bodies = v.bodies },
    λ v. record { lawful = v.lawful; answers = k.1 v.answers; unranked = λ r. v.unranked (w.0 r); bodies = v.bodies },
  )

  pub resolution-before : (p : Pair) → Resolution b p ↔ ResolutionBefore b p
  resolution-before p = let r = resolution-plain b none p in (
    λ x. let h = r.0 x in record {
      view = (view-before p).0 h.0;
      undominated = λ q v d. h.1 (record { other = q; view = (view-before q).1 v; dominates = (dominates-plain b none q p).1 d });
      minimal = λ q v m. h.2 (record { other = q; view = (view-before q).1 v; smaller = m });
    },
    λ x. r.1 (
      (view-before p).1 x.view,
      λ d. x.undominated d.other ((view-before d.other).0 d.view) ((dominates-plain b none d.other p).0 d.dominates),
      λ l. x.minimal l.other ((view-before l.other).0 l.view) l.smaller,
    ),
  )

-- ---- before the change and after it
-- In a book of at most 12 exceptions the resolutions later than a point are listed alike by any table of the sets of 12 and any of the sets of 16.
pub noted-point : (old new : ℕ → ℕ) → Ordered exceptions_before old → Ordered limit.exceptions new → (b : Book) → length b.exceptions ≤ exceptions_before
    → (from : Point) → LawfulPoint b from → (ps : List Pair) → AllLaterBy exceptions_before old b from ps ↔ AllLaterBy limit.exceptions new b from ps
noted-point old new ro rn b few from h ps =
    let x = all-later-by exceptions_before old ro b few from h ps in
    let y = all-later-by limit.exceptions new rn b (omega arith) from h ps in
    (λ a. y.1 (x.0 a), λ a. x.1 (y.0 a))

module _ (bs : List ℕ) (s : Shape) (ws : List ℤ) (e : read_text bs ≡ accepted s ws) (few : s.exceptions ≤ exceptions_before) where
  facts : Accepted s ws
  facts = accepted-facts bs s ws e

  few-exceptions : length (book_of s ws).exceptions ≤ exceptions_before
  few-exceptions = rw (exceptions-count s ws) few

  -- Document 01's list of the resolutions later than a point in such a book, by any table that meets its rule: there is one, and the calls that go
  -- on from the point hand out this list and nothing else, each resolution once and nothing after the last.
  module _ (old : ℕ → ℕ) (rule : Ordered exceptions_before old) (from : Point) (lawful : LawfulPoint (book_of s ws) from) where
    pub old-list : (ps : List Pair) × AllLaterBy exceptions_before old (book_of s ws) from ps
    old-list = some-later-by exceptions_before old rule (book_of s ws) few-exceptions from lawful

    pub goes_on : (ps : List Pair) → AllLaterBy exceptions_before old (book_of s ws) from ps → (k : ℕ) → listing (asks bs) (replicate k (go_on 0)) from ≡ take k ps
    goes_on ps a k =
        let later = (all-later-by exceptions_before old rule (book_of s ws) few-exceptions from lawful ps).0 a in
        sym (handed-page bs s ws e k from lawful) ∙ page-is (book_of s ws) k from ps lawful later

  -- The lines of such a book have document 01's 12 fields for exceptions: Line's bytes are those of document 01, 54 + n of them.
  pub keeps-fields : (p : Pair) → line_in (book_of s ws) p ≡ a_line 12 s.statements p
  unfolding book_of
  keeps-fields p = ap (λ w. a_line w s.statements p) (fields-short (length (book_of s ws).exceptions) few-exceptions)

  pub keeps-length : (p : Pair) → length (line_in (book_of s ws) p) ≡ 54 + s.statements
  unfolding book_of
  keeps-length p = line-54 (length (book_of s ws).exceptions) s.statements p few-exceptions

  -- ---- document 01's resolutions and limits
  names-few : (i : ℕ) → Names (length (book_of s ws).exceptions) i → Names exceptions_before i
  names-few i n = record { from_one = n.from_one; most = omega (arith, n.most, exceptions-count s ws) }

  -- Document 01 has no Q lines and no O lines.
  module _ (none : s.conditionals ≡ 0) (one : s.alternatives ≡ 0) where
    pub same-resolutions : (p : Pair) → Resolution (book_of s ws) p ↔ ResolutionBefore (book_of s ws) p
    same-resolutions = resolution-before (book_of s ws) (unconditional s ws none) (rows-one-head s ws one)

    -- So the calls that go on from a point hand out document 01's list of document 01's resolutions.
    pub goes-on-before : (old : ℕ → ℕ) → Ordered exceptions_before old → (from : Point) → LawfulPoint (book_of s ws) from → (ps : List Pair) → AllBefore exceptions_before old (book_of s ws) from ps → (k : ℕ)
        → listing (asks bs) (replicate k (go_on 0)) from ≡ take k ps
    goes-on-before old rule from lawful ps a k =
        goes_on old rule from lawful ps
        (record { only = every_map (λ p x. ((same-resolutions p).1 x.0, x.1)) ps a.only; all = λ p r l. a.all p ((same-resolutions p).0 r) l; ascending = a.ascending }) k

    few_bytes : text_bytes s ≤ 8392
    unfolding sum_to count_at all_counts counts_of kind kinds bytes
    few_bytes = omega (arith, none, one, plain_in s facts.limits, preferences-in s facts.limits)

    few-rows : total s ≤ 244
    unfolding sum_to count_at all_counts counts_of kind kinds row_once pick
    few-rows = omega (arith, none, one, plain_in s facts.limits, preferences-in s facts.limits)

    -- A text that is accepted now and has no more X lines than document 01 allows, and no Q or O line, keeps all its limits.
    pub keeps-limits : KeepsLimits bs s ws
    unfolding book_of
    keeps-limits = record {
      text = omega (arith, text-length bs s ws e, few_bytes);
      statements = (facts.limits.some_statement, facts.limits.statements);
      plain = plain_in s facts.limits;
      exceptions = few;
      preferences = preferences-in s facts.limits;
      conditionals = none;
      alternatives = one;
      total = few-rows;
      named = every_map (λ (l : ℕ × ℕ) n. (names-few l.0 n.0, names-few l.1 n.1)) (book_of s ws).preferences (rows_named s ws (lawful-rows s ws facts));
    }
