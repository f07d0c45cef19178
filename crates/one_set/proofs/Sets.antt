-- One set of exceptions: what is put on the page of the resolutions that have it, and what its marks and the memory say afterwards.
use Rattle.std.proofs.Common.{◌≡◌, ℕ, zero, suc, ◌+◌, ◌-◌, ◌^◌, ◌<◌, ◌≤◌, Bool, true, false, not, ◌⊎◌, ◌↔◌, List, [], ◌∷◌, Option, None, Some, length, take, sym, refl, ◌∙◌, ⊎_elim, le_refl, arith}
use borrow.Author.Tests.{not-true, not-false}
use Rattle.logic.specs.Lists.{Among}
use Rattle.logic.specs.Tests.{Decides}
use Rattle.logic.proofs.Decide.{clash, either_way, reworded}
use Rattle.logic.proofs.Members.{every-at}
use Rattle.sets.specs.declared.Pair.{Pair}
use Rattle.masks.specs.declared.Bounds.{Bounds}
use Rattle.masks.specs.Views.{Lined, MaskView}
use Rattle.bounds.specs.Sound.{In, Propagated, with_sets}
use Rattle.bounds.proofs.Ranges.{in-root, one_set}
use Rattle.admissible.specs.Admissible.{Stands, Unexceeded}
use Rattle.queue.specs.declared.Rest.{Rest}
use Rattle.page.specs.Sought.{Sought}
use Rattle.page.specs.Orders.{bare, list_from, PartOf, Begins}
use Rattle.page.specs.Pages.{Page, Listed}
use Rattle.page.proofs.Pages.{page-none}
use Rattle.page.proofs.Listed.{begins-start, list-is-part, all_listed, part-of-listing}
use Rattle.few.specs.Few.{AllListed}
use Rattle.meaning.specs.Books.{Book, Lawful}
use Rattle.meaning.specs.Views.{View}
use Rattle.meaning.specs.Resolutions.{Resolution}
use Rattle.meaning.specs.Order.{Point, start, Later}
use Rattle.meaning.specs.Twins.Verdicts.{view}
use Rattle.meaning.proofs.Twins.{decides-view}
use Rattle.meaning.proofs.Parts.{Part, part_none}
use Rattle.bridge.proofs.Views.{view-same}
use Rattle.resolution.proofs.Resolutions.{resolution-stands, undominated-stands}
use Rattle.marking.specs.Marks.{IsMarked, Struck, Marked, NoneAt, RightMarks, all_ones, Surpassed}
use Rattle.ranges.specs.Ranges.{NoView}
use Rattle.standing.specs.declared.memory.Memory.{Memory}
use Rattle.standing.specs.Standing.{Right, StandingView}
use Rattle.sifting.specs.Sifted.{Serves, Asked, AllSifted}
use Rattle.one_set.specs.declared.Views.{Views}
use Rattle.one_set.specs.Plans.{HasView, Told, Full, MarksRight, Rests, Gathered, Admits, NoneStands, Looked, NoneBelow, SetListed, OpenListed}
use Rattle.one_set.proofs.Plans.{none_within, free-standing, surpassed-full, surpassed-told, surpassed-right, told_none, marks-same, marks-more, exceeded-above, exceeded-full, exceeded-marks, set-lawful, in_bounds, bounds-in}

-- ---- a set that no resolution has
module _ (ws ranks : List ℕ) (root : Bounds) (q : Sought) (t : ℕ) (after known : Bool) (H : Type 0) (k : ℕ) (m m' o : List ℕ) (h : k ≤ q.room) where
  pub set-none : (w w' : Memory) → MarksRight ws q.rules ranks root m m' → (Right ws q.rules ranks root w → Right ws q.rules ranks root w')
      → ((b : Book) → Serves b ws ranks root q → Right ws q.rules ranks root w → known ≡ true → Full ws q.rules ranks root m → Told ws q.rules ranks root m' t)
      → ((b : Book) → Serves b ws ranks root q → Right ws q.rules ranks root w → RightMarks b m → NoneAt b t) → SetListed ws ranks root q t after known H k m m' w w' o o k
  set-none w w' a y f n = record {
    most = h;
    kept = a.kept;
    same = a.same;
    full = a.full;
    memory = y;
    stay = λ b s r x. a.stay b s.rooted x;
    told = λ b s r e d l g. f b s r e g;
    part = λ b from s r x z g. ([], page-none q.room k o, part_none b from (λ p. p.taken ≡ t) (λ p u l d. (n b s r x).none p u d));
  }

  -- It has no view.
  pub set-viewless : (w : Memory) → MarksRight ws q.rules ranks root m m' → NoView ws q.rules ranks root t t → SetListed ws ranks root q t after known H k m m' w w o o k
  set-viewless w a n =
      set-none w w a (λ r. r) (λ b s r e f. told_none ws q.rules ranks root t t n m' t (λ i. le_refl _) (λ i. le_refl _))
      (λ b s r x. none_within b ws q.rules ranks root s.rooted t t n t (λ i. le_refl _) (λ i. le_refl _))

-- ---- in a book without Q lines
module _ (ws ranks : List ℕ) (root : Bounds) (q : Sought) (u : Lined ws q.rules → ⊥) (t : ℕ) (after known : Bool) (k : ℕ) (m m₁ m' : List ℕ) (cap : ℕ) (store : List ℕ) (r₁ : Option Views) (g : Views)
    (c : Gathered ws q.rules ranks root t cap m m₁ store r₁) (ok : r₁ ≡ Some g) (z : Bool) (a : Admits ws q.rules ranks root t known m₁ m' z) (o : List ℕ) (w : Memory) where
  abbrev H : Type 0
  H = Rests ws q.rules ranks root t known m

  both-marks : MarksRight ws q.rules ranks root m m'
  both-marks = marks-more ws q.rules ranks root m m₁ m' c.marks a.marks

  pub plain-refused : not z ≡ true → k ≤ q.room → SetListed ws ranks root q t after known H k m m' w w o o k
  plain-refused e h =
      set-none ws ranks root q t after known H k m m' o h w w both-marks (λ r. r) (λ b s r d f. a.told) (λ b s r x. a.refuses (not-true z e) b s.rooted (c.marks.stay b s.rooted x))

  -- The views of the set, all of which are within the bounds, by either search.
  module _ (o' : List ℕ) (r : ℕ) (b : Book) (from : Point) (s : Serves b ws ranks root q) (y : Begins b from t after q.point) where
    abbrev within : Bounds
    within = g.rest.bounds

    same : (p : Pair) → Lawful b p → MaskView ws q.rules ranks p ↔ View b p
    same p i = view-same b ws q.rules s.rooted.packs p ranks s.rooted.ranked i

    test : (p : Pair) → Lawful b p → p.taken ≡ t → Decides (view b p) (MaskView ws q.rules ranks p)
    test p i d = reworded (decides-view b p) (same p i).1 (same p i).0

    bound : t < 2 ^ length b.exceptions
    bound = set-lawful ws q.rules ranks root t (c.some g ok) b s.rooted

    inside : (p : Pair) → Lawful b p → p.taken ≡ t → MaskView ws q.rules ranks p → In within p
    inside p i d x = in_bounds ws q.rules ranks root t within (c.bounds g ok) p x (s.rooted.holds p ((same p i).0 x)).1 d

    by_order : Listed (MaskView ws q.rules ranks) q t within after k o o' r → (xs : List Pair) × Page q.room k o o' xs r × PartOf b from t (MaskView ws q.rules ranks) xs
    by_order x = all_listed b from t bound (MaskView ws q.rules ranks) q s.statements after y (view b) test within inside k r o o' x

    by-store : after ≡ false → g.count < cap → AllListed ws ranks q within store g.count k o o' r → (xs : List Pair) × Page q.room k o o' xs r × PartOf b from t (MaskView ws q.rules ranks) xs
    by-store f l x =
        let xs : List Pair = list_from (view b) b.statements q.point b.statements after (bare t) in
        let p = list-is-part b from t bound after q.point y (MaskView ws q.rules ranks) (view b) test in
        let wide : (v : Pair) → In within v → In (with_sets root t t) v = λ v i. bounds-in ws q.rules ranks root t within (c.bounds g ok) v i in
        let set : (v : Pair) → In within v → v.taken ≡ t = λ v i. one_set root t v (wide v i) in (
          xs,
          x.page ((c.collected g ok).whole l) (record { same = λ v w i j. set v i ∙ sym (set w j) }) xs p.ascending
              (record {
                only = λ v i. let d = every-at (λ p. Lawful b p × (p.taken ≡ t) × Later from p × MaskView ws q.rules ranks p) v xs p.only i in (d.3, inside v d.0 d.1 d.3);
                all = λ v y₁ i. p.all v (s.rooted.only v y₁ (in-root root t t v (wide v i))).lawful (set v i) (y.before f v (set v i)) y₁;
              }),
          p,
        )

    -- Each of them is a resolution, since no view dominates the set and none that stands is below it.
    resolved : z ≡ true → H → (p : Pair) → Lawful b p → p.taken ≡ t → MaskView ws q.rules ranks p → Resolution b p
    resolved ez f p i d x =
        (resolution-stands b ws q.rules ranks root s.rooted p).0
        ((same p i).0 x, (undominated-stands b ws q.rules ranks root s.rooted u p).0 (rw d (a.undominated ez)), rw d (a.unexceeded ez (λ e n. f e (λ y. n (c.marks.kept t y)))))

  pub plain-listed : not z ≡ false → (o' : List ℕ) (r : ℕ)
      → Listed (MaskView ws q.rules ranks) q t g.rest.bounds after k o o' r ⊎ ((after ≡ false) × (g.count < cap) × AllListed ws ranks q g.rest.bounds store g.count k o o' r)
      → SetListed ws ranks root q t after known H k m m' w w o o' r
  plain-listed e o' r l = record {
    most = ⊎_elim (λ x. x.most) (λ x. x.2.fits) l;
    kept = both-marks.kept;
    same = both-marks.same;
    full = both-marks.full;
    memory = λ y. y;
    stay = λ b s x y. both-marks.stay b s.rooted y;
    told = λ b s x y d j f. a.told;
    part = λ b from s x y f d.
        let v = ⊎_elim (λ i. by_order o' r b from s d i) (λ i. by-store o' r b from s d i.0 i.1 i.2) l in
        (v.0, v.1, part-of-listing b from t (MaskView ws q.rules ranks) v.0 (resolved o' r b from s d (not-false z e) f) (λ p i j. (s.rooted.holds p i.view).0) v.2);
  }

-- ---- in a book with Q lines
some-taken : (c k r : ℕ) (y : Pair) (ys : List Pair) → 0 < c → r ≡ k + length (take c (y ∷ ys)) → k < r
some-taken zero k r y ys h e = absurd (omega arith)
some-taken (suc c) k r y ys h e = omega arith

none-taken : (c : ℕ) (ys : List Pair) → length (take c ys) ≤ length ys
none-taken zero ys = omega arith
none-taken (suc c) [] = omega arith
none-taken (suc c) (y ∷ ys) = let h = none-taken c ys in omega arith

-- The views that stand.
module _ (ws ranks : List ℕ) (root : Bounds) (q : Sought) (t : ℕ) (c : Bounds) (after : Bool) (k : ℕ) (w w' : Memory) (o o' : List ℕ) (r : ℕ) (l : AllSifted ws ranks root q t c after k w w' o o' r)
    (v : HasView ws q.rules ranks root t) (p : Propagated ws q.rules ranks (with_sets root t t) c) (m : List ℕ) where
  abbrev U : Type 0
  U = Unexceeded ws q.rules ranks root t

  asked : (b : Book) (from : Point) → Serves b ws ranks root q → Right ws q.rules ranks root w → Begins b from t after q.point → Asked b from ws ranks root q t c w after q.point
  asked b from s x y = record {
    serves = s;
    has = set-lawful ws q.rules ranks root t v b s.rooted;
    right = x;
    begins = y;
    bounded = λ u i d z. in_bounds ws q.rules ranks root t c p u z (s.rooted.holds u ((view-same b ws q.rules s.rooted.packs u ranks s.rooted.ranked i).0 z)).1 d;
  }

  open-part : (b : Book) (from : Point) → Serves b ws ranks root q → Right ws q.rules ranks root w → U → Begins b from t after q.point
      → (ys : List Pair) × Page q.room k o o' ys r × Part b from (λ p. p.taken ≡ t) ys
  open-part b from s x f y =
      let d = l.part b from (asked b from s x y) in (
        d.0,
        d.1,
        part-of-listing b from t (StandingView ws q.rules ranks root) d.0
            (λ p i e z. (resolution-stands b ws q.rules ranks root s.rooted p).0 ((view-same b ws q.rules s.rooted.packs p ranks s.rooted.ranked i).0 z.view, z.stands, rw e f))
            (λ p i e. record { view = (s.rooted.holds p i.view).0; stands = ((resolution-stands b ws q.rules ranks root s.rooted p).1 i).1 }) d.2,
      )

  -- Where only those after a point were asked for, nothing is marked.
  pub open_after : after ≡ true → SetListed ws ranks root q t after true U k m m w w' o o' r
  open_after e = record {
    most = l.most;
    kept = λ u x. x;
    same = refl;
    full = λ f. f;
    memory = l.memory;
    stay = λ b s x y. y;
    told = λ b s x y d. absurd (clash (sym d ∙ e));
    part = λ b from s x y f d. open-part b from s x f d;
  }

  module _ (e : after ≡ false) where
    -- What is on the page.
    listed : (b : Book) → Serves b ws ranks root q → Right ws q.rules ranks root w
        → (ys : List Pair) × Page q.room k o o' ys r × PartOf b start t (StandingView ws q.rules ranks root) ys
    listed b s x = l.part b start (asked b start s x (rw e (begins-start b t q.point)))

    -- Nothing is: no view with the set stands.
    pub open_none : (k < r → ⊥) → SetListed ws ranks root q t after true U k m m w w' o o' r
    open_none n = record {
      most = l.most;
      kept = λ u x. x;
      same = refl;
      full = λ f. f;
      memory = l.memory;
      stay = λ b s x y. y;
      told = λ b s x y d j f. record {
        above = λ u i a z h. let g = listed b s x in
            absurd (nobody u g.0 (g.2.all u (s.rooted.only u i a).lawful h tt (record { view = i; stands = z })) g.1.count j);
      };
      part = λ b from s x y f d. open-part b from s x f d;
    }
      where
        nobody : (u : Pair) (ys : List Pair) → Among u ys → r ≡ k + length (take (q.room - k) ys) → k < q.room → ⊥
        nobody u [] i d j = i
        nobody u (y ∷ ys) i d j = n (some-taken (q.room - k) k r y ys (omega arith) d)

    -- Something is: the first of them surpasses other sets.
    pub open-some : k < r → (m' : List ℕ) → Surpassed ranks t m m' → SetListed ws ranks root q t after true U k m m' w w' o o' r
    open-some n m' x = record {
      most = l.most;
      kept = x.marked.stays;
      same = x.marked.same;
      full = surpassed-full ws q.rules ranks root t m m' x;
      memory = l.memory;
      stay = λ b s y z. let f = found b s y in surpassed-right ws q.rules ranks root t m m' x f.0 f.1 f.2 f.4 b s.rooted (free-standing b ws q.rules ranks root s.rooted f.0 f.3) z;
      told = λ b s y z d j g. surpassed-told ws q.rules ranks root t m m' x;
      part = λ b from s y z f d. open-part b from s y f d;
    }
      where
        first : (b : Book) → Serves b ws ranks root q → (ys : List Pair) → r ≡ k + length (take (q.room - k) ys) → PartOf b start t (StandingView ws q.rules ranks root) ys
            → (u : Pair) × MaskView ws q.rules ranks u × In root u × Stands ws q.rules ranks root u × (u.taken ≡ t)
        first b s [] d g = absurd (let z = none-taken (q.room - k) [] in omega arith)
        first b s (y ∷ ys) d g =
            let h = g.only.0 in
            (y, h.3.view, (s.rooted.holds y ((view-same b ws q.rules s.rooted.packs y ranks s.rooted.ranked h.0).0 h.3.view)).1, h.3.stands, h.1)

        found : (b : Book) → Serves b ws ranks root q → Right ws q.rules ranks root w
            → (u : Pair) × MaskView ws q.rules ranks u × In root u × Stands ws q.rules ranks root u × (u.taken ≡ t)
        found b s y = let g = listed b s y in first b s g.0 g.1.count g.2

-- What is so of the page and the marks in any case.
module _ (ws ranks : List ℕ) (root : Bounds) (q : Sought) (t : ℕ) (c : Bounds) (after : Bool) (k : ℕ) (w w' : Memory) (o o' : List ℕ) (r : ℕ) (l : AllSifted ws ranks root q t c after k w w' o o' r) (m m' : List ℕ) where
  abbrev Opens : Type 0
  Opens = HasView ws q.rules ranks root t → Propagated ws q.rules ranks (with_sets root t t) c → SetListed ws ranks root q t after true (Unexceeded ws q.rules ranks root t) k m m' w w' o o' r

  pub opened-still : m' ≡ m → Opens → OpenListed ws ranks root q t c after k m m' w w' o o' r
  opened-still e f = record { most = l.most; kept = λ u x. rw e x; same = rw e refl; full = λ x. rw e x; listed = f }

  pub opened-marked : Surpassed ranks t m m' → Opens → OpenListed ws ranks root q t c after k m m' w w' o o' r
  opened-marked x f = record { most = l.most; kept = x.marked.stays; same = x.marked.same; full = surpassed-full ws q.rules ranks root t m m' x; listed = f }

-- ---- a set of such a book
module _ (ws ranks : List ℕ) (root : Bounds) (q : Sought) (t : ℕ) (after known : Bool) (k : ℕ) (h : k ≤ q.room) (m o : List ℕ) (w : Memory) where
  abbrev Known : Type 0
  Known = Rests ws q.rules ranks root t known m

  -- It is marked.
  pub lined-marked : IsMarked m t → SetListed ws ranks root q t after known Known k m m w w o o k
  lined-marked x = set-none ws ranks root q t after known Known k m m o h w w (marks-same ws q.rules ranks root m) (λ r. r) (λ b s r e f. f.told t x) (λ b s r y. y.right t x)

  -- No view that has it stands.
  pub lined-none : (w' : Memory) (m₁ : List ℕ) → MarksRight ws q.rules ranks root m m₁ → (Right ws q.rules ranks root w → Right ws q.rules ranks root w') → (Right ws q.rules ranks root w → NoneStands ws q.rules ranks root t)
      → SetListed ws ranks root q t after known Known k m m₁ w w' o o k
  lined-none w' m₁ a y f =
      set-none ws ranks root q t after known Known k m m₁ o h w w' a y (λ b s r e g. record { above = λ v x i z d. absurd ((f r).none v x i d z) })
      (λ b s r g. record { none = λ p x d. let i = s.rooted.holds p x.view in (f r).none p i.0 i.1 d ((resolution-stands b ws q.rules ranks root s.rooted p).1 x).1 })

  module _ (m₁ : List ℕ) (w₀ : Memory) (g : Option Rest) (c : Looked ws q.rules ranks root t m m₁ w w₀ g) where
    -- No such view was seen.
    pub lined-unseen : g ≡ None → SetListed ws ranks root q t after known Known k m m₁ w w₀ o o k
    lined-unseen e = lined-none w₀ m₁ c.marks c.memory (λ r. c.none r e)

    module _ (rest : Rest) (ok : g ≡ Some rest) (w₁ : Memory) (z : Bool) (x : NoneBelow ws q.rules ranks root t known w₀ w₁ z) where
      -- A view that stands has a proper subset.
      pub lined-exceeded : not z ≡ true → (m' : List ℕ) → Marked m₁ (Struck (record { lo = t; hi = all_ones; but = 0; any = 0 })) m' → SetListed ws ranks root q t after known Known k m m' w w₁ o o k
      lined-exceeded e m' y = record {
        most = h;
        kept = λ u i. y.stays u (c.marks.kept u i);
        same = y.same ∙ c.marks.same;
        full = λ i. exceeded-full ws q.rules ranks root t m₁ m' y (c.marks.full i);
        memory = λ r. x.memory (c.memory r);
        stay = λ b s r i. (exceeded-marks ws q.rules ranks root t (fails r) m₁ m' y).stay b s.rooted (c.marks.stay b s.rooted i);
        told = λ b s r d. absurd (clash (sym unknown ∙ d));
        part = λ b from s r i j d. ([], page-none q.room k o, part_none b from (λ p. p.taken ≡ t) (λ p u l v. (exceeded-above ws q.rules ranks root t (fails r) b s.rooted t (λ i. le_refl _)).none p u v));
      }
        where
          unknown : known ≡ false
          unknown = ⊎_elim (λ d. absurd (clash (sym (not-true z e) ∙ x.sure d))) (λ d. d) (either_way known)

          fails : Right ws q.rules ranks root w → Unexceeded ws q.rules ranks root t → ⊥
          fails r = (x.test (c.memory r) unknown).no (not-true z e)

      -- The views that stand are put on the page.
      pub lined-open : not z ≡ false → (IsMarked m t → ⊥) → (m' : List ℕ) (w' : Memory) (o' : List ℕ) (r : ℕ) → OpenListed ws ranks root q t rest.bounds after k m₁ m' w₁ w' o o' r
          → SetListed ws ranks root q t after known Known k m m' w w' o o' r
      lined-open e n m' w' o' r l = record {
        most = l.most;
        kept = λ u i. l.kept u (c.marks.kept u i);
        same = l.same ∙ c.marks.same;
        full = λ i. l.full (c.marks.full i);
        memory = λ i. (listed i).memory (still i);
        stay = λ b s i j. (listed i).stay b s (still i) (c.marks.stay b s.rooted j);
        told = λ b s i d f j n. (listed i).told b s (still i) refl f j (c.marks.full n);
        part = λ b from s i j n d. (listed i).part b from s (still i) (c.marks.stay b s.rooted j) (below i n) d;
      }
        where
          still : Right ws q.rules ranks root w → Right ws q.rules ranks root w₁
          still i = x.memory (c.memory i)

          listed : Right ws q.rules ranks root w → SetListed ws ranks root q t after true (Unexceeded ws q.rules ranks root t) k m₁ m' w₁ w' o o' r
          listed i = l.listed (c.some rest i ok) (c.bounds rest ok)

          below : Right ws q.rules ranks root w → Known → Unexceeded ws q.rules ranks root t
          below i f = ⊎_elim (λ d. f d n) (λ d. (x.test (c.memory i) d).yes (not-false z e)) (either_way known)

-- ---- none below
module _ (ws : List ℕ) (n : ℕ) (ranks : List ℕ) (root : Bounds) (t : ℕ) (known : Bool) (w : Memory) where
  pub below-known : known ≡ true → NoneBelow ws n ranks root t known w w true
  below-known e = record { memory = λ r. r; sure = λ d. refl; test = λ r d. absurd (clash (sym d ∙ e)) }

  pub below-tested : known ≡ false → (w' : Memory) (z : Bool) → (Right ws n ranks root w → Right ws n ranks root w' × Decides z (Unexceeded ws n ranks root t)) → NoneBelow ws n ranks root t known w w' z
  below-tested e w' z f = record { memory = λ r. (f r).0; sure = λ d. absurd (clash (sym e ∙ d)); test = λ r d. (f r).1 }
