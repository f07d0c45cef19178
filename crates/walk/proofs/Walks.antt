-- The walk's page: the resolutions of each set follow those of the sets before it, and where the page is full the rest does not matter.
use mathlib.Core.Path.{◌≡◌, refl, sym, ◌∙◌}
use mathlib.Core.Bool.{Bool, true, false, not}
use mathlib.Core.List.{List, [], ◌++◌}
use mathlib.Core.Logic.{inr, ⊎_elim}
use Rattle.std.specs.Prelude.{Result, Ok, Err}
use Prim.Native.Nat.{ℕ, zero, suc, ◌+◌, ◌-◌, ◌^◌, ◌<◌, ◌≤◌, max}
use native.Mathlib.Nat.{le_refl, le_trans, lt_of_lt_of_le}
use native.Mathlib.Numerals.{add-one}
use native.Mathlib.Omega.{arith}
use lib.Pow.{pow_mono}
use lib.ListN.{length}
use Rattle.logic.specs.Tests.{Decides}
use Rattle.logic.proofs.Decide.{clash, holds-or-not, decides_eq, decides_not, reworded}
use Rattle.sets.specs.declared.Pair.{Pair}
use Rattle.sets.specs.Sets.{Contained}
use Rattle.sets.proofs.Digits.{lt-or-le}
use Rattle.sets.proofs.Words.{zero_minus, minus-zero, contained-within, within-contained}
use Rattle.book.specs.Limits.{exceptions}
use Rattle.order.specs.Formula.{set_at}
use Rattle.order.proofs.Rule.{order-rule}
use Rattle.masks.specs.declared.Bounds.{Bounds}
use Rattle.bounds.proofs.Ranges.{in-root, set-above, set_below}
use Rattle.page.specs.Sought.{Sought}
use Rattle.page.specs.Pages.{Page, Fits}
use Rattle.page.proofs.Pages.{page-none, page-full, page-append}
use Rattle.meaning.specs.Books.{Book}
use Rattle.meaning.specs.Order as meaning
use Rattle.meaning.specs.Order.{Point, LawfulPoint}
use Rattle.meaning.proofs.Ordered.{before-irreflexive, before-transitive}
use Rattle.meaning.proofs.Parts.{Part, part_none, part_same}
use Rattle.admissible.specs.Admissible.{Unexceeded}
use Rattle.standing.specs.declared.memory.Memory.{Memory}
use Rattle.standing.specs.Standing.{Right}
use Rattle.sifting.specs.Sifted.{Serves}
use Rattle.walk.specs.declared.Position.{Position}
use Rattle.walk.specs.declared.Span.{Span}
use Rattle.marking.specs.Marks.{marks_in, IsMarked, Clear, RightMarks}
use Rattle.one_set.specs.Plans.{Told, Full, Rests, SetListed}
use Rattle.one_set.proofs.Plans.{marks-same, told-kept, told_none}
use Rattle.one_set.proofs.Sets.{set-none, set-viewless}
use Rattle.walk.specs.Walks.{Passed, RuledOut, marked, beyond, short, AtPlace, Spanned, Skipping, Skipped, Beyond, Ready, Walked, beginning, Paged}
use Rattle.walk.proofs.Places.{at-or-past, subset-place, none_yet, one_more, all-places, cut_short}

-- ---- what a look tells
module _ (root : Bounds) (t : ℕ) (m : List ℕ) where
  pub out-marked : IsMarked m t → Decides true (RuledOut root m t)
  out-marked k = record { yes = λ e. marked k; no = λ e. absurd (clash (sym e)) }

  pub out-beyond : (Contained t root.hi.taken → ⊥) → Decides true (RuledOut root m t)
  out-beyond k = record { yes = λ e. beyond (λ z. k (within-contained _ _ (minus-zero _ _ z))); no = λ e. absurd (clash (sym e)) }

  pub out-short : (IsMarked m t → ⊥) → Contained t root.hi.taken → (z : Bool) → Decides z (Contained root.lo.taken t) → Decides (not z) (RuledOut root m t)
  out-short a b z d = reworded (decides_not d) (λ f. short (λ y. f (within-contained _ _ (minus-zero _ _ y)))) none
    where
      none : RuledOut root m t → Contained root.lo.taken t → ⊥
      none (marked k) f = a k
      none (beyond k) f = k (zero_minus _ _ (contained-within _ _ b))
      none (short k) f = k (zero_minus _ _ (contained-within _ _ f))

-- No resolution has such a set.
module _ (ws ranks : List ℕ) (root : Bounds) (q : Sought) (t : ℕ) (after known : Bool) (H : Type 0) (k : ℕ) (m : List ℕ) (w : Memory) (o : List ℕ) (h : k ≤ q.room) where
  pub set-ruled-out : RuledOut root m t → SetListed ws ranks root q t after known H k m m w w o o k
  set-ruled-out (marked x) = set-none ws ranks root q t after known H k m m o h w w (marks-same ws q.rules ranks root m) (λ r. r) (λ b s r e f. f.told t x) (λ b s r y. y.right t x)
  set-ruled-out (beyond x) = set-viewless ws ranks root q t after known H k m m o h w (marks-same ws q.rules ranks root m)
      (record { none = λ v i j. x (zero_minus t root.hi.taken (λ c. le_trans (set-above root t t v j c) ((in-root root t t v j).hi.taken c))) })
  set-ruled-out (short x) = set-viewless ws ranks root q t after known H k m m o h w (marks-same ws q.rules ranks root m)
      (record { none = λ v i j. x (zero_minus root.lo.taken t (λ c. le_trans ((in-root root t t v j).lo.taken c) (set_below root t t v j c))) })

  -- The marks tell of it, whether or not there is room.
  pub told-ruled-out : RuledOut root m t → Full ws q.rules ranks root m → Told ws q.rules ranks root m t
  told-ruled-out (marked x) f = f.told t x
  told-ruled-out (beyond x) f = told_none ws q.rules ranks root t t (record { none = λ v i j. x (zero_minus t root.hi.taken (λ c. le_trans (set-above root t t v j c) ((in-root root t t v j).hi.taken c))) }) m t (λ i. le_refl _) (λ i. le_refl _)
  told-ruled-out (short x) f = told_none ws q.rules ranks root t t (record { none = λ v i j. x (zero_minus root.lo.taken t (λ c. le_trans ((in-root root t t v j).lo.taken c) (set_below root t t v j c))) }) m t (λ i. le_refl _) (λ i. le_refl _)

-- ---- what the marks tell
module _ (ws : List ℕ) (n : ℕ) (ranks : List ℕ) (root : Bounds) (wide : ℕ) (small : wide ≤ exceptions) where
  -- Nothing is told at first.
  ready-none : (m : List ℕ) → Clear m → 2 ^ wide ≤ marks_in m → Ready ws n ranks root wide 0 m
  ready-none m c h = record {
    full = record { told = λ u x. absurd (c.none u x) };
    long = h;
    told = λ i l. absurd (omega arith);
  }

  -- One place more.
  ready-next : (j : ℕ) (m m' : List ℕ) → Ready ws n ranks root wide j m → ((u : ℕ) → IsMarked m u → IsMarked m' u) → length m' ≡ length m → Full ws n ranks root m' → Told ws n ranks root m' (set_at wide j)
      → Ready ws n ranks root wide (j + 1) m'
  ready-next j m m' r kept same full f = record {
    full = full;
    long = rw same r.long;
    told = λ i l. ⊎_elim (λ a. told-kept ws n ranks root m m' kept same (set_at wide i) (r.told i a)) (λ a. let e : i ≡ j = omega arith in rw e f) (lt-or-le i j);
  }

  -- Where every place before j has been walked, no view that stands has a proper subset of the set at place j if that is not marked: such a subset
  -- has a place before, and would have it marked.
  ready-minimal : (j : ℕ) (m : List ℕ) → j < 2 ^ wide → Ready ws n ranks root wide j m → (IsMarked m (set_at wide j) → ⊥) → Unexceeded ws n ranks root (set_at wide j)
  ready-minimal j m h r f = record {
    has = λ v x i y w.
        ⊎_elim (λ (e : v.taken ≡ set_at wide j). λ (c : ℕ). rw e (le_refl _))
        (λ d. let k = subset-place wide small j h v.taken w d in absurd (f ((r.told k.0 k.1).above v x i y (sym k.2) (set_at wide j) (lt_of_lt_of_le here r.long) (lt_of_lt_of_le here (pow_mono word)) (rw k.2 w) (λ e. d (sym (e ∙ k.2))))))
        (holds-or-not (decides_eq v.taken (set_at wide j)));
  }
    where
      word : wide ≤ 64
      word = omega arith

      here : set_at wide j < 2 ^ wide
      here = (order-rule wide word).below j h

-- ---- all sets
-- The loop of the walk at place j: marks are right and tell of the places before j, and the page has all that stands at those places.
pub record Going (ws ranks : List ℕ) (root : Bounds) (q : Sought) (wide first : ℕ) (known : Bool) (at : ℕ) (m : List ℕ) (w : Memory) (o : List ℕ) (j k : ℕ) (n : List ℕ) (v : Memory) (p : List ℕ) : Type 0 where
  pub from : first ≤ j
  pub to : j ≤ 2 ^ wide
  pub fits : Fits ws ranks p q k
  pub memory : Right ws q.rules ranks root w → Right ws q.rules ranks root v
  pub stay : (b : Book) → Serves b ws ranks root q → Right ws q.rules ranks root w → RightMarks b m → RightMarks b n
  pub ready : (b : Book) → Serves b ws ranks root q → Right ws q.rules ranks root w → known ≡ true → Ready ws q.rules ranks root wide first m → Ready ws q.rules ranks root wide j n
  pub page : (b : Book) (from : Point) → Serves b ws ranks root q → length b.exceptions ≤ wide → RightMarks b m → Right ws q.rules ranks root w
      → (known ≡ true → Ready ws q.rules ranks root wide first m) → LawfulPoint b from → Beyond wide from first
      → (start : List ℕ) (xs : List Pair) → Part b from (Passed wide first) xs → Page q.room 0 start o xs at
      → (ys : List Pair) × Part b from (Passed wide j) ys × Page q.room 0 start p ys k

-- The walk between the root's sets, of which those before `past` are still to be looked at: at the next place, or at the end.
pub record Walking (ws ranks : List ℕ) (root : Bounds) (q : Sought) (wide first : ℕ) (known : Bool) (at : ℕ) (m : List ℕ) (w : Memory) (o : List ℕ) (past : ℕ) (next : Result Position Position) (k : ℕ) (n : List ℕ) (v : Memory) (p : List ℕ) : Type 0 where
  pub some : (r : Position) → next ≡ Ok r → Going ws ranks root q wide first known at m w o r.place k n v p × AtPlace wide r × (r.place < past)
  pub none : (r : Position) → next ≡ Err r → Going ws ranks root q wide first known at m w o r.place k n v p × (past ≤ r.place)

plus_none : (j : ℕ) → j + 0 ≡ j
plus_none j = omega arith

plus_one : (j d : ℕ) → j + suc d ≡ j + 1 + d
plus_one j d = omega arith

below : (j d e : ℕ) → j + suc d ≤ e → j < e
below j d e h = omega arith

above : (j d : ℕ) → j < j + suc d
above j d = omega arith

inner : (j i : ℕ) → j + 1 ≤ i → j ≤ i
inner j i h = omega arith

pub fits-again : (ws ranks o o' : List ℕ) (q : Sought) (at r : ℕ) → Fits ws ranks o q at → length o' ≡ length o → r ≤ q.room → Fits ws ranks o' q r
fits-again ws ranks o o' q at r f e h = record { suits = f.suits; place = h; long = rw e f.long }

module _ (ws ranks : List ℕ) (root : Bounds) (q : Sought) (wide : ℕ) (small : wide ≤ exceptions) (first : ℕ) (known : Bool) (at : ℕ) (m : List ℕ) (w : Memory) (o : List ℕ) where
  pub going-first : Fits ws ranks o q at → first ≤ 2 ^ wide → Going ws ranks root q wide first known at m w o first at m w o
  going-first f h = record {
    from = le_refl first;
    to = h;
    fits = f;
    memory = λ r. r;
    stay = λ b s r x. x;
    ready = λ b s r e x. x;
    page = λ b from s few x r e l y start xs p g. (xs, p, g);
  }

  module _ (j k : ℕ) (n : List ℕ) (v : Memory) (p : List ℕ) (g : Going ws ranks root q wide first known at m w o j k n v p) where
    -- One place more: the page of its set, and what the marks tell of it.
    going-one : j < 2 ^ wide → (t : ℕ) → t ≡ set_at wide j → (n' : List ℕ) (v' : Memory) (p' : List ℕ) (r : ℕ) → SetListed ws ranks root q t false known (Rests ws q.rules ranks root t known n) k n n' v v' p p' r
        → ((b : Book) → Serves b ws ranks root q → Right ws q.rules ranks root v → known ≡ true → Full ws q.rules ranks root n → Told ws q.rules ranks root n' t)
        → length p' ≡ length p → Going ws ranks root q wide first known at m w o (j + 1) r n' v' p'
    going-one h t et n' v' p' r s told e = record {
      from = omega (arith, g.from);
      to = omega arith;
      fits = fits-again ws ranks p p' q k r g.fits e s.most;
      memory = λ y. s.memory (g.memory y);
      stay = λ b x y z. s.stay b x (g.memory y) (g.stay b x y z);
      ready = λ b x y f z. let d = g.ready b x y f z in ready-next ws q.rules ranks root wide small j n n' d s.kept s.same (s.full d.full) (rw et at (told b x (g.memory y) f d.full));
      page = λ b from x few a z f l y start xs u i.
          let c = g.page b from x few a z f l y start xs u i in
          let d = s.part b from x (g.memory z) (g.stay b x z a) (λ e i. rw et (ready-minimal ws q.rules ranks root wide small j n h (g.ready b x z e (f e)) (rw et at i)))
          (record { within = λ f. absurd (clash f); before = λ f i z. y.later j g.from h i (sym et ∙ sym z) }) in (
            c.0 ++ d.0,
            rw (add-one j) (one_more wide small b from j c.0 d.0 h c.1 (part_same b from (λ i. i.taken ≡ t) (λ i. set_at wide j ≡ i.taken) d.0 (λ i a z. sym et ∙ sym z) (λ i a z. sym z ∙ sym et) d.2)),
            page-append q.room 0 k r start p p' c.0 d.0 c.2 d.1,
          );
    }

    -- A set that was listed while there was room.
    pub going_next : j < 2 ^ wide → (t : ℕ) → t ≡ set_at wide j → (n' : List ℕ) (v' : Memory) (p' : List ℕ) (r : ℕ) → k < q.room → SetListed ws ranks root q t false known (Rests ws q.rules ranks root t known n) k n n' v v' p p' r → length p' ≡ length p
        → Going ws ranks root q wide first known at m w o (j + 1) r n' v' p'
    going_next h t et n' v' p' r l s e = going-one h t et n' v' p' r s (λ b x y f z. s.told b x y f refl l z) e

    -- A set of which a look tells that no resolution has it.
    going-past : j < 2 ^ wide → RuledOut root n (set_at wide j) → Going ws ranks root q wide first known at m w o (j + 1) k n v p
    going-past h f =
        going-one h (set_at wide j) refl n v p k (set-ruled-out ws ranks root q (set_at wide j) false known (Rests ws q.rules ranks root (set_at wide j) known n) k n v p g.fits.place f)
        (λ b x y e z. told-ruled-out ws ranks root q (set_at wide j) false known (Rests ws q.rules ranks root (set_at wide j) known n) k n v p g.fits.place f z) refl

    -- All places have been passed.
    pub walked_all : 2 ^ wide ≤ j → Walked ws ranks root q wide first known at m w o p k
    walked_all h = record {
      whole = λ b from x few a z f l y start xs u i.
          let c = g.page b from x few a z f l y start xs u i in
          let e : j ≡ 2 ^ wide = omega (arith, g.to) in
          (c.0, all-places wide small b from few c.0 (rw e at c.1), c.2);
    }

    -- The page is full.
    pub walked-full : q.room ≤ k → Walked ws ranks root q wide first known at m w o p k
    walked-full h = record {
      whole = λ b from x few a z f l y start xs u i.
          let c = g.page b from x few a z f l y start xs u i in
          let d = cut_short wide small b from few l j c.0 c.1 in
          (c.0 ++ d.0, d.1, page-append q.room 0 k k start p p c.0 d.0 c.2 (page-full q.room k p d.0 h));
    }

  going-at : (i j k : ℕ) (n : List ℕ) (v : Memory) (p : List ℕ) → i ≡ j → Going ws ranks root q wide first known at m w o i k n v p → Going ws ranks root q wide first known at m w o j k n v p
  going-at i j k n v p e g = rw e at g

  -- Places at which a look is enough.
  going-over : (d j k : ℕ) (n : List ℕ) (v : Memory) (p : List ℕ) → j + d ≤ 2 ^ wide → Going ws ranks root q wide first known at m w o j k n v p → ((i : ℕ) → j ≤ i → i < j + d → RuledOut root n (set_at wide i))
      → Going ws ranks root q wide first known at m w o (j + d) k n v p
  going-over zero j k n v p h g f = going-at j (j + 0) k n v p (sym (plus_none j)) g
  going-over (suc d) j k n v p h g f =
      going-at (j + 1 + d) (j + suc d) k n v p (sym (plus_one j d))
      (going-over d (j + 1) k n v p (rw (plus_one j d) at h) (going-past j k n v p g (below j d (2 ^ wide) h) (f j (le_refl j) (above j d))) (λ i a b. f i (inner j i a) (rw (← plus_one j d) at b)))

  -- To a place up to which a look is enough.
  pub going_on : (j k : ℕ) (n : List ℕ) (v : Memory) (p : List ℕ) → Going ws ranks root q wide first known at m w o j k n v p → (s r : Position) → s.place ≡ j → Skipping wide root n s r
      → Going ws ranks root q wide first known at m w o r.place k n v p
  going_on j k n v p g s r e x =
      let f : j + (r.place - j) ≡ r.place = omega (arith, x.from) in
      rw f at (going-over (r.place - j) j k n v p (omega (arith, x.stands.to, f)) g (λ i a b. x.ruled_out i (omega arith) (omega (arith, f))))

  -- To the next place at which a look is not enough, or past all.
  pub walking-on : (j k past : ℕ) (n : List ℕ) (v : Memory) (p : List ℕ) → Going ws ranks root q wide first known at m w o j k n v p → (s : Position) → s.place ≡ j → (next : Result Position Position) → Skipped wide past root n s next
      → Walking ws ranks root q wide first known at m w o past next k n v p
  walking-on j k past n v p g s e next x = record {
    some = λ r f. let y = x.some r f in (going_on j k n v p g s r e y.over, y.over.stands, y.to);
    none = λ r f. let y = x.none r f in (going_on j k n v p g s r e y.1, y.0);
  }

  -- To the first place between the root's sets.
  pub going-in : (s : Span) → Spanned wide root s → Fits ws ranks o q at → first ≤ 2 ^ wide → (j : ℕ) → j ≡ max first s.first → j ≤ 2 ^ wide → Going ws ranks root q wide first known at m w o j at m w o
  going-in s x f h j a b =
      let e : first + (j - first) ≡ j = omega arith in
      rw e at (going-over (j - first) first at m w o (omega arith) (going-first f h) (λ i l k. short (x.before i (omega arith) (omega arith))))

  -- All places between the root's sets have been passed.
  pub walked-past : (s : Span) → Spanned wide root s → (j k : ℕ) (n : List ℕ) (v : Memory) (p : List ℕ) → Going ws ranks root q wide first known at m w o j k n v p → s.past ≤ j → Walked ws ranks root q wide first known at m w o p k
  walked-past s x j k n v p g h =
      let e : j + (2 ^ wide - j) ≡ 2 ^ wide = omega (arith, g.to) in
      walked_all (j + (2 ^ wide - j)) k n v p (going-over (2 ^ wide - j) j k n v p (omega arith) g (λ i a b. beyond (x.after i (omega arith) (omega arith)))) (omega arith)

  -- There are no such places from the first one on.
  pub walked_none : (s : Span) → Spanned wide root s → Fits ws ranks o q at → first ≤ 2 ^ wide → (j : ℕ) → j ≡ max first s.first → s.past ≤ j → Walked ws ranks root q wide first known at m w o o at
  walked_none s x f h j c l =
      let e : first + (2 ^ wide - first) ≡ 2 ^ wide = omega arith in
      walked_all (first + (2 ^ wide - first)) at m w o
      (going-over (2 ^ wide - first) first at m w o (omega arith) (going-first f h)
      (λ i a b. ⊎_elim (λ k. short (x.before i (omega arith) (omega arith))) (λ k. beyond (x.after i (omega arith) (omega arith))) (lt-or-le i j)))
      (omega arith)

-- ---- whole pages
clear-right : (b : Book) (m : List ℕ) → Clear m → RightMarks b m
clear-right b m c = record { right = λ t x. absurd (c.none t x) }

module _ (ws ranks : List ℕ) (root : Bounds) (q : Sought) (wide : ℕ) (small : wide ≤ exceptions) (m : List ℕ) (c : Clear m) (w : Memory) (empty : Right ws q.rules ranks root w) (o : List ℕ) where
  pub first-walked : (a : Bool) → a ≡ false → 2 ^ wide ≤ marks_in m → (o' : List ℕ) (r : ℕ) → Walked ws ranks root q wide 0 true 0 m w o o' r → Paged ws ranks root q wide a o o' r
  unfolding beginning
  first-walked a n h o' r x = rw n record {
    page = λ b s few l. x.whole b meaning.start s few (clear-right b m c) empty (λ e. ready-none ws q.rules ranks root wide small m c h) tt (record { later = λ i d l p e. tt }) o [] (none_yet wide small b meaning.start) (page-none q.room 0 o);
  }

  module _ (j : ℕ) (h : j < 2 ^ wide) (e : set_at wide j ≡ q.point.taken) where
    -- Nothing that stands before the point's place is later than the point.
    not-later : (b : Book) → Part b (meaning.at q.point) (Passed wide j) []
    not-later b = part_none b (meaning.at q.point) (Passed wide j) (λ p r l s. before-irreflexive p (before-transitive p q.point p (at-or-past wide small j j (le_refl j) h p q.point s e) l))

    pub after-walked : (m' : List ℕ) (w' : Memory) (o' o'' : List ℕ) (r r' : ℕ) → SetListed ws ranks root q q.point.taken true false (Rests ws q.rules ranks root q.point.taken false m) 0 m m' w w' o o' r
        → Walked ws ranks root q wide (j + 1) false r m' w' o' o'' r' → Paged ws ranks root q wide true o o'' r'
    unfolding beginning
    after-walked m' w' o' o'' r r' s z = record {
      page = λ b x few l.
          let from : Point = meaning.at q.point in
          let d = s.part b from x empty (clear-right b m c) (λ f. absurd (clash f)) (record { within = λ f. (refl, l, refl); before = λ f. absurd (clash (sym f)) }) in
          let y = one_more wide small b from j [] d.0 h (not-later b) (part_same b from (λ i. i.taken ≡ q.point.taken) (λ i. set_at wide j ≡ i.taken) d.0 (λ i l z. e ∙ sym z) (λ i l z. sym z ∙ e) d.2) in
          z.whole b from x few (s.stay b x empty (clear-right b m c)) (s.memory empty) (λ f. absurd (clash f)) l
          (record { later = λ i d z p f. at-or-past wide small (suc j) i (omega arith) z q.point p (inr e) f }) o d.0 (rw (add-one j) y) d.1;
    }

    -- A look at the point's own set tells that no resolution has it.
    pub after-past : RuledOut root m q.point.taken → (o' : List ℕ) (r : ℕ) → Walked ws ranks root q wide (j + 1) false 0 m w o o' r → Paged ws ranks root q wide true o o' r
    after-past f o' r x =
        after-walked m w o o' 0 r
        (set-ruled-out ws ranks root q q.point.taken true false (Rests ws q.rules ranks root q.point.taken false m) 0 m w o (omega arith) f) x

-- How many places may still be looked at, and one more; nothing at the end.
abbrev pub left : ℕ → Result Position Position → ℕ
left e (Err r) = 0
left e (Ok r) = suc (e - r.place)

pub left-less : (x past e : ℕ) (root : Bounds) (marks : List ℕ) (s r : Position) (next : Result Position Position) → s.place ≡ r.place + 1 → Skipped x past root marks s next → r.place < e → left e next < suc (e - r.place)
left-less x past e root marks s r (Err u) f k l = omega arith
left-less x past e root marks s r (Ok u) f k l = let y = (k.some u refl).over.from in omega arith
