-- Which sets of exceptions a resolution can have: one that no view has, that lies above a view's set, or that a view's set outranks, it cannot;
-- and the views of an admissible set are resolutions.
use Rattle.std.proofs.Common.{◌≡◌, ℕ, ◌+◌, ◌^◌, ◌<◌, ◌≤◌, Bool, true, false, List, None, Some, length, sym, refl, ◌∙◌, ⊎_elim, le_trans, le_refl, arith}
use Rattle.logic.specs.Tests.{Decides}
use Rattle.logic.proofs.Decide.{clash, holds-or-not, decides_eq}
use Rattle.sets.specs.declared.Pair.{Pair}
use Rattle.sets.specs.Sets.{bit_of, Contained, Within}
use Rattle.sets.proofs.Digits.{bit-lt, bit-zero}
use Rattle.sets.proofs.Words.{within-contained, both_ways, off-sub, none-off}
use Rattle.sets.proofs.Pairs.{sub_trans}
use Rattle.masks.specs.declared.Bounds.{Bounds}
use Rattle.masks.specs.Views.{Lined, MaskView}
use Rattle.bounds.specs.Sound.{In, Propagated, with_sets}
use Rattle.bounds.proofs.Ranges.{in-sets, in-root, one_set}
use Rattle.page.specs.Pages.{pairs_in}
use Rattle.few.specs.Few.{Collected}
use Rattle.admissible.specs.Admissible.{Undominated, Admissible, Stands, Unexceeded}
use Rattle.meaning.specs.Books.{Book}
use Rattle.meaning.proofs.Conditions.{smaller-undominated}
use Rattle.meaning.specs.Resolutions.{Dominated, Resolution}
use Rattle.bridge.proofs.Lines.{unlined-plain}
use Rattle.marking.specs.declared.Strike.{Strike}
use Rattle.marking.specs.Marks.{Struck, shares, between, IsMarked, Marked, NoneAt, RightMarks, Outranked, all_ones, Surpassed}
use Rattle.ranges.specs.declared.Range.{Range}
use Rattle.resolution.specs.Rooted.{Rooted}
use Rattle.resolution.proofs.Resolutions.{stands_same, resolution-stands, outranked-dominated, resolution-same}
use Rattle.ranges.specs.Ranges.{NoView, Wider}
use Rattle.one_set.specs.declared.Views.{Views}
use Rattle.one_set.specs.Plans.{HasView, Told, Full, MarksRight, Gathered, Admits}
use Rattle.marking.proofs.Steps.{all-within}
use Rattle.marking.proofs.Marks.{right-more}

-- A view within root whose set lies from lo to hi is none where no view has such a set.
none_in : (ws : List ℕ) (n : ℕ) (ranks : List ℕ) (root : Bounds) (lo hi : ℕ) → NoView ws n ranks root lo hi
    → (v : Pair) → MaskView ws n ranks v → In root v → Within lo v.taken → Within v.taken hi → ⊥
none_in ws n ranks root lo hi f v m i g h = f.none v m (in-sets root lo hi v i g h)

module _ (b : Book) (ws : List ℕ) (n : ℕ) (ranks : List ℕ) (root : Bounds) (rt : Rooted b ws n ranks root) where
  -- A view that is undominated if a resolution has a superset of its set: that set surpasses every set above it and every set with a member that it outranks.
  pub surpassed : (v : Pair) → MaskView ws n ranks v → In root v → ((p : Pair) → Resolution b p → Contained v.taken p.taken → Dominated b v → ⊥) → (lower : ℕ) → Outranked ranks v.taken lower → (hi t : ℕ)
      → Struck (record { lo = v.taken; hi = hi; but = v.taken; any = lower }) t → NoneAt b t
  surpassed v m i free lower o hi t (between f) = record {
    none = λ p r e. let k = within-contained v.taken p.taken (rw e f.above) in r.minimal (record {
      other = v;
      view = rt.only v m i;
      undominated = free p r k;
      smaller = record { contained = k; different = λ q. f.other (sym e ∙ sym q) };
    });
  }
  surpassed v m i free lower o hi t (shares d) = record { none = λ p r e. d (λ c. apart-at p r e c) }
    where
      apart-at : (p : Pair) → Resolution b p → p.taken ≡ t → (c : ℕ) → bit_of lower c + bit_of t c ≤ 1
      apart-at p r e c =
          let y = bit-lt lower c in let z = bit-lt t c in
          ⊎_elim (λ x. ⊎_elim (λ (w : bit_of t c ≡ 1). let k = o.by c x in absurd (r.undominated (outranked-dominated b ws n ranks root rt v p m i k.upper c k.ranked k.taken_has k.outranks (rw e w))))
          (λ w. omega (arith, less (bit_of t c) z w)) (holds-or-not (decides_eq (bit_of t c) 1)))
          (λ x. omega (arith, less (bit_of lower c) y x)) (holds-or-not (decides_eq (bit_of lower c) 1))
        where
          less : (u : ℕ) → u < 2 → (u ≡ 1 → ⊥) → u ≡ 0
          less u h n = omega arith

  -- No view has a set from lo to hi.
  pub none_within : (lo hi : ℕ) → NoView ws n ranks root lo hi → (t : ℕ) → Within lo t → Within t hi → NoneAt b t
  none_within lo hi f t g h = record { none = λ p r e. let k = rt.holds p r.view in none_in ws n ranks root lo hi f p k.0 k.1 (rw e g) (rw e h) }

  -- Nothing that stands: a view that is undominated, by what it is.
  pub free-standing : (v : Pair) → Stands ws n ranks root v → (p : Pair) → Resolution b p → Contained v.taken p.taken → Dominated b v → ⊥
  free-standing v s p r k d = (stands_same b ws n ranks root rt v).0 s d

  module _ (u : Lined ws n → ⊥) where
    -- Without lines a view below an undominated pair is undominated.
    pub free-unlined : (v : Pair) (p : Pair) → Resolution b p → Contained v.taken p.taken → Dominated b v → ⊥
    free-unlined v p r k d = r.undominated (smaller-undominated b (unlined-plain b ws n rt.packs.lines u) p v k d)

    -- The set of a resolution is admissible.
    pub not-admissible : (t : ℕ) → (Admissible ws n ranks root t → ⊥) → NoneAt b t
    not-admissible t f = record { none = λ p r e. f (rw e at ((resolution-same b ws n ranks root rt u p).1 r).1) }

-- ---- marks that stay right
module _ (ws : List ℕ) (n : ℕ) (ranks : List ℕ) (root : Bounds) where
  pub marks-same : (m : List ℕ) → MarksRight ws n ranks root m m
  marks-same m = record { stay = λ b r w. w; kept = λ t x. x; same = refl; full = λ f. f }

  pub marks-more : (m m' m'' : List ℕ) → MarksRight ws n ranks root m m' → MarksRight ws n ranks root m' m'' → MarksRight ws n ranks root m m''
  marks-more m m' m'' f g = record { stay = λ b r w. g.stay b r (f.stay b r w); kept = λ t x. g.kept t (f.kept t x); same = g.same ∙ f.same; full = λ x. g.full (f.full x) }

  -- Marks that are kept tell what they told.
  pub told-kept : (m m' : List ℕ) → ((t : ℕ) → IsMarked m t → IsMarked m' t) → length m' ≡ length m → (u : ℕ) → Told ws n ranks root m u → Told ws n ranks root m' u
  told-kept m m' k s u f = record { above = λ v x i y e t h l w d. k t (f.above v x i y e t (rw s at h) l w d) }

  -- Of a set without a view there is nothing to tell.
  pub told_none : (lo hi : ℕ) → NoView ws n ranks root lo hi → (m : List ℕ) (u : ℕ) → Within lo u → Within u hi → Told ws n ranks root m u
  told_none lo hi f m u g h = record { above = λ v x i y e. absurd (none_in ws n ranks root lo hi f v x i (rw e g) (rw e h)) }

  -- Full marks stay full if the new ones tell of each struck set.
  full-more : (m m' : List ℕ) (s : Strike) → Marked m (Struck s) m' → ((u : ℕ) → Struck s u → Told ws n ranks root m' u) → Full ws n ranks root m → Full ws n ranks root m'
  full-more m m' s k g f = record { told = λ u x. ⊎_elim (λ y. told-kept m m' k.stays k.same u (f.told u y)) (λ y. g u y) (k.only u x) }

  -- A range that has no view is marked.
  pub range-marked : (t : ℕ) (s : Range) (but : ℕ) (m m' : List ℕ) → Wider ws n ranks root (record { lo = t; hi = t }) s
      → Marked m (Struck (record { lo = s.lo; hi = s.hi; but = but; any = 0 })) m' → NoView ws n ranks root t t → MarksRight ws n ranks root m m'
  range-marked t s but m m' f k g = record {
    stay = λ b r w. right-more b m m' _ w k (λ u x. let y = inside u x in none_within b ws n ranks root r s.lo s.hi (f.still g) u y.0 y.1);
    kept = k.stays;
    same = k.same;
    full = full-more m m' _ k (λ u x. let y = inside u x in told_none s.lo s.hi (f.still g) m' u y.0 y.1);
  }
    where
      inside : (u : ℕ) → Struck (record { lo = s.lo; hi = s.hi; but = but; any = 0 }) u → Within s.lo u × Within u s.hi
      inside u (shares x) = absurd (x (none-off u))
      inside u (between x) = (x.above, x.below)

  -- So they do if a proper superset of a struck set is struck.
  pub full-upward : (m m' : List ℕ) (s : Strike) → Marked m (Struck s) m' → ((u t : ℕ) → t < 2 ^ 64 → Within u t → (t ≡ u → ⊥) → Struck s u → Struck s t) → Full ws n ranks root m → Full ws n ranks root m'
  full-upward m m' s k up f = full-more m m' s k (λ u x. record { above = λ v y i z e t h l w d. k.all t (rw k.same at h) (up u t l w d x) }) f

-- ---- what a view's set surpasses
module _ (ws : List ℕ) (n : ℕ) (ranks : List ℕ) (root : Bounds) (t : ℕ) (m m' : List ℕ) (p : Surpassed ranks t m m') where
  abbrev strike : Strike
  strike = record { lo = t; hi = all_ones; but = t; any = p.lower }

  upward : (u v : ℕ) → v < 2 ^ 64 → Within u v → (v ≡ u → ⊥) → Struck strike u → Struck strike v
  upward u v h w d (shares x) = shares (λ a. x (off-sub p.lower p.lower u v (λ i. le_refl _) w a))
  upward u v h w d (between x) = between (record { above = λ i. le_trans (x.above i) (w i); below = all-within v h; other = λ e. d (both_ways v u (rw e x.above) w) })

  pub surpassed-full : Full ws n ranks root m → Full ws n ranks root m'
  surpassed-full = full-upward ws n ranks root m m' strike p.marked upward

  -- The marks tell of the view's own set.
  pub surpassed-told : Told ws n ranks root m' t
  surpassed-told = record { above = λ x k i z y u h l w d. p.marked.all u (rw p.marked.same at h) (between (record { above = w; below = all-within u l; other = d })) }

  -- They stay right if a view has the set that is undominated where a resolution is above it.
  pub surpassed-right : (v : Pair) → MaskView ws n ranks v → In root v → v.taken ≡ t → (b : Book) → Rooted b ws n ranks root
      → ((q : Pair) → Resolution b q → Contained v.taken q.taken → Dominated b v → ⊥) → RightMarks b m → RightMarks b m'
  surpassed-right v x i e b r free w = right-more b m m' (Struck strike) w p.marked (λ u s. surpassed b ws n ranks root r v x i free p.lower (rw e p.outranked) all_ones u (rw e s))

-- What is within bounds that propagation has narrowed is within those before.
pub propagated-in : (ws : List ℕ) (n : ℕ) (ranks : List ℕ) (b o : Bounds) → Propagated ws n ranks b o → (v : Pair) → In o v → In b v
propagated-in ws n ranks b o p v i = record { lo = sub_trans p.lo i.lo; hi = sub_trans i.hi p.hi }

-- ---- what the gathered views tell
module _ (ws : List ℕ) (n : ℕ) (ranks : List ℕ) (root : Bounds) (t : ℕ) (o : Bounds) (p : Propagated ws n ranks (with_sets root t t) o) (cap : ℕ) (store : List ℕ) (r : ℕ) (c : Collected ws n ranks o cap store r) where
  pub collected-none : 0 < cap → r ≡ 0 → NoView ws n ranks root t t
  unfolding pairs_in
  collected-none h e = record { none = λ v m i. (rw e at (c.whole (omega arith))).all v m (p.keeps.kept v m i) }

  pub collected-some : (r ≡ 0 → ⊥) → HasView ws n ranks root t
  collected-some h =
      let f = c.some (omega arith) in
      let i = propagated-in ws n ranks (with_sets root t t) o p f.0 f.2 in
      record { some = (f.0, f.1, in-root root t t f.0 i, one_set root t f.0 i) }

-- ---- what the test of an unlined book answers
module _ (ws : List ℕ) (n : ℕ) (ranks : List ℕ) (root : Bounds) (u : Lined ws n → ⊥) (t : ℕ) (known : Bool) (m : List ℕ) (h : HasView ws n ranks root t) (m' : List ℕ) (p : Surpassed ranks t m m') where
  abbrev v : Pair
  v = h.some.0

  found : MaskView ws n ranks v
  found = h.some.1

  found_in : In root v
  found_in = h.some.2

  found-set : v.taken ≡ t
  found-set = h.some.3

  seen : MarksRight ws n ranks root m m'
  seen = record {
    stay = λ b r. surpassed-right ws n ranks root t m m' p v found found_in found-set b r (free-unlined b ws n ranks root r u v);
    kept = p.marked.stays;
    same = p.marked.same;
    full = surpassed-full ws n ranks root t m m' p;
  }

  pub admits-surpassed : IsMarked m' t → Admits ws n ranks root t known m m' false
  admits-surpassed x = record {
    marks = seen;
    told = surpassed-told ws n ranks root t m m' p;
    refuses = λ e b r w. (seen.stay b r w).right t x;
    undominated = λ e. absurd (clash e);
    unexceeded = λ e. absurd (clash e);
  }

  pub admits-tested : (z : Bool) → Decides z (Admissible ws n ranks root t) → Admits ws n ranks root t known m m' z
  admits-tested z d = record {
    marks = seen;
    told = surpassed-told ws n ranks root t m m' p;
    refuses = λ e b r w. not-admissible b ws n ranks root r u t (d.no e);
    undominated = λ e. (d.yes e).undominated;
    unexceeded = λ e f. let a = (d.yes e).minimal in record { has = λ v x i s w. a.has v x i w };
  }

  -- Where every set before t has been walked, no view that stands has a proper subset of a set that is not marked.
  pub admits-known : known ≡ true → (IsMarked m' t → ⊥) → (z : Bool) → Decides z (Undominated ws n ranks root t) → Admits ws n ranks root t known m m' z
  admits-known k o z d = record {
    marks = seen;
    told = surpassed-told ws n ranks root t m m' p;
    refuses = λ e b r w. not-admissible b ws n ranks root r u t (λ a. d.no e a.undominated);
    undominated = λ e. d.yes e;
    unexceeded = λ e f. f k (λ x. o (seen.kept t x));
  }

-- ---- what gathering answers
module _ (ws : List ℕ) (n : ℕ) (ranks : List ℕ) (root : Bounds) (t cap : ℕ) (m : List ℕ) where
  -- No view has the set.
  pub gathered_none : (m' store : List ℕ) → NoView ws n ranks root t t → MarksRight ws n ranks root m m' → Gathered ws n ranks root t cap m m' store None
  gathered_none m' store f k = record { marks = k; none = λ d. f; some = λ g d. cc; bounds = λ g d. cc; collected = λ g d. cc }

  pub gathered-some : (store : List ℕ) (g : Views) → HasView ws n ranks root t → Propagated ws n ranks (with_sets root t t) g.rest.bounds → Collected ws n ranks g.rest.bounds cap store g.count
      → Gathered ws n ranks root t cap m m store (Some g)
  gathered-some store g h p c = record {
    marks = marks-same ws n ranks root m;
    none = λ d. cc;
    some = λ f d. h;
    bounds = λ f d. let e : g ≡ f = cc in rw e at p;
    collected = λ f d. let e : g ≡ f = cc in rw e at c;
  }

-- ---- the bounds of a set
module _ (ws : List ℕ) (n : ℕ) (ranks : List ℕ) (root : Bounds) (t : ℕ) (o : Bounds) (f : Propagated ws n ranks (with_sets root t t) o) where
  -- Every view within root that has the set is within the bounds.
  pub in_bounds : (v : Pair) → MaskView ws n ranks v → In root v → v.taken ≡ t → In o v
  in_bounds v m i d = f.keeps.kept v m (in-sets root t t v i (λ k. rw d (le_refl _)) (λ k. rw d (le_refl _)))

  -- And nothing else is: the bounds are no wider than those of the set.
  pub bounds-in : (v : Pair) → In o v → In (with_sets root t t) v
  bounds-in v i = propagated-in ws n ranks (with_sets root t t) o f v i

-- ---- a set and all above it
module _ (ws : List ℕ) (n : ℕ) (ranks : List ℕ) (root : Bounds) (t : ℕ) where
  abbrev above : Strike
  above = record { lo = t; hi = all_ones; but = 0; any = 0 }

  pub exceeded-full : (m m' : List ℕ) → Marked m (Struck above) m' → Full ws n ranks root m → Full ws n ranks root m'
  exceeded-full m m' k = full-upward ws n ranks root m m' above k up
    where
      up : (u v : ℕ) → v < 2 ^ 64 → Within u v → (v ≡ u → ⊥) → Struck above u → Struck above v
      up u v h w d (shares x) = absurd (x (none-off u))
      up u v h w d (between x) = between (record { above = λ i. le_trans (x.above i) (w i); below = all-within v h; other = λ e. x.other (both_ways u 0 (rw e at w) (λ i. let z = bit-zero i in omega arith)) })

  -- Where a view that stands has a proper subset of t, no resolution has a superset.
  module _ (f : Unexceeded ws n ranks root t → ⊥) where
    pub exceeded-above : (b : Book) → Rooted b ws n ranks root → (u : ℕ) → Within t u → NoneAt b u
    exceeded-above b r u k = record {
      none = λ p x e. let y = ((resolution-stands b ws n ranks root r p).1 x).2 in
          f (record { has = λ v m i s w j. le_trans (k j) (rw e at (y.has v m i s (rw e (λ j. le_trans (w j) (k j))) j)) });
    }

    pub exceeded-marks : (m m' : List ℕ) → Marked m (Struck above) m' → MarksRight ws n ranks root m m'
    exceeded-marks m m' k = record {
      stay = λ b r w. right-more b m m' (Struck above) w k (λ u s. exceeded-above b r u (struck u s));
      kept = k.stays;
      same = k.same;
      full = exceeded-full m m' k;
    }
      where
        struck : (u : ℕ) → Struck above u → Within t u
        struck u (shares x) = absurd (x (none-off u))
        struck u (between x) = x.above

-- The set of a view is one of the book's.
pub set-lawful : (ws : List ℕ) (n : ℕ) (ranks : List ℕ) (root : Bounds) (t : ℕ) → HasView ws n ranks root t → (b : Book) → Rooted b ws n ranks root → t < 2 ^ length b.exceptions
set-lawful ws n ranks root t h b r = rw h.some.3 at (r.only h.some.0 h.some.1 h.some.2).lawful.exceptions
