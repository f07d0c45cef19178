-- Preferences under a condition, by rows of the words and by lists of lines.
-- One lemma turns steps between places into chains of lines, for any property of rows and any list of lines that has the P lines and the lines of the
-- rows with the property. What ranks within a pair, and what one pair's set outranks of another's, are two cases of it.
use mathlib.Core.Path.{◌≡◌, refl, sym, ap, ◌∙◌}
use mathlib.Core.List.{List, [], ◌∷◌}
use mathlib.Core.Logic.{◌⊎◌, inl, inr, ⊎_elim, ◌↔◌}
use Prim.Native.Nat.{ℕ, suc, ◌+◌, ◌-◌, ◌^◌, ◌<◌, ◌≤◌}
use native.Mathlib.Omega.{arith}
use lib.ListN.{length, get_or}
use lib.Pow.{pow_pos}
use borrow.Author.Tests.{eqb-true, eq-eqb}
use Rattle.logic.specs.Lists.{Among}
use Rattle.logic.proofs.Members.{among-either, among-left, among-right}
use Rattle.sets.specs.declared.Pair.{Pair}
use Rattle.sets.specs.Sets.{member, bit_of}
use Rattle.sets.proofs.Digits.{bit-single, bit-zero, lt-or-le}
use Rattle.sets.proofs.Words.{none-sub, member-suc}
use Rattle.meaning.specs.Rules.{Satisfied}
use Rattle.meaning.specs.Preferences.{Conditional, counting, in_both, Outranks, step, chain}
use Rattle.meaning.specs.Books.{Book, conclusions}
use Rattle.meaning.specs.Views.{ranking, Ranked, RankedWithin, Dominates}
use Rattle.meaning.proofs.Conditions.{counting-has, both-have, outranks-more}
use Rattle.masks.specs.declared.Masks.{Masks}
use Rattle.masks.specs.Views.{Fires, from_at, to_at, Counts, Lined, Step, rank, line, Leads, Uncrossed, Alike, Shared, MaskDominates}
use Rattle.masks.specs.Views.{step as one-step, chain as more-steps}
use Rattle.bridge.specs.Packed.{masks_of, blank_line, line_of, PacksLines}
use Rattle.bridge.specs.Ranks.{Names, RanksOf}
use Rattle.bridge.proofs.Lists.{every-place, some-place}
use Rattle.bridge.proofs.Entries.{fires-are}
use Rattle.bridge.proofs.Levels.{joined, line-named, placed}

-- ---- sets of one number
-- The number that such a set has; equal sets have equal numbers.
only_one : (k x : ℕ) → bit_of (2 ^ k) x ≡ 1 → k ≡ x
only_one k x e = eqb-true k x (sym (bit-single k x) ∙ eq-eqb _ 1 e)

own-one : (k : ℕ) → bit_of (2 ^ k) k ≡ 1
own-one k = eqb-true (bit_of (2 ^ k) k) 1 (bit-single k k ∙ eq-eqb k k refl)

same_power : (k x : ℕ) → 2 ^ k ≡ 2 ^ x → k ≡ x
same_power k x e = only_one k x (rw e (own-one x))

-- ---- one line
-- A line's row counts where the line's body is satisfied.
line-fires : (q : Conditional) (v : Pair) → Fires (line_of q) v v ↔ Satisfied (conclusions v) q.body
unfolding line_of masks_of
line-fires q v = let k = fires-are (record { own = 0; rule = record { heads = []; body = q.body } }) v v in (
  λ f. let h = k.0 (record { needed = f.needed; unbarred = f.unbarred }) in record { needs = h.2; bars = h.1 },
  λ h. let f = k.1 (none-sub v.taken, h.bars, h.needs) in record { needed = f.needed; unbarred = f.unbarred },
)

module _ (b : Book) (ws : List ℕ) (n : ℕ) (pl : PacksLines b ws n) where
  -- Line j of the book, the first being line 0.
  abbrev pub line_at : ℕ → Conditional
  line_at j = get_or b.conditional j blank_line

  -- Where its row begins and ends.
  from_is : (j : ℕ) → j < length b.conditional → from_at ws n j ≡ 2 ^ ((line_at j).line.0 - 1)
  unfolding line_of
  from_is j h = ap (λ (r : Masks). r.head.held) (pl.line_at j h)

  to_is : (j : ℕ) → j < length b.conditional → to_at ws n j ≡ 2 ^ ((line_at j).line.1 - 1)
  unfolding line_of
  to_is j h = ap (λ (r : Masks). r.head.denied) (pl.line_at j h)

  -- A row that begins somewhere is that of a line.
  is-line : (j : ℕ) → j < 32 → (from_at ws n j ≡ 0 → ⊥) → j < length b.conditional
  is-line j h f = ⊎_elim (λ x. x) (λ (x : length b.conditional ≤ j). absurd (f (pl.past j x h))) (lt-or-le j (length b.conditional))

  -- The words have lines, or the book has none.
  pub lined-or-plain : Lined ws n ⊎ (b.conditional ≡ [])
  lined-or-plain = go b.conditional refl
    where
      go : (qs : List Conditional) → b.conditional ≡ qs → Lined ws n ⊎ (b.conditional ≡ [])
      go [] e = inr e
      go (q ∷ qs) e =
          let h : 0 < length b.conditional = rw e (omega arith) in
          inl (record { room = pl.room h; first = λ z. let f = from_is 0 h in let p = pow_pos ((line_at 0).line.0 - 1) in absurd (omega arith) })

  pub unlined-plain : (Lined ws n → ⊥) → b.conditional ≡ []
  unlined-plain f = ⊎_elim (λ l. absurd (f l)) (λ e. e) lined-or-plain

  -- Line j counts in a pair exactly where its body is satisfied.
  pub counts_same : (v : Pair) (j : ℕ) → j < length b.conditional → Counts ws n v j ↔ Satisfied (conclusions v) (line_at j).body
  counts_same v j h = rw (pl.line_at j h) (line-fires (line_at j) v)

  -- ---- steps and chains of lines
  module _ (ranks : List ℕ) (o : RanksOf b ranks) where
    lines_at : (j : ℕ) → j < length b.conditional → Names (length b.exceptions) (line_at j).line.0 × Names (length b.exceptions) (line_at j).line.1
    lines_at =
        (every-place (λ (q : Conditional). Names (length b.exceptions) q.line.0 × Names (length b.exceptions) q.line.1) blank_line b.conditional).1 o.lines_named

    -- The list has the P lines and the lines of the rows with the property, and no others.
    abbrev pub Lists : (ℕ → Type 0) → List (ℕ × ℕ) → Type 0
    Lists L lines = (l : ℕ × ℕ) → Among l lines ↔ (Among l b.preferences ⊎ ((j : ℕ) × (j < length b.conditional) × L j × ((line_at j).line ≡ l)))

    module _ (L : ℕ → Type 0) (lines : List (ℕ × ℕ)) (f : Lists L lines) where
      -- A step is a chain of lines.
      by-line : (j a c : ℕ) → j < length b.conditional → L j → bit_of (from_at ws n j) a ≡ 1 → bit_of (to_at ws n j) c ≡ 1 → Outranks lines (suc a) (suc c)
      by-line j a c h l x y =
          let z = lines_at j h in
          let u = only_one ((line_at j).line.0 - 1) a (rw (from_is j h) at x) in
          let w = only_one ((line_at j).line.1 - 1) c (rw (to_is j h) at y) in
          let d : (line_at j).line.0 ≡ suc a = sym (placed (line_at j).line.0 z.0.from_one) ∙ ap suc u in
          let e : (line_at j).line.1 ≡ suc c = sym (placed (line_at j).line.1 z.1.from_one) ∙ ap suc w in
          step ((f (suc a, suc c)).1 (inr (j, h, l, λ i. (d i, e i))))

      by-step : (a c : ℕ) → Step ws n ranks L a c → Outranks lines (suc a) (suc c)
      by-step a c (rank h e) = outranks-more b.preferences lines (λ l m. (f l).1 (inl m)) ((o.outranked a c h).0 e)
      by-step a c (line j h l x y) = by-line j a c (is-line j h (λ z. let q : bit_of 0 a ≡ 1 = rw z at x in let k = bit-zero a in omega arith)) l x y

      by-steps : {a c : ℕ} → Leads ws n ranks L a c → Outranks lines (suc a) (suc c)
      by-steps {a} {c} (one-step s) = by-step a c s
      by-steps {a} {c} (more-steps {d = d} s r) = joined (by-step a d s) (by-steps r)

      -- A line of the list names exceptions, and is a step.
      listed-named : (l : ℕ × ℕ) → Among l lines → Names (length b.exceptions) l.0 × Names (length b.exceptions) l.1
      listed-named l m = ⊎_elim (λ k. line-named b o.named k) (λ s. rw s.3 at (lines_at s.0 s.1)) ((f l).0 m)

      listed-step : (l : ℕ × ℕ) → Among l lines → Step ws n ranks L (l.0 - 1) (l.1 - 1)
      listed-step l m =
          let z = listed-named l m in let p = z.0.from_one in let q = z.0.most in let e = o.each in
          let h : l.0 - 1 < length ranks = omega arith in
          ⊎_elim
          (λ k. rank h ((o.outranked (l.0 - 1) (l.1 - 1) h).1 (rw (placed l.0 p, placed l.1 z.1.from_one) (step k))))
          (λ s. let w = pl.most in let k = s.1 in line s.0 (omega arith) s.2 (rw (from_is s.0 k, s.3) (own-one (l.0 - 1))) (rw (to_is s.0 k, s.3) (own-one (l.1 - 1))))
          ((f l).0 m)

      chained-steps : {x y : ℕ} → Outranks lines x y → Leads ws n ranks L (x - 1) (y - 1)
      chained-steps {x} {y} (step m) = one-step (listed-step (x, y) m)
      chained-steps {x} (chain {c = z} m r) = more-steps (listed-step (x, z) m) (chained-steps r)

      pub leads-same : (a c : ℕ) → Leads ws n ranks L a c ↔ Outranks lines (suc a) (suc c)
      leads-same a c = (by-steps, λ r. rw (back a, back c) at (chained-steps r))
        where
          back : (k : ℕ) → suc k - 1 ≡ k
          back k = omega arith

      -- From a member of one set to a member of another.
      pub led-ranked : (t u a c : ℕ) → bit_of t a ≡ 1 → bit_of u c ≡ 1 → Leads ws n ranks L a c → Ranked lines t u
      led-ranked t u a c x y r = record {
        upper = suc a;
        lower = suc c;
        upper_in = member-suc a t ∙ eq-eqb (bit_of t a) 1 x;
        lower_in = member-suc c u ∙ eq-eqb (bit_of u c) 1 y;
        outranks = by-steps r;
      }

      pub ranked-led : (t u : ℕ) (r : Ranked lines t u) → (bit_of t (r.upper - 1) ≡ 1) × (bit_of u (r.lower - 1) ≡ 1) × Leads ws n ranks L (r.upper - 1) (r.lower - 1)
      unfolding member
      ranked-led t u r = (eqb-true _ 1 r.upper_in, eqb-true _ 1 r.lower_in, chained-steps r.outranks)

    -- ---- the two cases
    -- The lines that rank in a pair are those of the rows that count in it.
    pub ranking-lists : (p : Pair) → Lists (Counts ws n p) (ranking b p)
    ranking-lists p l =
        let s = counting-has (conclusions p) l b.conditional in
        let q = some-place (λ (q : Conditional). (q.line ≡ l) × Satisfied (conclusions p) q.body) blank_line b.conditional in (
          λ m. ⊎_elim (λ k. inl k) (λ k. let z = q.0 (s.0 k) in inr (z.0, z.1, (counts_same p z.0 z.1).1 z.2.1, z.2.0))
              (among-either l b.preferences (counting (conclusions p) b.conditional) m),
          λ m. ⊎_elim (λ k. among-left l b.preferences (counting (conclusions p) b.conditional) k)
              (λ z. among-right l b.preferences (counting (conclusions p) b.conditional) (s.1 (q.1 (z.0, z.1, (z.3, (counts_same p z.0 z.1).0 z.2))))) m,
        )

    -- Rows that are the same step, and lines that are.
    alike_of : (i j : ℕ) → i < length b.conditional → j < length b.conditional → (line_at i).line ≡ (line_at j).line → Alike ws n i j
    unfolding line_of
    alike_of i j h k e = rw (pl.line_at i h, pl.line_at j k) (ap (λ (l : ℕ × ℕ). record { taken = 0; held = 2 ^ (l.0 - 1); denied = 2 ^ (l.1 - 1) }) e)

    alike-line : (i j : ℕ) → i < 32 → j < length b.conditional → Alike ws n i j → (i < length b.conditional) × ((line_at i).line ≡ (line_at j).line)
    alike-line i j h k e =
        let x : from_at ws n i ≡ 2 ^ ((line_at j).line.0 - 1) = ap (λ (p : Pair). p.held) e ∙ from_is j k in
        let y : to_at ws n i ≡ 2 ^ ((line_at j).line.1 - 1) = ap (λ (p : Pair). p.denied) e ∙ to_is j k in
        let l = is-line i h (λ z. let p = pow_pos ((line_at j).line.0 - 1) in omega arith) in
        let u = same_power ((line_at i).line.0 - 1) ((line_at j).line.0 - 1) (sym (from_is i l) ∙ x) in
        let w = same_power ((line_at i).line.1 - 1) ((line_at j).line.1 - 1) (sym (to_is i l) ∙ y) in
        let p = lines_at i l in let q = lines_at j k in
        let d = sym (placed _ p.0.from_one) ∙ ap suc u ∙ placed _ q.0.from_one in
        let c = sym (placed _ p.1.from_one) ∙ ap suc w ∙ placed _ q.1.from_one in
        (l, λ r. (d r, c r))

    -- The lines that give a step in both pairs.
    pub both-lists : (w v : Pair) → Lists (Shared ws n w v) (in_both (ranking b w) (ranking b v))
    both-lists w v l =
        let s = both-have l (ranking b w) (ranking b v) in let x = ranking-lists w l in let y = ranking-lists v l in let m = pl.most in (
          λ k. let h = s.0 k in
              ⊎_elim (λ p. inl p)
              (λ i. ⊎_elim (λ p. inl p)
              (λ j. inr (j.0, j.1, (j.2, (i.0, omega (arith, i.1), i.2, alike_of i.0 j.0 i.1 j.1 (i.3 ∙ sym j.3))), j.3)) (x.0 h.0)) (y.0 h.1),
          λ k. s.1
              (⊎_elim (λ p. (x.1 (inl p), y.1 (inl p)))
              (λ j. let i = j.2.1 in let a = alike-line i.0 j.0 i.1 j.1 i.3 in
              (x.1 (inr (j.0, j.1, j.2.0, j.3)), y.1 (inr (i.0, a.0, i.2, a.1 ∙ j.3)))) k),
        )

    -- No member of T leads to a member exactly where none outranks one in S.
    pub uncrossed-same : (p : Pair) → Uncrossed ws n ranks p ↔ (RankedWithin b p → ⊥)
    uncrossed-same p = (
      λ f r. let k = ranked-led (Counts ws n p) (ranking b p) (ranking-lists p) p.taken p.taken r in f (r.upper - 1) (r.lower - 1) k.0 k.2 k.1,
      λ f a c x r y. f (led-ranked (Counts ws n p) (ranking b p) (ranking-lists p) p.taken p.taken a c x y r),
    )

    -- One pair dominates another by the words exactly where it does by the lines.
    pub dominates-same : (w v : Pair) → MaskDominates ws n ranks w v ↔ Dominates b w v
    dominates-same w v = (
      λ d. led-ranked (Shared ws n w v) (in_both (ranking b w) (ranking b v)) (both-lists w v) w.taken v.taken d.upper d.lower d.upper_in d.lower_in d.leads,
      λ r. let k = ranked-led (Shared ws n w v) (in_both (ranking b w) (ranking b v)) (both-lists w v) w.taken v.taken r in
          record { upper = r.upper - 1; lower = r.lower - 1; upper_in = k.0; lower_in = k.1; leads = k.2 },
    )
