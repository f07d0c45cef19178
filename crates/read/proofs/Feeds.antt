-- The next line feed: what is left to look at, from here, gives the final answer; and the first line of what is left of the text.
-- By induction on the bytes.
use mathlib.Core.Path.{◌≡◌, refl, ap, ◌∙◌}
use mathlib.Core.Bool.{Bool, true, false}
use mathlib.Core.List.{List, [], ◌∷◌}
use Prim.Native.Nat.{ℕ, zero, suc, ◌+◌, ◌<◌, ◌≤◌}
use native.Mathlib.Nat.{not-suc-le-zero}
use native.Mathlib.Omega.{arith}
use lib.Dec.{eqb}
use lib.ListN.{get_or, drop, take, length, length-drop}
use lib.Seq.{drop-drop}
use borrow.Author.Tests.{eqb-true, eqb-false, eq-eqb, ne_eqb}
use Rattle.std.specs.Prelude.{Option, Some, None, MatchOption, unwrap_or}
use Rattle.std.specs.List.{AllWithin, HoldsAt}
use Rattle.logic.specs.Tests.{pick}
use Rattle.text.specs.Lines.{lines, to_first}
use Rattle.text.specs.Reading.{last_byte}
use Rattle.read.specs.Storing.{until_feed}

-- ---- the next line feed
feed-at : (t : List ℕ) (i : ℕ) → i < length t → get_or t i 0 ≡ 10 → ((j : ℕ) → j < i → get_or t j 0 ≡ 10 → ⊥) → i ≡ until_feed t
unfolding until_feed pick
feed-at [] i h e f = absurd (omega arith)
feed-at (b ∷ bs) zero h e f = rw (eq-eqb b 10 e)
feed-at (b ∷ bs) (suc i) h e f = rw (ne_eqb b 10 (f 0 (omega arith))) (ap suc (feed-at bs i (omega arith) e (λ j g. f (suc j) (omega arith))))

feed-nowhere : (t : List ℕ) → ((j : ℕ) → j < length t → get_or t j 0 ≡ 10 → ⊥) → length t ≡ until_feed t
unfolding until_feed pick
feed-nowhere [] f = refl
feed-nowhere (b ∷ bs) f = rw (ne_eqb b 10 (f 0 (omega arith))) (ap suc (feed-nowhere bs (λ j g. f (suc j) (omega arith))))

-- The place of the first line feed, and the length where there is none.
pub feed-first : (t : List ℕ) (r : Option ℕ) (n : ℕ) → MatchOption r (AllWithin (λ b. b ≡ 10 → ⊥) t 0 (length t)) (λ i. (i < length t) × HoldsAt (λ b. b ≡ 10) t i × AllWithin (λ b. b ≡ 10 → ⊥) t 0 i)
    → n ≡ unwrap_or r (length t) → (n ≡ until_feed t) × (n ≤ length t)
feed-first t None n f e = (e ∙ feed-nowhere t (λ j h. f j 0 (omega arith) h), omega arith)
feed-first t (Some i) n f e = (e ∙ feed-at t i f.0 (f.1 0) (λ j h. f.2 j 0 (omega arith) h), omega (arith, f.0))

-- ---- the first line of what is left
last-drop : (bs : List ℕ) (at : ℕ) → at < length bs → last_byte (drop at bs) ≡ last_byte bs
unfolding last_byte
last-drop [] at h = absurd (not-suc-le-zero h)
last-drop (b ∷ bs) zero h = refl
last-drop (b ∷ []) (suc at) h = absurd (omega arith)
last-drop (b ∷ c ∷ bs) (suc at) h = last-drop (c ∷ bs) at (omega arith)

record First (bs : List ℕ) : Type 0 where
  pub inside : until_feed bs < length bs
  pub split : lines bs ≡ take (until_feed bs) bs ∷ lines (drop (suc (until_feed bs)) bs)

first_more : (b : ℕ) (bs : List ℕ) → (b ≡ 10 → ⊥) → First bs → First (b ∷ bs)
unfolding until_feed lines pick to_first
first_more b bs f p = record { inside = rw (ne_eqb b 10 f) (omega (arith, p.inside)); split = rw (ne_eqb b 10 f, p.split) }

first-feed : (b : ℕ) (bs : List ℕ) → b ≡ 10 → First (b ∷ bs)
unfolding until_feed lines pick
first-feed b bs e = record { inside = rw (eq-eqb b 10 e) (omega arith); split = rw (eq-eqb b 10 e) }

first_by : (b : ℕ) (bs : List ℕ) (t : Bool) → eqb b 10 ≡ t → ((b ≡ 10 → ⊥) → First bs) → First (b ∷ bs)
first_by b bs true e ih = first-feed b bs (eqb-true b 10 e)
first_by b bs false e ih = first_more b bs (eqb-false b 10 e) (ih (eqb-false b 10 e))

first-line : (bs : List ℕ) → last_byte bs ≡ 10 → First bs
unfolding last_byte
first-line [] e = absurd (omega arith)
first-line (b ∷ []) e = first-feed b [] e
first-line (b ∷ c ∷ bs) e = first_by b (c ∷ bs) (eqb b 10) refl (λ f. first-line (c ∷ bs) e)

module _ (text : List ℕ) (at len : ℕ) (h : at < length text) (e : last_byte text ≡ 10) (el : len ≡ until_feed (drop at text)) where
  pub line-in : at + len < length text
  line-in = let p = first-line (drop at text) (last-drop text at h ∙ e) in omega (arith, p.inside, el, length-drop at text)

  pub line-split : lines (drop at text) ≡ take len (drop at text) ∷ lines (drop (at + len + 1) text)
  line-split =
      let p = first-line (drop at text) (last-drop text at h ∙ e) in
      let q : at + len + 1 ≡ at + suc (until_feed (drop at text)) = omega (arith, el) in
      p.split ∙ rw (q, ← drop-drop (suc (until_feed (drop at text))) at text, el)
