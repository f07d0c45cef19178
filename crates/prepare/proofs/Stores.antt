-- What is read after a run of stores; so, what is read of a rule after its words were stored.
-- By induction on the stores: each store is read at its place and nowhere else.
use mathlib.Core.Path.{◌≡◌, refl, sym, ap, ◌∙◌}
use mathlib.Core.List.{List, [], ◌∷◌}
use mathlib.Core.Logic.{◌⊎◌, inl, inr, ⊎_elim}
use Prim.Native.Nat.{ℕ, zero, suc, ◌+◌, ◌*◌, ◌<◌, ◌≤◌}
use native.Mathlib.Omega.{arith}
use lib.ListN.{length, get_or, set, length-set}
use lib.Seq.{sets, sets-eq, drop-drop, length-sets, get_or-set_same, get_or-set_other}
use Rattle.std.proofs.Common.{append_assoc}
use borrow.Rule.Slice.PartMut.{put_mid}
use Rattle.masks.specs.declared.Masks.{Masks}
use Rattle.masks.specs.Views.{masks_at}
use Rattle.prepare.specs.Packing.{words_of}

-- Places below the stores, and past them.
pub sets-outside : (l : List ℕ) (i : ℕ) (vs : List ℕ) (j : ℕ) → (j < i) ⊎ (i + length vs ≤ j) → get_or (sets l i vs) j 0 ≡ get_or l j 0
sets-outside l i [] j h = refl
sets-outside l i (v ∷ vs) j h =
    sets-outside (set l i v) (suc i) vs j (⊎_elim (λ (x : j < i). inl (omega arith)) (λ (x : i + suc (length vs) ≤ j). inr (omega arith)) h)
    ∙ get_or-set_other l i j v 0 (λ e. ⊎_elim (λ (x : j < i). omega arith) (λ (x : i + suc (length vs) ≤ j). omega arith) h)

pub sets-inside : (l : List ℕ) (i : ℕ) (vs : List ℕ) (j : ℕ) → i + length vs ≤ length l → j < length vs → get_or (sets l i vs) (i + j) 0 ≡ get_or vs j 0
sets-inside l i [] j h k = absurd (omega arith)
sets-inside l i (v ∷ vs) zero h k =
    let e : i + 0 ≡ i = omega arith in
    rw e (sets-outside (set l i v) (suc i) vs i (inl (omega arith)) ∙ get_or-set_same l i v 0 (omega arith))
sets-inside l i (v ∷ vs) (suc j) h k =
    let e : i + suc j ≡ suc i + j = omega arith in
    rw e (sets-inside (set l i v) (suc i) vs j (rw length-set (omega arith)) (omega arith))

-- A part that is overwritten, as a run of stores.
pub part-stored : (l vs us ys : List ℕ) (a k : ℕ) → us ≡ put_mid a k l ys → ys ≡ vs → k ≡ length vs → a + length vs ≤ length l → us ≡ sets l a vs
part-stored l vs us ys a k g e f h = rw (g, e, f, sets-eq vs l a h, drop-drop (length vs) a l, append_assoc) refl

pub put-length : (ws us : List ℕ) (k : ℕ) (r : Masks) → us ≡ sets ws (k * 8) (words_of r) → length us ≡ length ws
put-length ws us k r e = ap length e ∙ length-sets ws (k * 8) (words_of r)

module _ (ws : List ℕ) (k : ℕ) (r : Masks) where
  -- The rule stored is read, where its head and its barred entries take no exception.
  pub put-here : k * 8 + 8 ≤ length ws → r.head.taken ≡ 0 → r.bar.taken ≡ 0 → masks_at (sets ws (k * 8) (words_of r)) k ≡ r
  unfolding masks_at words_of
  put-here h a b =
      let word : (j : ℕ) → j < 7 → get_or (sets ws (k * 8) (words_of r)) (k * 8 + j) 0 ≡ get_or (words_of r) j 0
      = λ j l. sets-inside ws (k * 8) (words_of r) j (omega arith) l in
      let first : get_or (sets ws (k * 8) (words_of r)) (k * 8) 0 ≡ r.head.held = let e : k * 8 + 0 ≡ k * 8 = omega arith in rw e at (word 0 (omega arith)) in
      λ i. record {
        head = record { held = first i; denied = word 1 (omega arith) i; taken = sym a i };
        need = record { held = word 2 (omega arith) i; denied = word 3 (omega arith) i; taken = word 4 (omega arith) i };
        bar = record { held = word 5 (omega arith) i; denied = word 6 (omega arith) i; taken = sym b i };
      }

  -- Rules before it are read as before.
  pub put-before : (j : ℕ) → j < k → masks_at (sets ws (k * 8) (words_of r)) j ≡ masks_at ws j
  unfolding masks_at
  put-before j h =
      let word : (i : ℕ) → i < k * 8 → get_or (sets ws (k * 8) (words_of r)) i 0 ≡ get_or ws i 0 = λ i l. sets-outside ws (k * 8) (words_of r) i (inl l) in
      λ i. record {
        head = record { taken = 0; held = word (j * 8) (omega arith) i; denied = word (j * 8 + 1) (omega arith) i };
        need = record { taken = word (j * 8 + 4) (omega arith) i; held = word (j * 8 + 2) (omega arith) i; denied = word (j * 8 + 3) (omega arith) i };
        bar = record { taken = 0; held = word (j * 8 + 5) (omega arith) i; denied = word (j * 8 + 6) (omega arith) i };
      }
