-- The rules of a book by lists, as the definitions have them, and by places among the words, as the search has them.
-- A rule's own set is within T where the rule is plain or taken, and not apart from T only where it is taken; by induction on the lists.
use mathlib.Core.Path.{◌≡◌, refl, sym, ◌∙◌}
use mathlib.Core.Bool.{Bool, true, false}
use mathlib.Core.List.{List, [], ◌∷◌, ◌++◌}
use mathlib.Core.Logic.Iff
use mathlib.Core.Logic.{◌↔◌, ⊎_elim}
use Prim.Native.Nat.{ℕ, suc, ◌^◌, ◌<◌}
use native.Mathlib.Omega.{arith}
use borrow.Author.Tests.{eqb-true, eq-eqb}
use Rattle.logic.specs.Lists.{Every}
use Rattle.logic.specs.Tests.{cons_if}
use Rattle.logic.proofs.Decide.{clash}
use Rattle.sets.specs.Sets.{member, bit_of, Within, Apart}
use Rattle.sets.proofs.Words.{single, single-has, none-sub, none-off, member-suc}
use Rattle.meaning.specs.Rules.{Rule}
use Rattle.meaning.specs.Books.{Book, taken_from}
use Rattle.masks.specs.declared.Masks.{Masks}
use Rattle.masks.specs.Views.{masks_at}
use Rattle.bridge.specs.Packed.{Tagged, masks_of, plainly, numbered, rules_of, blank, Packs}
use Rattle.bridge.proofs.Lists.{every-iff, every_append, every-place}
use Rattle.bridge.proofs.Singles.{single_of, single-off}

-- ---- the rules that T leaves
module _ (Q : Rule → Type 0) (t : ℕ) where
  -- Q of the rule, if it is plain or taken; Q of it, if it is an exception that is taken.
  abbrev pub IfUsed : Tagged → Type 0
  IfUsed x = Within x.own t → Q x.rule

  abbrev pub IfTaken : Tagged → Type 0
  IfTaken x = (Apart x.own t → ⊥) → Within x.own t × Q x.rule

  every-taken : (k : ℕ) (rs : List Rule) → Every Q (taken_from (suc k) rs t) ↔ Every IfUsed (numbered k rs)
  unfolding taken_from numbered cons_if
  every-taken k [] = (λ h. tt, λ h. tt)
  every-taken k (r ∷ rs) = go (member (suc k) t) refl (every-taken (suc k) rs)
    where
      go : (b : Bool) → member (suc k) t ≡ b → Every Q (taken_from (suc (suc k)) rs t) ↔ Every IfUsed (numbered (suc k) rs)
          → Every Q (cons_if b r (taken_from (suc (suc k)) rs t)) ↔ ((Within (2 ^ k) t → Q r) × Every IfUsed (numbered (suc k) rs))
      go true q ih = (λ h. (λ s. h.0, ih.0 h.1), λ h. (h.0 (single_of k t (eqb-true (bit_of t k) 1 (sym (member-suc k t) ∙ q))), ih.1 h.1))
      go false q ih = (λ h. (λ s. absurd (clash (sym q ∙ member-suc k t ∙ eq-eqb (bit_of t k) 1 (single-has k t s))), ih.0 h), λ h. ih.1 h.1)

  used-taken : (k : ℕ) (rs : List Rule) → Every IfUsed (numbered k rs) ↔ Every IfTaken (numbered k rs)
  unfolding numbered
  used-taken k [] = (λ h. tt, λ h. tt)
  used-taken k (r ∷ rs) = let ih = used-taken (suc k) rs in (
    λ h. (λ n. ⊎_elim (λ (s : Within (2 ^ k) t). (s, h.0 s)) (λ (o : Apart (2 ^ k) t). absurd (n o)) (single k t), ih.0 h.1),
    λ h. (λ s. (h.0 (λ o. single-off k t o (single-has k t s))).1, ih.1 h.1),
  )

  plain-used : (rs : List Rule) → Every Q rs ↔ Every IfUsed (plainly rs)
  unfolding plainly
  plain-used [] = (λ h. tt, λ h. tt)
  plain-used (r ∷ rs) = let ih = plain-used rs in (λ h. (λ s. h.0, ih.0 h.1), λ h. (h.0 (none-sub t), ih.1 h.1))

  plain-taken : (rs : List Rule) → Every IfTaken (plainly rs)
  unfolding plainly
  plain-taken [] = tt
  plain-taken (r ∷ rs) = (λ n. absurd (n (none-off t)), plain-taken rs)

  module _ (b : Book) where
    -- The plain rules and those taken.
    every-used : Every Q (b.plain ++ taken_from 1 b.exceptions t) ↔ Every IfUsed (rules_of b)
    unfolding rules_of
    every-used =
        let f = every_append Q b.plain (taken_from 1 b.exceptions t) in
        let g = every_append IfUsed (plainly b.plain) (numbered 0 b.exceptions) in
        let p = plain-used b.plain in let x = every-taken 0 b.exceptions in (
          λ h. let k = f.0 h in g.1 (p.0 k.0, x.0 k.1),
          λ h. let k = g.0 h in f.1 (p.1 k.0, x.1 k.1),
        )

    -- Those taken alone.
    every-exception : Every Q (taken_from 1 b.exceptions t) ↔ Every IfTaken (rules_of b)
    unfolding rules_of
    every-exception =
        let g = every_append IfTaken (plainly b.plain) (numbered 0 b.exceptions) in
        let x = Iff.trans (every-taken 0 b.exceptions) (used-taken 0 b.exceptions) in (
          λ h. g.1 (plain-taken b.plain, x.0 h),
          λ h. x.1 (g.0 h).1,
        )

-- ---- the words
module _ (b : Book) (ws : List ℕ) (n : ℕ) (pk : Packs b ws n) where
  at_words : (P : Masks → Type 0) → ((k : ℕ) → k < n → P (masks_at ws k)) ↔ Every (λ x. P (masks_of x)) (rules_of b)
  at_words P = let e = every-place (λ x. P (masks_of x)) blank (rules_of b) in let o = pk.count in (
    λ f. e.0 (λ k l. rw (pk.rule_at k (omega arith)) at (f k (omega arith))),
    λ h k l. rw (pk.rule_at k l) (e.1 h k (omega arith)),
  )

  module _ (t : ℕ) (P : Masks → Type 0) (Q : Rule → Type 0) where
    -- P of every rule among the words is Q of the plain rules and of those taken, where it is so for each rule.
    pub rules-same : ((x : Tagged) → P (masks_of x) ↔ IfUsed Q t x)
        → ((k : ℕ) → k < n → P (masks_at ws k)) ↔ Every Q (b.plain ++ taken_from 1 b.exceptions t)
    rules-same f = Iff.trans (at_words P) (Iff.trans (every-iff _ _ f (rules_of b)) (Iff.symm (every-used Q t b)))

    -- P of every rule among the words is Q of those taken.
    pub exceptions-same : ((x : Tagged) → P (masks_of x) ↔ IfTaken Q t x)
        → ((k : ℕ) → k < n → P (masks_at ws k)) ↔ Every Q (taken_from 1 b.exceptions t)
    exceptions-same f = Iff.trans (at_words P) (Iff.trans (every-iff _ _ f (rules_of b)) (Iff.symm (every-exception Q t b)))
