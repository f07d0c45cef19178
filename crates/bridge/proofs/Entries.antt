-- Entries to masks: entries are all in S exactly where their mask is within S, and none is in S exactly where their mask is apart from it.
-- Both are one induction on the list, from what a relation says of the empty mask, of a joined one and of the mask of one conclusion.
use mathlib.Core.Bool.{true}
use mathlib.Core.Path.{◌≡◌, refl}
use mathlib.Core.List.{List, [], ◌∷◌}
use mathlib.Core.Logic.{◌↔◌, inl, inr, ⊎_elim}
use Prim.Native.Nat.{ℕ, ◌-◌, ◌^◌}
use borrow.Author.Tests.{eqb-true, eq-eqb}
use Rattle.logic.specs.Lists.{Every, Some}
use Rattle.sets.specs.declared.Pair.{Pair}
use Rattle.sets.specs.Sets.{member, bit_of, Within, Apart}
use Rattle.sets.specs.Pairs.{Sub, Off, join_of, Atom}
use Rattle.sets.proofs.Words.{none-sub, none-off, single-has}
use Rattle.sets.proofs.Pairs.{atom-held, atom-denied}
use Rattle.meaning.specs.Literals.{Literal, pos, neg, is_in, ◌∈◌}
use Rattle.meaning.specs.Rules.{Rule}
use Rattle.meaning.specs.Books.{conclusions}
use Rattle.masks.specs.Views.{Fires}
use Rattle.bridge.specs.Packed.{nothing, mask_of, mask_all, Tagged, masks_of}
use Rattle.bridge.proofs.Singles.{single_of, single-off, join-within, join_apart}

-- ---- one conclusion
-- Its set of one number in a word, and the test of membership.
in-word : (i w : ℕ) → Within (2 ^ (i - 1)) w ↔ (member i w ≡ true)
unfolding member
in-word i w = (λ f. eq-eqb (bit_of w (i - 1)) 1 (single-has (i - 1) w f), λ e. single_of (i - 1) w (eqb-true (bit_of w (i - 1)) 1 e))

off-word : (i w : ℕ) → Apart (2 ^ (i - 1)) w → member i w ≡ true → ⊥
unfolding member
off-word i w f e = single-off (i - 1) w f (eqb-true (bit_of w (i - 1)) 1 e)

pub in_one : (l : Literal) (c : Pair) → Sub (mask_of l) c ↔ (l ∈ conclusions c)
unfolding mask_of is_in
in_one (pos i) c = (
  λ f. (in-word i c.held).0 f.held,
  λ e. record { held = (in-word i c.held).1 e; denied = none-sub c.denied; taken = none-sub c.taken },
)
in_one (neg i) c = (
  λ f. (in-word i c.denied).0 f.denied,
  λ e. record { held = none-sub c.held; denied = (in-word i c.denied).1 e; taken = none-sub c.taken },
)

atom : (l : Literal) → Atom (mask_of l)
unfolding mask_of
atom (pos i) = atom-held (i - 1)
atom (neg i) = atom-denied (i - 1)

not_in : (l : Literal) (v : Pair) → Off (mask_of l) v → l ∈ conclusions v → ⊥
unfolding mask_of is_in
not_in (pos i) v f e = off-word i v.held f.held e
not_in (neg i) v f e = off-word i v.denied f.denied e

off-one : (l : Literal) (v : Pair) → Off (mask_of l) v ↔ (l ∈ conclusions v → ⊥)
off-one l v = (not_in l v, λ n. ⊎_elim (λ f. absurd (n ((in_one l v).0 f))) (λ f. f) (atom l v))

-- ---- lists of entries
all-mask : (R : Pair → Type 0) (P : Literal → Type 0) → R nothing → ((a b : Pair) → R (join_of a b) ↔ (R a × R b))
    → ((l : Literal) → R (mask_of l) ↔ P l) → (ls : List Literal) → R (mask_all ls) ↔ Every P ls
unfolding mask_all
all-mask R P z j o [] = (λ f. tt, λ e. z)
all-mask R P z j o (l ∷ ls) = let ih = all-mask R P z j o ls in let s = j (mask_of l) (mask_all ls) in (
  λ f. ((o l).0 (s.0 f).0, ih.0 (s.0 f).1),
  λ e. s.1 ((o l).1 e.0, ih.1 e.1),
)

nothing-sub : (c : Pair) → Sub nothing c
nothing-sub c = record { held = none-sub c.held; denied = none-sub c.denied; taken = none-sub c.taken }

pub sub-all : (c : Pair) (ls : List Literal) → Sub (mask_all ls) c ↔ Every (λ l. l ∈ conclusions c) ls
sub-all c = all-mask (λ m. Sub m c) (λ l. l ∈ conclusions c) (nothing-sub c) (join-within c) (λ l. in_one l c)

pub off-all : (v : Pair) (ls : List Literal) → Off (mask_all ls) v ↔ Every (λ l. l ∈ conclusions v → ⊥) ls
off-all v =
    all-mask (λ m. Off m v) (λ l. l ∈ conclusions v → ⊥)
    (record { held = none-off v.held; denied = none-off v.denied; taken = none-off v.taken }) (join_apart v) (λ l. off-one l v)

-- Entries take no exception.
pub none-taken : (ls : List Literal) → (mask_all ls).taken ≡ 0
unfolding mask_all mask_of join_of
none-taken [] = refl
none-taken (pos i ∷ ls) = rw (none-taken ls)
none-taken (neg i ∷ ls) = rw (none-taken ls)

-- ---- rules
-- What a rule's body asks of c and of v.
abbrev pub Needed : Pair → Rule → Type 0
Needed c r = Every (λ l. l ∈ conclusions c) r.body.needed

abbrev pub Unbarred : Pair → Rule → Type 0
Unbarred v r = Every (λ l. l ∈ conclusions v → ⊥) r.body.barred

-- A rule fires where its own exception is taken, its needed entries are in c and no barred one is in v.
pub fires-are : (x : Tagged) (v c : Pair) → Fires (masks_of x) v c ↔ (Within x.own c.taken × Unbarred v x.rule × Needed c x.rule)
unfolding masks_of
fires-are x v c = let s = sub-all c x.rule.body.needed in let o = off-all v x.rule.body.barred in (
  λ f. (
    f.needed.taken,
    o.0 f.unbarred,
    s.0 (record { held = f.needed.held; denied = f.needed.denied; taken = rw (none-taken x.rule.body.needed) (none-sub c.taken) }),
  ),
  λ h. let n = s.1 h.2 in record { needed = record { held = n.held; denied = n.denied; taken = h.0 }; unbarred = o.1 h.1 },
)

-- Some head is in c exactly where the mask of the heads is not apart from c.
some_or_none : (c : Pair) (ls : List Literal) → (Every (λ l. l ∈ conclusions c → ⊥) ls → ⊥) ↔ Some (λ l. l ∈ conclusions c) ls
some_or_none c [] = (λ f. f tt, λ s e. s)
some_or_none c (l ∷ ls) = let ih = some_or_none c ls in (
  λ f. ⊎_elim (λ m. inl ((in_one l c).0 m)) (λ m. inr (ih.0 (λ e. f ((off-one l c).0 m, e)))) (atom l c),
  λ s e. ⊎_elim (λ m. e.0 m) (λ m. ih.1 m e.1) s,
)

pub heads-are : (x : Tagged) (c : Pair) → (Off (masks_of x).head c → ⊥) ↔ Some (λ l. l ∈ conclusions c) x.rule.heads
unfolding masks_of
heads-are x c = let o = off-all c x.rule.heads in let s = some_or_none c x.rule.heads in (
  λ f. s.0 (λ e. f (o.1 e)),
  λ h e. s.1 h (o.0 e),
)
