-- Whether an exception of one set outranks one of another: by the words of the preferences, and by chains of P lines.
-- A member of a set stands at the place below its number, and P lines name no number 0.
use mathlib.Core.Path.{◌≡◌, sym, ◌∙◌}
use mathlib.Core.Bool.{true}
use mathlib.Core.List.{List}
use mathlib.Core.Logic.{◌↔◌, ⊎_elim}
use Prim.Native.Nat.{ℕ, suc, ◌-◌, ◌^◌, ◌<◌, ◌≤◌}
use native.Mathlib.Omega.{arith}
use lib.ListN.{length, get_or}
use borrow.Author.Tests.{eqb-true, eq-eqb}
use Rattle.logic.specs.Lists.{Among}
use Rattle.logic.proofs.Members.{every-at}
use Rattle.sets.specs.Sets.{member, bit_of, Apart}
use Rattle.sets.proofs.Digits.{bit-over, lt-or-le}
use Rattle.sets.proofs.Words.{member-suc}
use Rattle.meaning.specs.Preferences.{Outranks, step, chain}
use Rattle.meaning.specs.Books.{Book}
use Rattle.meaning.specs.Views.{Ranked}
use Rattle.bridge.specs.Ranks.{Names, Named, RanksOf}
use Rattle.bridge.proofs.Singles.{apart_of}

-- A chain after a chain is a chain.
pub joined : {ls : List (ℕ × ℕ)} {a b c : ℕ} → Outranks ls a b → Outranks ls b c → Outranks ls a c
joined (step m) s = chain m s
joined (chain m r) s = chain m (joined r s)

-- Both ends of a chain name exceptions.
module _ (b : Book) (n : Named b) where
  abbrev Each : ℕ → Type 0
  Each i = Names (length b.exceptions) i

  pub line-named : {a c : ℕ} → Among (a, c) b.preferences → Each a × Each c
  line-named {a} {c} m = every-at (λ (l : ℕ × ℕ). Each l.0 × Each l.1) (a, c) b.preferences n m

  pub ends_named : {a c : ℕ} → Outranks b.preferences a c → Each a × Each c
  ends_named (step m) = line-named m
  ends_named (chain m r) = ((line-named m).0, (ends_named r).1)

-- The place of a number.
pub placed : (a : ℕ) → 0 < a → suc (a - 1) ≡ a
placed a h = omega arith

module _ (b : Book) (ranks : List ℕ) (o : RanksOf b ranks) (t u : ℕ) where
  -- By words: what the members of t outrank is apart from u.
  abbrev pub Cleared : Type 0
  Cleared = (a : ℕ) → a < length ranks → bit_of t a ≡ 1 → Apart (get_or ranks a 0) u

  pub cleared-of : (Ranked b.preferences t u → ⊥) → Cleared
  cleared-of n a h e = apart_of (get_or ranks a 0) u (λ i d m. n (record {
    upper = suc a;
    lower = suc i;
    upper_in = member-suc a t ∙ eq-eqb (bit_of t a) 1 e;
    lower_in = member-suc i u ∙ eq-eqb (bit_of u i) 1 m;
    outranks = (o.outranked a i h).0 d;
  }))

  module _ (l : t < 2 ^ length b.exceptions) where
    has_word : (a : ℕ) → bit_of t a ≡ 1 → a < length ranks
    has_word a e =
        let x = o.each in
        ⊎_elim (λ (h : a < length b.exceptions). omega arith)
        (λ (h : length b.exceptions ≤ a). let z = bit-over t (length b.exceptions) a l h in absurd (omega arith))
        (lt-or-le a (length b.exceptions))

    clashes : Cleared → (a c : ℕ) → member (suc a) t ≡ true → member (suc c) u ≡ true → Outranks b.preferences (suc a) (suc c) → ⊥
    clashes f a c m n r =
        let x = eqb-true (bit_of t a) 1 (sym (member-suc a t) ∙ m) in
        let y = eqb-true (bit_of u c) 1 (sym (member-suc c u) ∙ n) in
        let h = has_word a x in
        let d = (o.outranked a c h).1 r in
        let g = f a h x c in
        omega arith

    pub cleared-same : Cleared ↔ (Ranked b.preferences t u → ⊥)
    cleared-same = (
      λ f r. let z = ends_named b o.named r.outranks in
          let e = placed r.upper z.0.from_one in let d = placed r.lower z.1.from_one in
          clashes f (r.upper - 1) (r.lower - 1) (rw e r.upper_in) (rw d r.lower_in) (rw (e, d) r.outranks),
      cleared-of,
    )
