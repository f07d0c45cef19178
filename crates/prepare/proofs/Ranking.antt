-- The words that the loops make are those of the preferences.
-- Warshall's argument: after exceptions 1 to d were passed through, the sets are closed under steps through these.
use mathlib.Core.Path.{◌≡◌, refl, sym, ◌∙◌}
use mathlib.Core.Bool.{true, false}
use mathlib.Core.List.{List}
use mathlib.Core.Logic.{◌↔◌, ◌⊎◌, inl, inr, ⊎_elim}
use Prim.Native.Nat.{ℕ, suc, ◌+◌, ◌<◌, ◌≤◌, max}
use native.Mathlib.Numerals.{add-one}
use native.Mathlib.Omega.{arith}
use lib.Bits.{bit_or}
use lib.IntN.{ℤ}
use lib.ListN.{length, get_or}
use borrow.Author.Tests.{eqb-true, eqb-false, eq-eqb}
use Rattle.book.specs.declared.Shape.{Shape}
use Rattle.sets.specs.Sets.{member, bit_of}
use Rattle.sets.proofs.Digits.{bit-lt, bit-or, by_digits, lt-or-le}
use Rattle.sets.proofs.Words.{member-suc}
use Rattle.meaning.specs.Preferences.{step}
use Rattle.meaning.specs.Books.{Book}
use Rattle.meaning.specs.Meant.{book_of}
use Rattle.meaning.proofs.Meant.{exceptions-count}
use Rattle.bridge.specs.Ranks.{RanksOf, Stepped}
use Rattle.bridge.specs.Rows.{RowsLawful}
use Rattle.bridge.proofs.Levels.{joined}
use Rattle.bridge.proofs.Ranks.{ranks-stepped}
use Rattle.bridge.proofs.Rows.{rows_named, lines_named}
use Rattle.prepare.specs.Ranking.{LinesTo, Extended, ClosedThrough, ClosedTo}

-- ---- one set extended
or-digit : (x y : ℕ) → x < 2 → y < 2 → (max x y ≡ 1) ↔ ((x ≡ 1) ⊎ (y ≡ 1))
or-digit x y hx hy =
    by_digits (λ x y. (max x y ≡ 1) ↔ ((x ≡ 1) ⊎ (y ≡ 1)))
    (λ e. inl e, λ q. ⊎_elim (λ e. e) (λ e. e) q) (λ e. inr refl, λ q. refl) (λ e. inl refl, λ q. refl) (λ e. inl refl, λ q. refl) x y hx hy

module _ (d p s : ℕ) where
  pub extended-yes : member (d + 1) s ≡ true → Extended d p s (bit_or s p)
  extended-yes e =
      let m : bit_of s d ≡ 1 = eqb-true (bit_of s d) 1 (sym (member-suc d s) ∙ (rw add-one at e)) in
      record {
        digit = λ c. let o = or-digit (bit_of s c) (bit_of p c) (bit-lt s c) (bit-lt p c) in rw (bit-or s p c) (
          λ q. ⊎_elim (λ x. inl x) (λ x. inr (m, x)) (o.0 q),
          λ q. o.1 (⊎_elim (λ x. inl x) (λ (x : (bit_of s d ≡ 1) × (bit_of p c ≡ 1)). inr x.1) q),
        );
      }

  pub extended-no : member (d + 1) s ≡ false → Extended d p s s
  extended-no e =
      let n : bit_of s d ≡ 1 → ⊥ = eqb-false (bit_of s d) 1 (sym (member-suc d s) ∙ (rw add-one at e)) in
      record { digit = λ c. (λ q. inl q, λ q. ⊎_elim (λ x. x) (λ (x : (bit_of s d ≡ 1) × (bit_of p c ≡ 1)). absurd (n x.0)) q) }

-- ---- chains
module _ (b : Book) where
  pub stepped_start : (ranks : List ℕ) (m : ℕ) → length b.exceptions ≤ length ranks → length ranks ≤ m → LinesTo b.preferences ranks m → Stepped b ranks 0
  stepped_start ranks m h l f = record {
    each = h;
    chains = λ a c k e. step (((f.word a (omega arith)).members (suc c) (omega arith)).0 (member-suc c (get_or ranks a 0) ∙ eq-eqb (bit_of (get_or ranks a 0) c) 1 e));
    lines = λ a c k n. eqb-true (bit_of (get_or ranks a 0) c) 1 (sym (member-suc c (get_or ranks a 0)) ∙ ((f.word a (omega arith)).members (suc c) (omega arith)).1 n);
    steps = λ a d c k n. absurd (omega arith);
  }

  module _ (d : ℕ) (old new : List ℕ) (m : ℕ) (f : ClosedThrough d old new m) (o : Stepped b old d) (h : d < length old) (l : length old ≤ m) where
    abbrev R : ℕ → ℕ → Type 0
    R a c = bit_of (get_or old a 0) c ≡ 1

    through : (a c : ℕ) → a < length old → (bit_of (get_or new a 0) c ≡ 1) ↔ (R a c ⊎ (R a d × R d c))
    through a c k = (f.word a (omega arith)).digit c

    onward : (a e c : ℕ) → a < length old → e < d + 1 → R a e ⊎ (R a d × R d e) → R e c ⊎ (R e d × R d c) → R a c ⊎ (R a d × R d c)
    onward a e c k n x y =
        ⊎_elim
        (λ (l : e < d). ⊎_elim
        (λ (ae : R a e). ⊎_elim (λ (ec : R e c). inl (o.steps a e c k l ae ec)) (λ (q : R e d × R d c). inr (o.steps a e d k l ae q.0, q.1)) y)
        (λ (p : R a d × R d e). ⊎_elim (λ (ec : R e c). inr (p.0, o.steps d e c h l p.1 ec)) (λ (q : R e d × R d c). inr (p.0, q.1)) y) x)
        (λ (l : d ≤ e). let z : e ≡ d = omega arith in
        inr (⊎_elim (λ (ae : R a e). rw z at ae) (λ (p : R a d × R d e). p.0) x, ⊎_elim (λ (ec : R e c). rw z at ec) (λ (q : R e d × R d c). q.1) y))
        (lt-or-le e d)

    pub stepped-turn : Stepped b new (d + 1)
    stepped-turn = let s = f.same in record {
      each = let q = o.each in omega arith;
      chains = λ a c k e.
          ⊎_elim (λ (x : R a c). o.chains a c (omega arith) x) (λ (x : R a d × R d c). joined (o.chains a d (omega arith) x.0) (o.chains d c h x.1)) ((through a c (omega arith)).0 e);
      lines = λ a c k n. (through a c (omega arith)).1 (inl (o.lines a c (omega arith) n));
      steps = λ a e c k n x y. (through a c (omega arith)).1 (onward a e c (omega arith) n ((through a e (omega arith)).0 x) ((through e c (omega arith)).0 y));
    }

pub closed-turn : (old new next : List ℕ) (d m : ℕ) → ClosedTo old new d → ClosedThrough d new next m → d < length new → length new ≤ m → ClosedTo old next (d + 1)
closed-turn old new next d m f g h l = record { same = g.same ∙ f.same; stepped = λ b s. stepped-turn b d new next m g (f.stepped b s) h l }

pub ranks-of : (s : Shape) (t : List ℤ) (old new : List ℕ) (m k : ℕ) → RowsLawful s t → s.exceptions ≤ length old → length old ≤ m → length old ≤ k
    → LinesTo (book_of s t).preferences old m → ClosedTo old new k → RanksOf (book_of s t) new
ranks-of s t old new m k w h l n f g =
    let x = exceptions-count s t in
    let o = g.stepped (book_of s t) (stepped_start (book_of s t) old m (omega arith) l f) in let q = g.same in
    ranks-stepped (book_of s t) new k (rows_named s t w) (lines_named s t w) (omega arith) o
