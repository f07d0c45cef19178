-- The test of outranking decides it. Idea: what a outranks is the least set closed under the lines, begun with a's own.
use mathlib.Core.Path.{◌≡◌, refl, sym, ◌∙◌}
use mathlib.Core.Bool.{Bool, true, false}
use mathlib.Core.List.{List, [], ◌∷◌}
use mathlib.Core.Logic.{◌⊎◌, inl, inr, ⊎_elim}
use Prim.Native.Nat.{ℕ, suc, ◌-◌}
use native.Mathlib.Omega.{arith}
use lib.Dec.{eqb}
use borrow.Author.Tests.{eqb-true, eq-eqb}
use Rattle.logic.specs.Lists.{Among, Every, Some}
use Rattle.logic.specs.Tests.{Decides}
use Rattle.logic.proofs.Decide.{clash, decided, decides-both, decides-some, is, reworded}
use Rattle.logic.proofs.Members.{some_at, some_of}
use Rattle.sets.specs.Sets.{member}
use Rattle.sets.specs.declared.Pair.{Pair}
use Rattle.meaning.specs.Literals.{Literal, pos, Conclusions, ◌∈◌}
use Rattle.meaning.specs.AnswerSets.{Closed}
use Rattle.meaning.specs.Preferences.{in_both, Outranks, step, chain}
use Rattle.meaning.specs.Books.{Book}
use Rattle.meaning.specs.Views.{ranking, Ranked, RankedWithin, Dominates}
use Rattle.meaning.specs.Twins.Closure.{closure}
use Rattle.meaning.specs.Twins.Verdicts.{rank_rule, rank_rules, outranks, ranked_in, is_ranked_within, dominates}
use Rattle.meaning.proofs.Members.{At}
use Rattle.meaning.proofs.Closed.{KeptBy, closure-keeps, closure-closed}

module _ (ls : List (ℕ × ℕ)) where
  -- A chain and one more line.
  longer : {a b c : ℕ} → Outranks ls a b → Among (b, c) ls → Outranks ls a c
  longer (step m) n = chain m (step n)
  longer (chain m r) n = chain m (longer r n)

  -- A chain begins with a line and ends with one.
  begins : {a b : ℕ} → Outranks ls a b → Some (λ (l : ℕ × ℕ). l.0 ≡ a) ls
  begins {a} {b} (step m) = some_of (λ (l : ℕ × ℕ). l.0 ≡ a) (a, b) ls refl m
  begins {a} (chain {c = c} m r) = some_of (λ (l : ℕ × ℕ). l.0 ≡ a) (a, c) ls refl m

  ends : {a b : ℕ} → Outranks ls a b → Some (λ (l : ℕ × ℕ). l.1 ≡ b) ls
  ends {a} {b} (step m) = some_of (λ (l : ℕ × ℕ). l.1 ≡ b) (a, b) ls refl m
  ends (chain m r) = ends r

  module _ (a : ℕ) where
    abbrev P : ℕ → Type 0
    P k = Outranks ls a k

    abbrev Q : ℕ → Type 0
    Q k = ⊥

    back : (k : ℕ) → suc k - 1 ≡ k
    back k = omega arith

    keeps_line : (l : ℕ × ℕ) → Among l ls → KeptBy P Q (rank_rule a l)
    unfolding rank_rule
    keeps_line l m = go (eqb l.0 a) refl
      where
        go : (b : Bool) → eqb l.0 a ≡ b → Every (At P Q) (elim b as (λ _. List Literal) [ true ↦ [] | false ↦ pos (suc l.0) ∷ [] ]) → P (suc l.1 - 1) × Unit {0}
        go true e h = (rw (back l.1) (step (rw (eqb-true l.0 a e) at m)), tt)
        go false e h = (rw (back l.1) (longer (rw (back l.0) at h.0) m), tt)

    keeps-lines : (ms : List (ℕ × ℕ)) → ((l : ℕ × ℕ) → Among l ms → Among l ls) → Every (KeptBy P Q) (rank_rules a ms)
    unfolding rank_rules
    keeps-lines [] f = tt
    keeps-lines (l ∷ ms) f = (keeps_line l (f l (inl refl)), keeps-lines ms (λ k m. f k (inr m)))

    only : (b : ℕ) → pos (suc b) ∈ closure (rank_rules a ls) → Outranks ls a b
    only b m = rw (back b) at (closure-keeps P Q (rank_rules a ls) (keeps-lines ls (λ l m. m)) (pos (suc b)) m)

    module _ (c : Conclusions) where
      -- A line from a, or from what is in c, leads into c.
      follow : (ms : List (ℕ × ℕ)) → Closed (rank_rules a ms) c → (x y : ℕ) → Among (x, y) ms → (x ≡ a) ⊎ (pos (suc x) ∈ c) → pos (suc y) ∈ c
      unfolding rank_rules rank_rule
      follow [] h x y m o = absurd m
      follow (l ∷ ms) h x y m o = ⊎_elim (λ q. go (rw q at h.0)) (λ r. follow ms h.1 x y r o) m
        where
          go : (Every (λ k. k ∈ c) (elim (eqb x a) as (λ _. List Literal) [ true ↦ [] | false ↦ pos (suc x) ∷ [] ]) → (pos (suc y) ∈ c) ⊎ ⊥) → pos (suc y) ∈ c
          go f = ⊎_elim (λ i. i) (λ n. absurd n) (f (fill (eqb x a) refl))
            where
              fill : (b : Bool) → eqb x a ≡ b → Every (λ k. k ∈ c) (elim b as (λ _. List Literal) [ true ↦ [] | false ↦ pos (suc x) ∷ [] ])
              fill true e = tt
              fill false e = ⊎_elim (λ q. absurd (clash (sym e ∙ eq-eqb x a q))) (λ r. (r, tt)) o

      arrive : {x b : ℕ} → Closed (rank_rules a ls) c → (x ≡ a) ⊎ (pos (suc x) ∈ c) → Outranks ls x b → pos (suc b) ∈ c
      arrive {x} {b} h o (step m) = follow ls h x b m o
      arrive {x} h o (chain {c = d} m r) = arrive h (inr (follow ls h x d m o)) r

    pub decides-outranks : (b : ℕ) → Decides (outranks ls a b) (Outranks ls a b)
    unfolding outranks
    decides-outranks b = decided (only b) (λ r. arrive (closure (rank_rules a ls)) (closure-closed (rank_rules a ls)) (inl refl) r)

pub decides-ranked : (ls : List (ℕ × ℕ)) (t u : ℕ) → Decides (ranked_in ls t u) (Ranked ls t u)
unfolding ranked_in
decides-ranked ls t u =
    reworded
    (decides-some _ (λ (l : ℕ × ℕ). (member l.0 t ≡ true) × Some (λ (m : ℕ × ℕ). (member m.1 u ≡ true) × Outranks ls l.0 m.1) ls)
    (λ l. decides-both (member l.0 t) _ (is (member l.0 t))
    (decides-some _ (λ (m : ℕ × ℕ). (member m.1 u ≡ true) × Outranks ls l.0 m.1)
    (λ m. decides-both (member m.1 u) _ (is (member m.1 u)) (decides-outranks ls l.0 m.1)) ls)) ls)
    (λ s. let l = some_at _ ls s in let m = some_at _ ls l.2.1 in
    record { upper = l.0.0; lower = m.0.1; upper_in = l.2.0; lower_in = m.2.0; outranks = m.2.1 })
    (λ r. let l = some_at _ ls (begins ls r.outranks) in let m = some_at _ ls (ends ls r.outranks) in
    some_of _ l.0 ls (rw l.2 r.upper_in, some_of _ m.0 ls (rw m.2 r.lower_in, rw (l.2, m.2) r.outranks) m.1) l.1)

pub decides-within : (b : Book) (p : Pair) → Decides (is_ranked_within b p) (RankedWithin b p)
unfolding is_ranked_within
decides-within b p = decides-ranked (ranking b p) p.taken p.taken

pub decides-dominates : (b : Book) (p q : Pair) → Decides (dominates b p q) (Dominates b p q)
unfolding dominates
decides-dominates b p q = decides-ranked (in_both (ranking b p) (ranking b q)) p.taken q.taken
