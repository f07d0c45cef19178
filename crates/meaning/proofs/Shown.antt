-- What a passed test of an example says, in the words of the definitions; and the table of small books, so read.
use mathlib.Core.Path.{◌≡◌, refl, ap}
use mathlib.Core.Bool.{Bool, true, false}
use mathlib.Core.List.{List, [], ◌∷◌}
use mathlib.Core.Logic.{⊎_elim}
use Prim.Native.Nat.{ℕ, zero, suc, ◌<◌}
use native.Mathlib.Nat.{eq-or-lt_of_le}
use native.Mathlib.Omega.{arith}
use lib.Dec.{eqb, ltb}
use borrow.Author.Tests.{ltb-true, eqb-true}
use Rattle.logic.specs.Lists.{Among, Every}
use Rattle.logic.specs.Tests.{Decides, every}
use Rattle.logic.proofs.Decide.{clash, decides-both, decides_eq, decides-every, decides-some, decides-then, reworded}
use Rattle.logic.proofs.Members.{every-at, every_of}
use Rattle.sets.specs.Sets.{size}
use Rattle.sets.specs.declared.Pair.{Pair}
use Rattle.meaning.specs.Books.{Book, Lawful}
use Rattle.meaning.specs.Resolutions.{Verdict}
use Rattle.meaning.specs.Order.{value, Before, fewer, smaller, differs, Ascending, start, AllLater}
use Rattle.meaning.specs.Twins.Verdicts.{lawful, verdict, resolutions}
use Rattle.meaning.specs.Twins.Tables.{differs_from, before, ascending, same_pair, Example, same_members, right}
use Rattle.meaning.proofs.Twins.{decides-lawful, verdict-is, resolutions-all, resolutions-only}
use Rattle.meaning.proofs.Laws.{verdict-only}
use Rattle.meaning.proofs.SmallBooks.{table, all_right}

-- ---- the order
differs_sound : (p q : Pair) → p.taken ≡ q.taken → (k i : ℕ) → 0 < i → ((j : ℕ) → 0 < j → j < i → value p j ≡ value q j) → differs_from k i p q ≡ true → Before p q
unfolding differs_from
differs_sound p q t zero i z s e = absurd (clash e)
differs_sound p q t (suc k) i z s e = go (ltb (value p i) (value q i)) refl (eqb (value p i) (value q i)) refl e (differs_sound p q t k (suc i))
  where
    go : (x : Bool) → ltb (value p i) (value q i) ≡ x → (y : Bool) → eqb (value p i) (value q i) ≡ y
        → (elim x as (λ _. Bool) [ true ↦ true | false ↦ elim y [ true ↦ differs_from k (suc i) p q | false ↦ false ] ]) ≡ true
        → (0 < suc i → ((j : ℕ) → 0 < j → j < suc i → value p j ≡ value q j) → differs_from k (suc i) p q ≡ true → Before p q) → Before p q
    go true ex y ey e ih = differs t i z s (ltb-true _ _ ex)
    go false ex false ey e ih = absurd (clash e)
    go false ex true ey e ih = ih (omega arith) (λ j y l. ⊎_elim (λ w. rw w (eqb-true _ _ ey)) (λ w. s j y w) (eq-or-lt_of_le (omega arith))) e

pub before-sound : (n : ℕ) (p q : Pair) → before n p q ≡ true → Before p q
unfolding before
before-sound n p q e =
    go (ltb (size p.taken) (size q.taken)) refl (eqb (size p.taken) (size q.taken)) refl (ltb p.taken q.taken) refl (eqb p.taken q.taken) refl e
  where
    go : (x : Bool) → ltb (size p.taken) (size q.taken) ≡ x → (y : Bool) → eqb (size p.taken) (size q.taken) ≡ y
        → (u : Bool) → ltb p.taken q.taken ≡ u → (v : Bool) → eqb p.taken q.taken ≡ v
        → (elim x as (λ _. Bool) [ true ↦ true | false ↦ elim y [ false ↦ false | true ↦ elim u [ true ↦ true | false ↦ elim v [ true ↦ differs_from n 1 p q | false ↦ false ] ] ] ]) ≡ true
        → Before p q
    go true ex y ey u eu v ev e = fewer (ltb-true _ _ ex)
    go false ex false ey u eu v ev e = absurd (clash e)
    go false ex true ey true eu v ev e = smaller (eqb-true _ _ ey) (ltb-true _ _ eu)
    go false ex true ey false eu false ev e = absurd (clash e)
    go false ex true ey false eu true ev e = differs_sound p q (eqb-true _ _ ev) n 1 (omega arith) (λ j y w. absurd (omega arith)) e

ascending-sound : (n : ℕ) (ps : List Pair) → ascending n ps ≡ true → Ascending ps
unfolding ascending
ascending-sound n [] e = tt
ascending-sound n (p ∷ ps) e = go (every (before n p) ps) refl e (ascending-sound n ps)
  where
    one_by_one : (qs : List Pair) → every (before n p) qs ≡ true → Every (Before p) qs
    one_by_one qs e = Rattle.logic.proofs.Members.every_map (λ q. before-sound n p q) qs ((decides-every (before n p) (λ q. before n p q ≡ true) (λ q. Rattle.logic.proofs.Decide.is (before n p q)) qs).yes e)

    go : (x : Bool) → every (before n p) ps ≡ x → (elim x as (λ _. Bool) [ true ↦ ascending n ps | false ↦ false ]) ≡ true → (ascending n ps ≡ true → Ascending ps) → Every (Before p) ps × Ascending ps
    go true ex e ih = (one_by_one ps ex, ih e)
    go false ex e ih = absurd (clash e)

-- ---- members
decides-pair : (p q : Pair) → Decides (same_pair p q) (p ≡ q)
unfolding same_pair
decides-pair p q =
    reworded {P = (p.taken ≡ q.taken) × ((p.held ≡ q.held) × (p.denied ≡ q.denied))}
    (decides-both (eqb p.taken q.taken) _ (decides_eq p.taken q.taken)
    (decides-both (eqb p.held q.held) _ (decides_eq p.held q.held) (decides_eq p.denied q.denied)))
    (λ h. λ i. record { taken = h.0 i; held = h.1.0 i; denied = h.1.1 i })
    (λ e. (ap (λ (r : Pair). r.taken) e, (ap (λ (r : Pair). r.held) e, ap (λ (r : Pair). r.denied) e)))

decides-members : (ps qs : List Pair) → Decides (same_members ps qs) (Every (λ p. Among p qs) ps × Every (λ q. Among q ps) qs)
unfolding same_members
decides-members ps qs =
    decides-both _ _
    (decides-every _ (λ p. Among p qs) (λ p. decides-some _ (λ q. q ≡ p) (λ q. decides-pair q p) qs) ps)
    (decides-every _ (λ q. Among q ps) (λ q. decides-some _ (λ p. p ≡ q) (λ p. decides-pair p q) ps) qs)

-- ---- an example
-- The list is that of all resolutions in order, and each pair judged is lawful and has that verdict.
pub record Shown (e : Example) : Type 0 where
  pub listed : AllLater e.book start e.found
  pub verdicts : Every (λ (j : Pair × ℕ). Lawful e.book j.0 × Verdict e.book j.0 j.1) e.judged

decides-verdict : (b : Book) (p : Pair) (k : ℕ) → Lawful b p → Decides (eqb (verdict b p) k) (Verdict b p k)
decides-verdict b p k l = reworded (decides_eq (verdict b p) k) (λ e. rw e at (verdict-is b p l)) (λ v. verdict-only b p l k v)

pub right-shown : (e : Example) → right e ≡ true → Shown e
unfolding right
right-shown e h = go (same_members e.found (resolutions e.book)) refl (ascending e.book.statements e.found) refl h
  where
    judged : every (λ (j : Pair × ℕ). elim (lawful e.book j.0) [ true ↦ eqb (verdict e.book j.0) j.1 | false ↦ false ]) e.judged ≡ true
        → Every (λ (j : Pair × ℕ). Lawful e.book j.0 × Verdict e.book j.0 j.1) e.judged
    judged = (decides-every _ (λ (j : Pair × ℕ). Lawful e.book j.0 × Verdict e.book j.0 j.1)
        (λ j. decides-then (lawful e.book j.0) _ (decides-lawful e.book j.0) (decides-verdict e.book j.0 j.1)) e.judged).yes

    go : (x : Bool) → same_members e.found (resolutions e.book) ≡ x → (y : Bool) → ascending e.book.statements e.found ≡ y
        → (elim x as (λ _. Bool) [ true ↦ elim y [ true ↦ every (λ (j : Pair × ℕ). elim (lawful e.book j.0) [ true ↦ eqb (verdict e.book j.0) j.1 | false ↦ false ]) e.judged | false ↦ false ] | false ↦ false ]) ≡ true
        → Shown e
    go false ex y ey h = absurd (clash h)
    go true ex false ey h = absurd (clash h)
    go true ex true ey h =
        let m = (decides-members e.found (resolutions e.book)).yes ex in
        record {
          listed = record {
            only = every_of _ e.found (λ p i. (resolutions-only e.book p (every-at (λ p. Among p (resolutions e.book)) p e.found m.0 i), tt));
            all = λ p r l. every-at (λ p. Among p e.found) p (resolutions e.book) m.1 (resolutions-all e.book p r);
            ascending = ascending-sound e.book.statements e.found ey;
          };
          verdicts = judged h;
        }

-- The starred books, as the definitions have them.
pub small-books : Every Shown table
small-books = Rattle.logic.proofs.Members.every_map right-shown table ((decides-every right (λ e. right e ≡ true) (λ e. Rattle.logic.proofs.Decide.is (right e)) table).yes all_right)
