-- The list that the search hands out, by the definitions: the pairs with these exceptions that have the property and are later than the point, in order.
-- All of them stand in the list of all pairs, which ascends; the search's test of lateness decides the order on lawful pairs.
use Rattle.std.proofs.Common.{◌≡◌, ℕ, suc, ◌-◌, ◌^◌, ◌<◌, Bool, true, false, ◌⊎◌, List, length, sym, refl, ap, ◌∙◌, ⊎_elim, le_refl, arith, pow_pos, le-ltb, eq-eqb}
use Rattle.logic.specs.Lists.{Among}
use Rattle.logic.specs.Tests.{Decides, pick, keep}
use Rattle.logic.proofs.Decide.{clash, decided, holds, decides_and}
use Rattle.logic.proofs.Members.{every_of, every-at, every_map, keep-in, keep-only, kept_from}
use Rattle.sets.specs.declared.Pair.{Pair}
use Rattle.sets.specs.Sets.{size}
use Rattle.sets.proofs.Words.{apart-separate, none-off}
use Rattle.meaning.specs.Literals.{is_in}
use Rattle.meaning.specs.Books.{Book, Lawful}
use Rattle.meaning.specs.Resolutions.{Resolution}
use Rattle.meaning.specs.Order.{Before, fewer, smaller, Point, start, at, Later}
use Rattle.meaning.specs.Twins.Tables.{differs_from, before}
use Rattle.meaning.proofs.Next.{decides-before}
use Rattle.meaning.proofs.Parts.{Part}
use Rattle.masks.specs.declared.Bounds.{Bounds}
use Rattle.bounds.specs.Sound.{In}
use Rattle.page.specs.Sought.{Sought}
use Rattle.page.specs.Orders.{bare, all_from, passes, list_from, PartOf, Begins}
use Rattle.page.specs.Pages.{Page, Listed}
use Rattle.page.proofs.Orders.{Extends, all-extend, all-lawful, all_among, all-ascends, keep-ascends}

-- Of two pairs with the same exceptions the first statement that differs decides.
before_same : (n : ℕ) (p q : Pair) → p.taken ≡ q.taken → before n p q ≡ differs_from n 1 p q
unfolding before
before_same n p q e =
    let s = ap size e in
    rw (le-ltb (size p.taken) (size q.taken) (omega arith), eq-eqb _ _ s, le-ltb p.taken q.taken (omega arith), eq-eqb _ _ e, before)

pub decides-differs : (b : Book) (p q : Pair) → Lawful b p → Lawful b q → p.taken ≡ q.taken → Decides (differs_from b.statements 1 p q) (Before p q)
decides-differs b p q l m e = rw (before_same b.statements p q e) at (decides-before b p q l m)

-- ---- where the search begins
pub begins-start : (b : Book) (taken : ℕ) (p : Pair) → Begins b start taken false p
begins-start b taken p = record { within = λ e. absurd (clash e); before = λ e q d. tt }

pub begins-within : (b : Book) (p : Pair) → Lawful b p → Begins b (at p) p.taken true p
begins-within b p l = record { within = λ e. (refl, l, refl); before = λ e. absurd (clash (sym e)) }

-- The exceptions come after those of the point: more of them, or as many and a larger number.
pub begins-past : (b : Book) (point p : Pair) (taken : ℕ) → (size point.taken < size taken) ⊎ ((size point.taken ≡ size taken) × (point.taken < taken)) → Begins b (at point) taken false p
begins-past b point p taken o = record {
  within = λ e. absurd (clash e);
  before = λ e q d. ⊎_elim (λ h. fewer (rw d h)) (λ h. smaller (rw d h.0) (rw d h.1)) o;
}

-- ---- what is listed
-- The pair without statements is lawful.
bare-lawful : (b : Book) (taken : ℕ) → taken < 2 ^ length b.exceptions → Lawful b (bare taken)
unfolding is_in
bare-lawful b taken h = record { exceptions = h; held = pow_pos b.statements; denied = pow_pos b.statements; apart = apart-separate 0 0 (none-off 0) }

-- Every pair that the search looks at is lawful and takes these exceptions.
looked-at : (b : Book) (taken : ℕ) → taken < 2 ^ length b.exceptions → (v : Pair) → Among v (all_from b.statements b.statements (bare taken)) → Lawful b v × (v.taken ≡ taken)
looked-at b taken h v m =
    let n : ℕ = b.statements in
    let xs : List Pair = all_from n n (bare taken) in (
      every-at (Lawful b) v xs (all-lawful b n (bare taken) (le_refl n) (bare-lawful b taken h)) m,
      (every-at (Extends (n - n) (bare taken)) v xs (all-extend n n (bare taken) (le_refl n)) m).taken,
    )

module _ (b : Book) (from : Point) (taken : ℕ) (h : taken < 2 ^ length b.exceptions) (t : Bool) (point : Pair) (s : Begins b from taken t point) where
  -- The search's test of lateness.
  decides-late : (q : Pair) → Lawful b q → q.taken ≡ taken → Decides (pick t (differs_from b.statements (suc b.statements - b.statements) point q) true) (Later from q)
  unfolding pick
  decides-late q l e = go t refl
    where
      one : suc b.statements - b.statements ≡ 1
      one = omega arith

      go : (u : Bool) → t ≡ u → Decides (pick u (differs_from b.statements (suc b.statements - b.statements) point q) true) (Later from q)
      go true d = let w = s.within d in rw (one, w.0) (decides-differs b point q w.1 l (w.2 ∙ sym e))
      go false d = decided (λ z. s.before d q e) (λ z. refl)

  module _ (P : Pair → Type 0) (g : Pair → Bool)
      (right : (p : Pair) → Lawful b p → p.taken ≡ taken → Decides (g p) (P p)) where
    decides-passes : (q : Pair) → Lawful b q → q.taken ≡ taken → Decides (passes g b.statements point b.statements t q) (Later from q × P q)
    unfolding passes
    decides-passes q l e = decides_and (decides-late q l e) (right q l e)

    -- The list of the search is the part of the order that was asked for.
    pub list-is-part : PartOf b from taken P (list_from g b.statements point b.statements t (bare taken))
    unfolding list_from
    list-is-part =
        let n : ℕ = b.statements in
        let f : Pair → Bool = passes g n point n t in
        let xs : List Pair = all_from n n (bare taken) in
        let root = bare-lawful b taken h in
        let lawful = all-lawful b n (bare taken) (le_refl n) root in
        let extend = all-extend n n (bare taken) (le_refl n) in
        record {
          only = every_of (λ p. Lawful b p × (p.taken ≡ taken) × Later from p × P p) (keep f xs)
              (λ p m.
              let k = kept_from f p xs m in
              let l = every-at (Lawful b) p xs lawful k in
              let e = (every-at (Extends (n - n) (bare taken)) p xs extend k).taken in
              let d = (decides-passes p l e).yes (every-at (λ q. f q ≡ true) p (keep f xs) (keep-only f xs) m) in
              (l, e, d.0, d.1));
          all = λ p l e z w. keep-in f p xs
              (all_among b n (bare taken) p (le_refl n) root l (record { taken = e; same = λ i x y. absurd (omega arith) }))
              (holds (decides-passes p l e) (z, w));
          ascending = keep-ascends f xs (all-ascends n n (bare taken) (le_refl n));
        }

-- Where the pairs with these exceptions that have the property are the resolutions among them, it is a part of the listing.
pub part-of-listing : (b : Book) (from : Point) (taken : ℕ) (P : Pair → Type 0) (xs : List Pair)
    → ((p : Pair) → Lawful b p → p.taken ≡ taken → P p → Resolution b p) → ((p : Pair) → Resolution b p → p.taken ≡ taken → P p)
    → PartOf b from taken P xs → Part b from (λ p. p.taken ≡ taken) xs
part-of-listing b from taken P xs f g s =
    record {
      only = every_map {P = λ p. Lawful b p × (p.taken ≡ taken) × Later from p × P p} {Q = λ p. Resolution b p × Later from p × (p.taken ≡ taken)}
          (λ p h. (f p h.0 h.1 h.3, h.2, h.1)) xs s.only;
      all = λ p r l e. s.all p r.view.lawful e l (g p r e);
      ascending = s.ascending;
    }

-- What a search in order promises, in the words of the meaning: the page of the pairs with these exceptions that have the property P and are later than the
-- point. The test g is any that decides it for lawful pairs with these exceptions; of those none is beyond the bounds c.
pub all_listed : (b : Book) (from : Point) (taken : ℕ) → taken < 2 ^ length b.exceptions
    → (P : Pair → Type 0) (q : Sought) → q.statements ≡ b.statements → (t : Bool) → Begins b from taken t q.point
    → (g : Pair → Bool) → ((p : Pair) → Lawful b p → p.taken ≡ taken → Decides (g p) (P p))
    → (c : Bounds) → ((p : Pair) → Lawful b p → p.taken ≡ taken → P p → In c p)
    → (k r : ℕ) (o o' : List ℕ) → Listed P q taken c t k o o' r
    → (xs : List Pair) × Page q.room k o o' xs r × PartOf b from taken P xs
all_listed b from taken h P q e t s g right c within k r o o' w = (
  list_from g b.statements q.point b.statements t (bare taken),
  rw e at (w.page g
      (rw e (record { right = λ v m. let l = looked-at b taken h v m in right v l.0 l.1 }))
      (rw e (record { kept = λ v x m. let l = looked-at b taken h v m in within v l.0 l.1 ((right v l.0 l.1).yes x) }))),
  list-is-part b from taken h t q.point s P g right,
)
