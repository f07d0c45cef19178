-- A branch that is cut loses no view later than the point, and an open one lists just what its parent lists of it.
-- All pairs of the branch have the value at the statement, so they are before the point, after it, or as far as the branch is equal to it.
use Rattle.std.proofs.Common.{◌≡◌, ℕ, suc, ◌-◌, ◌<◌, ◌≤◌, Bool, true, false, not, eqb, ltb, List, sym, refl, ap, ◌∙◌, ⊎_elim, arith, ltb-false, ltb-true, le-ltb, lt-ltb, eq-eqb, ne_eqb}
use Rattle.logic.specs.Lists.{Among}
use Rattle.logic.specs.Tests.{Decides, both, pick}
use Rattle.logic.proofs.Decide.{clash, fails, is}
use Rattle.logic.proofs.Members.{every-at}
use Rattle.sets.specs.declared.Pair.{Pair}
use Rattle.sets.specs.Pairs.{Sub}
use Rattle.sets.proofs.Pairs.{sub_trans}
use Rattle.sets.proofs.Digits.{lt-or-le}
use Rattle.masks.specs.declared.Bounds.{Bounds}
use Rattle.masks.proofs.Booleans.{refused}
use Rattle.bounds.specs.Sound.{Keeps}
use Rattle.meaning.specs.Order.{value}
use Rattle.meaning.specs.Twins.Tables.{differs_from}
use Rattle.queue.specs.declared.waiting.Waiting.{Waiting}
use Rattle.page.specs.Sought.{Sought}
use Rattle.page.specs.declared.Node.{Node}
use Rattle.std.specs.Prelude.{Some, None}
use Rattle.page.specs.Orders.{given, all_from, passes, list_from}
use Rattle.page.specs.Pages.{ViewGiving, Barren, Picks, Covers, Covered, branch_from, BranchReady, Branched}
use Rattle.page.proofs.Orders.{all-value, among-tried}
use Rattle.page.proofs.General.{both_false, keep-none, keep_same}

-- ---- later than the point, by the value at the next statement
-- The first of the statements decides, or those that follow it do.
differs-step : (k i : ℕ) (p q : Pair) → differs_from (suc k) i p q ≡ pick (ltb (value p i) (value q i)) true (pick (eqb (value p i) (value q i)) (differs_from k (suc i) p q) false)
unfolding differs_from pick
differs-step k i p q = go (ltb (value p i) (value q i)) (eqb (value p i) (value q i)) (differs_from k (suc i) p q)
  where
    go : (x y r : Bool) → (elim x as (λ _. Bool) [ true ↦ true | false ↦ elim y [ true ↦ r | false ↦ false ] ]) ≡ pick x true (pick y r false)
    go true y r = refl
    go false true r = refl
    go false false r = refl

module _ (n left : ℕ) (point q : Pair) (h : left < n) (w own : ℕ) (eq : value q (n - left) ≡ w) (eown : own ≡ value point (n - left)) where
  late-step : differs_from (suc left) (suc n - suc left) point q ≡ pick (ltb own w) true (pick (eqb own w) (differs_from left (suc n - left) point q) false)
  late-step =
      let first : suc n - suc left ≡ n - left = omega arith in
      let next : suc (n - left) ≡ suc n - left = omega arith in
      rw (first, differs-step left (n - left) point q, eq, ← eown, next)

  late-before : w < own → differs_from (suc left) (suc n - suc left) point q ≡ false
  unfolding pick
  late-before l = late-step ∙ rw (le-ltb own w (omega arith), ne_eqb own w (λ e. omega arith))

  late-after : own < w → differs_from (suc left) (suc n - suc left) point q ≡ true
  unfolding pick
  late-after l = late-step ∙ rw (lt-ltb own w l)

  late-equal : w ≡ own → differs_from (suc left) (suc n - suc left) point q ≡ differs_from left (suc n - left) point q
  unfolding pick
  late-equal e = late-step ∙ rw (le-ltb own w (omega arith), eq-eqb own w (sym e))

  module _ (t : Bool) where
    late-cut : both t (ltb w own) ≡ true → pick t (differs_from (suc left) (suc n - suc left) point q) true ≡ false
    unfolding both pick
    late-cut = go t
      where
        go : (t : Bool) → both t (ltb w own) ≡ true → pick t (differs_from (suc left) (suc n - suc left) point q) true ≡ false
        go true e = late-before (ltb-true w own e)
        go false e = absurd (clash e)

    late-on : both t (ltb w own) ≡ false
        → pick t (differs_from (suc left) (suc n - suc left) point q) true ≡ pick (both t (eqb w own)) (differs_from left (suc n - left) point q) true
    unfolding both pick
    late-on = go t
      where
        go : (t : Bool) → both t (ltb w own) ≡ false
            → pick t (differs_from (suc left) (suc n - suc left) point q) true ≡ pick (both t (eqb w own)) (differs_from left (suc n - left) point q) true
        go false e = refl
        go true e = ⊎_elim
            (λ (l : own < w). late-after l ∙ rw (ne_eqb w own (λ d. omega arith)))
            (λ (l : w ≤ own). let g = ltb-false w own e in let d : w ≡ own = omega arith in late-equal d ∙ rw (eq-eqb w own d))
            (lt-or-le own w)

-- ---- the branch
module _ (ws ranks : List ℕ) (q : Sought) (left w : ℕ) (d : Node) (rd : BranchReady ws ranks q left w) (own : ℕ) (eown : own ≡ value q.point (q.statements - left)) where
  -- Every pair of the branch has the value.
  has_value : (v : Pair) → Among v (branch_from q left w d) → value v (q.statements - left) ≡ w
  has_value v m = every-at (λ u. value u (q.statements - left) ≡ w) v (branch_from q left w d) (all-value q.statements left w d.pair rd.unsettled rd.value) m

  module _ (t : Bool) (et : t ≡ both d.equal (ltb w own)) where
    pub branch-before : t ≡ true → Branched ws ranks q left w d None
    unfolding passes both
    branch-before e = record {
      cut = λ z g tg h. keep-none (passes g q.statements q.point (suc left) d.equal) (branch_from q left w d)
          (λ v m. rw (late-cut q.statements left q.point v rd.unsettled w own (has_value v m) eown d.equal (sym et ∙ e)));
      opened = λ c z. absurd (let y : ◌≡◌ {A = ℕ} 0 1 = cc in omega arith);
    }

    module _ (f : t ≡ false) (b : Bounds) (kb : Keeps (ViewGiving ws q.rules ranks (q.statements - left) w) d.bounds b) where
      branch-covers : (g : Pair → Bool) → Picks ws q.rules ranks (branch_from q left w d) g → Covered g q (suc left) d
          → Covers g q.statements left (given d.pair (q.statements - left) w) b
      unfolding all_from
      branch-covers g pg h = record {
        kept = λ v k m. kb.kept v (record { view = pg.view v m k; gives = has_value v m })
            (h.kept v k (among-tried (λ p. all_from q.statements left p) d.pair (q.statements - left) w v rd.value m));
      }

      pub branch-barren : Barren ws q.rules ranks b → Branched ws ranks q left w d None
      unfolding passes
      branch-barren n = record {
        cut = λ y g pg h. keep-none (passes g q.statements q.point (suc left) d.equal) (branch_from q left w d)
            (λ v m. rw (fails (is (g v)) (λ e. n.none v (pg.view v m e) ((branch-covers g pg h).kept v e m))) (both_false _));
        opened = λ c y. absurd (let x : ◌≡◌ {A = ℕ} 0 1 = cc in omega arith);
      }

      pub branch-clash : (z : Bool) → Decides z (Sub b.lo b.hi) → not z ≡ true → Branched ws ranks q left w d None
      branch-clash z dz ez = branch-barren (record { none = λ v k x. refused dz ez (sub_trans x.lo x.hi) })

      pub branch-open : (e : Bool) (p : Pair) (live : Waiting) (hint : Pair) → e ≡ both d.equal (eqb w own) → p ≡ given d.pair (q.statements - left) w
          → Branched ws ranks q left w d (Some (record { equal = e; pair = p; bounds = b; live = live; hint = hint }))
      unfolding passes list_from
      branch-open e p live hint ee ep = record {
        cut = λ y g pg h. absurd (let x : ◌≡◌ {A = ℕ} 0 1 = cc in omega arith);
        opened = λ c y. rw (← child c y) (record {
          pair = ep;
          covers = λ g pg h. rw ep (branch-covers g pg h);
          same = λ g. rw (ep, ee) (keep_same (passes g q.statements q.point (suc left) d.equal) _ (branch_from q left w d)
              (λ v m. ap (λ (x : Bool). both x (g v)) (late-on q.statements left q.point v rd.unsettled w own (has_value v m) eown d.equal (sym et ∙ f))));
        });
      }
        where
          child : (c : Node) → Some (record { equal = e; pair = p; bounds = b; live = live; hint = hint }) ≡ Some c → record { equal = e; pair = p; bounds = b; live = live; hint = hint } ≡ c
          child c y = cc
