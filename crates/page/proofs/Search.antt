-- Each return of the search makes the page that was promised.
-- A settled pair is listed if it passes; the values tried one after the other list what their statement lists.
use Rattle.std.proofs.Common.{◌≡◌, ℕ, zero, suc, ◌+◌, ◌-◌, ◌*◌, ◌<◌, ◌≤◌, Bool, true, false, List, [], ◌∷◌, ◌++◌, length, refl, sub-one, arith}
use lib.Seq.{sets}
use Rattle.logic.specs.Tests.{Decides, both, pick, keep, cons_if}
use Rattle.logic.proofs.Decide.{holds, fails, is}
use Rattle.logic.proofs.Members.{among-left, among-right}
use Rattle.sets.specs.declared.Pair.{Pair}
use Rattle.masks.specs.declared.Bounds.{Bounds}
use Rattle.masks.specs.Views.{MaskView}
use Rattle.meaning.specs.Twins.Tables.{differs_from}
use Rattle.queue.specs.declared.waiting.Waiting.{Waiting}
use Rattle.page.specs.Sought.{Sought}
use Rattle.page.specs.declared.Node.{Node}
use Rattle.std.specs.Prelude.{Option, Some, None}
use Rattle.page.specs.Orders.{given, tried, all_from, passes, list_from}
use Rattle.sets.specs.Pairs.{Sub, flat}
use Rattle.sets.proofs.Pairs.{sub_trans}
use Rattle.bounds.specs.Sound.{Keeps}
use Rattle.page.specs.Pages.{Tests, Picks, Covers, Covered, Fits, Settled, passing, tried_from, Tried, branch_from, TriedOne, Child, Branched, Started, Listed}
use Rattle.page.proofs.Pages.{page-none, page-full, page-append, page-one}
use Rattle.page.proofs.General.{both_false, keep-none, keep_append}

-- ---- tests of the point
pub where-equal : (t x : Bool) → t ≡ true → x ≡ both t x
unfolding both
where-equal t x e = rw e

pub where-not : (t x : Bool) → t ≡ false → t ≡ both t x
unfolding both
where-not t x e = rw e

-- ---- every statement settled
module _ (P : Pair → Type 0) (q : Sought) (d : Node) (at : ℕ) (o : List ℕ) (h : at < q.room) where
  -- The list of one pair.
  last-list : (g : Pair → Bool) → passing g q 0 d (all_from q.statements 0 d.pair) ≡ cons_if (both (pick d.equal false true) (g d.pair)) d.pair []
  unfolding all_from keep passes differs_from
  last-list g = refl

  pub finish-equal : d.equal ≡ true → Settled P q 0 d at o o at
  unfolding pick both cons_if
  finish-equal e = record { most = omega arith; page = λ g tg c. rw (last-list g, e) (page-none q.room at o) }

  module _ (e : d.equal ≡ false) where
    own : (g : Pair → Bool) → Tests P (all_from q.statements 0 d.pair) g → Decides (g d.pair) (P d.pair)
    unfolding all_from
    own g tg = tg.right d.pair (mathlib.Core.Logic.inl refl)

    pub finish-not : (P d.pair → ⊥) → Settled P q 0 d at o o at
    unfolding pick both cons_if
    finish-not n = record { most = omega arith; page = λ g tg c. rw (last-list g, e, fails (own g tg) n) (page-none q.room at o) }

    pub finish-put : (o' : List ℕ) (r : ℕ) → P d.pair → (o' ≡ sets o (at * 3) (flat (d.pair ∷ []))) × (r ≡ at + 1) → Settled P q 0 d at o o' r
    unfolding pick both cons_if
    finish-put o' r v (eo, er) = rw er record { most = omega arith; page = λ g tg c. rw (last-list g, e, holds (own g tg) v) (page-one q.room at o o' d.pair h eo) }

-- ---- a statement and its values
-- The values of the first statement left are all that come from the node.
pub settle-open : (P : Pair → Type 0) (q : Sought) (left : ℕ) (d : Node) (at : ℕ) (o o' : List ℕ) (r : ℕ) → (left ≡ 0 → ⊥) → Tried P q (left - 1) 3 d at o o' r → Settled P q left d at o o' r
unfolding list_from all_from
settle-open P q zero d at o o' r n w = absurd (n refl)
settle-open P q (suc l) d at o o' r n w = let v : Tried P q l 3 d at o o' r = rw sub-one at w in record { most = v.most; page = v.page }

pub settle-last : (P : Pair → Type 0) (q : Sought) (left : ℕ) (d : Node) (at : ℕ) (o o' : List ℕ) (r : ℕ) → left ≡ 0 → Settled P q 0 d at o o' r → Settled P q left d at o o' r
settle-last P q left d at o o' r e w = rw e w

fits-again : (ws ranks o o' : List ℕ) (q : Sought) (at r : ℕ) → Fits ws ranks o q at → length o' ≡ length o → r ≤ q.room → Fits ws ranks o' q r
fits-again ws ranks o o' q at r f e h = record { suits = f.suits; place = h; long = rw e f.long }

-- The last v values are the first of them and the others.
tried-first : (f : Pair → List Pair) (p : Pair) (i v : ℕ) → (v ≡ 0 → ⊥) → tried f p i v ≡ f (given p i (3 - v)) ++ tried f p i (v - 1)
unfolding tried
tried-first f p i zero n = absurd (n refl)
tried-first f p i (suc v) n = rw sub-one

-- So the pairs that pass are those of the first value's branch and those of the others, and a test right for all is right for both.
module _ (P : Pair → Type 0) (q : Sought) (left v : ℕ) (d : Node) (n : v ≡ 0 → ⊥) (g : Pair → Bool) where
  tried-split : tried_from q left v d ≡ branch_from q left (3 - v) d ++ tried_from q left (v - 1) d
  tried-split = tried-first (λ p. all_from q.statements left p) d.pair (q.statements - left) v n

  tried-passing : passing g q (suc left) d (tried_from q left v d) ≡ passing g q (suc left) d (branch_from q left (3 - v) d) ++ passing g q (suc left) d (tried_from q left (v - 1) d)
  tried-passing = rw tried-split (keep_append (passes g q.statements q.point (suc left) d.equal) (branch_from q left (3 - v) d) (tried_from q left (v - 1) d))

  module _ (t : Tests P (tried_from q left v d) g) where
    tests-branch : Tests P (branch_from q left (3 - v) d) g
    tests-branch = record { right = λ u m. t.right u (rw tried-split (among-left u (branch_from q left (3 - v) d) (tried_from q left (v - 1) d) m)) }

    tests-rest : Tests P (tried_from q left (v - 1) d) g
    tests-rest = record { right = λ u m. t.right u (rw tried-split (among-right u (branch_from q left (3 - v) d) (tried_from q left (v - 1) d) m)) }

-- One value: the page is full, the branch is cut, or it goes on from a child. Only views have the property.
module _ (P : Pair → Type 0) (q : Sought) (left w : ℕ) (d : Node) (at : ℕ) (o : List ℕ) (place : at ≤ q.room) where
  pub one-full : q.room ≤ at → TriedOne P q (left - 1) w d at o o at
  one-full l = record { most = place; page = λ g tg h. page-full q.room at o _ l }

  module _ (ws ranks : List ℕ) (views : (v : Pair) → P v → MaskView ws q.rules ranks v) (b : Option Node) (br : Branched ws ranks q (left - 1) w d b) where
    picks : (g : Pair → Bool) → Tests P (branch_from q (left - 1) w d) g → Picks ws q.rules ranks (branch_from q (left - 1) w d) g
    picks g tg = record { view = λ v m e. views v ((tg.right v m).yes e) }

    pub one-cut : b ≡ None → TriedOne P q (left - 1) w d at o o at
    one-cut e = record { most = place; page = λ g tg h. rw (br.cut e g (picks g tg) h) (page-none q.room at o) }

    module _ (c : Node) (e : b ≡ Some c) where
      child : Child ws ranks q (left - 1) w d c
      child = br.opened c e

      pub one-open : (o' : List ℕ) (r : ℕ) → Settled P q (left - 1) c at o o' r → TriedOne P q (left - 1) w d at o o' r
      one-open o' r s = record {
        most = s.most;
        page = λ g tg h. rw (child.same g) (s.page g (rw child.pair tg) (child.covers g (picks g tg) h));
      }

      -- The same where the bounds of the child are narrowed and keep what has the property: nothing is left in them, or the search goes on.
      module _ (k : Bounds) (keeps : Keeps P c.bounds k) where
        narrowed : (g : Pair → Bool) → Tests P (all_from q.statements (left - 1) c.pair) g → Covered g q (left - 1) c → Covers g q.statements (left - 1) c.pair k
        narrowed g tg h = record { kept = λ v x m. keeps.kept v ((tg.right v m).yes x) (h.kept v x m) }

        pub one-void : (Sub k.lo k.hi → ⊥) → TriedOne P q (left - 1) w d at o o at
        unfolding passes
        one-void n = record {
          most = place;
          page = λ g tg h.
              let t : Tests P (all_from q.statements (left - 1) c.pair) g = rw child.pair tg in
              let f = narrowed g t (child.covers g (picks g tg) h) in
              let none : passing g q (left - 1) c (all_from q.statements (left - 1) c.pair) ≡ [] =
              keep-none (passes g q.statements q.point (left - 1) c.equal) (all_from q.statements (left - 1) c.pair)
              (λ v m. rw (fails (is (g v)) (λ x. let i = f.kept v x m in n (sub_trans i.lo i.hi))) (both_false _)) in
              rw (child.same g, none) (page-none q.room at o);
        }

        pub one-narrower : (live : Waiting) (hint : Pair) (o' : List ℕ) (r : ℕ)
            → Settled P q (left - 1) (record { equal = c.equal; pair = c.pair; bounds = k; live = live; hint = hint }) at o o' r → TriedOne P q (left - 1) w d at o o' r
        one-narrower live hint o' r s = record {
          most = s.most;
          page = λ g tg h.
              let t : Tests P (all_from q.statements (left - 1) c.pair) g = rw child.pair tg in
              rw (child.same g) (s.page g t (narrowed g t (child.covers g (picks g tg) h)));
        }

-- The last v values: the first of them and the others, or the last alone.
module _ (P : Pair → Type 0) (q : Sought) (left : ℕ) (d : Node) (at : ℕ) (o : List ℕ) where
  pub try_one : (v : ℕ) → (v ≡ 0 → ⊥) → (r r' : ℕ) (o' o'' : List ℕ) → TriedOne P q left (3 - v) d at o o' r → Tried P q left (v - 1) d r o' o'' r'
      → Tried P q left v d at o o'' r'
  try_one v n r r' o' o'' s t = record {
    most = t.most;
    page = λ g tg h. rw (tried-passing P q left v d n g)
        (page-append q.room at r r' o o' o'' _ _ (s.page g (tests-branch P q left v d n g tg) h) (t.page g (tests-rest P q left v d n g tg) h));
  }

  try-none : (r : ℕ) (o' : List ℕ) → r ≤ q.room → Tried P q left 0 d r o' o' r
  unfolding tried keep
  try-none r o' l = record { most = l; page = λ g tg h. page-none q.room r o' }

  -- After k of the values: what is put on the page for the others completes the page for all.
  pub record Trying (k r : ℕ) (o' : List ℕ) : Type 0 where
    pub most : r ≤ q.room
    pub rest : (r' : ℕ) (o'' : List ℕ) → Tried P q left (3 - k) d r o' o'' r' → Tried P q left 3 d at o o'' r'

  pub trying-none : at ≤ q.room → Trying 0 at o
  trying-none l = record { most = l; rest = λ r' o'' t. t }

  pub trying-all : (k r : ℕ) (o' : List ℕ) → 3 ≤ k → Trying k r o' → Tried P q left 3 d at o o' r
  trying-all k r o' h f = f.rest r o' (let e : 3 - k ≡ 0 = omega arith in rw e (try-none r o' f.most))

pub trying-next : (P : Pair → Type 0) (q : Sought) (left : ℕ) (d : Node) (at : ℕ) (o : List ℕ) (k r : ℕ) (o' : List ℕ) → k < 3 → Trying P q left d at o k r o'
    → (w : ℕ) → w ≡ k → (r' : ℕ) (o'' : List ℕ) → TriedOne P q left w d r o' o'' r' → Trying P q left d at o (k + 1) r' o''
trying-next P q left d at o k r o' h f w ew r' o'' s =
    let own : w ≡ 3 - (3 - k) = omega arith in
    let fewer : 3 - (k + 1) ≡ 3 - k - 1 = omega arith in
    record {
      most = s.most;
      rest = λ z y t. f.rest z y (try_one P q left d r o' (3 - k) (λ e. omega arith) r' z o'' y (rw own at s) (rw fewer at t));
    }

-- ---- the whole search
module _ (P : Pair → Type 0) (q : Sought) (taken : ℕ) (b : Bounds) (t : Bool) (at : ℕ) (o : List ℕ) where
  pub list_full : at ≤ q.room → q.room ≤ at → Listed P q taken b t at o o at
  list_full h l = record { most = h; page = λ g tg c. page-full q.room at o _ l }

  pub list-settled : (d : Node) → Started taken b t d → (o' : List ℕ) (r : ℕ) → Settled P q q.statements d at o o' r → Listed P q taken b t at o o' r
  unfolding list_from
  list-settled d s o' r w = record { most = w.most; page = rw (s.own, s.pair, s.bounds) at w.page }
