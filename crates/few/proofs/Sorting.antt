-- The first of those that are later, again and again, is the store in order: each step hands out the head of what is left of the sorted list.
use Rattle.std.specs.Prelude.{Option, Some, None, IfSome, MatchOption}
use mathlib.Core.Path.{◌≡◌, refl, sym, ◌∙◌}
use mathlib.Core.Bool.{Bool, true}
use mathlib.Core.List.{List, [], ◌∷◌, ◌++◌, append-nil, append_assoc}
use mathlib.Core.Logic.{◌⊎◌, inl, inr, ⊎_elim}
use Prim.Native.Nat.{ℕ, ◌+◌, ◌*◌, ◌<◌, ◌≤◌}
use native.Mathlib.Omega.{arith}
use lib.Seq.{sets}
use Rattle.logic.specs.Lists.{Among, Every}
use Rattle.logic.proofs.Members.{every-at, among-either}
use Rattle.sets.specs.declared.Pair.{Pair}
use Rattle.sets.specs.Pairs.{flat}
use Rattle.sets.proofs.Digits.{lt-or-le}
use Rattle.meaning.specs.Order.{Before, Ascending}
use Rattle.meaning.proofs.Ordered.{before-irreflexive, before-transitive}
use Rattle.page.specs.Pages.{pair_at, Page}
use Rattle.page.proofs.Pages.{page-none, page-full, page-one, page-append}
use Rattle.few.specs.Few.{Sooner, Alike, After, Ahead, NoLater, Follows, Leads, FirstOf, Sorts, PutSorted}

-- ---- one pair against another
module _ (store : List ℕ) (k i : ℕ) (h : i < k) where
  pub follows-sooner : (last : ℕ) → last < k → (r : Bool) → Sooner (pair_at store last) (pair_at store i) r → Follows store k (Some last) i r
  follows-sooner last l r s = record {
    yes = λ a e m. s.yes e (a.taken last i l h);
    no = λ a e x. ⊎_elim (λ (q : pair_at store last ≡ pair_at store i). before-irreflexive (pair_at store i) (rw q at (x l)))
        (λ y. before-irreflexive (pair_at store i) (before-transitive (pair_at store i) (pair_at store last) (pair_at store i) y (x l)))
        (s.no e (a.taken last i l h) (a.coherent last l) (a.coherent i h));
  }

  pub leads-sooner : (best : ℕ) → best < k → (r : Bool) → Sooner (pair_at store i) (pair_at store best) r → Leads store k i (Some best) r
  leads-sooner best l r s = record {
    yes = λ a e m. s.yes e (a.taken i best h l);
    no = λ a e. (l, ⊎_elim (λ q. inl (sym q)) (λ y. inr y) (s.no e (a.taken i best h l) (a.coherent i h) (a.coherent best l)));
  }

-- ---- the first of those that are later
module _ (store : List ℕ) (k : ℕ) (last : Option ℕ) where
  pub first-none : FirstOf store k last 0 None
  first-none = record { upto = tt; later = λ a. tt; first = λ a j l. absurd (omega arith) }

  module _ (best : Option ℕ) (i : ℕ) (h : i < k) where
    -- What is so of the pairs before place i and of the one there.
    one_more : (r : Option ℕ) → (Alike store k → (j : ℕ) → j < i → After store k last j → NoLater store k r j) → (Alike store k → After store k last i → NoLater store k r i)
        → Alike store k → (j : ℕ) → j < i + 1 → After store k last j → NoLater store k r j
    one_more r f g a j l x = ⊎_elim (λ m. f a j m x) (λ m. let q : j ≡ i = omega arith in rw q (g a (rw q at x))) (lt-or-le j i)

    module _ (z : Bool) (d : Leads store k i best z) where
      -- The pair at place i comes before whatever the best so far comes before.
      leads-on : (b : Option ℕ) (j : ℕ) → Ahead store k i b → NoLater store k b j → Before (pair_at store i) (pair_at store j)
      leads-on None j f n = absurd n
      leads-on (Some l) j f n = let b = f n.0 in ⊎_elim (λ q. rw q at b) (λ y. before-transitive (pair_at store i) (pair_at store l) (pair_at store j) b y) n.1

      pub better-new : (r : Bool) → Follows store k last i r → r ≡ true → z ≡ true → FirstOf store k last i best → FirstOf store k last (i + 1) (Some i)
      better-new r w e ez s = record {
        upto = h;
        later = λ a. w.yes a e;
        first = one_more (Some i) (λ a j m x. (h, inr (leads-on best j (d.yes a ez) (s.first a j m x)))) (λ a x. (h, inl refl));
      }

  -- All pairs have been looked at.
  pub first-all : (best : Option ℕ) (i : ℕ) → FirstOf store k last i best → k ≤ i → FirstOf store k last k best
  first-all best i s h = record { upto = s.upto; later = s.later; first = λ a j l x. s.first a j (omega arith) x }

-- ---- in order
-- The pair at place j is the head of the list, or there is none.
abbrev pub Heads : List ℕ → ℕ → Option ℕ → List Pair → Type 0
Heads store k None [] = Unit {0}
Heads store k None (w ∷ ws) = ⊥
Heads store k (Some j) [] = ⊥
Heads store k (Some j) (w ∷ ws) = (j < k) × (pair_at store j ≡ w)

-- What is put on the page so far is the front of the sorted list, and the pair at place j is next.
pub record Putting (store : List ℕ) (k room at : ℕ) (o : List ℕ) (place : ℕ) (j : Option ℕ) (o' : List ℕ) : Type 0 where
  pub fits : place ≤ room
  pub upto : IfSome j (λ l. l < k)
  pub front : Alike store k → (zs : List Pair) → Sorts store k zs → (ys : List Pair) × (ws : List Pair) × (zs ≡ ys ++ ws) × Page room at o o' ys place × Heads store k j ws

-- An ascending list whose rest is later than its head.
rest-after : (ys : List Pair) (w : Pair) (ws : List Pair) → Ascending (ys ++ (w ∷ ws)) → Ascending ws × Every (Before w) ws
rest-after [] w ws a = (a.1, a.0)
rest-after (y ∷ ys) w ws a = rest-after ys w ws a.1

front-before : (ys : List Pair) (w : Pair) (ws : List Pair) → Ascending (ys ++ (w ∷ ws)) → (y : Pair) → Among y ys → Before y w
front-before [] w ws a y m = absurd m
front-before (x ∷ ys) w ws a y m = ⊎_elim (λ q. rw q at (every-at (Before x) w (ys ++ (w ∷ ws)) a.0 (in-middle ys))) (λ n. front-before ys w ws a.1 y n) m
  where
    in-middle : (xs : List Pair) → Among w (xs ++ (w ∷ ws))
    in-middle [] = inl refl
    in-middle (x ∷ xs) = inr (in-middle xs)

module _ (store : List ℕ) (k : ℕ) where
  -- If the pair at place r is in the list and no later than any of it, it is the head.
  heads-of : (ws : List Pair) (r : Option ℕ) → Ascending ws → IfSome r (λ l. Among (pair_at store l) ws)
      → ((w : Pair) → Among w ws → MatchOption r ⊥ (λ l. (l < k) × ((pair_at store l ≡ w) ⊎ Before (pair_at store l) w))) → Heads store k r ws
  heads-of [] None a f g = tt
  heads-of [] (Some r) a f g = absurd f
  heads-of (w ∷ ws) None a f g = absurd (g w (inl refl))
  heads-of (w ∷ ws) (Some r) a f g =
      let h = g w (inl refl) in
      (h.0, ⊎_elim (λ q. q) (λ b. ⊎_elim (λ q. sym q) (λ m. absurd (before-irreflexive w (before-transitive w (pair_at store r) w (every-at (Before w) (pair_at store r) ws a.0 m) b))) f) h.1)

  -- A pair that is no later than another is no later than what equals that.
  no-later : (r : Option ℕ) (i : ℕ) (w : Pair) → w ≡ pair_at store i → NoLater store k r i → MatchOption r ⊥ (λ l. (l < k) × ((pair_at store l ≡ w) ⊎ Before (pair_at store l) w))
  no-later None i w e n = n
  no-later (Some l) i w e n = (n.0, ⊎_elim (λ c. inl (c ∙ sym e)) (λ b. inr (rw e b)) n.1)

  module _ (room at : ℕ) (o : List ℕ) where
    pub putting-none : at ≤ room → (j : Option ℕ) → FirstOf store k None k j → Putting store k room at o at j o
    putting-none h j f = record {
      fits = h;
      upto = f.upto;
      front = λ a zs s. (
        [],
        zs,
        refl,
        page-none room at o,
        heads-of zs j s.ascending (within j s f.upto) (λ w m. let q = s.only w m in no-later j q.0 w q.2 (f.first a q.0 q.1 tt)),
      );
    }
      where
        within : (j : Option ℕ) {zs : List Pair} → Sorts store k zs → IfSome j (λ l. l < k) → IfSome j (λ l. Among (pair_at store l) zs)
        within None s l = tt
        within (Some j) s l = s.all j l

    module _ (place : ℕ) (o' : List ℕ) where
      pub putting-next : (j : ℕ) → Putting store k room at o place (Some j) o' → place < room → (v : Pair) → v ≡ pair_at store j → (o'' : List ℕ) → o'' ≡ sets o' (place * 3) (flat (v ∷ []))
          → (r : Option ℕ) → FirstOf store k (Some j) k r → Putting store k room at o (place + 1) r o''
      putting-next j p h v ev o'' eo r f = record { fits = omega arith; upto = f.upto; front = λ a zs s. step a zs s (p.front a zs s) }
        where
          step : Alike store k → (zs : List Pair) → Sorts store k zs → (ys : List Pair) × (ws : List Pair) × (zs ≡ ys ++ ws) × Page room at o o' ys place × Heads store k (Some j) ws
              → (ys : List Pair) × (ws : List Pair) × (zs ≡ ys ++ ws) × Page room at o o'' ys (place + 1) × Heads store k r ws
          step a zs s (ys, [], e, g, d) = absurd d
          step a zs s (ys, w ∷ ws, e, g, d) = (
            ys ++ (v ∷ []),
            ws,
            e ∙ rw (ev, d.1) (sym (append_assoc ys (w ∷ []) ws)),
            page-append room at place (place + 1) o o' o'' ys (v ∷ []) g (page-one room place o' o'' v h eo),
            heads-of ws r rest.0 (some_left r f.upto (f.later a)) (λ u m. next u m),
          )
            where
              up : Ascending (ys ++ (w ∷ ws))
              up = rw e at s.ascending

              rest : Ascending ws × Every (Before w) ws
              rest = rest-after ys w ws up

              -- A pair of the store that is later than w is one of those left.
              left : (i : ℕ) → i < k → After store k (Some j) i → Among (pair_at store i) ws
              left i m x =
                  let b : Before w (pair_at store i) = rw d.1 at (x d.0) in
                  ⊎_elim (λ y. absurd (before-irreflexive w (before-transitive w (pair_at store i) w b (front-before ys w ws up (pair_at store i) y))))
                  (λ y. ⊎_elim (λ q. absurd (before-irreflexive w (rw (← q) at b))) (λ n. n) y)
                  (among-either (pair_at store i) ys (w ∷ ws) (rw e at (s.all i m)))

              some_left : (r : Option ℕ) → IfSome r (λ l. l < k) → IfSome r (λ l. After store k (Some j) l) → IfSome r (λ l. Among (pair_at store l) ws)
              some_left None m x = tt
              some_left (Some i) m x = left i m x

              next : (u : Pair) → Among u ws → MatchOption r ⊥ (λ l. (l < k) × ((pair_at store l ≡ u) ⊎ Before (pair_at store l) u))
              next u m =
                  let q = s.only u (rw e (in_rest ys m)) in
                  no-later r q.0 u q.2 (f.first a q.0 q.1 (λ z. rw (d.1, ← q.2) (every-at (Before w) u ws rest.1 m)))
                where
                  in_rest : (xs : List Pair) → Among u ws → Among u (xs ++ (w ∷ ws))
                  in_rest [] z = inr z
                  in_rest (x ∷ xs) z = inr (in_rest xs z)

      -- Nothing is left.
      pub put_all : Putting store k room at o place None o' → PutSorted store k room at o o' place
      put_all p = record { fits = p.fits; page = λ a zs s. go zs (p.front a zs s) }
        where
          go : (zs : List Pair) → (ys : List Pair) × (ws : List Pair) × (zs ≡ ys ++ ws) × Page room at o o' ys place × Heads store k None ws → Page room at o o' zs place
          go zs (ys, [], e, g, d) = rw (e, append-nil ys) g
          go zs (ys, w ∷ ws, e, g, d) = absurd d

      -- The page is full.
      pub put_full : (j : Option ℕ) → Putting store k room at o place j o' → room ≤ place → PutSorted store k room at o o' place
      put_full j p h = record {
        fits = p.fits;
        page = λ a zs s. let d = p.front a zs s in rw d.2 (page-append room at place place o o' o' d.0 d.1 d.3 (page-full room place o' d.1 h));
      }
