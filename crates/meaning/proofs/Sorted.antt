-- The list of all resolutions later than a point exists and is one. Idea: put the resolutions into place one by one.
use mathlib.Core.Path.{◌≡◌, refl, sym}
use mathlib.Core.List.{List, [], ◌∷◌}
use mathlib.Core.Logic.{◌⊎◌, inl, inr, ⊎_elim}
use Rattle.logic.specs.Lists.{Among, Every}
use Rattle.logic.proofs.Members.{among_same, every-at, every_of}
use Rattle.sets.specs.declared.Pair.{Pair}
use Rattle.meaning.specs.Books.{Book, Lawful}
use Rattle.meaning.specs.Resolutions.{Resolution}
use Rattle.meaning.specs.Order.{Before, Ascending, Point, start, at, LawfulPoint, Later, AllLater}
use Rattle.meaning.specs.Twins.Verdicts.{resolutions}
use Rattle.meaning.proofs.Twins.{resolutions-all, resolutions-only}
use Rattle.meaning.proofs.Ordered.{before-irreflexive, before-transitive, before-total}

-- ---- one list
-- Two ascending lists with the same members are equal.
pub ascending-one : (ps qs : List Pair) → Ascending ps → Ascending qs → ((r : Pair) → Among r ps → Among r qs) → ((r : Pair) → Among r qs → Among r ps) → ps ≡ qs
ascending-one [] [] a c f g = refl
ascending-one [] (q ∷ qs) a c f g = absurd (g q (inl refl))
ascending-one (p ∷ ps) [] a c f g = absurd (f p (inl refl))
ascending-one (p ∷ ps) (q ∷ qs) a c f g =
    let e = first (f p (inl refl)) (g q (inl refl)) in
    rw (e, ascending-one ps qs a.1 c.1 (λ r m. rest-l e r m (f r (inr m))) (λ r m. rest-r e r m (g r (inr m))))
  where
    first : (q ≡ p) ⊎ Among p qs → (p ≡ q) ⊎ Among q ps → p ≡ q
    first (inl e) o = sym e
    first (inr m) (inl e) = e
    first (inr m) (inr n) = absurd (before-irreflexive p (before-transitive p q p (every-at (Before p) q ps a.0 n) (every-at (Before q) p qs c.0 m)))

    rest-l : p ≡ q → (r : Pair) → Among r ps → (q ≡ r) ⊎ Among r qs → Among r qs
    rest-l e r m (inl x) = absurd (before-irreflexive p (rw (← x, ← e) at (every-at (Before p) r ps a.0 m)))
    rest-l e r m (inr n) = n

    rest-r : p ≡ q → (r : Pair) → Among r qs → (p ≡ r) ⊎ Among r ps → Among r ps
    rest-r e r m (inl x) = absurd (before-irreflexive q (rw (← x, e) at (every-at (Before q) r qs c.0 m)))
    rest-r e r m (inr n) = n

-- The list of all resolutions later than a point is one.
pub all-later-one : (b : Book) (from : Point) (ps qs : List Pair) → AllLater b from ps → AllLater b from qs → ps ≡ qs
all-later-one b from ps qs a c =
    ascending-one ps qs a.ascending c.ascending
    (λ r m. let h = every-at (λ p. Resolution b p × Later from p) r ps a.only m in c.all r h.0 h.1)
    (λ r m. let h = every-at (λ p. Resolution b p × Later from p) r qs c.only m in a.all r h.0 h.1)

-- ---- a list
module _ (b : Book) where
  -- A pair put into its place in an ascending list of lawful pairs.
  pub record Placed (p : Pair) (ps : List Pair) : Type 0 where
    pub list : List Pair
    pub ascending : Ascending list
    pub has : Among p list
    pub keeps : (r : Pair) → Among r ps → Among r list
    pub only : (r : Pair) → Among r list → (p ≡ r) ⊎ Among r ps

  place : (p : Pair) → Lawful b p → (ps : List Pair) → Every (Lawful b) ps → Ascending ps → Placed p ps
  place p l [] ls a = record { list = p ∷ []; ascending = (tt, tt); has = inl refl; keeps = λ r m. absurd m; only = λ r m. m }
  place p l (q ∷ qs) ls a = go (before-total b p q l ls.0) (place p l qs ls.1 a.1)
    where
      go : Before p q ⊎ (p ≡ q) ⊎ Before q p → Placed p qs → Placed p (q ∷ qs)
      go (inl x) ih =
          record {
            list = p ∷ (q ∷ qs);
            ascending = ((x, every_of (Before p) qs (λ r m. before-transitive p q r x (every-at (Before q) r qs a.0 m))), a);
            has = inl refl;
            keeps = λ r m. inr m;
            only = λ r m. m;
          }
      go (inr (inl e)) ih = record { list = q ∷ qs; ascending = a; has = inl (sym e); keeps = λ r m. m; only = λ r m. inr m }
      go (inr (inr x)) ih =
          record {
            list = q ∷ ih.list;
            ascending = (every_of (Before q) ih.list (λ r m. ⊎_elim (λ e. rw (← e) x) (λ n. every-at (Before q) r qs a.0 n) (ih.only r m)), ih.ascending);
            has = inr ih.has;
            keeps = λ r m. ⊎_elim (λ e. inl e) (λ n. inr (ih.keeps r n)) m;
            only = λ r m. ⊎_elim (λ e. inr (inl e)) (λ n. ⊎_elim (λ e. inl e) (λ o. inr (inr o)) (ih.only r n)) m;
          }

  -- The members of a list that have a property, in order, each once.
  pub record Selected (P : Pair → Type 0) (ps : List Pair) : Type 0 where
    pub list : List Pair
    pub ascending : Ascending list
    pub only : (r : Pair) → Among r list → P r × Among r ps
    pub all : (r : Pair) → P r → Among r ps → Among r list

  pub select : (P : Pair → Type 0) (ps : List Pair) → Every (Lawful b) ps → Every (λ p. P p ⊎ (P p → ⊥)) ps → Selected P ps
  select P [] ls ds = record { list = []; ascending = tt; only = λ r m. absurd m; all = λ r h m. absurd m }
  select P (p ∷ ps) ls ds = go ds.0 (select P ps ls.1 ds.1)
    where
      go : P p ⊎ (P p → ⊥) → Selected P ps → Selected P (p ∷ ps)
      go (inr n) ih =
          record {
            list = ih.list;
            ascending = ih.ascending;
            only = λ r m. let h = ih.only r m in (h.0, inr h.1);
            all = λ r h m. ⊎_elim (λ e. absurd (n (rw e h))) (λ o. ih.all r h o) m;
          }
      go (inl h) ih =
          let w = place p ls.0 ih.list (every_of (Lawful b) ih.list (λ r m. every-at (Lawful b) r ps ls.1 (ih.only r m).1)) ih.ascending in
          record {
            list = w.list;
            ascending = w.ascending;
            only = λ r m. ⊎_elim (λ e. (rw e at h, inl e)) (λ n. let k = ih.only r n in (k.0, inr k.1)) (w.only r m);
            all = λ r k m. ⊎_elim (λ e. among_same w.list e w.has) (λ n. w.keeps r (ih.all r k n)) m;
          }

  -- Being later than a point is decided.
  pub later-or-not : (from : Point) → LawfulPoint b from → (q : Pair) → Lawful b q → Later from q ⊎ (Later from q → ⊥)
  later-or-not start l q m = inl tt
  later-or-not (at p) l q m =
      ⊎_elim (λ x. inl x) (λ o. ⊎_elim (λ e. inr (λ x. before-irreflexive q (rw e at x))) (λ y. inr (λ x. before-irreflexive p (before-transitive p q p x y))) o) (before-total b p q l m)

  pub all-later : (from : Point) → LawfulPoint b from → (ps : List Pair) × AllLater b from ps
  all-later from l =
      let rs = resolutions b in
      let ok = every_of (Lawful b) rs (λ r m. (resolutions-only b r m).view.lawful) in
      let s = select (Later from) rs ok (every_of (λ p. Later from p ⊎ (Later from p → ⊥)) rs (λ r m. later-or-not from l r (every-at (Lawful b) r rs ok m))) in (
        s.list,
        record {
          only = every_of (λ p. Resolution b p × Later from p) s.list (λ r m. let h = s.only r m in (resolutions-only b r h.1, h.0));
          all = λ r x y. s.all r y (resolutions-all b r x);
          ascending = s.ascending;
        },
      )
