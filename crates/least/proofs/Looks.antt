-- A set within split bounds that answers the rows is within one of the halves, and each half is smaller: so the search is right, and ends.
use mathlib.Core.Path.{◌≡◌}
use Rattle.std.specs.Prelude.{Option, Some, None}
use mathlib.Core.Bool.{Bool, true, false, not}
use mathlib.Core.List.{List}
use mathlib.Core.Logic.{⊎_elim}
use Prim.Native.Nat.{ℕ, ◌<◌}
use native.Mathlib.Omega.{arith}
use lib.Bits.{bit_and}
use Rattle.logic.specs.Tests.{Decides}
use Rattle.sets.specs.declared.Pair.{Pair}
use Rattle.sets.specs.Sets.{Apart}
use Rattle.sets.specs.Pairs.{Sub, Off, meet_of}
use Rattle.sets.proofs.Digits.{bit-lt, bit-and}
use Rattle.sets.proofs.Pairs.{sub_refl, sub_trans, sub-minus, meet-l, meet-r, off-sub, off-sym}
use Rattle.masks.specs.declared.Bounds.{Bounds}
use Rattle.masks.proofs.Booleans.{refused, granted, decides-true, decides-false}
use Rattle.bounds.specs.Singles.{Picked}
use Rattle.bounds.specs.Sound.{In, into_of, out_of}
use Rattle.bounds.proofs.Steps.{in-into, in-out}
use Rattle.bounds.proofs.Halves.{room, half_out, half-into, out-whole, into-whole}
use Rattle.least.specs.declared.Look.{Look}
use Rattle.least.specs.declared.Look.TheVariants.{Whole, Less, Open}
use Rattle.least.specs.declared.rows.Row.{Row}
use Rattle.least.specs.Rows.{row_at, Unanswered, AnswersRow}
use Rattle.least.specs.Search.{Alone, Lowered, Asking, Halved, Looked}

-- What has nothing in common with itself is empty.
apart-self : (a b : ℕ) → Apart (bit_and a b) (bit_and a b) → Apart a b
apart-self a b f i = omega (arith, f i, bit-and a b i, bit-lt a i, bit-lt b i)

off_self : (a b : Pair) → Off (meet_of a b) (meet_of a b) → Off a b
unfolding meet_of
off_self a b f = record { held = apart-self _ _ f.held; denied = apart-self _ _ f.denied; taken = apart-self _ _ f.taken }

-- ---- one look
module _ {rs : List ℕ} {m : ℕ} (t : Pair) (x : Bounds) where
  whole-look : Alone rs m t x → Looked rs m t x Whole
  whole-look f = record {
    full = λ e. f;
    less = λ e. absurd (let z : ◌≡◌ {A = ℕ} 0 1 = cc in omega arith);
    halves = λ y h e. absurd (let z : ◌≡◌ {A = ℕ} 0 1 = cc in omega arith);
  }

  module _ (y : Bounds) (p : Lowered rs m x y) (w : Bool) (dw : Decides w (Sub y.lo y.hi)) where
    pub look-empty : not w ≡ true → Looked rs m t x Whole
    look-empty e = whole-look (record { all = λ c k i. absurd (let j = p.keeps.kept c k i in refused dw e (sub_trans j.lo j.hi)) })

    module _ (ew : not w ≡ false) (u : Bool) (du : Decides u (Sub t y.lo)) where
      pub look-full : u ≡ true → Looked rs m t x Whole
      look-full e = whole-look (record { all = λ c k i. sub_trans (du.yes e) (p.keeps.kept c k i).lo })

      module _ (eu : u ≡ false) (o : Option ℕ) (a : Asking rs m y.lo o) where
        -- The lower end answers every row, and has less than the whole.
        pub look-less : o ≡ None → Looked rs m t x Less
        look-less e = record {
          full = λ q. absurd (let z : ◌≡◌ {A = ℕ} 0 1 = cc in omega arith);
          less = λ q f. du.no eu (f.all y.lo (a.none e) (record { lo = p.lo; hi = sub_trans (granted dw ew) p.hi }));
          halves = λ y h q. absurd (let z : ◌≡◌ {A = ℕ} 0 1 = cc in omega arith);
        }

        module _ (k : ℕ) (ek : o ≡ Some k) (r : Row) (er : r ≡ row_at rs k) (s : Bool) (ds : Decides s (Off r.head y.hi)) where
          unanswered : Unanswered r y.lo
          unanswered = rw er (a.one k ek).1

          -- No head of the row is possible.
          pub look-end : s ≡ true → Looked rs m t x Whole
          look-end e = whole-look (record {
            all = λ c q i. absurd (let j = p.keeps.kept c q i in
                let n : AnswersRow r c = rw er (q.each k (a.one k ek).0) in
                n.answers (record { needed = sub_trans unanswered.needed j.lo; lacks = off-sub (sub_refl _) j.hi (ds.yes e) }));
          })

          pub look-open : (f h : Pair) → f ≡ meet_of r.head y.hi → s ≡ false → Picked f h → Looked rs m t x (Open y h)
          look-open f h ef es ph = record {
            full = λ q. absurd (let z : ◌≡◌ {A = ℕ} 0 1 = cc in omega arith);
            less = λ q. absurd (let z : ◌≡◌ {A = ℕ} 0 1 = cc in omega arith);
            halves = λ y' h' q. let ey : y ≡ y' = cc in let eh : h ≡ h' = cc in rw (← ey, ← eh)
                (record { narrow = p; ordered = granted dw ew; atom = ph.atom; some = ph.some; inside = sub-minus (sub_trans within (meet-r _ _)) (off-sub (sub_trans within (meet-l _ _)) (sub_refl _) unanswered.lacks) });
          }
            where
              met : Off (meet_of r.head y.hi) (meet_of r.head y.hi) → ⊥
              met o = ds.no es (off_self r.head y.hi o)

              within : Sub h (meet_of r.head y.hi)
              within = rw ef at (ph.inside (rw ef met))

-- ---- the search
module _ {rs : List ℕ} {m : ℕ} {t : Pair} {x : Bounds} {r : Look} (o : Looked rs m t x r) where
  pub alone-whole : r ≡ Whole → Decides true (Alone rs m t x)
  alone-whole e = decides-true (o.full e)

  pub alone-less : r ≡ Less → Decides false (Alone rs m t x)
  alone-less e = decides-false (o.less e)

  module _ (y : Bounds) (h : Pair) (e : r ≡ Open y h) where
    halved : Halved rs m x y h
    halved = o.halves y h e

    pub out-less : (p : Bounds) → p ≡ out_of y h → room p < room x
    out-less = half_out halved.narrow.lo halved.narrow.hi halved.ordered halved.some halved.inside

    pub into_less : (p : Bounds) → p ≡ into_of y h → room p < room x
    into_less = half-into halved.narrow.lo halved.narrow.hi halved.ordered halved.some halved.inside

    from_out : {c : Pair} → In (out_of y h) c → In x c
    from_out = out-whole h halved.narrow.lo halved.narrow.hi

    from-into : {c : Pair} → In (into_of y h) c → In x c
    from-into = into-whole h halved.narrow.lo halved.narrow.hi

    pub alone-out : (p : Bounds) (w : Bool) → p ≡ out_of y h → Decides w (Alone rs m t p) → not w ≡ true → Decides false (Alone rs m t x)
    alone-out p w ep d q = decides-false (λ f. refused d q (rw ep (record { all = λ c k i. f.all c k (from_out i) })))

    pub alone-into : (p p' : Bounds) (w w' : Bool) → p ≡ out_of y h → Decides w (Alone rs m t p) → not w ≡ false → p' ≡ into_of y h → Decides w' (Alone rs m t p') → Decides w' (Alone rs m t x)
    alone-into p p' w w' ep d q ep' d' = record {
      yes = λ v. record {
        all = λ c k i. let z = halved.narrow.keeps.kept c k i in
            ⊎_elim (λ g. (d'.yes v).all c k (rw ep' (in-into g z))) (λ g. (granted d q).all c k (rw ep (in-out (off-sym g) z))) (halved.atom c);
      };
      no = λ v f. d'.no v (rw ep' (record { all = λ c k i. f.all c k (from-into i) }));
    }
