-- Why each turn of propagation keeps every view: a conclusion's support by the rules that can give it, and a rule whose body surely fails.
use mathlib.Core.Path.{◌≡◌, refl, sym, ◌∙◌}
use mathlib.Core.Bool.{Bool, true, false}
use mathlib.Core.List.{List}
use mathlib.Core.Logic.{⊎_elim}
use Prim.Native.Nat.{ℕ, zero, suc, ◌<◌}
use native.Mathlib.Omega.{arith}
use Rattle.logic.specs.Tests.{Decides}
use Rattle.sets.specs.declared.Pair.{Pair}
use Rattle.sets.specs.Pairs.{Sub, Off, join_of, minus_of}
use Rattle.sets.proofs.Digits.{bit-lt, bit-or, bit-without}
use Rattle.sets.proofs.Pairs.{sub_trans, sub_refl, off-sym, off-sub}
use Rattle.masks.specs.declared.Masks.{Masks}
use Rattle.masks.specs.declared.Bounds.{Bounds}
use Rattle.masks.specs.Views.{masks_at, Fires, Meets}
use Rattle.masks.proofs.Facts.{unsupported, only-support}
use Rattle.bounds.specs.Singles.{one_of}
use Rattle.bounds.specs.Sound.{In, Keeps, into_of, out_of, Idle, Ruled}
use Rattle.bounds.proofs.Singles.{one-atom, one-some}
use Rattle.bounds.proofs.Steps.{keeps_same, in-into, in-out, can}
use Rattle.queue.specs.declared.heads.Givers.{Givers}
use Rattle.queue.specs.declared.heads.Givers.TheVariants.{Nobody, One}
use Rattle.queue.specs.Chains.{Seen, FiringFor}
use Rattle.queue.proofs.Chains.{nobody-one, nobody-several, one-several, same-one}

-- A conclusion is no exception.
conclusion : (s i : ℕ) → s < 2 → (one_of s i).taken ≡ 0
unfolding one_of
conclusion zero i h = refl
conclusion (suc zero) i h = refl
conclusion (suc (suc s)) i h = absurd (omega arith)

-- What is apart from m and from the rest of v is apart from v; heads apart from the rest of v are, without m, apart from v.
off-both : (a m v : Pair) → Off a m → Off a (minus_of v m) → Off a v
unfolding minus_of
off-both a m v f g = record {
  held = λ i. omega (arith, bit-without v.held m.held i, f.held i, g.held i, bit-lt a.held i, bit-lt v.held i, bit-lt m.held i);
  denied = λ i. omega (arith, bit-without v.denied m.denied i, f.denied i, g.denied i, bit-lt a.denied i, bit-lt v.denied i, bit-lt m.denied i);
  taken = λ i. omega (arith, bit-without v.taken m.taken i, f.taken i, g.taken i, bit-lt a.taken i, bit-lt v.taken i, bit-lt m.taken i);
}

off_rest : (a m v : Pair) → Off a (minus_of v m) → Off (minus_of a m) v
unfolding minus_of
off_rest a m v g = record {
  held = λ i. omega (arith, bit-without v.held m.held i, bit-without a.held m.held i, g.held i, bit-lt a.held i, bit-lt v.held i, bit-lt m.held i);
  denied = λ i. omega (arith, bit-without v.denied m.denied i, bit-without a.denied m.denied i, g.denied i, bit-lt a.denied i, bit-lt v.denied i, bit-lt m.denied i);
  taken = λ i. omega (arith, bit-without v.taken m.taken i, bit-without a.taken m.taken i, g.taken i, bit-lt a.taken i, bit-lt v.taken i, bit-lt m.taken i);
}

off-join : (a c v : Pair) → Off a v → Off c v → Off (join_of a c) v
unfolding join_of
off-join a c v f g = record {
  held = λ i. omega (arith, bit-or a.held c.held i, f.held i, g.held i);
  denied = λ i. omega (arith, bit-or a.denied c.denied i, f.denied i, g.denied i);
  taken = λ i. omega (arith, bit-or a.taken c.taken i, f.taken i, g.taken i);
}

module _ (ws : List ℕ) (n s i : ℕ) (hs : s < 2) (b : Bounds) (g : Givers) (d : Seen ws n n (one_of s i) b g) where
  -- A rule that has not the conclusion in its head, or has another head that is sure, has another head that the view has.
  other-head : {v : Pair} → Ruled ws n v → In b v → (k : ℕ) → k < n → Fires (masks_at ws k) v v
      → (Sub (one_of s i) (masks_at ws k).head → Off (minus_of (masks_at ws k).head (one_of s i)) b.lo → ⊥) → Off (masks_at ws k).head (minus_of v (one_of s i)) → ⊥
  other-head {v} w x k h f lacks o =
      ⊎_elim (λ y. lacks y (off-sub (sub_refl _) x.lo (off_rest (masks_at ws k).head (one_of s i) v o)))
      (λ y. (w.rules k h).closed f (off-both (masks_at ws k).head (one_of s i) v (off-sym y) o))
      (one-atom s i (masks_at ws k).head)

  -- No rule can give it.
  pub support-none : (m : Pair) (o : Bounds) → g ≡ Nobody → m ≡ one_of s i → o ≡ out_of b m → Keeps (Ruled ws n) b o
  support-none m o e em eo =
      rw (eo, em) (record {
        kept = λ v w x. in-out (unsupported w (one_of s i) (conclusion s i hs)
            (λ k h f. other-head w x k h f (λ y u. ⊎_elim (λ z. nobody-one (sym e ∙ z)) (λ z. nobody-several (sym e ∙ z)) (d.only k h h (can x f) y u)))) x;
      })

  -- One rule alone can give it: a view that has it satisfies that rule's body and has none of its other heads.
  pub support-one : (j : ℕ) (m : Pair) (r : Masks) (o : Bounds) → g ≡ One j → m ≡ one_of s i → r ≡ masks_at ws j → Keeps (FiringFor r m) b o → Keeps (Ruled ws n) b o
  support-one j m r o e em er f = record {
    kept = λ v w x.
        let two : Sub (one_of s i) v → Fires (masks_at ws j) v v × Off (masks_at ws j).head (minus_of v (one_of s i)) =
        λ has. only-support w (one_of s i) j (conclusion s i hs) (λ y. one-some s i (off-sub has (sub_refl _) y))
        (λ k h n2 y. other-head w x k h y (λ u q. ⊎_elim (λ z. n2 (same-one (sym e ∙ z))) (λ z. one-several (sym e ∙ z)) (d.only k h h (can x y) u q))) in
        f.kept v (rw (er, em) (record { firing = λ has. record { meets = w.rules j (d.rule j e); fires = (two has).0 }; beside = λ has. (two has).1 })) x;
  }

-- A conclusion that is sure is in every pair within the bounds.
pub sole-fires : (r : Masks) (m x y : Pair) (b o p : Bounds) (z : Bool) → Decides z (Sub m b.lo) → z ≡ true → x ≡ minus_of r.head m → y ≡ join_of r.bar x → o ≡ out_of b y → p ≡ into_of o r.need
    → Keeps (FiringFor r m) b p
sole-fires r m x y b o p z d e ex ey eo ep =
    rw (ep, eo, ey, ex) (record {
      kept = λ v k i. let h = sub_trans (d.yes e) i.lo in
          in-into (k.firing h).fires.needed (in-out (off-sym (off-join r.bar (minus_of r.head m) v (k.firing h).fires.unbarred (off_rest r.head m v (k.beside h)))) i);
    })

-- A rule that cannot fire within the bounds is not satisfied by any view within them.
pub failing : (r : Masks) (b o : Bounds) (w : Bool) → Decides w (Fires r b.lo b.hi) → w ≡ false → Keeps (Idle r) b o → Keeps (Meets r) b o
failing r b o w d e g = record { kept = λ v k x. g.kept v (record { meets = k; fails = λ f. d.no e (can x f) }) x }

-- Only what is asked for has changed; or the bounds too, as a conclusion's support has it.
pub asking-same : (ws : List ℕ) (n : ℕ) (b c : Bounds) → c ≡ b → Keeps (Ruled ws n) b c
asking-same ws n b c e = rw e (keeps_same b)

pub asking-kept : (ws : List ℕ) (n : ℕ) (b o c : Bounds) → Keeps (Ruled ws n) b o → c ≡ o → Keeps (Ruled ws n) b c
asking-kept ws n b o c f e = rw e f
