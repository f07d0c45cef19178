-- Words that P lines step through are the words of the preferences.
-- By induction on a chain of P lines: its first line gives a member, and the sets are closed under the steps that follow.
use mathlib.Core.Path.{◌≡◌, refl, sym}
use mathlib.Core.List.{List}
use Prim.Native.Nat.{ℕ, suc, ◌-◌, ◌<◌, ◌≤◌}
use native.Mathlib.Omega.{arith}
use lib.ListN.{length, get_or}
use Rattle.logic.specs.Lists.{Among}
use Rattle.sets.specs.Sets.{bit_of}
use Rattle.meaning.specs.Preferences.{Outranks, step, chain}
use Rattle.meaning.specs.Books.{Book}
use Rattle.bridge.specs.Ranks.{Named, LinesNamed, RanksOf, Stepped}
use Rattle.bridge.proofs.Levels.{ends_named, placed}

module _ (b : Book) (ranks : List ℕ) (m : ℕ) (n : Named b) (q : LinesNamed b) (l : length ranks ≤ m) (s : Stepped b ranks m) where
  reach : {x y : ℕ} → Outranks b.preferences x y → (a c : ℕ) → x ≡ suc a → y ≡ suc c → bit_of (get_or ranks a 0) c ≡ 1
  reach (step w) a c e f =
      let i = (ends_named b n (step w)).0.most in let o = s.each in
      s.lines a c (omega arith) (rw (e, f) at w)
  reach (chain {c = z} v r) a c e f =
      let i = (ends_named b n (chain v r)).0.most in let j = (ends_named b n r).0 in let o = s.each in
      let g : z ≡ suc (z - 1) = sym (placed z j.from_one) in
      let w : Among (suc a, suc (z - 1)) b.preferences = rw (sym e, sym g) v in
      let h : a < length ranks = omega arith in
      let k : z - 1 < length ranks = let p = j.most in let q = j.from_one in omega arith in
      s.steps a (z - 1) c h (omega arith) (s.lines a (z - 1) h w) (reach r (z - 1) c g f)

  pub ranks-stepped : RanksOf b ranks
  ranks-stepped = record { each = s.each; named = n; lines_named = q; outranked = λ a c h. (s.chains a c h, λ r. reach r a c refl refl) }
