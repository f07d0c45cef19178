-- What a look for a view that stands answers: by bounds of which nothing is left, by what is remembered, by a search that may stop, and by one from shaved bounds.
use Rattle.std.proofs.Common.{◌≡◌, ℕ, Bool, true, false, List, Option, None, Some, le_refl}
use Rattle.sets.specs.declared.Pair.{Pair}
use Rattle.masks.specs.declared.Bounds.{Bounds}
use Rattle.masks.specs.Views.{MaskView}
use Rattle.bounds.specs.Sound.{In, Propagated, with_sets}
use Rattle.bounds.proofs.Ranges.{in-sets, in-root, one_set}
use Rattle.queue.specs.declared.Rest.{Rest}
use Rattle.admissible.specs.Admissible.{Stands}
use Rattle.probe.specs.declared.Outcome.{Outcome}
use Rattle.probe.specs.declared.Outcome.TheVariants.{Has, Lacks}
use Rattle.ranges.specs.Ranges.{NoView}
use Rattle.standing.specs.declared.memory.Memory.{Memory}
use Rattle.standing.specs.Standing.{Right, StandingIn, AttemptedIn}
use Rattle.one_set.specs.Plans.{MarksRight, NoneStands, Looked}
use Rattle.one_set.proofs.Plans.{marks-same, in_bounds, propagated-in}

module _ (ws : List ℕ) (n : ℕ) (ranks : List ℕ) (root : Bounds) (t : ℕ) (m : List ℕ) (w : Memory) where
  -- Nothing was seen.
  looked-none : (m' : List ℕ) (w' : Memory) → MarksRight ws n ranks root m m' → (Right ws n ranks root w → Right ws n ranks root w') → (Right ws n ranks root w → NoneStands ws n ranks root t)
      → Looked ws n ranks root t m m' w w' None
  looked-none m' w' k f g = record { marks = k; memory = f; none = λ q d. g q; some = λ c q d. cc; bounds = λ c d. cc }

  -- No view has the set.
  pub looked-viewless : (m' : List ℕ) → NoView ws n ranks root t t → MarksRight ws n ranks root m m' → Looked ws n ranks root t m m' w w None
  looked-viewless m' f k =
      looked-none m' w k (λ q. q) (λ q. record { none = λ v x i d s. f.none v x (in-sets root t t v i (λ j. rw d (le_refl _)) (λ j. rw d (le_refl _))) })

  -- None within bounds stands that have every view with the set.
  module _ (o : Bounds) (p : Propagated ws n ranks (with_sets root t t) o) where
    none_has : ((v : Pair) → MaskView ws n ranks v → In o v → Stands ws n ranks root v → ⊥) → NoneStands ws n ranks root t
    none_has f = record { none = λ v x i d s. f v x (in_bounds ws n ranks root t o p v x i d) s }

    -- Remembered views dominate all of them.
    pub looked-barred : (z : Bool) → (Right ws n ranks root w → z ≡ true → (v : Pair) → MaskView ws n ranks v → In o v → Stands ws n ranks root v → ⊥) → z ≡ true
        → Looked ws n ranks root t m m w w None
    looked-barred z f ez = looked-none m w (marks-same ws n ranks root m) (λ q. q) (λ q. none_has (f q ez))

    module _ (w' : Memory) (a : Outcome) (f : Right ws n ranks root w → Right ws n ranks root w' × AttemptedIn ws n ranks root o a) where
      pub looked-lacks : (left : ℕ) → a ≡ Lacks left → Looked ws n ranks root t m m w w' None
      looked-lacks left ea = looked-none m w' (marks-same ws n ranks root m) (λ q. (f q).0) (λ q. none_has ((f q).1.none left ea))

      -- The search stopped, and another look was taken.
      pub looked-again : (m' : List ℕ) (w'' : Memory) (r : Option Rest) → Looked ws n ranks root t m m' w' w'' r → Looked ws n ranks root t m m' w w'' r
      looked-again m' w'' r l = record { marks = l.marks; memory = λ q. l.memory (f q).0; none = λ q. l.none (f q).0; some = λ c q. l.some c (f q).0; bounds = l.bounds }

    module _ (w' : Memory) (z : Bool) (f : Right ws n ranks root w → Right ws n ranks root w' × StandingIn ws n ranks root o z) where
      pub looked-fallen : z ≡ false → Looked ws n ranks root t m m w w' None
      looked-fallen ez = looked-none m w' (marks-same ws n ranks root m) (λ q. (f q).0) (λ q. none_has ((f q).1.none ez))

  -- One was seen, within bounds o that are no wider than those at rest.
  module _ (r : Rest) (p : Propagated ws n ranks (with_sets root t t) r.bounds) (w' : Memory) where
    looked-some : (Right ws n ranks root w → Right ws n ranks root w') → (Right ws n ranks root w → (v : Pair) × MaskView ws n ranks v × In r.bounds v) → Looked ws n ranks root t m m w w' (Some r)
    looked-some f g = record {
      marks = marks-same ws n ranks root m;
      memory = f;
      none = λ q d. cc;
      some = λ c q d. let v = g q in let i = propagated-in ws n ranks (with_sets root t t) r.bounds p v.0 v.2 in
          record { some = (v.0, v.1, in-root root t t v.0 i, one_set root t v.0 i) };
      bounds = λ c d. let e : r ≡ c = cc in rw e at p;
    }

    pub looked-has : (a : Outcome) → (Right ws n ranks root w → Right ws n ranks root w' × AttemptedIn ws n ranks root r.bounds a) → (v : Pair) → a ≡ Has v → Looked ws n ranks root t m m w w' (Some r)
    looked-has a f v ea = looked-some (λ q. (f q).0) (λ q. let k = (f q).1.found v ea in (v, k.0, k.1))

    pub looked-found : (o : Bounds) → Propagated ws n ranks r.bounds o → (z : Bool) → (Right ws n ranks root w → Right ws n ranks root w' × StandingIn ws n ranks root o z) → z ≡ true
        → Looked ws n ranks root t m m w w' (Some r)
    looked-found o g z f ez = looked-some (λ q. (f q).0) (λ q. let k = (f q).1.found ez in (k.0, k.1, propagated-in ws n ranks r.bounds o g k.0 k.2))
