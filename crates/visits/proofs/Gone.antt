-- Going on from a name: the two ways, one step and a whole listing.
use mathlib.Core.Path.{◌≡◌, refl, sym, ap, ◌∙◌}
use mathlib.Core.Option.{some}
use mathlib.Core.List.{List}
use Prim.Native.Nat.{ℕ}
use Rattle.sets.specs.declared.Pair.{Pair}
use Rattle.text.specs.declared.Refusal.{Refusal}
use Rattle.meaning.specs.Order.{at}
use Rattle.meaning.specs.Listings.{refused, FirstLater}
use Rattle.answers.specs.Means.{Means}
use Rattle.answers.proofs.Means.{after-means}
use Rattle.std.specs.Prelude.{Result, Ok, Err, Option as Maybe, Some}
use Rattle.answers.specs.Operations.{Told, answer_of, after_answer}
use Rattle.answers.specs.Operations.Told.{told, turned}
use Rattle.calls.specs.declared.Handed.{Handed}
use Rattle.calls.specs.Calls.{as_point, Runs}
use Rattle.points.specs.Stores.{go_told, store_of, went_is}
use Rattle.points.specs.Calls.{Note, last_set, LeftBy}
use Rattle.visits.specs.GoingOn.{on_gone, go_on_answer, ListsOn}
use Rattle.points.proofs.Memory.{last_set_lem}

unfoldable pair_or : Pair → Told Pair → Pair
pair_or d (told p) = p
pair_or d (turned q line) = d

-- What Go was told, by what it answers.
is-told : (p : Pair) (t : Told Pair) → ◌≡◌ {A = Result Pair Refusal} (Ok p) (went_is t) → t ≡ told p
unfolding went_is
is-told p (told q) e = let f : q ≡ p = cc in ap told f
is-told p (turned q line) e = absurd (cc)

is_turned : (q : Refusal) (t : Told Pair) → ◌≡◌ {A = Result Pair Refusal} (Err q) (went_is t) → t ≡ turned q.number q.line
unfolding went_is
is_turned q (told p) e = absurd (cc)
is_turned q (turned k line) e =
    let r : q ≡ record { number = k; line = line } = cc in
    λ i. turned (sym r i).number (sym r i).line

turned-told : (q : Refusal) (p : Pair) (t : Told Pair) → ◌≡◌ {A = Result Pair Refusal} (Err q) (went_is t) → t ≡ told p → ⊥
unfolding went_is
turned-told q p t e d = let f = rw d at e in cc

module _ (text store name : List ℕ) (w : Result Pair Refusal) (e : w ≡ went_is (go_told (store_of store) name)) where
  -- ---- one step
  pub gone_at : (p : Pair) (r : Result (Maybe Pair) Refusal) → w ≡ Ok p → answer_of r ≡ after_answer text p → answer_of r ≡ go_on_answer text store name
  unfolding go_on_answer on_gone
  gone_at p r d f = rw (is-told p (go_told (store_of store) name) (sym d ∙ e)) f

  pub gone-not : (q : Refusal) → w ≡ Err q → answer_of (Err q) ≡ go_on_answer text store name
  unfolding go_on_answer on_gone answer_of
  gone-not q d = rw (is_turned q (go_told (store_of store) name) (sym d ∙ e))

  -- ---- a listing
  module _ (ns ans ans' out out' : List ℕ) where
    pub listed_at : (p : Pair) (r : Result Handed Refusal) → w ≡ Ok p → Runs text ns (as_point (Some p)) ans ans' out out' r → ListsOn text store name ns ans ans' out out' r
    unfolding as_point pair_or
    listed_at p r d f = record {
      listed = rw (is-told p (go_told (store_of store) name) (sym d ∙ e)) f;
      from_last_set = λ h l q z. rw (same-pair h l q z) f;
    }
      where
        same-pair : (h : List Note) → LeftBy h store → (q : Pair) → last_set name h ≡ some q → q ≡ p
        same-pair h l q z = ap (pair_or p) (sym (last_set_lem h store name q l z) ∙ is-told p (go_told (store_of store) name) (sym d ∙ e))

  module _ (ns ans out : List ℕ) where
    pub listed-not : (q : Refusal) → w ≡ Err q → ListsOn text store name ns ans ans out out (Err q)
    listed-not q d = record {
      listed = rw (is_turned q (go_told (store_of store) name) (sym d ∙ e)) (record { refusal = refl; answers = refl; pairs = refl });
      from_last_set = λ h l p z. absurd (turned-told q p (go_told (store_of store) name) (sym d ∙ e) (last_set_lem h store name p l z));
    }

-- Going on from the pair last set under a name: the text's refusal, or 12 to 14 where the pair is not lawful in the book, or the first resolution that
-- follows it, or the End.
pub goes_on : (h : List Note) (text store n : List ℕ) (p : Pair) → LeftBy h store → last_set n h ≡ some p → Means refused FirstLater text (at p) (go_on_answer text store n)
unfolding go_on_answer on_gone
goes_on h text store n p l e = rw (last_set_lem h store n p l e) ((after-means text p (after_answer text p)).0 refl)
