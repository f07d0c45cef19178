-- Each case of an answer, as C has it; and the way back, which loses nothing, since no refusal has number 0.
use mathlib.Core.Path.{◌≡◌, refl, ap, ◌∙◌}
use mathlib.Core.Bool.{Bool, true, false}
use mathlib.Core.Option.{Option, some, none}
use mathlib.Core.List.{List, [], ◌∷◌, map}
use Prim.Native.Nat.{ℕ, ◌<◌}
use native.Mathlib.Omega.{arith}
use lib.Dec.{eqb}
use lib.ListN.{length}
use borrow.Author.Tests.{ne_eqb}
use Rattle.logic.specs.Tests.{pick}
use Rattle.sets.specs.declared.Pair.{Pair}
use Rattle.text.specs.declared.Refusal.{Refusal}
use Rattle.std.specs.Prelude.{Result, Ok, Err, ⊤, Option as Maybe, Some}
use Rattle.answers.specs.Operations.{Told, told, turned, answer_of}
use Rattle.answers.specs.Means.{Means, Judges}
use Rattle.answers.proofs.Refused.{means-numbered}
use Rattle.meaning.specs.Books.{Book}
use Rattle.meaning.specs.Order.{Point, start, at}
use Rattle.meaning.specs.Listings.{Answer, found, end, refused, FirstLater}
use Rattle.entry.specs.Names.{is_name}
use Rattle.points.specs.Points.{Entry, OfStore, Goes, leaves}
use Rattle.points.specs.Stores.{Contents, holds, nothing, store_of, lookup, set_in, drop_in, if_there, on_store, go_told, set_told, drop_told, went_is, went_told, kept_is, Met, Meant}
use Rattle.points.specs.Calls.{PointCall, set_point, go_to, drop_point, given, point_answer, left_by, point_answers}
use Rattle.points.proofs.Means.{told_back}
use Rattle.across.specs.declared.Done.{Done}
use Rattle.across.specs.declared.PairAnswer.{PairAnswer}
use Rattle.across.specs.declared.VerdictAnswer.{VerdictAnswer}
use Rattle.across.specs.Across.{verdict_in, answer_in, done_of, gone_of, verdict_from, answer_from, gone_from, PointStruct, done, gone, struct_to, point_from, StoreBack}

-- Of Go: what First and After would answer.
pub gone-is : (w : Result Pair Refusal) (f : Result (Maybe Pair) Refusal) (r : PairAnswer) → ((p : Pair) → w ≡ Ok p → f ≡ Ok (Some p)) → ((q : Refusal) → w ≡ Err q → f ≡ Err q) → r ≡ answer_in (answer_of f) → r ≡ gone_of w
unfolding gone_of answer_of
gone-is (Ok p) f r g h e = rw (g p refl) at e
gone-is (Err q) f r g h e = rw (h q refl) at e

-- ---- the way back
-- An answer that is a pair, End, or a refusal whose number is not 0.
abbrev Numbered : Answer → Type 0
Numbered (found p) = Unit {0}
Numbered end = Unit {0}
Numbered (refused q l) = 0 < q

answer_back : (x : Answer) → Numbered x → answer_from (answer_in x) ≡ x
unfolding answer_from answer_in pick
answer_back (found p) n = refl
answer_back end n = refl
answer_back (refused q l) n = rw (ne_eqb q 0 (λ e. omega arith)) refl

abbrev NumberedTold : Told ℕ → Type 0
NumberedTold (told k) = Unit {0}
NumberedTold (turned q l) = 0 < q

verdict-back : (x : Told ℕ) → NumberedTold x → verdict_from (verdict_in x) ≡ x
unfolding verdict_from verdict_in pick
verdict-back (told k) n = refl
verdict-back (turned q l) n = rw (ne_eqb q 0 (λ e. omega arith)) refl

-- What First and After answer can be read off the struct.
module _ (bs : List ℕ) (from : Point) (x : Answer) (m : Means refused FirstLater bs from x) where
  pub answer-same : answer_from (answer_in x) ≡ x
  answer-same = answer_back x (means-numbered refused FirstLater Numbered (λ q l h. h) right bs from x m)
    where
      right : (b : Book) (at' : Point) (y : Answer) → FirstLater b at' y → Numbered y
      right b at' (found p) f = tt
      right b at' end f = tt
      right b at' (refused q l) f = absurd f

  -- A struct that holds the answer, with what is read off it.
  pub answer-across : (r : PairAnswer) → r ≡ answer_in x → (r ≡ answer_in x) × Means refused FirstLater bs from (answer_from r)
  answer-across r e = (e, rw (e, answer-same) m)

-- And what Judge answers.
module _ (bs : List ℕ) (from : Point) (x : Told ℕ) (m : Means turned Judges bs from x) where
  pub verdict-across : (r : VerdictAnswer) → r ≡ verdict_in x → (r ≡ verdict_in x) × Means turned Judges bs from (verdict_from r)
  verdict-across r e = (e, rw (e, verdict-back x (means-numbered turned Judges NumberedTold (λ q l h. h) right bs from x m)) m)
    where
      right : (b : Book) (at' : Point) (y : Told ℕ) → Judges b at' y → NumberedTold y
      right b at' (told k) f = tt
      right b start (turned q l) f = absurd f
      right b (at p) (turned q l) f = absurd f

-- ---- a store
-- No refusal of Set, Go or Drop has number 0.
abbrev NumberedOf : {A : Type 0} → Told A → Type 0
NumberedOf (told x) = Unit {0}
NumberedOf (turned q l) = 0 < q

numbered-on : {A : Type 0} (h : Contents) (n : List ℕ) (g : List Entry → Told A) → ((es : List Entry) → NumberedOf (g es)) → NumberedOf (on_store h n g)
unfolding on_store pick
numbered-on nothing n g f = omega arith
numbered-on (holds es) n g f = by (is_name n)
  where
    by : (t : Bool) → NumberedOf (pick t (g es) (turned 25 0))
    by true = f es
    by false = omega arith

numbered-there : {A : Type 0} (m : Option Pair) (f : Pair → Told A) (x : Told A) → ((p : Pair) → NumberedOf (f p)) → NumberedOf x → NumberedOf (if_there m f x)
unfolding if_there
numbered-there (some p) f x h k = h p
numbered-there none f x h k = k

numbered-pick : {A : Type 0} (t : Bool) (x y : Told A) → NumberedOf x → NumberedOf y → NumberedOf (pick t x y)
unfolding pick
numbered-pick true x y h k = h
numbered-pick false x y h k = k

go-numbered : (h : Contents) (n : List ℕ) → NumberedOf (go_told h n)
unfolding go_told
go-numbered h n = numbered-on h n _ (λ es. numbered-there (lookup es n) told (turned 25 0) (λ p. tt) (omega arith))

set-numbered : (h : Contents) (n : List ℕ) (p : Pair) → NumberedOf (set_told h n p)
unfolding set_told
set-numbered h n p =
    numbered-on h n _ (λ es. numbered-there (lookup es n) (λ q. told (set_in es n p)) (pick (eqb (length es) 32) (turned 26 0) (told (set_in es n p))) (λ q. tt) (numbered-pick (eqb (length es) 32) (turned 26 0) (told (set_in es n p)) (omega arith) tt))

drop-numbered : (h : Contents) (n : List ℕ) → NumberedOf (drop_told h n)
unfolding drop_told
drop-numbered h n = numbered-on h n _ (λ es. numbered-there (lookup es n) (λ q. told (drop_in es n)) (turned 25 0) (λ q. tt) (omega arith))

gone-back : (t : Told Pair) → NumberedOf t → gone_from (gone_of (went_is t)) ≡ t
unfolding gone_from gone_of went_is answer_in pick
gone-back (told p) n = refl
gone-back (turned q l) n = rw (ne_eqb q 0 (λ e. omega arith)) refl

done-back : (t : Told (List Entry)) → NumberedOf t → point_from (done (done_of (kept_is t))) ≡ given (λ (es : List Entry). none) t
unfolding point_from done_of kept_is given pick
done-back (told es) n = refl
done-back (turned q l) n = rw (ne_eqb q 0 (λ e. omega arith)) refl

pair-given : (r : PairAnswer) → point_from (gone r) ≡ given some (gone_from r)
unfolding point_from
pair-given r = refl

-- What is read off the struct of a call is what it answered.
pub struct_back : (bs : List ℕ) (c : PointCall) → point_from (struct_to bs c) ≡ point_answer bs c
unfolding struct_to point_answer
struct_back bs (set_point n p) = done-back (set_told (store_of bs) n p) (set-numbered (store_of bs) n p)
struct_back bs (go_to n) = gone-given
  where
    gone-given : point_from (gone (gone_of (went_is (go_told (store_of bs) n)))) ≡ given some (go_told (store_of bs) n)
    gone-given = pair-given (gone_of (went_is (go_told (store_of bs) n))) ∙ ap (given some) (gone-back (go_told (store_of bs) n) (go-numbered (store_of bs) n))
struct_back bs (drop_point n) = done-back (drop_told (store_of bs) n) (drop-numbered (store_of bs) n)

-- And of a whole list of calls.
pub all_back : (cs : List PointCall) (bs : List ℕ) (rs : List PointStruct) → StoreBack bs cs rs → map point_from rs ≡ point_answers bs cs
unfolding point_answers
all_back [] bs [] h = refl
all_back [] bs (r ∷ rs) h = absurd h
all_back (c ∷ cs) bs [] h = absurd h
all_back (c ∷ cs) bs (r ∷ rs) h = rw (h.0, struct_back bs c, all_back cs (left_by bs c) rs h.1) refl

-- What Go answers, as a struct, and what is read off it; and what Set and Drop do.
pub gone-across : (bs n : List ℕ) (w : Result Pair Refusal) (r : PairAnswer) → r ≡ gone_of w → w ≡ went_is (go_told (store_of bs) n) → OfStore (Goes n) bs n (went_told w)
    → (r ≡ gone_of (went_is (go_told (store_of bs) n))) × OfStore (Goes n) bs n (gone_from r)
gone-across bs n w r e d m =
    let t = go_told (store_of bs) n in
    let f = e ∙ ap gone_of d in
    (f, rw (f, gone-back t (go-numbered (store_of bs) n)) (rw (d, told_back t) at m))

pub done-across : (bs n : List ℕ) (right : List Entry → Told (List Entry) → Type 0) (t : Told (List Entry)) (k : Result ⊤ Refusal) (bs' : List ℕ) (r : Done) → r ≡ done_of k → Met bs t k bs' → Meant kept_is right bs n k bs'
    → (r ≡ done_of (kept_is t)) × ((bs' ≡ leaves bs t) × Meant (λ (x : Told (List Entry)). done_of (kept_is x)) right bs n r bs')
done-across bs n right t k bs' r e m a = (e ∙ ap done_of m.answer, (m.store, record { gives = a.gives; means = a.means; answer = e ∙ ap done_of a.answer; store = a.store }))

-- A pair that Go gives is read off the struct as First's and After's are.
pub gone-found : (t : Told Pair) (p : Pair) → t ≡ told p → answer_from (gone_of (went_is t)) ≡ found p
unfolding answer_from gone_of went_is answer_in pick
gone-found t p e = rw e refl
