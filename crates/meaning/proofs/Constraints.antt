-- A constraint added to a book leaves as views exactly those old views whose S does not satisfy its body.
-- It asks nothing of a closed set, wherever it stands among the plain rules.
use mathlib.Core.Path.{◌≡◌}
use mathlib.Core.Bool.{Bool, true, false, not}
use mathlib.Core.List.{List, [], ◌∷◌, ◌++◌}
use mathlib.Core.Logic.{◌↔◌}
use Rattle.logic.specs.Lists.{Every}
use Rattle.logic.specs.Tests.{cons_if}
use Rattle.sets.specs.declared.Pair.{Pair}
use Rattle.meaning.specs.Literals.{Conclusions}
use Rattle.meaning.specs.Rules.{Body, Rule, Satisfied}
use Rattle.meaning.specs.AnswerSets.{some_in, struck, reduct, Closed, Breaks, AnswerSet}
use Rattle.meaning.specs.Books.{Book, conclusions, applied}
use Rattle.meaning.specs.Views.{Answers, View}

-- The constraint with this body.
abbrev pub constraint : Body → Rule
constraint c = record { heads = []; body = c }

-- The book with these plain rules.
abbrev pub with_plain : Book → List Rule → Book
with_plain b rs = record { statements = b.statements; plain = rs; exceptions = b.exceptions; preferences = b.preferences; conditional = b.conditional }

-- ---- one rule more
closed-cons : (x : Bool) (r : Rule) (rs qs : List Rule) (t : Conclusions) → Closed rs t ↔ Closed qs t → Closed (cons_if x r rs) t ↔ Closed (cons_if x r qs) t
unfolding cons_if
closed-cons true r rs qs t f = (λ h. (h.0, f.0 h.1), λ h. (h.0, f.1 h.1))
closed-cons false r rs qs t f = f

closed-more : (c : Body) (x : Bool) (rs : List Rule) (t : Conclusions) → Closed rs t ↔ Closed (cons_if x (struck (constraint c)) rs) t
unfolding cons_if struck
closed-more c true rs t = (λ h. (λ n. tt, h), λ h. h.1)
closed-more c false rs t = (λ h. h, λ h. h)

closed-among : (c : Body) (xs ys : List Rule) (s t : Conclusions) → Closed (reduct s (xs ++ ys)) t ↔ Closed (reduct s (xs ++ (constraint c ∷ ys))) t
unfolding reduct
closed-among c [] ys s t = closed-more c (not (some_in s c.barred)) (reduct s ys) t
closed-among c (x ∷ xs) ys s t =
    closed-cons (not (some_in s x.body.barred)) (struck x) (reduct s (xs ++ ys)) (reduct s (xs ++ (constraint c ∷ ys))) t (closed-among c xs ys s t)

every-among : {A : Type 0} (P : A → Type 0) (a : A) (xs ys : List A) → Every P (xs ++ (a ∷ ys)) ↔ (P a × Every P (xs ++ ys))
every-among P a [] ys = (λ h. h, λ h. h)
every-among P a (x ∷ xs) ys = let ih = every-among P a xs ys in (λ h. let k = ih.0 h.1 in (k.0, (h.0, k.1)), λ h. (h.1.0, ih.1 (h.0, h.1.1)))

-- ---- answer sets
pub answer-more : (c : Body) (xs ys : List Rule) (s : Conclusions) → AnswerSet (xs ++ (constraint c ∷ ys)) s ↔ (AnswerSet (xs ++ ys) s × (Satisfied s c → ⊥))
answer-more c xs ys s =
    let k : (t : Conclusions) → Closed (reduct s (xs ++ ys)) t ↔ Closed (reduct s (xs ++ (constraint c ∷ ys))) t = closed-among c xs ys s in
    let u = every-among (λ r. Breaks s r.body r.heads → ⊥) (constraint c) xs ys in (
      λ a. (
        record { consistent = a.consistent; minimal = record { closed = (k s).1 a.minimal.closed; minimal = λ t q. a.minimal.minimal t ((k t).0 q) }; unbroken = (u.0 a.unbroken).1 },
        (u.0 a.unbroken).0,
      ),
      λ h. let a = h.0 in
          record { consistent = a.consistent; minimal = record { closed = (k s).0 a.minimal.closed; minimal = λ t q. a.minimal.minimal t ((k t).1 q) }; unbroken = u.1 (h.1, a.unbroken) },
    )

append_assoc : (xs ys zs : List Rule) → (xs ++ ys) ++ zs ≡ xs ++ (ys ++ zs)
append_assoc [] ys zs = mathlib.Core.Path.refl
append_assoc (x ∷ xs) ys zs = rw (append_assoc xs ys zs)

-- ---- views
module _ (b : Book) (xs ys : List Rule) (c : Body) (p : Pair) where
  abbrev old : Book
  old = with_plain b (xs ++ ys)

  abbrev new : Book
  new = with_plain b (xs ++ (constraint c ∷ ys))

  answers-more : Answers new p ↔ (Answers old p × (Satisfied (conclusions p) c → ⊥))
  answers-more = let k = answer-more c xs (ys ++ applied b p) (conclusions p) in (
    λ a. let h = k.0 (rw (append_assoc xs (constraint c ∷ ys) (applied b p)) at a) in (rw (append_assoc xs ys (applied b p)) h.0, h.1),
    λ h. rw (append_assoc xs (constraint c ∷ ys) (applied b p)) (k.1 (rw (append_assoc xs ys (applied b p)) at h.0, h.1)),
  )

  pub constraint-added : View new p ↔ (View old p × (Satisfied (conclusions p) c → ⊥))
  constraint-added = (
    λ v. let a = answers-more.0 v.answers in let l = v.lawful in
        (record { lawful = record { exceptions = l.exceptions; held = l.held; denied = l.denied; apart = l.apart }; answers = a.0; unranked = v.unranked; bodies = v.bodies }, a.1),
    λ h. let v = h.0 in let l = v.lawful in
        record { lawful = record { exceptions = l.exceptions; held = l.held; denied = l.denied; apart = l.apart }; answers = answers-more.1 (v.answers, h.1); unranked = v.unranked; bodies = v.bodies },
  )
