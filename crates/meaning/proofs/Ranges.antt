-- In a book whose heads name statements 1 to n, every answer set is within 1 to n: a view asks no more of S than the published definition.
use mathlib.Core.Path.{◌≡◌, refl, sym, ap, ◌∙◌}
use mathlib.Core.Bool.{Bool, true, false, not}
use mathlib.Core.List.{List, [], ◌∷◌, ◌++◌}
use mathlib.Core.Logic.{◌⊎◌, inl, inr, ⊎_elim, ◌↔◌}
use Prim.Native.Nat.{ℕ, zero, suc, ◌+◌, ◌-◌, ◌*◌, ◌%◌, ◌^◌, ◌<◌, ◌≤◌}
use native.Mathlib.Nat.{mod-lt}
use native.Mathlib.Omega.{arith}
use lib.Dec.{eqb}
use lib.IntN.{ℤ, negsuc, nat_abs}
use lib.IntN as Z
use lib.ListN.{length}
use lib.Pow.{pow_pos}
use Rattle.logic.specs.Lists.{Among, Every, Some}
use Rattle.logic.specs.Tests.{cons_if}
use Rattle.logic.proofs.Decide.{clash}
use Rattle.logic.proofs.Members.{every-at, every_map}
use Rattle.book.specs.declared.Shape.{Shape}
use Rattle.book.specs.Kinds.{kinds, kind, heads_each, rule_numbers, alternative_numbers, plain, alternative, exception}
use Rattle.book.specs.Counts.{counts_of, all_counts, count_at, start_of}
use Rattle.sets.specs.Sets.{member}
use Rattle.sets.specs.declared.Pair.{Pair}
use Rattle.sets.proofs.Digits.{bit-mod, lt-or-le}
use Rattle.sets.proofs.Words.{member-past, same-members}
use Rattle.meaning.specs.Literals.{Literal, pos, neg, Conclusions, is_in, ◌∈◌, ◌⊆◌}
use Rattle.meaning.specs.Rules.{Rule}
use Rattle.meaning.specs.AnswerSets.{some_in, struck, reduct, Given, Closed, AnswerSet}
use Rattle.meaning.specs.Books.{Book, Lawful, conclusions, taken_from, applied}
use Rattle.meaning.specs.Views.{Answers}
use Rattle.meaning.specs.Resolutions.{Resolution}
use Rattle.meaning.specs.Meant.{entry, at, entries_at, rule_at, rules_at, book_of}
use Rattle.meaning.specs.Order.{start, Later, AllLater}
use Rattle.meaning.proofs.Laws.{no-exception-without-need}
use Rattle.meaning.proofs.Closed.{every_two}

-- A set whose numbers are all among 1 to n is below 2 ^ n.
pub below-by-members : (n a : ℕ) → ((i : ℕ) → member i a ≡ true → i - 1 < n) → a < 2 ^ n
unfolding member
below-by-members n a f = let e = same-members a (a % 2 ^ n) (λ i. go i (lt-or-le (i - 1) n)) in rw e (mod-lt a (pow_pos n))
  where
    go : (i : ℕ) → (i - 1 < n) ⊎ (n ≤ i - 1) → member i a ≡ member i (a % 2 ^ n)
    go i (inl l) = ap (λ (x : ℕ). eqb x 1) (sym (bit-mod a n (i - 1) l))
    go i (inr l) = no (member i a) refl ∙ sym (member-past (a % 2 ^ n) n i (mod-lt a (pow_pos n)) l)
      where
        no : (x : Bool) → member i a ≡ x → x ≡ false
        no true e = absurd (let g = f i e in omega arith)
        no false e = refl

-- The conclusion is of a statement from 1 to n; every head of the rule is.
abbrev pub Names : ℕ → Literal → Type 0
Names n (pos i) = (1 ≤ i) × (i ≤ n)
Names n (neg i) = (1 ≤ i) × (i ≤ n)

abbrev pub HeadsOf : ℕ → Rule → Type 0
HeadsOf n r = Every (Names n) r.heads

pub record HeadsWithin (b : Book) : Type 0 where
  pub plain : Every (HeadsOf b.statements) b.plain
  pub exceptions : Every (HeadsOf b.statements) b.exceptions

pub every_append : {A : Type 0} (P : A → Type 0) (xs ys : List A) → Every P xs → Every P ys → Every P (xs ++ ys)
every_append P [] ys e f = f
every_append P (x ∷ xs) ys e f = (e.0, every_append P xs ys e.1 f)

every-cons : {A : Type 0} (P : A → Type 0) (c : Bool) (x : A) (xs : List A) → P x → Every P xs → Every P (cons_if c x xs)
unfolding cons_if
every-cons P true x xs p e = (p, e)
every-cons P false x xs p e = e

pub every-taken : (P : Rule → Type 0) (i : ℕ) (rs : List Rule) (t : ℕ) → Every P rs → Every P (taken_from i rs t)
unfolding taken_from
every-taken P i [] t e = tt
every-taken P i (r ∷ rs) t e = every-cons P (member i t) r (taken_from (suc i) rs t) e.0 (every-taken P (suc i) rs t e.1)

-- What holds of the heads of all rules holds of those that the reduct leaves.
pub every-reduct : (P : List Literal → Type 0) (s : Conclusions) (rs : List Rule) → Every (λ r. P r.heads) rs → Every (λ r. P r.heads) (reduct s rs)
unfolding reduct struck
every-reduct P s [] e = tt
every-reduct P s (r ∷ rs) e = every-cons (λ r. P r.heads) (not (some_in s r.body.barred)) (struck r) (reduct s rs) e.0 (every-reduct P s rs e.1)

module _ (n : ℕ) where
  -- S without the statements past n: it is closed where S is, so it is S.
  unfoldable cut : Conclusions → Conclusions
  cut s = record { held = s.held % 2 ^ n; denied = s.denied % 2 ^ n }

  mod-member : (a i : ℕ) → i - 1 < n → member i (a % 2 ^ n) ≡ member i a
  unfolding member
  mod-member a i l = ap (λ (x : ℕ). eqb x 1) (bit-mod a n (i - 1) l)

  mod-past : (a i : ℕ) → member i (a % 2 ^ n) ≡ true → i - 1 < n
  mod-past a i m = ⊎_elim (λ l. l) (λ l. absurd (clash (sym (member-past (a % 2 ^ n) n i (mod-lt a (pow_pos n)) l) ∙ m))) (lt-or-le (i - 1) n)

  cut-sub : (s : Conclusions) → cut s ⊆ s
  unfolding is_in cut
  cut-sub s (pos i) m = sym (mod-member s.held i (mod-past s.held i m)) ∙ m
  cut-sub s (neg i) m = sym (mod-member s.denied i (mod-past s.denied i m)) ∙ m

  cut_keeps : (s : Conclusions) (l : Literal) → Names n l → l ∈ s → l ∈ cut s
  unfolding is_in cut
  cut_keeps s (pos i) w m = mod-member s.held i (omega arith) ∙ m
  cut_keeps s (neg i) w m = mod-member s.denied i (omega arith) ∙ m

  cut-some : (s : Conclusions) (ls : List Literal) → Every (Names n) ls → Some (λ l. l ∈ s) ls → Some (λ l. l ∈ cut s) ls
  cut-some s [] w m = m
  cut-some s (l ∷ ls) w m = ⊎_elim (λ a. inl (cut_keeps s l w.0 a)) (λ a. inr (cut-some s ls w.1 a)) m

  cut-given : (s : Conclusions) (ls : List Literal) → Every (Names n) ls → Given ls s → Given ls (cut s)
  cut-given s [] w g = tt
  cut-given s (l ∷ ls) w g = cut-some s (l ∷ ls) w g

  answer-within : (rs : List Rule) (s : Conclusions) → Every (HeadsOf n) rs → AnswerSet rs s → (s.held < 2 ^ n) × (s.denied < 2 ^ n)
  unfolding is_in cut
  answer-within rs s e a =
      let c : Closed (reduct s rs) (cut s) =
      every_two (λ r w k ne. cut-given s r.heads w (k (every_map (cut-sub s) r.body.needed ne))) (reduct s rs) (every-reduct (Every (Names n)) s rs e) a.minimal.closed in
      let all = a.minimal.minimal (cut s) c (cut-sub s) in
      (below-by-members n s.held (λ i m. mod-past s.held i (all (pos i) m)), below-by-members n s.denied (λ i m. mod-past s.denied i (all (neg i) m)))

-- An answer set of the book's rules with some exceptions added is a lawful S.
pub answers-lawful : (b : Book) (p : Pair) → HeadsWithin b → p.taken < 2 ^ length b.exceptions → Answers b p → Lawful b p
answers-lawful b p h t a =
    let w = answer-within b.statements (b.plain ++ applied b p) (conclusions p)
    (every_append (HeadsOf b.statements) b.plain (applied b p) h.plain (every-taken (HeadsOf b.statements) 1 b.exceptions p.taken h.exceptions)) a in
    record { exceptions = t; held = w.0; denied = w.1; apart = a.consistent }

-- If the plain rules have an answer set, the resolutions are exactly those answer sets with no exception taken, whatever the preferences.
pub plain-only : (b : Book) → HeadsWithin b → (s : Conclusions) → AnswerSet b.plain s → (p : Pair) → Resolution b p ↔ ((p.taken ≡ 0) × AnswerSet b.plain (conclusions p))
plain-only b h s a p =
    let law = no-exception-without-need b (record { taken = 0; held = s.held; denied = s.denied }) (lawful-of (record { taken = 0; held = s.held; denied = s.denied }) refl a) refl a p in
    (λ r. let o = law.0 r in (o.0, o.2), λ o. law.1 (o.0, lawful-of p o.0 o.1, o.1))
  where
    lawful-of : (q : Pair) → q.taken ≡ 0 → AnswerSet b.plain (conclusions q) → Lawful b q
    lawful-of q e c =
        let w = answer-within b.statements b.plain (conclusions q) h.plain c in
        record { exceptions = rw e (pow_pos (length b.exceptions)); held = w.0; denied = w.1; apart = c.consistent }

-- So is every listing: its pairs are those answer sets, each with no exception taken.
pub listed_plain : (b : Book) → HeadsWithin b → (s : Conclusions) → AnswerSet b.plain s → (ps : List Pair) → AllLater b start ps
    → (p : Pair) → Among p ps ↔ ((p.taken ≡ 0) × AnswerSet b.plain (conclusions p))
listed_plain b h s a ps l p = let k = plain-only b h s a p in (
  λ m. k.0 (every-at (λ q. Resolution b q × Later start q) p ps l.only m).0,
  λ e. l.all p (k.1 e) tt,
)

-- ---- the heads of rows
-- Each number that is read names a statement from 1 to n or nothing.
entry-names : (n : ℕ) (x : ℤ) → nat_abs x ≤ n → Every (Names n) (entry x)
unfolding entry
entry-names n (Z.pos zero) h = tt
entry-names n (Z.pos (suc i)) h = ((omega arith, h), tt)
entry-names n (negsuc i) h = ((omega arith, h), tt)

entries-name : (n : ℕ) (t : List ℤ) (k m : ℕ) → ((i : ℕ) → i < m → nat_abs (at t (k + i)) ≤ n) → Every (Names n) (entries_at t k m)
unfolding entries_at
entries-name n t k zero f = tt
entries-name n t k (suc m) f =
    let z : k + 0 ≡ k = omega arith in
    every_append (Names n) (entry (at t k)) (entries_at t (k + 1) m) (entry-names n (at t k) (rw z at (f 0 (omega arith))))
    (entries-name n t (k + 1) m (λ i l. let e : k + suc i ≡ k + 1 + i = omega arith in rw e at (f (suc i) (omega arith))))

rules-name : (n h w : ℕ) (t : List ℤ) (k m : ℕ) → ((j : ℕ) → j < m → (i : ℕ) → i < h → nat_abs (at t (k + j * w + i)) ≤ n) → Every (HeadsOf n) (rules_at h w t k m)
unfolding rules_at rule_at
rules-name n h w t k zero f = tt
rules-name n h w t k (suc m) f = (
  entries-name n t k h (λ i l. let e : k + 0 * w + i ≡ k + i = omega arith in rw e at (f 0 (omega arith) i l)),
  rules-name n h w t (k + w) m (λ j l i g. let e : k + suc j * w + i ≡ k + w + j * w + i = omega arith in rw e at (f (suc j) (omega arith) i g)),
)

-- In the book of rows whose heads lie in -n to n every head names a statement from 1 to n. The rules stand from the place of R to that of X.
pub rows-heads : (s : Shape) (t : List ℤ)
    → ((q : ℕ) → plain ≤ q → q ≤ exception → (k : ℕ) → k < count_at s q → (i : ℕ) → i < (kind q).heads → nat_abs (at t (start_of s q + k * (kind q).numbers + i)) ≤ s.statements)
    → HeadsWithin (book_of s t)
unfolding book_of count_at all_counts counts_of kind kinds
rows-heads s t f = record {
  plain = every_append (HeadsOf s.statements) (rules_at 1 rule_numbers t (start_of s plain) s.plain) (rules_at heads_each alternative_numbers t (start_of s alternative) s.alternatives)
      (rules-name s.statements 1 rule_numbers t (start_of s plain) s.plain (f plain (omega arith) (omega arith)))
      (rules-name s.statements heads_each alternative_numbers t (start_of s alternative) s.alternatives (f alternative (omega arith) (omega arith)));
  exceptions = rules-name s.statements 1 rule_numbers t (start_of s exception) s.exceptions (f exception (omega arith) (omega arith));
}
