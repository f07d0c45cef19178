-- The loop over a line's fields: what is left to do, from here, gives the final answer.
-- One lemma for each way out of the loop and one for its turn.
use mathlib.Core.Path.{◌≡◌, refl, sym, ap, ◌∙◌}
use mathlib.Core.Bool.{Bool, true, false}
use mathlib.Core.List.{List, ◌∷◌}
use Prim.Native.Nat.{ℕ, suc, ◌+◌, ◌*◌, ◌<◌, ◌≤◌}
use native.Mathlib.Nat.{add-zero}
use native.Mathlib.Numerals.{add-one}
use native.Mathlib.Omega.{arith}
use lib.IntN.{ℤ}
use lib.ListN.{get_or, drop, take, set, length, drop_of_length-le, length-drop}
use lib.Seq.{drop-cons, drop-drop, get_or-take, get_or-drop, length-take-le}
use mir.Syntax.{w32}
use mir.Val.{SFits}
use mir.Facts.{to_z-of_z}
use Rattle.std.specs.Prelude.{Result, Ok, Err, ⊤}
use Rattle.logic.specs.Tests.{pick}
use Rattle.book.specs.declared.Kind.{Kind}
use Rattle.book.specs.declared.Content.{Content}
use Rattle.book.specs.declared.Content.TheVariants.{Edition}
use Rattle.book.specs.Faults.{number}
use Rattle.book.specs.Kinds.{contents, fields_of, Range, range_of}
use Rattle.text.specs.Fields.{first_field}
use Rattle.text.specs.Lines.{Numbers, inside, and_then, test_field, read_fields}
use Rattle.text.specs.Lines.Numbers.{numbers, fault}
use Rattle.fields.specs.declared.Seen.{Seen}
use Rattle.fields.specs.Checks.{number_is, see_of, see_all}
use Rattle.fields.proofs.Columns.{back}
use Rattle.read.specs.Storing.{number_of, none_seen, store, store_fields, answer_fields}

-- ---- one field
pub number-misspelt : (x z : Result ℤ ℕ) (r : Range) (q : ℕ) → z ≡ x → z ≡ Err q → Err q ≡ number_of x r
unfolding number_of
number-misspelt x z r q e f = rw (← e, f)

module _ (x z : Result ℤ ℕ) (r : Range) (v : ℤ) (y : Result ⊤ ℕ) (d : z ≡ x) (g : z ≡ Ok v) (s : SFits w32 v) (f : y ≡ number_is r (back v)) where
  e : x ≡ Ok v
  e = sym d ∙ g

  checked-is : y ≡ number_is r v
  checked-is = f ∙ ap (number_is r) (to_z-of_z s)

  pub number-outside : (q : ℕ) → y ≡ Err q → Err q ≡ number_of x r
  unfolding number_of number_is pick
  number-outside q g = go (inside r v) refl (sym checked-is ∙ g)
    where
      go : (b : Bool) → inside r v ≡ b → pick b (Ok (tt {0})) (Err (number r.fault)) ≡ Err q → Err q ≡ number_of x r
      go true o p = absurd (let z : ◌≡◌ {A = ℕ} 0 1 = cc in omega arith)
      go false o p = let w : (number r.fault) ≡ q = cc in rw (e, o, w)

  pub number-inside : y ≡ Ok tt → Ok (back v) ≡ number_of x r
  unfolding number_of number_is pick
  number-inside g = go (inside r v) refl (sym checked-is ∙ g)
    where
      go : (b : Bool) → inside r v ≡ b → pick b (Ok (tt {0})) (Err (number r.fault)) ≡ Ok (tt {0}) → Ok (back v) ≡ number_of x r
      go true o p = rw (to_z-of_z s, e, o)
      go false o p = absurd (let z : ◌≡◌ {A = ℕ} 0 1 = cc in omega arith)

test-not : (x : Result ℤ ℕ) (r : Range) (y : Numbers) (q : ℕ) → Err q ≡ number_of x r → test_field x r y ≡ fault q
unfolding number_of test_field pick
test-not (Err p) r y q e = let w : q ≡ p = cc in rw w
test-not (Ok v) r y q e = go (inside r v) e
  where
    go : (b : Bool) → Err q ≡ pick b (Ok v) (Err (number r.fault)) → pick b (and_then v y) (fault (number r.fault)) ≡ fault q
    go true p = absurd (let z : ◌≡◌ {A = ℕ} 0 1 = cc in omega arith)
    go false p = let w : (number r.fault) ≡ q = cc in rw w

test-is : (x : Result ℤ ℕ) (r : Range) (y : Numbers) (v : ℤ) → Ok v ≡ number_of x r → test_field x r y ≡ and_then v y
unfolding number_of test_field pick
test-is (Err q) r y v e = absurd (let z : ◌≡◌ {A = ℕ} 0 1 = cc in omega arith)
test-is (Ok u) r y v e = go (inside r u) e
  where
    go : (b : Bool) → Ok v ≡ pick b (Ok u) (Err (number r.fault)) → pick b (and_then u y) (fault (number r.fault)) ≡ and_then v y
    go true p = let w : u ≡ v = cc in rw w
    go false p = absurd (let z : ◌≡◌ {A = ℕ} 0 1 = cc in omega arith)

-- ---- the loop
store-more : (m r : ℕ) (c : Content) (cs : List Content) (s : Seen) (l : List ℤ) (to : ℕ) (v : ℤ) (ns : Numbers) → store m r (c ∷ cs) s l to (and_then v ns) ≡ store m r cs (see_of s c m r v) (set l to v) (suc to) ns
unfolding store and_then see_all
store-more m r c cs s l to v (numbers vs) = refl
store-more m r c cs s l to v (fault q) = refl

-- The contents of w fields, from a place of the list of all contents on.
abbrev pub part : ℕ → ℕ → List Content
part from w = take w (drop from contents)

pub part-is : (x : Kind) → part x.from x.fields ≡ fields_of x
unfolding fields_of
part-is x = refl

pub part_at : (from w i : ℕ) (c : Content) → i < w → c ≡ get_or contents (from + i) Edition → c ≡ get_or (part from w) i Edition
part_at from w i c h e = e ∙ sym (get_or-take w (drop from contents) i Edition h ∙ get_or-drop from contents i Edition)

pub part-long : (from w : ℕ) → from + w ≤ length contents → length (part from w) ≡ w
part-long from w h = length-take-le w (drop from contents) (rw (length-drop from contents) (omega arith))

module _ (text : List ℕ) (at : ℕ) (cs : List Content) (n m rows to : ℕ) (t₀ : List ℤ) where
  -- What is left, from field i on, after what is seen so far.
  unfoldable pub Rest : List ℤ → ℕ → Seen → Type 0
  Rest t i s = store m rows (drop i cs) s t (to + i) (read_fields (drop i cs) n (drop (at + i * 4) text)) ≡ store_fields n m rows cs t₀ to (drop at text)

  pub rest-start : (s : Seen) → s ≡ none_seen n → Rest t₀ 0 s
  unfolding Rest store_fields
  rest-start s e = let q : at + 0 * 4 ≡ at = omega arith in rw (q, add-zero to, e)

  module _ (t : List ℤ) (i : ℕ) (s : Seen) (h : i < length cs) (inv : Rest t i s) (c : Content) (ec : c ≡ get_or cs i Edition) (y : Result ℤ ℕ)
      (ey : y ≡ number_of (first_field (drop (at + i * 4) text)) (range_of c n)) where
    left : Numbers
    left = read_fields (drop (suc i) cs) n (drop (at + suc i * 4) text)

    opened : store m rows (c ∷ drop (suc i) cs) s t (to + i) (test_field (first_field (drop (at + i * 4) text)) (range_of c n) left) ≡ store_fields n m rows cs t₀ to (drop at text)
    unfolding Rest read_fields left
    opened =
        let q : at + i * 4 + 4 ≡ at + suc i * 4 = omega arith in
        rw (ec, ← q, ← drop-drop 4 (at + i * 4) text) (rw (drop-cons cs i Edition h) at inv)

    pub rest-wrong : (q : ℕ) → y ≡ Err q → answer_fields (Err q) t ≡ store_fields n m rows cs t₀ to (drop at text)
    unfolding answer_fields store
    rest-wrong q e = rw (test-not (first_field (drop (at + i * 4) text)) (range_of c n) left q (sym e ∙ ey)) at opened

    pub rest-next : (v : ℤ) (r : Seen) → SFits w32 v → y ≡ Ok v → r ≡ see_of s c m rows (back v) → Rest (set t (to + i) (back v)) (i + 1) r
    unfolding Rest left
    rest-next v r f e g =
        let j : to + (i + 1) ≡ suc (to + i) = omega arith in
        rw (to_z-of_z f, j, add-one i, g, to_z-of_z f)
        (sym (store-more m rows c (drop (suc i) cs) s t (to + i) v _) ∙ rw (test-is (first_field (drop (at + i * 4) text)) (range_of c n) left v (sym e ∙ ey)) at opened)

  pub rest_end : (t : List ℤ) (i : ℕ) (s : Seen) → length cs ≤ i → Rest t i s → answer_fields (Ok s) t ≡ store_fields n m rows cs t₀ to (drop at text)
  unfolding Rest read_fields store answer_fields see_all
  rest_end t i s h inv = rw (drop_of_length-le cs {i = i} h) at inv
