-- The parts of a line stored into a lent buffer: what each loop puts, piece by piece, and the parts one after the other.
use mathlib.Core.Path.{◌≡◌, refl, sym, ap, ◌∙◌}
use mathlib.Core.Bool.{Bool, true, false}
use mathlib.Core.Logic.{⊎_elim}
use mathlib.Core.List.{List, [], ◌∷◌, ◌++◌, map, append_assoc}
use Prim.Native.Nat.{ℕ, zero, suc, ◌+◌, ◌-◌, ◌*◌, ◌/◌, ◌%◌, ◌^◌, ◌<◌, ◌≤◌}
use native.Mathlib.Nat.{mod-lt}
use native.Mathlib.Numerals.{add-one}
use native.Mathlib.Omega.{arith}
use lib.IntN.{pos}
use borrow.Rule.Slice.PartMut.{put_mid}
use lib.ListN.{length, take, drop, set, replicate, length-append, length-map, length-replicate, length-set, length-take, length-drop}
use lib.Seq.{sets, take-append-add, length-take-le, length-sets}
use borrow.Author.Tests.{le-leb, lt-leb}
use Rattle.logic.specs.Tests.{pick, keep, cons_if}
use Rattle.logic.proofs.Stores.{put_on, pieces, pieces-length, Putting, putting-next}
use Rattle.sets.specs.Sets.{member, size, size_to}
use Rattle.sets.specs.declared.Pair.{Pair}
use Rattle.sets.proofs.Digits.{lt-or-le}
use Rattle.book.specs.Limits as limit
use Rattle.text.specs.Fields.{columns, written, written_all, in_columns}
use Rattle.text.specs.ALines.{from, line_fields, taken_fields, mark, a_line}
use Rattle.text.proofs.Lines.{fields-length}
use Rattle.answers.proofs.Copies.{part-put, front-put}
use Rattle.line.specs.Parts.{fields_of, taken_of, line_bytes}

-- ---- how many fields for exceptions
module _ (x : ℕ) where
  -- "Books with at most 12 exceptions keep Line's 12 fields; longer books get 16".
  pub fields-short : x ≤ limit.short_line → line_fields x ≡ limit.short_line
  unfolding line_fields pick
  fields-short h = rw (le-leb x limit.short_line h)

  pub fields-long : limit.short_line < x → line_fields x ≡ limit.exceptions
  unfolding line_fields pick
  fields-long h = rw (lt-leb x limit.short_line h)

  -- Every exception that a book may have has its place among them.
  pub fields-enough : x ≤ limit.exceptions → x ≤ line_fields x
  fields-enough h = ⊎_elim (λ l. omega (arith, fields-long l)) (λ s. omega (arith, fields-short s)) (lt-or-le limit.short_line x)

-- ---- fields of numbers
pub fields-bytes : (ns : List ℕ) → length (fields_of ns) ≡ length ns * 4
unfolding fields_of
fields-bytes ns = rw (fields-length (map pos ns), length-map ns pos)

fields-append : (a b : List ℕ) → fields_of (a ++ b) ≡ fields_of a ++ fields_of b
unfolding fields_of written_all
fields-append [] b = refl
fields-append (m ∷ a) b = rw (fields-append a b) (sym (append_assoc (written (pos m)) (written_all (map pos a)) (written_all (map pos b))))

-- ---- the exceptions taken
module _ (taken : ℕ) where
  -- The field of exception i + 1, if it is taken.
  unfoldable pub member_field : ℕ → List ℕ
  member_field i = pick (member (i + 1) taken) (columns false (i + 1)) []

  cons_field : (t : Bool) (i : ℕ) (ns : List ℕ) → fields_of (cons_if t i ns) ≡ pick t (columns false i) [] ++ fields_of ns
  unfolding fields_of written_all written cons_if pick
  cons_field true i ns = refl
  cons_field false i ns = refl

  members-are : (n i : ℕ) → fields_of (keep (λ j. member j taken) (from (suc i) n)) ≡ pieces member_field i n
  unfolding keep from pieces member_field fields_of written_all
  members-are zero i = refl
  members-are (suc n) i = rw add-one (cons_field (member (suc i) taken) (suc i) (keep (λ j. member j taken) (from (suc (suc i)) n)) ∙ rw (members-are n (suc i)))

  pub taken-are : (w : ℕ) → fields_of (taken_of w taken) ≡ pieces member_field 0 w
  unfolding taken_of
  taken-are w = members-are w 0

  module _ (w : ℕ) (l₀ l : List ℕ) (at a i : ℕ) (g : Putting member_field w l₀ at l a i) (h : i < w) (x : Bool) (ex : x ≡ member (i + 1) taken) (m : List ℕ) (b : ℕ) where
    pub member-put : x ≡ true → m ≡ sets l a (columns false (i + 1)) → b ≡ a + 4 → Putting member_field w l₀ at m b (i + 1)
    unfolding member_field pick columns in_columns
    member-put e em eb = putting-next member_field w l₀ at l a i g h m b (rw (← ex, e) em) (rw (← ex, e) eb)

    pub member-skipped : x ≡ false → m ≡ l → b ≡ a → Putting member_field w l₀ at m b (i + 1)
    unfolding member_field pick
    member-skipped e em eb = putting-next member_field w l₀ at l a i g h m b (rw (← ex, e) em) (rw (← ex, e) (omega arith))

-- ---- zeros
take-zeros : (a b : ℕ) → a ≤ b → take {A = ℕ} a (replicate b 0) ≡ replicate a 0
take-zeros zero b h = refl
take-zeros (suc a) zero h = absurd (omega arith)
take-zeros (suc a) (suc b) h = ap (λ (ns : List ℕ). 0 ∷ ns) (take-zeros a b (omega arith))

abbrev pub zero_field : ℕ → List ℕ
zero_field i = columns false 0

pub zeros-are : (w i : ℕ) → fields_of (replicate w 0) ≡ pieces zero_field i w
unfolding fields_of written_all written pieces
zeros-are zero i = refl
zeros-are (suc w) i = ap (λ (bs : List ℕ). columns false 0 ++ bs) (zeros-are w (suc i))

-- ---- the fields of the exceptions
taken-fields : (w taken k : ℕ) → k ≡ length (taken_of w taken) → k ≤ w → taken_fields w taken ≡ taken_of w taken ++ replicate (w - k) 0
unfolding taken_fields taken_of
taken-fields w taken k e h =
    let xs = keep (λ i. member i taken) (from 1 w) in
    let f : length xs + (w - k) ≡ w = omega arith in
    ap (λ (m : ℕ). take m (xs ++ replicate w 0)) (sym f)
    ∙ (take-append-add xs (replicate w 0) (w - k)
    ∙ ap (λ (ns : List ℕ). xs ++ ns) (take-zeros (w - k) w (omega arith)))

pub taken-put : (l m z : List ℕ) (w taken k : ℕ) → k ≡ length (taken_of w taken) → k ≤ w → w * 4 ≤ length l → m ≡ sets l 0 (fields_of (taken_of w taken)) → z ≡ sets (take (length m - k * 4) (drop (k * 4) m)) 0 (fields_of (replicate (w - k) 0))
    → put_mid (k * 4) (length m - k * 4) m z ≡ sets l 0 (fields_of (taken_fields w taken))
taken-put l m z w taken k ek h g em ez =
    let zeros = fields_of (replicate (w - k) 0) in
    let long : length m ≡ length l = rw em (length-sets l 0 (fields_of (taken_of w taken))) in
    let room : k * 4 + length zeros ≤ length m = omega (arith, fields-bytes (replicate (w - k) 0), length-replicate {A = ℕ} (w - k) 0) in
    rw ez (front-put m zeros (k * 4) (length m) room (omega arith))
    ∙ put_on l m (fields_of (taken_of w taken)) zeros (sets l 0 (fields_of (taken_fields w taken))) 0 (k * 4)
    (rw (taken-fields w taken k ek h, fields-append (taken_of w taken) (replicate (w - k) 0)) refl) em (omega (arith, fields-bytes (taken_of w taken)))

-- ---- the marks
module _ (p : Pair) (i : ℕ) (x : Bool) (ex : x ≡ member i p.held) where
  pub mark-held : x ≡ true → 43 ≡ mark p i
  unfolding mark pick
  mark-held e = rw (← ex, e)

  pub mark-denied : (y : Bool) → y ≡ member i p.denied → x ≡ false → y ≡ true → 45 ≡ mark p i
  unfolding mark pick
  mark-denied y ey e f = rw (← ex, ← ey, e, f)

  pub mark-absent : (y : Bool) → y ≡ member i p.denied → x ≡ false → y ≡ false → 46 ≡ mark p i
  unfolding mark pick
  mark-absent y ey e f = rw (← ex, ← ey, e, f)

-- The mark of statement i + 1.
abbrev pub mark_at : Pair → ℕ → List ℕ
mark_at p i = mark p (i + 1) ∷ []

pub marks-are : (p : Pair) (n i : ℕ) → map (mark p) (from (suc i) n) ≡ pieces (mark_at p) i n
unfolding from pieces
marks-are p zero i = refl
marks-are p (suc n) i = rw (marks-are p n (suc i), add-one)

-- ---- the line
pub marks-length : (p : Pair) (n : ℕ) → length (map (mark p) (from 1 n)) ≡ n
marks-length p n = omega (arith, ap length (marks-are p n 0), pieces-length (mark_at p) 1 (λ i. refl) n 0)

taken-length : (w taken : ℕ) → length (fields_of (taken_fields w taken)) ≡ w * 4
unfolding taken_fields
taken-length w taken = rw (fields-bytes, length-take-le w (keep (λ i. member i taken) (from 1 w) ++ replicate w 0) (rw (length-append, length-replicate) (omega arith)))

-- A line is its letter, the count, the exceptions, the marks and the line feed.
line-parts : (w n : ℕ) (p : Pair) → a_line w n p ≡ 65 ∷ (columns false (size p.taken) ++ (fields_of (taken_fields w p.taken) ++ (map (mark p) (from 1 n) ++ (10 ∷ []))))
unfolding a_line fields_of written_all written
line-parts w n p = ap (λ (bs : List ℕ). 65 ∷ bs) (append_assoc (columns false (size p.taken)) (written_all (map pos (taken_fields w p.taken))) (map (mark p) (from 1 n) ++ (10 ∷ [])))

-- How long a line is.
pub line-length : (w n : ℕ) (p : Pair) → length (a_line w n p) ≡ line_bytes w n
unfolding columns in_columns
line-length w n p =
    rw (line-parts w n p, length-append (fields_of (taken_fields w p.taken)) (map (mark p) (from 1 n) ++ (10 ∷ [])), length-append (map (mark p) (from 1 n)) (10 ∷ []))
    (omega (arith, taken-length w p.taken, marks-length p n))

module _ (x n : ℕ) (p : Pair) where
  -- "54 + n bytes with line feed".
  pub line-54 : x ≤ limit.short_line → length (a_line (line_fields x) n p) ≡ 54 + n
  line-54 h = rw (fields-short x h) (omega (arith, line-length limit.short_line n p))

  -- "longer books get 16 and 70 + n bytes".
  pub line-70 : limit.short_line < x → length (a_line (line_fields x) n p) ≡ 70 + n
  line-70 h = rw (fields-long x h) (omega (arith, line-length limit.exceptions n p))

-- A count is at most 64.
digit-small : (x : ℕ) → x % 2 ≤ 1
digit-small x = omega (arith, mod-lt x {m = 2} (omega arith))

size_small : (k a : ℕ) → size_to k a ≤ k
unfolding size_to
size_small zero a = omega arith
size_small (suc k) a = omega (arith, size_small k a, digit-small (a / 2 ^ k))

pub count-short : (r a : ℕ) → r ≡ size a → r < 10000
unfolding size
count-short r a e = omega (arith, size_small 64 a)

module _ (l m₁ z : List ℕ) (w n : ℕ) (p : Pair) (c : ℕ) (h : line_bytes w n ≤ length l) (ec : c ≡ size p.taken) (e₁ : m₁ ≡ sets (set l 0 65) 1 (columns false c))
    (ez : z ≡ sets (take (length m₁ - 5) (drop 5 m₁)) 0 (fields_of (taken_fields w p.taken))) where
  abbrev taken_is : List ℕ
  taken_is = put_mid 5 (length m₁ - 5) m₁ z

  ts : List ℕ
  ts = fields_of (taken_fields w p.taken)

  ms : List ℕ
  ms = map (mark p) (from 1 n)

  long₁ : length m₁ ≡ length l
  long₁ = rw e₁ (length-sets (set l 0 65) 1 (columns false c) ∙ length-set l 0 65)

  e₂ : taken_is ≡ sets m₁ 5 ts
  unfolding ts
  e₂ = rw ez (front-put m₁ (fields_of (taken_fields w p.taken)) 5 (length m₁) (omega (arith, long₁, taken-length w p.taken)) (omega arith))

  long₂ : length taken_is ≡ length l
  long₂ = rw e₂ (length-sets m₁ 5 ts) ∙ long₁

  pub line-put : (y : List ℕ) → y ≡ map (mark p) (from 1 (length (take (5 + w * 4 + n - (5 + w * 4)) (drop (5 + w * 4) taken_is))))
      → set (put_mid (5 + w * 4) (5 + w * 4 + n - (5 + w * 4)) taken_is y) (5 + w * 4 + n) 10 ≡ sets l 0 (a_line w n p)
  unfolding columns in_columns ts ms
  line-put y ey =
      let cs = columns false (size p.taken) in
      let whole = sets l 0 (a_line w n p) in
      let own : length (take (5 + w * 4 + n - (5 + w * 4)) (drop (5 + w * 4) taken_is)) ≡ n =
      omega (arith, length-take (5 + w * 4 + n - (5 + w * 4)) (drop (5 + w * 4) taken_is), length-drop (5 + w * 4) taken_is, long₂) in
      let e₃ : put_mid (5 + w * 4) (5 + w * 4 + n - (5 + w * 4)) taken_is y ≡ sets taken_is (5 + w * 4) ms =
      part-put taken_is y ms (5 + w * 4) (5 + w * 4 + n) (rw own at ey) (omega (arith, marks-length p n)) (omega (arith, long₂)) in
      let after-letter = put_on l (set l 0 65) (65 ∷ []) (cs ++ (ts ++ (ms ++ (10 ∷ [])))) whole 0 1 (rw (line-parts w n p) refl) refl refl in
      let after-count = put_on (set l 0 65) m₁ cs (ts ++ (ms ++ (10 ∷ []))) whole 1 5 after-letter (rw ec at e₁) (omega arith) in
      let after-taken = put_on m₁ taken_is ts (ms ++ (10 ∷ [])) whole 5 (5 + w * 4) after-count e₂ (omega (arith, taken-length w p.taken)) in
      put_on taken_is (put_mid (5 + w * 4) (5 + w * 4 + n - (5 + w * 4)) taken_is y) ms (10 ∷ []) whole (5 + w * 4) (5 + w * 4 + n) after-taken e₃ (omega (arith, marks-length p n))
