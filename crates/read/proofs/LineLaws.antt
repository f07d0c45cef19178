-- A line: what each return of the functions on a line is by the definitions.
-- What a line's numbers say, seen one by one, is what the tests of the line as a whole ask.
use mathlib.Core.Path.{◌≡◌, refl, sym, ap, ◌∙◌}
use mathlib.Core.Bool.{Bool, true, false, not}
use mathlib.Core.List.{List, [], ◌∷◌, ◌++◌, append_assoc}
use Prim.Native.Nat.{ℕ, zero, suc, ◌+◌, ◌-◌, ◌*◌, ◌<◌, ◌≤◌}
use native.Mathlib.Numerals.{add-one}
use native.Mathlib.Omega.{arith}
use lib.Dec.{ltb, leb}
use lib.IntN.{ℤ, pos}
use lib.Signed.{le_z}
use lib.ListN.{get_or, drop, take, length, length-drop}
use lib.Seq.{sets, drop-cons, drop_at, length-take-le, sets-eq, get_or-take, take-append-le}
use borrow.Author.Tests.{ltb-true, eq-eqb, ne_eqb, lt-ltb, le-ltb, le-leb, lt-leb}
use Rattle.std.specs.Prelude.{Result, Ok, Err, ⊤}
use Rattle.logic.specs.Tests.{either, both, pick, cons_if, some}
use Rattle.logic.proofs.Tests.{all, all-at, both_left, both_right}
use Rattle.logic.proofs.Stores.{drop-take}
use Rattle.book.specs.declared.Kind.{Kind}
use Rattle.book.specs.declared.Content.{Content}
use Rattle.book.specs.declared.Content.TheVariants.{Edition, Statements, Literal, Exception, Total}
use Rattle.book.specs.Faults.{number}
use Rattle.book.specs.Kinds.{kinds, kind, unknown, contents, fields_of, bytes, none, widest, exception}
use Rattle.book.proofs.Counts.{narrow}
use Rattle.text.specs.declared.State.{State}
use Rattle.text.specs.Fields.{first_field}
use Rattle.text.specs.Lines.{Numbers, between, read_fields, code, numbers_in, headless, missing, miscounted, whole_of, unless, judged, kind_for, read_rest, read_kind, read_line}
use Rattle.text.specs.Lines.Numbers.{numbers, fault}
use Rattle.text.specs.Lines.Line.{line}
use Rattle.text.specs.Reading.{last_or, step}
use Rattle.text.proofs.KindFacts.{width_is, heads-in, contents-in}
use Rattle.text.proofs.Lines.{numbers-length}
use Rattle.fields.specs.declared.Seen.{Seen}
use Rattle.fields.specs.Checks.{see_of, see_all}
use Rattle.read.specs.Storing.{none_seen, store, store_fields, answer_fields, whole_is, store_line, answer_line}
use Rattle.read.specs.Storing.Left.{kept, lost}
use Rattle.read.specs.Storing.LineLeft.{kept_line, lost_line}

-- ---- the whole, by what is seen
module _ (x : Kind) (count : ℕ) (r : Bool) (s : Seen) where
  pub whole-over : x.limit ≤ count → Err (number x.over) ≡ whole_is x count r s
  unfolding whole_is pick
  whole-over h = rw (le-leb x.limit count h)

  module _ (h : count < x.limit) where
    pub whole-headless : r ≡ true → Err (number x.unfilled) ≡ whole_is x count r s
    unfolding whole_is pick
    whole-headless g = rw (lt-leb x.limit count h, g)

    pub whole-missing : r ≡ false → s.missing ≡ true → Err 10 ≡ whole_is x count r s
    unfolding whole_is pick
    whole-missing g a = rw (lt-leb x.limit count h, g, a)

    pub whole-miscounted : r ≡ false → s.missing ≡ false → s.miscounted ≡ true → Err 11 ≡ whole_is x count r s
    unfolding whole_is pick
    whole-miscounted g a b = rw (lt-leb x.limit count h, g, a, b)

    pub whole-right : r ≡ false → s.missing ≡ false → s.miscounted ≡ false → Ok tt ≡ whole_is x count r s
    unfolding whole_is pick
    whole-right g a b = rw (lt-leb x.limit count h, g, a, b)

-- ---- what is seen in all
module _ (m n : ℕ) where
  or_assoc : (a b c : Bool) → either (either a b) c ≡ either a (either b c)
  unfolding either
  or_assoc true b c = refl
  or_assoc false b c = refl

  some_or : (f : ℤ → Bool) (v : ℤ) (vs : List ℤ) → some f (v ∷ vs) ≡ either (f v) (some f vs)
  unfolding some either
  some_or f v vs = go (f v)
    where
      go : (b : Bool) → elim b [ true ↦ true | false ↦ some f vs ] ≡ either b (some f vs)
      go true = refl
      go false = refl

  either-none : (a : Bool) → a ≡ either a false
  unfolding either
  either-none true = refl
  either-none false = refl

  none-some : (f : ℤ → Bool) (a : Bool) → a ≡ either a (some f [])
  unfolding some
  none-some f a = either-none a

  pub seen-statements : (cs : List Content) (vs : List ℤ) (s : Seen) → (see_all s cs m n vs).statements ≡ last_or s.statements (numbers_in Statements cs vs)
  unfolding see_all see_of last_or numbers_in cons_if code
  seen-statements [] vs s = refl
  seen-statements (c ∷ cs) [] s = refl
  seen-statements (Edition ∷ cs) (v ∷ vs) s = seen-statements cs vs s
  seen-statements (Statements ∷ cs) (v ∷ vs) s = seen-statements cs vs (see_of s Statements m n v)
  seen-statements (Literal ∷ cs) (v ∷ vs) s = seen-statements cs vs s
  seen-statements (Exception ∷ cs) (v ∷ vs) s = seen-statements cs vs (see_of s Exception m n v)
  seen-statements (Total ∷ cs) (v ∷ vs) s = seen-statements cs vs (see_of s Total m n v)

  pub seen-missing : (cs : List Content) (vs : List ℤ) (s : Seen) → (see_all s cs m n vs).missing ≡ either s.missing (some (λ v. not (le_z v (pos m))) (numbers_in Exception cs vs))
  unfolding see_all see_of numbers_in cons_if code
  seen-missing [] vs s = none-some _ s.missing
  seen-missing (c ∷ cs) [] s = none-some _ s.missing
  seen-missing (Edition ∷ cs) (v ∷ vs) s = seen-missing cs vs s
  seen-missing (Statements ∷ cs) (v ∷ vs) s = seen-missing cs vs (see_of s Statements m n v)
  seen-missing (Literal ∷ cs) (v ∷ vs) s = seen-missing cs vs s
  seen-missing (Exception ∷ cs) (v ∷ vs) s =
      seen-missing cs vs (see_of s Exception m n v)
      ∙ (or_assoc s.missing (not (le_z v (pos m))) (some (λ v. not (le_z v (pos m))) (numbers_in Exception cs vs)) ∙ ap (either s.missing) (sym (some_or (λ v. not (le_z v (pos m))) v (numbers_in Exception cs vs))))
  seen-missing (Total ∷ cs) (v ∷ vs) s = seen-missing cs vs (see_of s Total m n v)

  pub seen-miscounted : (cs : List Content) (vs : List ℤ) (s : Seen) → (see_all s cs m n vs).miscounted ≡ either s.miscounted (some (λ v. not (between (pos n) (pos n) v)) (numbers_in Total cs vs))
  unfolding see_all see_of numbers_in cons_if code
  seen-miscounted [] vs s = none-some _ s.miscounted
  seen-miscounted (c ∷ cs) [] s = none-some _ s.miscounted
  seen-miscounted (Edition ∷ cs) (v ∷ vs) s = seen-miscounted cs vs s
  seen-miscounted (Statements ∷ cs) (v ∷ vs) s = seen-miscounted cs vs (see_of s Statements m n v)
  seen-miscounted (Literal ∷ cs) (v ∷ vs) s = seen-miscounted cs vs s
  seen-miscounted (Exception ∷ cs) (v ∷ vs) s = seen-miscounted cs vs (see_of s Exception m n v)
  seen-miscounted (Total ∷ cs) (v ∷ vs) s =
      seen-miscounted cs vs (see_of s Total m n v)
      ∙ (or_assoc s.miscounted (not (between (pos n) (pos n) v)) (some (λ v. not (between (pos n) (pos n) v)) (numbers_in Total cs vs)) ∙ ap (either s.miscounted) (sym (some_or (λ v. not (between (pos n) (pos n) v)) v (numbers_in Total cs vs))))

-- ---- a line in the text
first-take : (text : List ℕ) (at len : ℕ) → (len ≡ 0 → ⊥) → at + len ≤ length text → take len (drop at text) ≡ get_or text at 0 ∷ take (len - 1) (drop (at + 1) text)
first-take text at zero f h = absurd (f refl)
first-take text at (suc m) f h =
    let e : suc m - 1 ≡ m = omega arith in
    rw (drop-cons text at 0 (omega arith), add-one at, e)

take-length : (text : List ℕ) (at len : ℕ) → (len ≡ 0 → ⊥) → at + len ≤ length text → length (take (len - 1) (drop (at + 1) text)) ≡ len - 1
take-length text at len f h =
    let g : 0 < len = pos_of len f in
    length-take-le (len - 1) (drop (at + 1) text) (simp length-drop (omega arith))
  where
    pos_of : (m : ℕ) → (m ≡ 0 → ⊥) → 0 < m
    pos_of zero f = absurd (f refl)
    pos_of (suc m) f = omega arith

-- a field looks at four bytes only
field-take : (m : ℕ) (bs : List ℕ) → 4 ≤ m → first_field (take m bs) ≡ first_field bs
unfolding first_field
field-take m bs h = rw (get_or-take m bs 0 0 (omega arith), get_or-take m bs 1 0 (omega arith), get_or-take m bs 2 0 (omega arith), get_or-take m bs 3 0 (omega arith))

fields-take : (fs : List Content) (n : ℕ) (bs : List ℕ) → read_fields fs n (take (length fs * 4) bs) ≡ read_fields fs n bs
unfolding read_fields
fields-take [] n bs = refl
fields-take (f ∷ fs) n bs =
    let e : suc (length fs) * 4 ≡ 4 + length fs * 4 = omega arith in
    rw (e, field-take (4 + length fs * 4) bs (omega arith), drop-take 4 (length fs * 4) bs, fields-take fs n (drop 4 bs))

-- the first numbers of those that were stored
stored-take : (l vs : List ℤ) (to m : ℕ) → to + length vs ≤ length l → m ≤ length vs → take m (drop to (sets l to vs)) ≡ take m vs
stored-take l vs to m h g =
    ap (λ (z : List ℤ). take m (drop to z)) (sets-eq vs l to h ∙ append_assoc (take to l) vs (drop (to + length vs) l))
    ∙ (ap (take m) (drop_at (take to l) (vs ++ drop (to + length vs) l) to (length-take-le to l (omega arith))) ∙ take-append-le m vs (drop (to + length vs) l) g)

module _ (st : State) (l₀ : List ℤ) (to : ℕ) where
  pub line-empty : (text : List ℕ) (at len : ℕ) (l : List ℤ) → len ≡ 0 → answer_line (Err 3) l ≡ store_line st l₀ to (read_line st (take len (drop at text)))
  unfolding answer_line store_line read_line
  line-empty text at len l e = rw e

module _ (text : List ℕ) (at len : ℕ) (st : State) (l₀ : List ℤ) (to : ℕ) (k : ℕ) (f : len ≡ 0 → ⊥) (h : at + len ≤ length text) (ek : k ≡ kind_for st.next (get_or text at 0)) where
  line-is : read_line st (take len (drop at text)) ≡ read_kind st k (take (len - 1) (drop (at + 1) text))
  unfolding read_line
  line-is = rw (first-take text at len f h, ek)

  pub line-elsewhere : (l : List ℤ) → none ≤ k → answer_line (Err 3) l ≡ store_line st l₀ to (read_line st (take len (drop at text)))
  unfolding answer_line store_line read_kind pick
  line-elsewhere l g = rw (line-is, le-ltb k none g)

  module _ (x : Kind) (g : k < none) (ex : x ≡ kind k) where
    rest-is : read_line st (take len (drop at text)) ≡ read_rest st k (take (len - 1) (drop (at + 1) text))
    unfolding read_kind pick
    rest-is = line-is ∙ rw (lt-ltb k none g)

    pub line-long : (l : List ℤ) → (len - 1 ≡ x.fields * 4 → ⊥) → answer_line (Err 4) l ≡ store_line st l₀ to (read_line st (take len (drop at text)))
    unfolding answer_line store_line read_rest pick bytes
    line-long l d =
        let w : x.fields ≡ (kind k).fields = ap (λ (y : Kind). y.fields) ex in
        rw (rest-is, take-length text at len f h, ne_eqb (2 + (len - 1)) (2 + 4 * (kind k).fields) (λ z. d (omega arith)))

    judged-is : len - 1 ≡ x.fields * 4 → read_line st (take len (drop at text)) ≡ judged (whole_of st k) k (read_fields (fields_of x) st.statements (drop (at + 1) text))
    unfolding read_rest pick bytes
    judged-is d =
        let w : x.fields ≡ (kind k).fields = ap (λ (y : Kind). y.fields) ex in
        let n : length (fields_of (kind k)) ≡ (kind k).fields = width_is k g in
        let p : len - 1 ≡ length (fields_of (kind k)) * 4 = omega arith in
        rest-is ∙ rw (take-length text at len f h, eq-eqb (2 + (len - 1)) (2 + 4 * (kind k).fields) (omega arith), p, fields-take (fields_of (kind k)) st.statements (drop (at + 1) text), ex)

-- ---- what the fields leave
module _ (n m rows : ℕ) (cs : List Content) (l₀ l : List ℤ) (to : ℕ) (bs : List ℕ) (r : Result Seen ℕ) (e : answer_fields r l ≡ store_fields n m rows cs l₀ to bs) where
  fields-lost : (q : ℕ) → r ≡ Err q → read_fields cs n bs ≡ fault q
  unfolding answer_fields store_fields store
  fields-lost q f = go (read_fields cs n bs) (rw f at e)
    where
      go : (x : Numbers) → lost q ≡ store m rows cs (none_seen n) l₀ to x → x ≡ fault q
      go (numbers vs) z = absurd (let y : ◌≡◌ {A = ℕ} 0 1 = cc in omega arith)
      go (fault p) z = let w : p ≡ q = cc in rw w

  fields-kept : (s : Seen) → r ≡ Ok s → (vs : List ℤ) × (read_fields cs n bs ≡ numbers vs) × (l ≡ sets l₀ to vs) × (s ≡ see_all (none_seen n) cs m rows vs)
  unfolding answer_fields store_fields store
  fields-kept s f = go (read_fields cs n bs) refl (rw f at e)
    where
      go : (x : Numbers) → read_fields cs n bs ≡ x → kept l s ≡ store m rows cs (none_seen n) l₀ to x → (vs : List ℤ) × (read_fields cs n bs ≡ numbers vs) × (l ≡ sets l₀ to vs) × (s ≡ see_all (none_seen n) cs m rows vs)
      go (numbers vs) p z = (vs, p, cc, cc)
      go (fault q) p z = absurd (let y : ◌≡◌ {A = ℕ} 0 1 = cc in omega arith)

-- The number of a refusal, 0 if there is none.
abbrev fault_of : Result ⊤ ℕ → ℕ
fault_of (Ok u) = 0
fault_of (Err q) = q

first-fault : (a b c d : Bool) (o u : ℕ) → fault_of (pick a (Err o) (pick b (Err u) (pick c (Err 10) (pick d (Err 11) (Ok tt))))) ≡ pick a o (pick b u (pick c 10 (pick d 11 0)))
unfolding pick
first-fault true b c d o u = refl
first-fault false true c d o u = refl
first-fault false false true d o u = refl
first-fault false false false true o u = refl
first-fault false false false false o u = refl

-- No kind's refusals have the number 0, nor has a line's as a whole.
abbrev numbered : ℕ → Bool
numbered k = both (ltb 0 (number (kind k).over)) (ltb 0 (number (kind k).unfilled))

all-numbered : all numbered none ≡ true
unfolding kind kinds unknown both
all-numbered = refl

some-fault : (k count : ℕ) (r : Bool) (s : Seen) (q : ℕ) → k < none → whole_is (kind k) count r s ≡ Err q → 0 < q
unfolding whole_is pick
some-fault k count r s q h e = go (leb (kind k).limit count) r s.missing s.miscounted e
  where
    t : numbered k ≡ true
    t = all-at numbered none k all-numbered h

    over : 0 < (number (kind k).over)
    over = ltb-true 0 (number (kind k).over) (both_left (ltb 0 (number (kind k).over)) (ltb 0 (number (kind k).unfilled)) t)

    unfilled : 0 < (number (kind k).unfilled)
    unfilled = ltb-true 0 (number (kind k).unfilled) (both_right (ltb 0 (number (kind k).over)) (ltb 0 (number (kind k).unfilled)) t)

    same : (p : ℕ) → ◌≡◌ {A = Result ⊤ ℕ} (Err p) (Err q) → 0 < p → 0 < q
    same p e h = let z : p ≡ q = cc in omega arith

    go : (a b c d : Bool) → ◌≡◌ {A = Result ⊤ ℕ} (pick a (Err (number (kind k).over)) (pick b (Err (number (kind k).unfilled)) (pick c (Err 10) (pick d (Err 11) (Ok tt))))) (Err q) → 0 < q
    go true b c d e = same (number (kind k).over) e over
    go false true c d e = same (number (kind k).unfilled) e unfilled
    go false false true d e = same 10 e (omega arith)
    go false false false true e = same 11 e (omega arith)
    go false false false false e = absurd (let z : ◌≡◌ {A = ℕ} 0 1 = cc in omega arith)

-- The tests of the line as a whole are those of what is seen.
whole_same : (st : State) (k : ℕ) (vs : List ℤ)
    → fault_of (whole_is (kind k) (get_or st.counts k 0) (headless (kind k) vs) (see_all (none_seen st.statements) (fields_of (kind k)) (get_or st.counts exception 0) st.rows vs)) ≡ whole_of st k vs
unfolding whole_is whole_of missing miscounted none_seen either
whole_same st k vs =
    rw (
      seen-missing (get_or st.counts exception 0) st.rows (fields_of (kind k)) vs (record { statements = st.statements; missing = false; miscounted = false }),
      seen-miscounted (get_or st.counts exception 0) st.rows (fields_of (kind k)) vs (record { statements = st.statements; missing = false; miscounted = false }),
    )
    (first-fault _ _ _ _ _ _)

n-same : (st : State) (k : ℕ) (vs : List ℤ) → (see_all (none_seen st.statements) (fields_of (kind k)) (get_or st.counts exception 0) st.rows vs).statements ≡ (step st k vs).statements
unfolding step none_seen
n-same st k vs = seen-statements (get_or st.counts exception 0) st.rows (fields_of (kind k)) vs (record { statements = st.statements; missing = false; miscounted = false })

-- ---- the returns of a line that is of a kind and of its length
module _ (text : List ℕ) (at len : ℕ) (st : State) (l₀ : List ℤ) (to : ℕ) (k : ℕ) (f : len ≡ 0 → ⊥) (h : at + len ≤ length text) (ek : k ≡ kind_for st.next (get_or text at 0))
    (x : Kind) (g : k < none) (ex : x ≡ kind k) (d : len - 1 ≡ x.fields * 4) (l : List ℤ) (r : Result Seen ℕ)
    (er : answer_fields r l ≡ store_fields st.statements (get_or st.counts exception 0) st.rows (fields_of x) l₀ to (drop (at + 1) text)) where
  pub line-fields : (q : ℕ) → r ≡ Err q → answer_line (Err q) l ≡ store_line st l₀ to (read_line st (take len (drop at text)))
  unfolding answer_line store_line judged
  line-fields q fr =
      rw (judged-is text at len st l₀ to k f h ek x g ex d, fields-lost st.statements (get_or st.counts exception 0) st.rows (fields_of x) l₀ l to (drop (at + 1) text) r er q fr)

  module _ (s : Seen) (fr : r ≡ Ok s) (room : to + widest ≤ length l₀) (a : Bool) (ea : a ≡ headless x (drop to l)) (y : Result ⊤ ℕ) (ey : y ≡ whole_is x (get_or st.counts k 0) a s) where
    -- The heads of the line are in their places of the slice.
    heads-are : (vs : List ℤ) → read_fields (fields_of x) st.statements (drop (at + 1) text) ≡ numbers vs → l ≡ sets l₀ to vs → a ≡ headless (kind k) vs
    unfolding headless
    heads-are vs p q =
        let w : length vs ≡ (kind k).fields = numbers-length (fields_of x) st.statements (drop (at + 1) text) vs p ∙ (ap (λ (z : Kind). length (fields_of z)) ex ∙ width_is k g) in
        ea ∙ rw (q, ex, stored-take l₀ vs to (kind k).heads (omega (arith, w, narrow k g)) (omega (arith, w, heads-in k g)))

    fault-is : (vs : List ℤ) → read_fields (fields_of x) st.statements (drop (at + 1) text) ≡ numbers vs → l ≡ sets l₀ to vs
        → s ≡ see_all (none_seen st.statements) (fields_of x) (get_or st.counts exception 0) st.rows vs → fault_of y ≡ whole_of st k vs
    fault-is vs p q z = ap fault_of ey ∙ rw (heads-are vs p q, z, ex) (whole_same st k vs)

    unless-left : (m : ℕ) (vs : List ℤ) (q : ℕ) → q ≡ m → 0 < q → lost_line q ≡ store_line st l₀ to (unless m (line k vs))
    unfolding unless store_line
    unless-left zero vs q e n = absurd (omega arith)
    unless-left (suc m) vs q e n = rw e

    unless-right : (m : ℕ) (vs : List ℤ) → 0 ≡ m → unless m (line k vs) ≡ line k vs
    unfolding unless
    unless-right zero vs e = refl
    unless-right (suc m) vs e = absurd (omega arith)

    pub line-whole : (q : ℕ) → y ≡ Err q → answer_line (Err q) l ≡ store_line st l₀ to (read_line st (take len (drop at text)))
    unfolding answer_line judged
    line-whole q n =
        let p = some-fault k (get_or st.counts k 0) a s q g (rw ex at (sym ey ∙ n)) in
        let v = fields-kept st.statements (get_or st.counts exception 0) st.rows (fields_of x) l₀ l to (drop (at + 1) text) r er s fr in
        rw (judged-is text at len st l₀ to k f h ek x g ex d, v.1) (unless-left (whole_of st k v.0) v.0 q (sym (ap fault_of n) ∙ fault-is v.0 v.1 v.2 v.3) p)

    right_is : (vs : List ℤ) → l ≡ sets l₀ to vs → s ≡ see_all (none_seen st.statements) (fields_of x) (get_or st.counts exception 0) st.rows vs → kept_line k s.statements l ≡ store_line st l₀ to (line k vs)
    unfolding store_line
    right_is vs q z = rw (z, ex, n-same st k vs, q)

    pub line-right : (u : ⊤) → y ≡ Ok u → answer_line (Ok (k, s.statements)) l ≡ store_line st l₀ to (read_line st (take len (drop at text)))
    unfolding answer_line judged
    line-right u n =
        let v = fields-kept st.statements (get_or st.counts exception 0) st.rows (fields_of x) l₀ l to (drop (at + 1) text) r er s fr in
        rw (judged-is text at len st l₀ to k f h ek x g ex d, v.1, unless-right (whole_of st k v.0) v.0 (sym (ap fault_of n) ∙ fault-is v.0 v.1 v.2 v.3)) (right_is v.0 v.2 v.3)

-- ---- a kind that was looked up
pub kind-heads : (x : Kind) (k : ℕ) → x ≡ kind k → k < none → x.heads ≤ widest
kind-heads x k e h = rw e (omega (arith, heads-in k h, narrow k h))

pub kind-contents : (x : Kind) (k : ℕ) → x ≡ kind k → k < none → x.from + x.fields ≤ length contents
kind-contents x k e h = rw e (contents-in k h)
