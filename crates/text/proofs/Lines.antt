-- Lines: a right row, written, is read back; and a line that is read as a row is how that row is written.
-- Said once for all kinds, from the two laws of a field: the same tests are run on a row's numbers as on the line's bytes.
use mathlib.Core.Path.{◌≡◌, refl, sym, ap, ◌∙◌}
use mathlib.Core.Bool.{Bool, true, false}
use mathlib.Core.List.{List, [], ◌∷◌, ◌++◌}
use Prim.Native.Nat.{ℕ, zero, suc, ◌+◌, ◌*◌, ◌<◌}
use native.Mathlib.Omega.{arith}
use lib.Dec.{eqb, ltb}
use lib.IntN.{ℤ}
use lib.ListN.{length, get_or, drop, length-append}
use borrow.Author.Tests.{eqb-true, eq-eqb, ltb-true, lt-ltb}
use Rattle.std.specs.Prelude.{Result, Ok, Err}
use Rattle.logic.specs.Lists.{Every}
use Rattle.logic.specs.Tests.{pick}
use Rattle.book.specs.declared.Content.{Content}
use Rattle.book.specs.Faults.{number}
use Rattle.book.specs.Kinds.{kind, fields_of, bytes, none, Range, range_of}
use Rattle.text.specs.declared.State.{State}
use Rattle.text.specs.Fields.{written, written_all, first_field, Short}
use Rattle.text.specs.Lines.{Numbers, Line, inside, and_then, test_field, read_fields, whole_of, unless, judged, read_rest, read_kind, read_line, line_of, kind_for}
use Rattle.text.specs.Lines.Numbers.{numbers, fault}
use Rattle.text.specs.Lines.Line.{line, wrong}
use Rattle.text.specs.Tables.{test_fields}
use Rattle.text.proofs.Fields.{read-written, written_read, field-length, drop-field}
use Rattle.text.proofs.KindFacts.{may_come, letter-kind, kind-letter, width_is}

-- ---- four bytes and the rest
four-more : (bs : List ℕ) (m : ℕ) → length bs ≡ suc m * 4 → bs ≡ get_or bs 0 0 ∷ get_or bs 1 0 ∷ get_or bs 2 0 ∷ get_or bs 3 0 ∷ drop 4 bs
four-more [] m e = absurd (omega arith)
four-more (a ∷ []) m e = absurd (omega arith)
four-more (a ∷ b ∷ []) m e = absurd (omega arith)
four-more (a ∷ b ∷ c ∷ []) m e = absurd (omega arith)
four-more (a ∷ b ∷ c ∷ d ∷ bs) m e = refl

four-less : (bs : List ℕ) (m : ℕ) → length bs ≡ suc m * 4 → length (drop 4 bs) ≡ m * 4
four-less [] m e = absurd (omega arith)
four-less (a ∷ []) m e = absurd (omega arith)
four-less (a ∷ b ∷ []) m e = absurd (omega arith)
four-less (a ∷ b ∷ c ∷ []) m e = absurd (omega arith)
four-less (a ∷ b ∷ c ∷ d ∷ bs) m e = omega arith

pub fields-length : (vs : List ℤ) → length (written_all vs) ≡ length vs * 4
unfolding written_all
fields-length [] = refl
fields-length (v ∷ vs) = rw (length-append (written v) (written_all vs), field-length v, fields-length vs) (omega arith)

-- ---- reading what is written
-- the fields of numbers, read, are the numbers tested
pub fields_read : (fs : List Content) (n : ℕ) (vs : List ℤ) → Every Short vs → length vs ≡ length fs → read_fields fs n (written_all vs) ≡ test_fields fs n vs
unfolding read_fields test_fields written_all
fields_read [] n [] s e = refl
fields_read [] n (v ∷ vs) s e = absurd (omega arith)
fields_read (f ∷ fs) n [] s e = absurd (omega arith)
fields_read (f ∷ fs) n (v ∷ vs) s e = rw (read-written v (written_all vs) s.0, drop-field v (written_all vs), fields_read fs n vs s.1 (omega arith))

-- a first field and the rest that give numbers
pub first-numbers : (x : Result ℤ ℕ) (r : Range) (y : Numbers) (vs : List ℤ) → test_field x r y ≡ numbers vs
    → (v : ℤ) × (ws : List ℤ) × (x ≡ Ok v) × (y ≡ numbers ws) × (vs ≡ v ∷ ws)
unfolding test_field pick and_then
first-numbers (Err q) r y vs e = absurd (let z : ◌≡◌ {A = ℕ} 0 1 = cc in omega arith)
first-numbers (Ok v) r (fault q) vs e = go (inside r v) e
  where
    go : (b : Bool) → pick b (fault q) (fault (number r.fault)) ≡ numbers vs → (u : ℤ) × (ws : List ℤ) × (◌≡◌ {A = Result ℤ ℕ} (Ok v) (Ok u)) × (fault q ≡ numbers ws) × (vs ≡ u ∷ ws)
    go true e = absurd (let z : ◌≡◌ {A = ℕ} 0 1 = cc in omega arith)
    go false e = absurd (let z : ◌≡◌ {A = ℕ} 0 1 = cc in omega arith)
first-numbers (Ok v) r (numbers ws) vs e = go (inside r v) e
  where
    go : (b : Bool) → pick b (numbers (v ∷ ws)) (fault (number r.fault)) ≡ numbers vs → (u : ℤ) × (us : List ℤ) × (◌≡◌ {A = Result ℤ ℕ} (Ok v) (Ok u)) × (numbers ws ≡ numbers us) × (vs ≡ u ∷ us)
    go true e = (v, ws, refl, refl, cc)
    go false e = absurd (let z : ◌≡◌ {A = ℕ} 0 1 = cc in omega arith)

tested-join : (v u : ℤ) (vs ws us : List ℤ) → ◌≡◌ {A = Result ℤ ℕ} (Ok v) (Ok u) → ws ≡ vs → us ≡ u ∷ ws → us ≡ v ∷ vs
tested-join v u vs ws us a b c = cc

-- numbers that pass are as many as the fields
pub fields-tested : (fs : List Content) (n : ℕ) (vs us : List ℤ) → test_fields fs n vs ≡ numbers us → (us ≡ vs) × (length vs ≡ length fs)
unfolding test_fields
fields-tested [] n [] us e = (cc, refl)
fields-tested [] n (v ∷ vs) us e = absurd (let z : ◌≡◌ {A = ℕ} 0 1 = cc in omega arith)
fields-tested (f ∷ fs) n [] us e = absurd (let z : ◌≡◌ {A = ℕ} 0 1 = cc in omega arith)
fields-tested (f ∷ fs) n (v ∷ vs) us e =
    let g = first-numbers (Ok v) (range_of f n) (test_fields fs n vs) us e in
    let ih = fields-tested fs n vs g.1 g.3 in
    (tested-join v g.0 vs g.1 us g.2 ih.0 g.4, ap suc ih.1)

pub numbers-length : (fs : List Content) (n : ℕ) (bs : List ℕ) (vs : List ℤ) → read_fields fs n bs ≡ numbers vs → length vs ≡ length fs
unfolding read_fields
numbers-length [] n bs vs e = let q : [] ≡ vs = cc in rw (← q)
numbers-length (f ∷ fs) n bs vs e =
    let g = first-numbers (first_field bs) (range_of f n) (read_fields fs n (drop 4 bs)) vs e in
    ap length g.4 ∙ ap suc (numbers-length fs n (drop 4 bs) g.1 g.3)

-- ---- writing what is read
first-written : (bs : List ℕ) (m : ℕ) (v : ℤ) → length bs ≡ suc m * 4 → first_field bs ≡ Ok v → bs ≡ written v ++ drop 4 bs
unfolding first_field
first-written bs m v e r = four-more bs m e ∙ ap (λ (l : List ℕ). l ++ drop 4 bs) (sym (written_read (get_or bs 0 0) (get_or bs 1 0) (get_or bs 2 0) (get_or bs 3 0) v r))

join-fields : (f : Content) (fs : List Content) (n : ℕ) (bs : List ℕ) (vs : List ℤ) (v : ℤ) (ws : List ℤ)
    → first_field bs ≡ Ok v → read_fields fs n (drop 4 bs) ≡ numbers ws → vs ≡ v ∷ ws → bs ≡ written v ++ drop 4 bs → drop 4 bs ≡ written_all ws
    → test_fields fs n ws ≡ numbers ws → test_field (first_field bs) (range_of f n) (read_fields fs n (drop 4 bs)) ≡ numbers vs
    → (bs ≡ written_all vs) × (test_fields (f ∷ fs) n vs ≡ numbers vs)
unfolding test_fields written_all
join-fields f fs n bs vs v ws a b c d e g r = (d ∙ rw (e, c), rw (c, g) (rw (a, b, c) at r))

-- fields that read as numbers are how these are written, and these pass the same tests
pub read-fields : (fs : List Content) (n : ℕ) (bs : List ℕ) (vs : List ℤ) → length bs ≡ length fs * 4 → read_fields fs n bs ≡ numbers vs
    → (bs ≡ written_all vs) × (test_fields fs n vs ≡ numbers vs)
unfolding read_fields test_fields written_all
read-fields [] n [] vs e r = let q : [] ≡ vs = cc in (rw (← q), rw (← q))
read-fields [] n (b ∷ bs) vs e r = absurd (omega arith)
read-fields (f ∷ fs) n bs vs e r =
    let g = first-numbers (first_field bs) (range_of f n) (read_fields fs n (drop 4 bs)) vs r in
    let ih = read-fields fs n (drop 4 bs) g.1 (four-less bs (length fs) e) g.3 in
    join-fields f fs n bs vs g.0 g.1 g.2 g.3 g.4 (first-written bs (length fs) g.0 e g.2) ih.0 ih.1 r

-- ---- lines
-- A row of the kind at place k, tested as a line is after the lines before it.
unfoldable pub run_row : State → ℕ → List ℤ → Line
run_row st k vs = pick (may_come st.next k) (judged (whole_of st k) k (test_fields (fields_of (kind k)) st.statements vs)) (wrong 3)

-- The kind that the letter of kind k gives, in place.
letter-placed : (st : State) (k : ℕ) (bs : List ℕ) → k < none → read_kind st (kind_for st.next (kind k).letter) bs ≡ pick (may_come st.next k) (read_rest st k bs) (wrong 3)
unfolding read_kind pick
letter-placed st k bs h = rw (letter-kind st.next k h) (go (may_come st.next k))
  where
    go : (b : Bool) → pick (ltb (pick b k none) none) (read_rest st (pick b k none) bs) (wrong 3) ≡ pick b (read_rest st k bs) (wrong 3)
    go true = rw (lt-ltb k none h)
    go false = refl

-- A row of four-column numbers, written and read, is the row tested.
pub line_read : (st : State) (k : ℕ) (vs : List ℤ) → k < none → Every Short vs → length vs ≡ (kind k).fields → read_line st (line_of k vs) ≡ run_row st k vs
unfolding read_line line_of read_rest run_row bytes pick
line_read st k vs h s e =
    let l : 2 + length (written_all vs) ≡ 2 + 4 * (kind k).fields = omega (arith, fields-length vs, e) in
    letter-placed st k (written_all vs) h
    ∙ rw (eq-eqb (2 + length (written_all vs)) (2 + 4 * (kind k).fields) l, fields_read (fields_of (kind k)) st.statements vs s (e ∙ sym (width_is k h)))

unless-line : (q : ℕ) (l : Line) (k : ℕ) (vs : List ℤ) → unless q l ≡ line k vs → (q ≡ 0) × (l ≡ line k vs)
unfolding unless
unless-line zero l k vs e = (refl, e)
unless-line (suc q) l k vs e = absurd (let z : ◌≡◌ {A = ℕ} 0 1 = cc in omega arith)

-- What a line is that its fields and the whole leave right.
pub judged-line : (f : List ℤ → ℕ) (j : ℕ) (x : Numbers) (k : ℕ) (vs : List ℤ) → judged f j x ≡ line k vs → (x ≡ numbers vs) × (j ≡ k) × (f vs ≡ 0)
unfolding judged
judged-line f j (fault q) k vs e = absurd (let z : ◌≡◌ {A = ℕ} 0 1 = cc in omega arith)
judged-line f j (numbers us) k vs e =
    let q = unless-line (f us) (line j us) k vs e in
    let b : us ≡ vs = cc in
    (rw b, cc, rw b at q.0)

pick-line : (b : Bool) (l : Line) (q k : ℕ) (vs : List ℤ) → pick b l (wrong q) ≡ line k vs → (b ≡ true) × (l ≡ line k vs)
unfolding pick
pick-line true l q k vs e = (refl, e)
pick-line false l q k vs e = absurd (let z : ◌≡◌ {A = ℕ} 0 1 = cc in omega arith)

read-rest : (st : State) (j : ℕ) (bs : List ℕ) (k : ℕ) (vs : List ℤ) → j < none → read_rest st j bs ≡ line k vs
    → (j ≡ k) × (bs ≡ written_all vs) × (judged (whole_of st j) j (test_fields (fields_of (kind j)) st.statements vs) ≡ line k vs)
unfolding read_rest bytes
read-rest st j bs k vs h e =
    let p = pick-line (eqb (2 + length bs) (2 + 4 * (kind j).fields)) (judged (whole_of st j) j (read_fields (fields_of (kind j)) st.statements bs)) 4 k vs e in
    let x = judged-line (whole_of st j) j (read_fields (fields_of (kind j)) st.statements bs) k vs p.1 in
    let y = read-fields (fields_of (kind j)) st.statements bs vs (omega (arith, eqb-true (2 + length bs) (2 + 4 * (kind j).fields) p.0, width_is j h)) x.0 in
    (x.1, y.0, ap (judged (whole_of st j) j) (y.1 ∙ sym x.0) ∙ p.1)

row-yes : (st : State) (k : ℕ) (vs : List ℤ) (l : Line) → may_come st.next k ≡ true → judged (whole_of st k) k (test_fields (fields_of (kind k)) st.statements vs) ≡ l → run_row st k vs ≡ l
unfolding run_row pick
row-yes st k vs l e r = rw e r

-- A kind that its own letter gives may come.
came : (next k : ℕ) → k < none → kind_for next (kind k).letter ≡ k → may_come next k ≡ true
unfolding pick
came next k h e = go (may_come next k) (sym (letter-kind next k h) ∙ e)
  where
    go : (b : Bool) → pick b k none ≡ k → b ≡ true
    go true q = refl
    go false q = absurd (omega arith)

-- A line that is read as a row is how that row is written, and the row passes the same tests.
pub read-line : (st : State) (l : List ℕ) (k : ℕ) (vs : List ℤ) → read_line st l ≡ line k vs → (k < none) × (l ≡ line_of k vs) × (run_row st k vs ≡ line k vs)
unfolding read_line read_kind line_of
read-line st [] k vs e = absurd (let z : ◌≡◌ {A = ℕ} 0 1 = cc in omega arith)
read-line st (b ∷ bs) k vs e =
    let p = pick-line (ltb (kind_for st.next b) none) (read_rest st (kind_for st.next b) bs) 3 k vs e in
    let h = ltb-true (kind_for st.next b) none p.0 in
    let r = read-rest st (kind_for st.next b) bs k vs h p.1 in
    let g : k < none = rw r.0 at h in
    let q = kind-letter st.next b k r.0 g in
    (g, rw (q, r.1), row-yes st k vs (line k vs) (came st.next k g (rw q r.0)) (rw r.0 at r.2))

-- ---- a row that passes
pub record Passed (st : State) (j : ℕ) (us : List ℤ) (k : ℕ) (vs : List ℤ) : Type 0 where
  pub kind-is : j ≡ k
  pub nums-are : us ≡ vs
  pub placed : may_come st.next k ≡ true
  pub wide : length vs ≡ length (fields_of (kind k))
  pub right : whole_of st k vs ≡ 0
  pub fields-pass : test_fields (fields_of (kind k)) st.statements vs ≡ numbers vs

pub row-passed : (st : State) (j : ℕ) (us : List ℤ) (k : ℕ) (vs : List ℤ) → run_row st j us ≡ line k vs → Passed st j us k vs
unfolding run_row
row-passed st j us k vs e =
    let p = pick-line (may_come st.next j) (judged (whole_of st j) j (test_fields (fields_of (kind j)) st.statements us)) 3 k vs e in
    let x = judged-line (whole_of st j) j (test_fields (fields_of (kind j)) st.statements us) k vs p.1 in
    let y = fields-tested (fields_of (kind j)) st.statements us vs x.0 in
    record {
      kind-is = x.1;
      nums-are = sym y.0;
      placed = rw x.1 at p.0;
      wide = ap length y.0 ∙ y.1 ∙ ap (λ (i : ℕ). length (fields_of (kind i))) x.1;
      right = rw x.1 at x.2;
      fields-pass = rw (x.1, ← y.0) at x.0;
    }
