-- Where a name is in a list of entries, and what the operations then make of the list and of its bytes.
use mathlib.Core.Path.{◌≡◌, refl, sym, ap, ◌∙◌}
use mathlib.Core.Bool.{Bool, true, false}
use mathlib.Core.Option.{some, none}
use mathlib.Core.List.{List, [], ◌∷◌, ◌++◌, append_assoc}
use Prim.Native.Nat.{ℕ, suc, ◌+◌, ◌-◌, ◌*◌, ◌<◌, ◌≤◌}
use native.Mathlib.Omega.{arith}
use lib.Dec.{eqb}
use lib.ListN.{length, take, drop, replicate, length-append, length-replicate, replicate-append-replicate}
use lib.Seq.{sets, take_at, drop_at, take-append-add}
use borrow.Author.Tests.{eqb-true}
use Rattle.logic.specs.Lists.{Every}
use Rattle.logic.specs.Tests.{both, pick}
use Rattle.logic.proofs.Decide.{clash}
use Rattle.sets.specs.declared.Pair.{Pair}
use Rattle.std.specs.declared.cmp.Ordering.{Ordering}
use Rattle.std.specs.declared.cmp.Ordering.TheVariants.{Less, Equal, Greater}
use Rattle.std.specs.Prelude.{Ok, Err}
use Rattle.entry.specs.Names.{compare_to, same_name, is_name, name_spelt}
use Rattle.entry.specs.Bytes.{entry_row, pair_bytes}
use Rattle.points.specs.Points.{Entry, entry_rows, packed}
use Rattle.points.specs.Stores.{lookup, by_order, set_in, drop_in, find_in}
use Rattle.entry.proofs.Numbers.{pair-long}
use Rattle.entry.proofs.Orders.{more-trans, before-less, same-eq}
use Rattle.points.proofs.Tested.{Rising}
use Rattle.points.proofs.Moves.{sets-mid}

-- No name behind a greater one is the name.
pub past : (a n : List ℕ) (es : List Entry) → compare_to a n ≡ Greater → Rising a es → lookup es n ≡ none
unfolding lookup same_name Rising pick
past a n [] e r = refl
past a n (x ∷ es) e r = let m = more-trans a x.name n e (before-less a x.name r.0) in rw m (past x.name n es m r.1)

-- ---- where a name is
abbrev entry : List ℕ → Pair → Entry
entry n p = record { name = n; pair = p }

pub record SplitHere (es : List Entry) (j i : ℕ) (n : List ℕ) : Type 0 where
  pub front : List Entry
  pub here : Entry
  pub back : List Entry
  pub whole : es ≡ front ++ (here ∷ back)
  pub place : i ≡ j + length front
  pub name : here.name ≡ n
  pub found : lookup es n ≡ some here.pair
  pub put : (p : Pair) → set_in es n p ≡ front ++ (record { name = n; pair = p } ∷ back)
  pub gone : drop_in es n ≡ front ++ back

pub split-here : (es : List Entry) (j i : ℕ) (n : List ℕ) → find_in es j n ≡ Ok i → SplitHere es j i n
unfolding find_in lookup same_name set_in drop_in by_order pick
split-here [] j i n e = absurd (cc)
split-here (x ∷ es) j i n e = go (split-here es (suc j) i n) (compare_to x.name n) refl e
  where
    on : compare_to x.name n ≡ Less → SplitHere es (suc j) i n → SplitHere (x ∷ es) j i n
    on d s = record {
      front = x ∷ s.front;
      here = s.here;
      back = s.back;
      whole = ap (λ (l : List Entry). x ∷ l) s.whole;
      place = omega (arith, s.place);
      name = s.name;
      found = rw d s.found;
      put = λ p. rw d (ap (λ (l : List Entry). x ∷ l) (s.put p));
      gone = rw d (ap (λ (l : List Entry). x ∷ l) s.gone);
    }

    at : compare_to x.name n ≡ Equal → j ≡ i → SplitHere (x ∷ es) j i n
    at d f = record {
      front = [];
      here = x;
      back = es;
      whole = refl;
      place = omega arith;
      name = same-eq x.name n d;
      found = rw d;
      put = λ p. rw d;
      gone = rw d;
    }

    go : (find_in es (suc j) n ≡ Ok i → SplitHere es (suc j) i n) → (o : Ordering) → compare_to x.name n ≡ o → by_order o (find_in es (suc j) n) (Ok j) (Err j) ≡ Ok i → SplitHere (x ∷ es) j i n
    go ih Less d f = on d (ih f)
    go ih Equal d f = at d (cc)
    go ih Greater d f = absurd (cc)

pub record SplitGap (es : List Entry) (j i : ℕ) (n : List ℕ) : Type 0 where
  pub front : List Entry
  pub back : List Entry
  pub whole : es ≡ front ++ back
  pub place : i ≡ j + length front
  pub found : lookup es n ≡ none
  pub put : (p : Pair) → set_in es n p ≡ front ++ (record { name = n; pair = p } ∷ back)

pub split-gap : (es : List Entry) (j i : ℕ) (n a : List ℕ) → Rising a es → find_in es j n ≡ Err i → SplitGap es j i n
unfolding find_in lookup same_name set_in by_order pick Rising
split-gap [] j i n a r e = record { front = []; back = []; whole = refl; place = let d : j ≡ i = cc in omega arith; found = refl; put = λ p. refl }
split-gap (x ∷ es) j i n a r e = go (λ s f. split-gap es (suc j) i n x.name s f) (compare_to x.name n) refl (rest r) e
  where
    rest : Rising a (x ∷ es) → Rising x.name es
    rest s = s.1

    on : compare_to x.name n ≡ Less → SplitGap es (suc j) i n → SplitGap (x ∷ es) j i n
    on d s = record {
      front = x ∷ s.front;
      back = s.back;
      whole = ap (λ (l : List Entry). x ∷ l) s.whole;
      place = omega (arith, s.place);
      found = rw d s.found;
      put = λ p. rw d (ap (λ (l : List Entry). x ∷ l) (s.put p));
    }

    at : compare_to x.name n ≡ Greater → Rising x.name es → j ≡ i → SplitGap (x ∷ es) j i n
    at d s f = record {
      front = [];
      back = x ∷ es;
      whole = refl;
      place = omega arith;
      found = rw d (past x.name n es d s);
      put = λ p. rw d;
    }

    go : (Rising x.name es → find_in es (suc j) n ≡ Err i → SplitGap es (suc j) i n) → (o : Ordering) → compare_to x.name n ≡ o → Rising x.name es → by_order o (find_in es (suc j) n) (Ok j) (Err j) ≡ Err i → SplitGap (x ∷ es) j i n
    go ih Less d s f = on d (ih s f)
    go ih Equal d s f = absurd (cc)
    go ih Greater d s f = at d s (cc)

-- ---- bytes
pub rows_append : (xs ys : List Entry) → entry_rows (xs ++ ys) ≡ entry_rows xs ++ entry_rows ys
unfolding entry_rows
rows_append [] ys = refl
rows_append (x ∷ xs) ys = ap (λ (l : List ℕ). entry_row x.name x.pair ++ l) (rows_append xs ys) ∙ sym (append_assoc (entry_row x.name x.pair) (entry_rows xs) (entry_rows ys))

abbrev pub Named : List Entry → Type 0
Named es = Every (λ (e : Entry). is_name e.name ≡ true) es

pub name-long : (n : List ℕ) → is_name n ≡ true → length n ≡ 8
unfolding is_name both
name-long n e = go (eqb (length n) 8) refl e
  where
    go : (t : Bool) → eqb (length n) 8 ≡ t → both t (name_spelt n) ≡ true → length n ≡ 8
    go true d f = eqb-true (length n) 8 d
    go false d f = absurd (clash f)

pub row-long : (n : List ℕ) (p : Pair) → length n ≡ 8 → length (entry_row n p) ≡ 32
unfolding entry_row
row-long n p h = omega (arith, length-append n (pair_bytes p), pair-long p)

pub rows_long : (es : List Entry) → Named es → length (entry_rows es) ≡ length es * 32
unfolding entry_rows
rows_long [] h = refl
rows_long (x ∷ es) h = omega (arith, length-append (entry_row x.name x.pair) (entry_rows es), row-long x.name x.pair (name-long x.name h.0), rows_long es h.1)

named-front : (xs ys : List Entry) → Named (xs ++ ys) → Named xs
named-front [] ys h = tt
named-front (x ∷ xs) ys h = (h.0, named-front xs ys h.1)

named_back : (xs ys : List Entry) → Named (xs ++ ys) → Named ys
named_back [] ys h = h
named_back (x ∷ xs) ys h = named_back xs ys h.1

packed-mid : (xs : List Entry) (e : Entry) (ys : List Entry) (m : ℕ) → m ≡ 1024 - length (xs ++ (e ∷ ys)) * 32 → packed (xs ++ (e ∷ ys)) ≡ entry_rows xs ++ (entry_row e.name e.pair ++ (entry_rows ys ++ replicate m 0))
unfolding packed entry_rows
packed-mid xs e ys m h = rw (← h, rows_append xs (e ∷ ys), append_assoc (entry_rows xs) (entry_row e.name e.pair ++ entry_rows ys) (replicate m 0), append_assoc (entry_row e.name e.pair) (entry_rows ys) (replicate m 0))

packed-two : (xs ys : List Entry) (m : ℕ) → m ≡ 1024 - length (xs ++ ys) * 32 → packed (xs ++ ys) ≡ entry_rows xs ++ (entry_rows ys ++ replicate m 0)
unfolding packed entry_rows
packed-two xs ys m h = rw (← h, rows_append xs ys, append_assoc (entry_rows xs) (entry_rows ys) (replicate m 0))

pub set_here : (bs : List ℕ) (xs : List Entry) (e : Entry) (ys : List Entry) (n : List ℕ) (p : Pair) (at : ℕ) → Named (xs ++ (e ∷ ys)) → e.name ≡ n → bs ≡ packed (xs ++ (e ∷ ys)) → at ≡ length xs * 32 + 8
    → sets bs at (pair_bytes p) ≡ packed (xs ++ (record { name = n; pair = p } ∷ ys))
unfolding entry_row
set_here bs xs e ys n p at h en eb ea =
    let m = 1024 - length (xs ++ (e ∷ ys)) * 32 in
    let f : m ≡ 1024 - length (xs ++ (record { name = n; pair = p } ∷ ys)) * 32 = omega (arith, length-append xs (e ∷ ys), length-append xs (record { name = n; pair = p } ∷ ys)) in
    let hn : length n ≡ 8 = ap length (sym en) ∙ name-long e.name (named_back xs (e ∷ ys) h).0 in
    let z = entry_rows ys ++ replicate m 0 in
    let c : bs ≡ (entry_rows xs ++ n) ++ (pair_bytes e.pair ++ z) = eb ∙ (packed-mid xs e ys m refl ∙ (ap (λ (w : List ℕ). entry_rows xs ++ ((w ++ pair_bytes e.pair) ++ z)) en ∙ (ap (λ (w : List ℕ). entry_rows xs ++ w) (append_assoc n (pair_bytes e.pair) z) ∙ sym (append_assoc (entry_rows xs) n (pair_bytes e.pair ++ z))))) in
    let l : length (entry_rows xs ++ n) ≡ at = omega (arith, length-append (entry_rows xs) n, rows_long xs (named-front xs (e ∷ ys) h)) in
    ap (λ (x : List ℕ). sets x at (pair_bytes p)) c ∙ (sets-mid (entry_rows xs ++ n) (pair_bytes e.pair) z (pair_bytes p) at l (pair-long p ∙ sym (pair-long e.pair)) ∙ (append_assoc (entry_rows xs) n (pair_bytes p ++ z) ∙ (ap (λ (x : List ℕ). entry_rows xs ++ x) (sym (append_assoc n (pair_bytes p) z)) ∙ sym (packed-mid xs (record { name = n; pair = p }) ys m f))))

pub take-zeros : (a b : ℕ) → a ≤ b → take a (replicate b 0) ≡ replicate {A = ℕ} a 0
take-zeros a b h =
    let e : a + (b - a) ≡ b = omega arith in
    ap (λ (k : ℕ). take a (replicate k 0)) (sym e) ∙ (ap (take a) (sym (replicate-append-replicate {A = ℕ} a (b - a) 0)) ∙ take_at {A = ℕ} (replicate a 0) (replicate (b - a) 0) a (length-replicate {A = ℕ} a 0))

pub set-gap : (bs : List ℕ) (xs ys : List Entry) (n : List ℕ) (p : Pair) (at : ℕ) → Named (xs ++ ys) → length (xs ++ ys) < 32 → bs ≡ packed (xs ++ ys) → at ≡ length xs * 32
    → take at bs ++ (entry_row n p ++ take (992 - at) (drop at bs)) ≡ packed (xs ++ (record { name = n; pair = p } ∷ ys))
set-gap bs xs ys n p at h few eb ea =
    let m = 1024 - length (xs ++ ys) * 32 in
    let q = 992 - length (xs ++ ys) * 32 in
    let z = entry_rows ys ++ replicate m 0 in
    let f : q ≡ 1024 - length (xs ++ (record { name = n; pair = p } ∷ ys)) * 32 = omega (arith, length-append xs ys, length-append xs (record { name = n; pair = p } ∷ ys)) in
    let c : bs ≡ entry_rows xs ++ z = eb ∙ packed-two xs ys m refl in
    let l : length (entry_rows xs) ≡ at = omega (arith, rows_long xs (named-front xs ys h)) in
    let t : take at bs ≡ entry_rows xs = ap (take at) c ∙ take_at (entry_rows xs) z at l in
    let d : drop at bs ≡ z = ap (drop at) c ∙ drop_at (entry_rows xs) z at l in
    let g : 992 - at ≡ length (entry_rows ys) + q = omega (arith, rows_long ys (named_back xs ys h), length-append xs ys) in
    let u : take (992 - at) (drop at bs) ≡ entry_rows ys ++ replicate q 0 = rw (d, g) (take-append-add (entry_rows ys) (replicate m 0) q ∙ ap (λ (x : List ℕ). entry_rows ys ++ x) (take-zeros q m (omega arith))) in
    ap (λ (x : List ℕ). x ++ (entry_row n p ++ take (992 - at) (drop at bs))) t ∙ (ap (λ (x : List ℕ). entry_rows xs ++ (entry_row n p ++ x)) u ∙ sym (packed-mid xs (record { name = n; pair = p }) ys q f))

pub drop_here : (bs : List ℕ) (xs : List Entry) (e : Entry) (ys : List Entry) (at : ℕ) → Named (xs ++ (e ∷ ys)) → length (xs ++ (e ∷ ys)) ≤ 32 → bs ≡ packed (xs ++ (e ∷ ys)) → at ≡ length xs * 32
    → take at bs ++ (drop (at + 32) bs ++ replicate 32 0) ≡ packed (xs ++ ys)
drop_here bs xs e ys at h few eb ea =
    let m = 1024 - length (xs ++ (e ∷ ys)) * 32 in
    let z = entry_rows ys ++ replicate m 0 in
    let f : m + 32 ≡ 1024 - length (xs ++ ys) * 32 = omega (arith, length-append xs ys, length-append xs (e ∷ ys)) in
    let r = entry_row e.name e.pair in
    let c : bs ≡ entry_rows xs ++ (r ++ z) = eb ∙ packed-mid xs e ys m refl in
    let l : length (entry_rows xs) ≡ at = omega (arith, rows_long xs (named-front xs (e ∷ ys) h)) in
    let lr : length (entry_rows xs ++ r) ≡ at + 32 = omega (arith, length-append (entry_rows xs) r, row-long e.name e.pair (name-long e.name (named_back xs (e ∷ ys) h).0)) in
    let t : take at bs ≡ entry_rows xs = ap (take at) c ∙ take_at (entry_rows xs) (r ++ z) at l in
    let d : drop (at + 32) bs ≡ z = ap (drop (at + 32)) (c ∙ sym (append_assoc (entry_rows xs) r z)) ∙ drop_at (entry_rows xs ++ r) z (at + 32) lr in
    rw (t, d) (ap (λ (x : List ℕ). entry_rows xs ++ x) (append_assoc (entry_rows ys) (replicate m 0) (replicate 32 0) ∙ ap (λ (x : List ℕ). entry_rows ys ++ x) (replicate-append-replicate m 32 0)) ∙ sym (packed-two xs ys (m + 32) f))
