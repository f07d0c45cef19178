-- What is written next, and where the program stands after a part.
use Prim.Native.Nat.{ℕ, ◌+◌, ◌-◌, ◌*◌, ◌<◌, ◌≤◌, ◌^◌}
use mathlib.Core.List.{List}
use mathlib.Core.Path.{◌≡◌, refl, sym, ap, ◌∙◌}
use native.Mathlib.Omega.{arith}
use lib.ListN.{length, take, drop, length-drop}
use lib.Seq.{take_all, drop-drop, length-take-le}
use Rattle.logic.proofs.Stores.{drop-take}
use Rattle.book.specs.declared.Shape.{Shape}
use Rattle.answers.specs.Ways.{ways_of, most_lines}
use Rattle.std.specs.Prelude.{Option, Some, None, Result, Ok, Err, IfOk}
use Rattle.sets.specs.declared.Pair.{Pair}
use Rattle.listing.specs.declared.Begun.{Begun}
use Rattle.listing.specs.Parts.{part_bytes, Next, Begins}
use Rattle.listing.proofs.Steps.{Step, first_ends, first_goes_on}
use Rattle.ways.specs.declared.streams.Output.{Output}
use Rattle.ways.specs.Stands.{Printed, Stood, stand_after}

-- ---- the bytes that are left of those to be written
next-rest : (bs xs : List ℕ) (i d : ℕ) → Next bs i xs → d ≤ length xs → Next bs (i + d) (take (length xs - d) (drop d xs))
next-rest bs xs i d e h = rw (take_all (length xs - d) (drop d xs) (omega (arith, length-drop d xs))) (ap (drop d) e
    ∙ parted ∙ ap (take (length xs - d)) (drop-drop d i (ways_of bs))
    ∙ ap (λ k. take k (drop (i + d) (ways_of bs))) (sym (length-drop d xs)))
  where
    parted : drop d (take (length xs) (drop i (ways_of bs))) ≡ take (length xs - d) (drop d (drop i (ways_of bs)))
    parted = let f : d + (length xs - d) ≡ length xs = omega arith in rw f at (drop-take d (length xs - d) (drop i (ways_of bs)))

-- The bytes that are left after d of them, which the output has taken.
module _ (bs xs : List ℕ) (t i d : ℕ) (e : t ≡ i + d) (h : d ≤ length xs) where
  pub rest-long : length (take (length xs - d) (drop d xs)) ≡ length xs - d
  rest-long = length-take-le (length xs - d) (drop d xs) (omega (arith, length-drop d xs))

  pub next-write : Next bs i xs → i + length xs < 2 ^ 64 → Next bs t (take (length xs - d) (drop d xs)) × (t + length (take (length xs - d) (drop d xs)) < 2 ^ 64)
  next-write n g = (rw e (next-rest bs xs i d n h), omega (arith, e, rest-long))

-- ---- after a part
-- No more bytes are counted than a number of the machine holds.
pub place-small : (i m b : ℕ) → m ≤ most_lines → i ≤ (most_lines - m) * part_bytes → b ≤ part_bytes → i + b < 2 ^ 64
place-small i m b h g f = omega arith

-- Where all of a part was written, the listing stands as after the part.
pub written : (bs ws ranks : List ℕ) (i : ℕ) (s : Shape) (m : ℕ) (o : List ℕ) (n : ℕ) (x : Option Pair) (to : Output) → Step bs ws ranks i s m o n x → n ≤ length o → to.taken ≡ i + length (take n o)
    → Stood bs ws ranks s m (record { to = to; next = x })
written bs ws ranks i s m o n x to p fits e =
    let t : to.taken ≡ i + n = e ∙ ap (λ k. i + k) (length-take-le n o fits) in
    record {
      fewer = p.fewer;
      goes_on = λ q h. rw t (p.goes_on q h);
      ends = λ h. t ∙ p.ends h;
    }

-- The same where it is not known whether it was: if not, it stands nowhere.
pub stood : {E : Type 0} (bs ws ranks : List ℕ) (i : ℕ) (s : Shape) (m : ℕ) (o : List ℕ) (n : ℕ) (x : Option Pair) (sent : Result Output E) → Step bs ws ranks i s m o n x → n ≤ length o
    → IfOk sent (λ (to : Output). to.taken ≡ i + length (take n o)) → IfOk (stand_after x sent) (Stood bs ws ranks s m)
stood bs ws ranks i s m o n x (Ok to) p fits e = written bs ws ranks i s m o n x to p fits e
stood bs ws ranks i s m o n x (Err f) p fits e = tt

-- ---- the first part of a text
module _ (bs ws ranks o : List ℕ) (r : Begun) (b : Begins bs ws ranks o r) where
  pub first-next : Next bs 0 (take r.bytes o)
  first-next = go r.next refl
    where
      go : (x : Option (Shape × Pair)) → r.next ≡ x → Next bs 0 (take r.bytes o)
      go None e = (first_ends bs ws ranks o r b e (record { statements = 0; plain = 0; exceptions = 0; preferences = 0; conditionals = 0; alternatives = 0 })).next
      go (Some x) e = (first_goes_on bs ws ranks o r b x.0 x.1 e).next

  pub first-whole : r.next ≡ None → (t : ℕ) → t ≡ 0 + length (take r.bytes o) → t ≡ length (ways_of bs)
  first-whole h t e = omega (arith, e, ap length (b.whole h))

  -- The same of the answer to a part that was sent or was not.
  pub whole-sent : {E : Type 0} → r.next ≡ None → (sent : Result Output E) → IfOk sent (λ (to : Output). to.taken ≡ 0 + length (take r.bytes o)) → Printed bs sent
  whole-sent h (Ok to) e = first-whole h to.taken e
  whole-sent h (Err f) e = tt
