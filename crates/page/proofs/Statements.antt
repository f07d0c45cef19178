-- What the functions on one statement make, and that bounds narrowed to a value of a statement keep every view that has the value.
-- The view has the conclusion that the value stands for, and of the two conclusions about the statement no other.
use Rattle.std.proofs.Common.{nat_lt, [], ◌∷◌, get_or, ◌≡◌, ℕ, zero, suc, ◌-◌, ◌*◌, ◌%◌, ◌^◌, ◌<◌, Bool, true, false, List, refl, arith}
use Rattle.sets.specs.declared.Pair.{Pair}
use Rattle.sets.specs.Sets.{member, Apart, without}
use Rattle.sets.specs.Pairs.{Sub, Off, join_of, minus_of}
use Rattle.sets.proofs.Digits.{shifted, bit-lt, bit-without}
use Rattle.sets.proofs.Words.{none-sub}
use Rattle.sets.proofs.Pairs.{join-sub, sub-minus}
use Rattle.masks.specs.declared.Bounds.{Bounds}
use Rattle.bounds.specs.Singles.{one_of}
use Rattle.bounds.specs.Sound.{Keeps, into_of, out_of}
use Rattle.bounds.proofs.Steps.{keeps-less}
use Rattle.meaning.specs.Order.{value_of, value}
use Rattle.std.specs.Ordering.{partial_lt}
use Rattle.page.specs.contracts.ValuePartialOrd.TheImpl.{partial_cmp-value}
use Rattle.page.specs.declared.Value.{Value}
use Rattle.page.specs.declared.Value.TheVariants.{Absent, Held, Denied}
use Rattle.page.specs.Orders.{number, bare, about, said, given}
use Rattle.page.specs.Pages.{Giving, ViewGiving}
use Rattle.page.proofs.General.{in-set, off_set}

-- ---- what the functions make
module _ (p : Pair) (i : ℕ) (x y : Bool) (ex : x ≡ member i p.held) where
  pub value-held : x ≡ true → 1 ≡ value p i
  unfolding value value_of
  value-held e = rw (← ex, e)

  pub value-denied : y ≡ member i p.denied → x ≡ false → y ≡ true → 2 ≡ value p i
  unfolding value value_of
  value-denied ey e f = rw (← ex, ← ey, e, f)

  pub value-absent : y ≡ member i p.denied → x ≡ false → y ≡ false → 0 ≡ value p i
  unfolding value value_of
  value-absent ey e f = rw (← ex, ← ey, e, f)

pub number-at : (k : ℕ) → k < 3 → (v : Value) → number (get_or (Absent ∷ Held ∷ Denied ∷ []) k v) ≡ k
number-at zero h v = refl
number-at (suc zero) h v = refl
number-at (suc (suc zero)) h v = refl
number-at (suc (suc (suc k))) h v = absurd (omega arith)

-- The derived order is that of the numbers.
pub less_is : (v w : Value) (r : Bool) → r ≡ partial_lt partial_cmp-value.it v w → r ≡ nat_lt (number v) (number w)
less_is Absent Absent r e = e
less_is Absent Held r e = e
less_is Absent Denied r e = e
less_is Held Absent r e = e
less_is Held Held r e = e
less_is Held Denied r e = e
less_is Denied Absent r e = e
less_is Denied Held r e = e
less_is Denied Denied r e = e

pub about-is : (i : ℕ) → i - 1 < 64 → ◌≡◌ {A = Pair} (record { taken = 0; held = 1 * 2 ^ (i - 1) % 2 ^ 64; denied = 1 * 2 ^ (i - 1) % 2 ^ 64 }) (about i)
unfolding about
about-is i h = rw (shifted (i - 1) h)

pub said-absent : (i : ℕ) (v : Value) → v ≡ Absent → bare 0 ≡ said i (number v)
unfolding said
said-absent i v e = rw e

pub said-held : (i : ℕ) (v : Value) (m : Pair) → v ≡ Held → m ≡ one_of 0 (i - 1) → m ≡ said i (number v)
unfolding said one_of
said-held i v m e d = rw e d

pub said-denied : (i : ℕ) (v : Value) (m : Pair) → v ≡ Denied → m ≡ one_of 1 (i - 1) → m ≡ said i (number v)
unfolding said one_of
said-denied i v m e d = rw e d

pub given_is : (p : Pair) (i w : ℕ) (a m s r : Pair) → a ≡ about i → m ≡ minus_of p a → s ≡ said i w → r ≡ join_of m s → r ≡ given p i w
unfolding given
given_is p i w a m s r ea em es er = rw (er, em, ea, es)

-- ---- a view that has the value
-- What is apart from a set is so from what is left of it; nothing is left of a set without itself.
off_less : (a m x : ℕ) → Apart a m → Apart a (without m x)
off_less a m x f k = omega (arith, f k, bit-without m x k)

off-own : (a m : ℕ) → Apart a (without m m)
off-own a m k = omega (arith, bit-without m m k, bit-lt a k)

module _ (v : Pair) (i : ℕ) (apart : Apart v.held v.denied) where
  -- The view has the conclusion that its value stands for, and nothing else about the statement.
  pub record Says (w : ℕ) : Type 0 where
    pub has : Sub (said i w) v
    pub lacks : Off v (minus_of (about i) (said i w))

  says : (x y : Bool) → member i v.held ≡ x → member i v.denied ≡ y → Says (value_of x y)
  unfolding said about minus_of value_of
  says true y ex ey =
      let f = in-set i v.held ex in
      record {
        has = record { held = f; denied = none-sub v.denied; taken = none-sub v.taken };
        lacks = record {
          held = off-own v.held (2 ^ (i - 1));
          denied = off_less v.denied (2 ^ (i - 1)) 0 (λ k. omega (arith, apart k, f k));
          taken = off-own v.taken 0;
        };
      }
  says false true ex ey = record {
    has = record { held = none-sub v.held; denied = in-set i v.denied ey; taken = none-sub v.taken };
    lacks = record {
      held = off_less v.held (2 ^ (i - 1)) 0 (off_set i v.held ex);
      denied = off-own v.denied (2 ^ (i - 1));
      taken = off-own v.taken 0;
    };
  }
  says false false ex ey = record {
    has = record { held = none-sub v.held; denied = none-sub v.denied; taken = none-sub v.taken };
    lacks = record {
      held = off_less v.held (2 ^ (i - 1)) 0 (off_set i v.held ex);
      denied = off_less v.denied (2 ^ (i - 1)) 0 (off_set i v.denied ey);
      taken = off-own v.taken 0;
    };
  }

  value-says : (w : ℕ) → value v i ≡ w → Says w
  unfolding value
  value-says w e = rw e at (says (member i v.held) (member i v.denied) refl refl)

-- Bounds narrowed to the value keep every pair that has it.
pub fixed-keeps : (b : Bounds) (i w : ℕ) (m a x : Pair) (c o : Bounds) → m ≡ said i w → c ≡ into_of b m → a ≡ about i → x ≡ minus_of a m → o ≡ out_of c x → Keeps (Giving i w) b o
unfolding into_of out_of
fixed-keeps b i w m a x c o em ec ea ex eo =
    rw (eo, ec, ex, ea, em) (record {
      kept = λ v g y. let s = value-says v i g.coherent w g.gives in record { lo = join-sub y.lo s.has; hi = sub-minus y.hi s.lacks };
    })

-- So they keep every view that has it.
pub fixed-views : (ws : List ℕ) (n : ℕ) (ranks : List ℕ) (i w : ℕ) (b o : Bounds) → Keeps (Giving i w) b o → Keeps (ViewGiving ws n ranks i w) b o
fixed-views ws n ranks i w b o = keeps-less (λ v g. record { coherent = g.view.coherent; gives = g.gives })
