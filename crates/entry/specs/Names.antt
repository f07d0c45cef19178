-- Names of stopping points: how they are spelt, and their order (document 02, request (h)).
use Rattle.std.specs.Prelude.{ℕ, ◌<◌, ◌≤◌, Bool, true, false, List, [], ◌∷◌, ◌++◌, ◌⊎◌, ◌≡◌, eqb, ltb, leb, length, get_or, replicate}
use Rattle.logic.specs.Lists.{Every}
use Rattle.logic.specs.Tests.{pick, both, either}
use Rattle.std.specs.declared.cmp.Ordering.{Ordering}
use Rattle.std.specs.declared.cmp.Ordering.TheVariants.{Less, Equal, Greater}
use Rattle.std.specs.Ordering.{is_lt, is_eq}

-- ---- in the request's words
-- A to Z or 0 to 9.
abbrev pub Letter : ℕ → Type 0
Letter b = ((48 ≤ b) × (b ≤ 57)) ⊎ ((65 ≤ b) × (b ≤ 90))

-- A name of 8 bytes: letters, at least one, and spaces behind.
pub record Spelt (n : List ℕ) : Type 0 where
  pub front : List ℕ
  pub spaces : ℕ
  pub bytes : n ≡ front ++ replicate spaces 32
  pub letters : Every Letter front
  pub some : 0 < length front
  pub long : length n ≡ 8

-- The name a comes before the name b, byte by byte: where they first differ a has the lesser byte.
pub record Precedes (a b : List ℕ) : Type 0 where
  pub place : ℕ
  pub agree : (i : ℕ) → i < place → get_or a i 0 ≡ get_or b i 0
  pub less : get_or a place 0 < get_or b place 0

-- ---- as tests: the laws are in proofs/Spelling
unfoldable pub letter : ℕ → Bool
letter b = either (both (leb 48 b) (leb b 57)) (both (leb 65 b) (leb b 90))

-- A space, or a letter behind a letter.
unfoldable pub follows : ℕ → ℕ → Bool
follows a b = either (eqb b 32) (both (letter a) (letter b))

-- Each byte may stand behind the one before it, the first behind a.
unfoldable pub chain : ℕ → List ℕ → Bool
chain a [] = true
chain a (b ∷ bs) = both (follows a b) (chain b bs)

-- One letter or more, and then only spaces.
unfoldable pub name_spelt : List ℕ → Bool
name_spelt [] = false
name_spelt (b ∷ bs) = both (letter b) (chain b bs)

-- A name: 8 bytes, rightly spelt.
unfoldable pub is_name : List ℕ → Bool
is_name n = both (eqb (length n) 8) (name_spelt n)

-- The order of names, byte by byte.
unfoldable pub compare_to : List ℕ → List ℕ → Ordering
compare_to [] [] = Equal
compare_to [] (b ∷ bs) = Less
compare_to (a ∷ xs) [] = Greater
compare_to (a ∷ xs) (b ∷ bs) = pick (ltb a b) Less (pick (ltb b a) Greater (compare_to xs bs))

-- a comes before b; a is b.
unfoldable pub before : List ℕ → List ℕ → Bool
before a b = is_lt (compare_to a b)

unfoldable pub same_name : List ℕ → List ℕ → Bool
same_name a b = is_eq (compare_to a b)
