-- Words for lists: every member, some member, a member.
use Rattle.std.specs.Prelude.{List, [], ◌∷◌, ◌⊎◌, ◌≡◌}

-- Every member of the list has the property.
abbrev pub Every : {A : Type 0} → (A → Type 0) → List A → Type 0
Every P [] = Unit {0}
Every P (x ∷ xs) = P x × Every P xs

-- Some member of the list has the property.
abbrev pub Some : {A : Type 0} → (A → Type 0) → List A → Type 0
Some P [] = ⊥
Some P (x ∷ xs) = P x ⊎ Some P xs

-- a is a member of the list.
abbrev pub Among : {A : Type 0} → A → List A → Type 0
Among a xs = Some (λ x. x ≡ a) xs
