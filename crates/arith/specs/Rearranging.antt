-- A list with its elements in another order.
-- Assumes nothing.
use Rattle.std.specs.Prelude.{List, [], ◌∷◌}

-- the second list is a rearrangement of the first: neighbours change places, anywhere and as often as wanted
pub data Rearranged {ℓ} {A : Type ℓ} : List A → List A → Type ℓ where
  none : Rearranged [] []
  keep : {x : A} {xs ys : List A} → Rearranged xs ys → Rearranged (x ∷ xs) (x ∷ ys)
  swap : {x y : A} {xs : List A} → Rearranged (x ∷ y ∷ xs) (y ∷ x ∷ xs)
  after : {xs ys zs : List A} → Rearranged xs ys → Rearranged ys zs → Rearranged xs zs
