-- Membership in a list, and what holds of all members.
-- Assumes nothing.
use mathlib.Core.Path.{◌≡◌, refl, sym, subst}
use mathlib.Core.Bool.{Bool, true}
use mathlib.Core.List.{List, [], ◌∷◌}
use mathlib.Core.Logic.{inl, inr}
use Rattle.arith.specs.Choice.{every}
use Rattle.arith.proofs.Tests.{both_left, both_right}
use Rattle.schedule.specs.Feasibility.{All, In}

-- what holds of all holds of each
pub all_in : {A : Type 0} (P : A → Type 0) (xs : List A) → All P xs → (x : A) → In x xs → P x
all_in P [] a x m = absurd m
all_in P (y ∷ ys) a x (inl e) = subst P (sym e) a.0
all_in P (y ∷ ys) a x (inr m) = all_in P ys a.1 x m

-- what holds of each holds of all
pub in_all : {A : Type 0} (P : A → Type 0) (xs : List A) → ((x : A) → In x xs → P x) → All P xs
in_all P [] f = tt
in_all P (y ∷ ys) f = (f y (inl refl), in_all P ys (λ x m. f x (inr m)))

-- a test that passes at every element passes at each member
pub every_in : {A : Type 0} (f : A → Bool) (l : List A) → every f l ≡ true → (x : A) → In x l → f x ≡ true
every_in f [] h x m = absurd m
every_in f (y ∷ ys) h x (inl e) = subst (λ z. f z ≡ true) (sym e) (both_left (f y) (every f ys) h)
every_in f (y ∷ ys) h x (inr m) = every_in f ys (both_right (f y) (every f ys) h) x m
