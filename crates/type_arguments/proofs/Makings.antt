-- What was made of what, where something was made.
use Rattle.std.proofs.Common.{◌≡◌, List, [], ◌∷◌, refl}
use Rattle.std.specs.Prelude.{Option, Some, None, option_map}
use Rattle.sail_types.specs.Readings.{more}
use Rattle.sail_types.specs.Sums.{and_then}

pub map_parts : {A B : Type 0} (f : A → B) (o : Option A) (y : B) → option_map f o ≡ Some y → (x : A) × (o ≡ Some x) × (f x ≡ y)
map_parts f None y h = absurd (cc)
map_parts f (Some x) y h = (x, refl, cc)

pub then_parts : {A B : Type 0} (o : Option A) (f : A → Option B) (y : B) → and_then o f ≡ Some y → (x : A) × (o ≡ Some x) × (f x ≡ Some y)
then_parts None f y h = absurd (cc)
then_parts (Some x) f y h = (x, refl, h)

pub more_parts : {A : Type 0} (o : Option A) (os : Option (List A)) (ys : List A) → more o os ≡ Some ys
    → (x : A) × (xs : List A) × (o ≡ Some x) × (os ≡ Some xs) × (x ∷ xs ≡ ys)
more_parts None os ys h = absurd (cc)
more_parts (Some x) os ys h = let k = map_parts (λ xs. x ∷ xs) os ys h in (x, k.0, refl, k.1, k.2)

pub nothing_made : {A : Type 0} (ys : List A) → Some [] ≡ Some ys → [] ≡ ys
nothing_made ys h = cc
