-- Small facts of options, truths and lists.
use Rattle.std.proofs.Common.{◌≡◌, ap, refl, Bool, true, false, ◌&&◌, ◌||◌, ◌⊎◌, inl, inr, List, [], ◌∷◌, ◌++◌, map}
use Rattle.std.specs.Prelude.{Option, Some, None, option_map}
use Rattle.sail_types.specs.Sums.{and_then}
use Rattle.sail_types.proofs.SumNumbers.{some_same}
use Rattle.split_laws.specs.Counted.{IsIn}

pub none : {A B : Type 0} {x : B} → None ≡ Some x → A
none h = absurd (cc)

pub then_found : {A B : Type 0} (o : Option A) (g : A → Option B) (z : B) → and_then o g ≡ Some z → (x : A) × (o ≡ Some x) × (g x ≡ Some z)
then_found None g z h = none h
then_found (Some x) g z h = (x, refl, h)

pub mapped_found : {A B : Type 0} (o : Option A) (g : A → B) (z : B) → option_map g o ≡ Some z → (x : A) × (o ≡ Some x) × (g x ≡ z)
mapped_found None g z h = none h
mapped_found (Some x) g z h = (x, refl, some_same (g x) z h)

pub and_same : (a b c : Bool) → ((a && b) && c) ≡ (a && (b && c))
and_same true b c = refl
and_same false b c = refl

pub or_same : (a b c : Bool) → ((a || b) || c) ≡ (a || (b || c))
or_same true b c = refl
or_same false b c = refl

pub and_true : (a : Bool) → (a && true) ≡ a
and_true true = refl
and_true false = refl

pub or_false : (a : Bool) → (a || false) ≡ a
or_false true = refl
or_false false = refl

pub either : {A B C : Type 0} → A ⊎ B → (A → C) → (B → C) → C
either (inl a) f g = f a
either (inr b) f g = g b

pub or_cases : (a b : Bool) → (a || b) ≡ true → (a ≡ true) ⊎ (b ≡ true)
or_cases true b h = inl refl
or_cases false b h = inr h

-- ---- items of lists

pub in_front : {A : Type 0} (x : A) (xs ys : List A) → IsIn x xs → IsIn x (xs ++ ys)
in_front x [] ys h = absurd h
in_front x (y ∷ xs) ys (inl e) = inl e
in_front x (y ∷ xs) ys (inr h) = inr (in_front x xs ys h)

pub in_back : {A : Type 0} (x : A) (xs ys : List A) → IsIn x ys → IsIn x (xs ++ ys)
in_back x [] ys h = h
in_back x (y ∷ xs) ys h = inr (in_back x xs ys h)

pub in_mapped : {A B : Type 0} (g : A → B) (x : A) (xs : List A) → IsIn x xs → IsIn (g x) (map g xs)
in_mapped g x [] h = absurd h
in_mapped g x (y ∷ xs) (inl e) = inl (ap g e)
in_mapped g x (y ∷ xs) (inr h) = inr (in_mapped g x xs h)
