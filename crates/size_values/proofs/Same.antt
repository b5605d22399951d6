-- Lists of different lengths aren't the same.
use Rattle.std.proofs.Common.{◌≡◌, ◌≢◌, ◌&&◌, suc, Bool, true, false, List, [], ◌∷◌, Option, ap, length, refl}
use Rattle.std.specs.Prelude.{ℤ}
use Rattle.size_values.specs.declared.constants.Constant.{Constant}
use Rattle.size_values.specs.declared.sized.Sized.{Sized}
use Rattle.size_values.specs.Hanging.{flag_eq, flags_eq, marks_eq}
use Rattle.size_values.specs.Sized.{all_eq, numbers_eq, option_eq, sized_eq}
use Rattle.size_values.specs.Sizes.{constant_eq, constants_eq}

and_false : (b c : Bool) → c ≡ false → (b && c) ≡ false
and_false true c e = e
and_false false c e = refl

pub numbers_differ : (xs ys : List (Option ℤ)) → length xs ≢ length ys → numbers_eq xs ys ≡ false
numbers_differ [] [] h = absurd (h refl)
numbers_differ [] (y ∷ ys) h = refl
numbers_differ (x ∷ xs) [] h = refl
numbers_differ (x ∷ xs) (y ∷ ys) h = and_false (option_eq x y) (numbers_eq xs ys) (numbers_differ xs ys (λ e. h (ap suc e)))

pub all_differ : (xs ys : List Sized) → length xs ≢ length ys → all_eq xs ys ≡ false
all_differ [] [] h = absurd (h refl)
all_differ [] (y ∷ ys) h = refl
all_differ (x ∷ xs) [] h = refl
all_differ (x ∷ xs) (y ∷ ys) h = and_false (sized_eq x y) (all_eq xs ys) (all_differ xs ys (λ e. h (ap suc e)))

pub constants_differ : (cs ds : List Constant) → length cs ≢ length ds → constants_eq cs ds ≡ false
constants_differ [] [] h = absurd (h refl)
constants_differ [] (d ∷ ds) h = refl
constants_differ (c ∷ cs) [] h = refl
constants_differ (c ∷ cs) (d ∷ ds) h = and_false (constant_eq c d) (constants_eq cs ds) (constants_differ cs ds (λ e. h (ap suc e)))

pub flags_differ : (xs ys : List Bool) → length xs ≢ length ys → flags_eq xs ys ≡ false
flags_differ [] [] h = absurd (h refl)
flags_differ [] (y ∷ ys) h = refl
flags_differ (x ∷ xs) [] h = refl
flags_differ (x ∷ xs) (y ∷ ys) h = and_false (flag_eq x y) (flags_eq xs ys) (flags_differ xs ys (λ e. h (ap suc e)))

pub marks_differ : (xs ys : List (List Bool)) → length xs ≢ length ys → marks_eq xs ys ≡ false
marks_differ [] [] h = absurd (h refl)
marks_differ [] (y ∷ ys) h = refl
marks_differ (x ∷ xs) [] h = refl
marks_differ (x ∷ xs) (y ∷ ys) h = and_false (flags_eq x y) (marks_eq xs ys) (marks_differ xs ys (λ e. h (ap suc e)))
