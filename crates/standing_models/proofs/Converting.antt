-- The mappings by which parts convert in patterns, among those by which the whole does.
use Rattle.std.proofs.Common.{◌≡◌, ℕ, Bool, true, List, [], ◌∷◌, ◌++◌, refl}
use Rattle.std.specs.List.{list_all}
use Rattle.sail_names.specs.Known as Tables
use Rattle.sail_names.specs.Known.{in_measure}
use Rattle.shape_joins.proofs.Order.{no}
use Rattle.form_stands.proofs.Behind.{all_halves}
use Rattle.standing_models.specs.Tests.{Converts}

pub halves : (converts : ℕ → Bool) (names : Tables.Setting) (xs ys : List ℕ) → Converts converts names (xs ++ ys)
    → Converts converts names xs × Converts converts names ys
halves converts names xs ys h = (λ any. (all_halves converts xs ys (h any)).0, λ any. (all_halves converts xs ys (h any)).1)

-- a loop's measure is plain
pub none_in_measure : (converts : ℕ → Bool) (names : Tables.Setting) (xs : List ℕ) → Converts converts (in_measure names) xs
none_in_measure converts names xs = λ any. no any

-- all mappings are among all
abbrev pub any_mapping : ℕ → Bool
any_mapping n = true

all_any : (xs : List ℕ) → list_all any_mapping xs ≡ true
all_any [] = refl
all_any (x ∷ xs) = all_any xs

pub any_convert : (names : Tables.Setting) (xs : List ℕ) → Converts any_mapping names xs
any_convert names xs = λ any. all_any xs
