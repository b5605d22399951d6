-- When two members of an overload clash: lists of parameters that differ and may have values in common, where type variables count by
-- the place at which each comes first (Sail language manual, "Overloading").
use Rattle.std.specs.Prelude.{ℕ, suc, nat_eq, Bool, true, false, ◌&&◌, not, List, [], ◌∷◌, ◌++◌, map, if◌then◌else◌}
use Rattle.sail_types.specs.Shapes.{shares, each_shares}
use Rattle.sail_types.specs.declared.shapes.Shape.{Shape, Shape-F, fold-Shape, out-Shape}
use Rattle.sail_types.specs.declared.shapes.Shape.TheOpen as S

abbrev pub in_turn : List (List ℕ) → List ℕ
in_turn [] = []
in_turn (is ∷ rest) = is ++ in_turn rest

abbrev pub variables_form : Shape-F (List ℕ) → List ℕ
variables_form (S.Variable i) = i ∷ []
variables_form (S.List is) = is
variables_form (S.Vector is) = is
variables_form (S.Tuple parts) = in_turn parts
variables_form (S.Named t parts) = in_turn parts
variables_form form = []

-- the variables in a shape, from left to right, each as often as it stands there
abbrev pub variables : Shape → List ℕ
variables = fold-Shape (List ℕ) variables_form

abbrev pub variables_in : List Shape → List ℕ
variables_in ss = in_turn (map variables ss)

-- the place at which a variable comes first; the end, where it doesn't
abbrev pub first_place : List ℕ → ℕ → ℕ
first_place [] i = 0
first_place (j ∷ js) i = if nat_eq j i then 0 else suc (first_place js i)

abbrev pub each_alike : List (Shape → Bool) → List Shape → Bool
each_alike [] [] = true
each_alike (f ∷ fs) (s ∷ ss) = f s && each_alike fs ss
each_alike fs ss = false

-- two shapes whose variables go by these places
abbrev pub alike_form : List ℕ → List ℕ → Shape-F (Shape → Bool) → Shape-F Shape → Bool
alike_form is js (S.Variable i) (S.Variable j) = nat_eq (first_place is i) (first_place js j)
alike_form is js S.Unit S.Unit = true
alike_form is js S.Bool S.Bool = true
alike_form is js S.Bit S.Bit = true
alike_form is js S.Bits S.Bits = true
alike_form is js S.Int S.Int = true
alike_form is js S.String S.String = true
alike_form is js (S.List f) (S.List s) = f s
alike_form is js (S.Vector f) (S.Vector s) = f s
alike_form is js (S.Tuple fs) (S.Tuple ss) = each_alike fs ss
alike_form is js (S.Named t fs) (S.Named u ss) = nat_eq t u && each_alike fs ss
alike_form is js S.Hole S.Hole = true
alike_form is js S.Never S.Never = true
alike_form is js f s = false

abbrev pub alike : List ℕ → List ℕ → Shape → Shape → Bool
alike is js = fold-Shape (Shape → Bool) (λ f s. alike_form is js f (out-Shape s))

-- whether two lists of parameters are the same but for the names of their variables
abbrev pub all_alike : List Shape → List Shape → Bool
all_alike ss ts = each_alike (map (alike (variables_in ss) (variables_in ts)) ss) ts

-- whether members with these parameters clash: both as long, they may share values, and differ
abbrev pub overlaps : List Shape → List Shape → Bool
overlaps ss ts = each_shares (map shares ss) ts && not (all_alike ss ts)
