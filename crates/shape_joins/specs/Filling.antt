-- When a shape is another one, once what it leaves open is filled: the order of which `join` gives the least shape above two.
use Rattle.std.specs.Prelude.{nat_eq, Bool, true, false, ◌&&◌, List, [], ◌∷◌, map}
use Rattle.sail_types.specs.declared.shapes.Shape.{Shape, Shape-F, fold-Shape, out-Shape}
use Rattle.sail_types.specs.declared.shapes.Shape.TheOpen as S

abbrev pub each_fills : List (Shape → Bool) → List Shape → Bool
each_fills [] [] = true
each_fills (f ∷ fs) (s ∷ ss) = f s && each_fills fs ss
each_fills fs ss = false

-- what never ends normally is below all, and a hole below all others
abbrev pub fill_form : Shape-F (Shape → Bool) → Shape-F Shape → Bool
fill_form S.Never form = true
fill_form S.Hole S.Never = false
fill_form S.Hole form = true
fill_form S.Unit S.Unit = true
fill_form S.Bool S.Bool = true
fill_form S.Bit S.Bit = true
fill_form S.Bits S.Bits = true
fill_form S.Int S.Int = true
fill_form S.String S.String = true
fill_form (S.List f) (S.List s) = f s
fill_form (S.Vector f) (S.Vector s) = f s
fill_form (S.Tuple fs) (S.Tuple ss) = each_fills fs ss
fill_form (S.Named i fs) (S.Named j ss) = nat_eq i j && each_fills fs ss
fill_form (S.Variable i) (S.Variable j) = nat_eq i j
fill_form shape form = false

abbrev pub fills : Shape → Shape → Bool
fills = fold-Shape (Shape → Bool) (λ f s. fill_form f (out-Shape s))

-- likewise of several
abbrev pub fill_all : List Shape → List Shape → Bool
fill_all ss ts = each_fills (map fills ss) ts
