-- The one shape that two are, where each may leave parts open (Sail language manual, "Type inference").
use Rattle.std.specs.Prelude.{ℕ, nat_eq, Bool, true, false, ◌||◌, List, [], ◌∷◌, Option, Some, None, if◌then◌else◌}
use Rattle.sail_types.specs.declared.shapes.Shape.{Shape, Shape-F, fold-Shape, out-Shape}
use Rattle.sail_types.specs.declared.shapes.Shape.TheOpen as S
use Rattle.sail_types.specs.declared.shapes.Shape.TheVariants as V

-- a shape, and more of them
abbrev pub more_of : Option Shape → Option (List Shape) → Option (List Shape)
more_of (Some s) (Some ss) = Some (s ∷ ss)
more_of s ss = None

abbrev pub list_of : Option Shape → Option Shape
list_of None = None
list_of (Some s) = Some (V.List s)

abbrev pub vector_of : Option Shape → Option Shape
vector_of None = None
vector_of (Some s) = Some (V.Vector s)

abbrev pub tuple_of : Option (List Shape) → Option Shape
tuple_of None = None
tuple_of (Some ss) = Some (V.Tuple ss)

abbrev pub named_of : ℕ → Option (List Shape) → Option Shape
named_of i None = None
named_of i (Some ss) = Some (V.Named i ss)

-- a shape, asked to be one with another
abbrev pub Joins : Type 0
Joins = Shape → Option Shape

abbrev pub join_all : List Joins → List Shape → Option (List Shape)
join_all [] [] = Some []
join_all (f ∷ fs) (t ∷ ts) = more_of (f t) (join_all fs ts)
join_all fs ts = None

-- each as it is
abbrev pub keep_all : List Joins → Option (List Shape)
keep_all [] = Some []
keep_all (f ∷ fs) = more_of (f V.Never) (keep_all fs)

-- what never ends normally says nothing of its shape, and a hole takes whatever comes
abbrev pub join_form : Shape-F Joins → Shape → Shape-F Shape → Option Shape
join_form S.Never t form = Some t
join_form S.Hole t S.Never = Some V.Hole
join_form S.Hole t form = Some t
join_form S.Unit t S.Unit = Some V.Unit
join_form S.Unit t S.Hole = Some V.Unit
join_form S.Unit t S.Never = Some V.Unit
join_form S.Bool t S.Bool = Some V.Bool
join_form S.Bool t S.Hole = Some V.Bool
join_form S.Bool t S.Never = Some V.Bool
join_form S.Bit t S.Bit = Some V.Bit
join_form S.Bit t S.Hole = Some V.Bit
join_form S.Bit t S.Never = Some V.Bit
join_form S.Bits t S.Bits = Some V.Bits
join_form S.Bits t S.Hole = Some V.Bits
join_form S.Bits t S.Never = Some V.Bits
join_form S.Int t S.Int = Some V.Int
join_form S.Int t S.Hole = Some V.Int
join_form S.Int t S.Never = Some V.Int
join_form S.String t S.String = Some V.String
join_form S.String t S.Hole = Some V.String
join_form S.String t S.Never = Some V.String
join_form (S.List f) t (S.List u) = list_of (f u)
join_form (S.List f) t S.Hole = list_of (f V.Never)
join_form (S.List f) t S.Never = list_of (f V.Never)
join_form (S.Vector f) t (S.Vector u) = vector_of (f u)
join_form (S.Vector f) t S.Hole = vector_of (f V.Never)
join_form (S.Vector f) t S.Never = vector_of (f V.Never)
join_form (S.Tuple fs) t (S.Tuple ts) = tuple_of (join_all fs ts)
join_form (S.Tuple fs) t S.Hole = tuple_of (keep_all fs)
join_form (S.Tuple fs) t S.Never = tuple_of (keep_all fs)
join_form (S.Named i fs) t (S.Named j ts) = if nat_eq i j then named_of i (join_all fs ts) else None
join_form (S.Named i fs) t S.Hole = named_of i (keep_all fs)
join_form (S.Named i fs) t S.Never = named_of i (keep_all fs)
join_form (S.Variable i) t (S.Variable j) = if nat_eq i j then Some (V.Variable i) else None
join_form (S.Variable i) t S.Hole = Some (V.Variable i)
join_form (S.Variable i) t S.Never = Some (V.Variable i)
join_form shape t form = None

-- the one shape that two are, holes filled from either; none where they differ
abbrev pub join : Shape → Joins
join = fold-Shape Joins (λ shape t. join_form shape t (out-Shape t))

abbrev pub any_of : List Bool → Bool
any_of [] = false
any_of (b ∷ bs) = b || any_of bs
