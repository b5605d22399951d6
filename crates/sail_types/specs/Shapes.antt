-- The shape of a type, which values have a shape, and which shapes may have a value in common.
use Rattle.std.specs.Prelude.{ℕ, nat_eq, nat_lt, Bool, true, false, ◌&&◌, List, [], ◌∷◌, map, length, slice_get, Option, Some, None}
use Rattle.std.specs.List.{list_all}
use Rattle.sail_types.specs.Named.{fields, field_types, members, payload}
use Rattle.sail_types.specs.declared.table.Field.{Field}
use Rattle.sail_types.specs.declared.table.Types.{Types}
use Rattle.sail_types.specs.declared.types.Typ.{Typ, Typ-F, fold-Typ}
use Rattle.sail_types.specs.declared.types.Typ.TheOpen as T
use Rattle.sail_types.specs.declared.shapes.Shape.{Shape, Shape-F, fold-Shape, out-Shape, roll-Shape}
use Rattle.sail_types.specs.declared.shapes.Shape.TheOpen as S
use Rattle.sail_types.specs.declared.shapes.Shape.TheVariants as V
use Rattle.sail_types.specs.declared.values.Value.{Value, Value-F, fold-Value}
use Rattle.sail_types.specs.declared.values.Value.TheOpen as W

abbrev pub form_shape : Typ-F Shape → Shape
form_shape T.Unit = V.Unit
form_shape T.Bool = V.Bool
form_shape (T.Truth c) = V.Bool
form_shape T.Bit = V.Bit
form_shape (T.Bits t) = V.Bits
form_shape (T.Int t) = V.Int
form_shape (T.Range t u) = V.Int
form_shape T.String = V.String
form_shape (T.List s) = V.List s
form_shape (T.Vector t s) = V.Vector s
form_shape (T.Tuple ss) = V.Tuple ss
form_shape (T.Named i indices ss) = V.Named i ss
form_shape (T.Variable i) = V.Variable i
form_shape (T.Exists name c s) = s

-- the shape of a type: the type without its numbers
abbrev pub shape : Typ → Shape
shape = fold-Typ Shape form_shape

abbrev pub put_form : (ℕ → Shape) → Shape-F Shape → Shape
put_form c (S.Variable i) = c i
put_form c s = roll-Shape s

-- a shape with what its variables stand for
abbrev pub put : (ℕ → Shape) → Shape → Shape
put c = fold-Shape Shape (put_form c)

abbrev pub shape_or_hole : Option Shape → Shape
shape_or_hole None = V.Hole
shape_or_hole (Some s) = s

-- the shape of that position; a hole where there is none
abbrev pub at : List Shape → ℕ → Shape
at ss i = shape_or_hole (slice_get ss i)

-- ---- which values have a shape

-- a value, asked for a shape
abbrev pub Asked : Type 0
Asked = Shape → Bool

abbrev pub each_fits : List Asked → List Shape → Bool
each_fits [] [] = true
each_fits (v ∷ vs) (s ∷ ss) = v s && each_fits vs ss
each_fits vs ss = false

-- the shapes of types whose variables stand for these shapes
abbrev pub shapes_under : List Shape → List Typ → List Shape
shapes_under ss ts = map (λ t. put (at ss) (shape t)) ts

abbrev pub fields_fit : List Asked → List Shape → Option (List Field) → Bool
fields_fit vs ss None = false
fields_fit vs ss (Some fs) = each_fits vs (shapes_under ss (field_types fs))

abbrev pub payload_fits : Asked → List Shape → Option Typ → Bool
payload_fits v ss None = false
payload_fits v ss (Some t) = v (put (at ss) (shape t))

-- a value of this form, the parts of which have been asked; a variable fits all, and nothing has a hole's shape
abbrev pub form_fits : Types → Value-F Asked → Shape-F Shape → Bool
form_fits types v (S.Variable i) = true
form_fits types W.Unit S.Unit = true
form_fits types (W.Integer z) S.Int = true
form_fits types (W.Truth b) S.Bool = true
form_fits types (W.Bit b) S.Bit = true
form_fits types (W.Bits bits) S.Bits = true
form_fits types (W.String text) S.String = true
form_fits types (W.Member i k) (S.Named j ss) = nat_eq i j && nat_lt k (length (members types i))
form_fits types (W.Tuple vs) (S.Tuple ss) = each_fits vs ss
form_fits types (W.Struct i vs) (S.Named j ss) = nat_eq i j && fields_fit vs ss (fields types i)
form_fits types (W.Union i k v) (S.Named j ss) = nat_eq i j && payload_fits v ss (payload types i k)
form_fits types (W.List vs) (S.List s) = list_all (λ v. v s) vs
form_fits types (W.Vector vs) (S.Vector s) = list_all (λ v. v s) vs
form_fits types v s = false

-- whether a value has a shape
abbrev pub fits : Types → Value → Shape → Bool
fits types = fold-Value Asked (λ v s. form_fits types v (out-Shape s))

-- ---- which shapes may have a value in common

abbrev pub each_shares : List (Shape → Bool) → List Shape → Bool
each_shares [] [] = true
each_shares (f ∷ fs) (s ∷ ss) = f s && each_shares fs ss
each_shares fs ss = false

abbrev pub form_shares : Shape-F (Shape → Bool) → Shape-F Shape → Bool
form_shares (S.Variable i) s = true
form_shares f (S.Variable i) = true
form_shares S.Unit S.Unit = true
form_shares S.Bool S.Bool = true
form_shares S.Bit S.Bit = true
form_shares S.Bits S.Bits = true
form_shares S.Int S.Int = true
form_shares S.String S.String = true
form_shares (S.List f) (S.List s) = true
form_shares (S.Vector f) (S.Vector s) = true
form_shares (S.Tuple fs) (S.Tuple ss) = each_shares fs ss
form_shares (S.Named i fs) (S.Named j ss) = nat_eq i j
form_shares S.Hole S.Hole = true
form_shares S.Never S.Never = true
form_shares f s = false

-- whether two shapes may have a value in common: equal ones, a variable and any, two lists, two vectors, the same named
-- type, and tuples as long whose parts may
abbrev pub shares : Shape → Shape → Bool
shares = fold-Shape (Shape → Bool) (λ f s. form_shares f (out-Shape s))
