-- Which values have indices that a walk knows, and which belong to its types, where each of its variables stands for an integer (Sail
-- language manual, "Numeric types", "Type variables").
use Rattle.std.specs.Bool.{beq}
use Rattle.std.specs.Prelude.{ℕ, suc, nat_eq, nat_lt, ℤ, pos, int_le, Bool, true, false, ◌&&◌, List, [], ◌∷◌, map, length}
use Rattle.std.specs.Prelude.{slice_get, Option, Some, None}
use Rattle.std.specs.List.{list_all}
use Rattle.std.specs.Ordering.{int_eq}
use Rattle.sail_types.specs.Belongs.{Reading as Closed, Readings as Closeds, reading, no_readings, more_readings, assigned, belongs, Asked}
use Rattle.sail_types.specs.Belongs.{fields_belong, payload_belongs}
use Rattle.sail_types.specs.Limits.{is_small, is_width, is_length}
use Rattle.sail_types.specs.Named.{fields, members, payload}
use Rattle.sail_types.specs.Numbers.{Assignment, Positive, number, true_in}
use Rattle.sail_types.specs.Sums.{constant}
use Rattle.sail_types.specs.declared.numbers.Con.TheVariants as C
use Rattle.sail_types.specs.declared.numbers.Index.{Index}
use Rattle.sail_types.specs.declared.numbers.Index.TheVariants as N
use Rattle.sail_types.specs.declared.numbers.Num.{Num}
use Rattle.sail_types.specs.declared.table.Types.{Types}
use Rattle.sail_types.specs.declared.types.Typ.{Typ}
use Rattle.sail_types.specs.declared.types.Typ.TheVariants as T
use Rattle.sail_types.specs.declared.values.Value.{Value, Value-F, out-Value}
use Rattle.sail_types.specs.declared.values.Value.TheOpen as V
use Rattle.row_types.specs.Formulas.{least, most}
use Rattle.value_indices.specs.declared.indices.Indices.{Indices, fold-Indices}
use Rattle.value_indices.specs.declared.indices.Indices.TheOpen as W
use Rattle.value_indices.specs.declared.indices.Indices.TheOpen.{Indices-F, Reading-F}
use Rattle.value_indices.specs.declared.indices.Reading.{Reading, fold-Reading}

-- what each variable stands for
abbrev pub Integers : Type 0
Integers = ℕ → ℤ

-- numbers and truths then: a Bool variable is true where its integer is 1 or more, as in obligations, and powers of two whose exponent
-- isn't from 0 to 126 are all the same integer
abbrev pub standing : Positive → Integers → Assignment
standing past f = record { int = f; bool = λ i. int_le (pos 1) (f i); beyond = λ t. past }

-- where each variable stands for 0
abbrev pub nowhere : Assignment → Assignment
nowhere mu = standing (mu.beyond (constant (pos 0))) (λ i. pos 0)

-- ---- types with what their variables stand for

abbrev pub closeds : List Closed → Closeds
closeds [] = no_readings
closeds (r ∷ rs) = more_readings r (closeds rs)

-- a type of which the Type variables stand for these
abbrev pub over : Assignment → Typ → List Closed → Closed
over mu t rs = reading t mu (closeds rs)

-- a type without other variables
abbrev pub plain : Assignment → Typ → List Closed → Closed
plain mu t rs = over (nowhere mu) t rs

-- to which nothing belongs
abbrev pub no_value : Assignment → Closed
no_value mu = plain mu (T.Variable 0) []

abbrev pub or_no_value : Assignment → Option Closed → Closed
or_no_value mu None = no_value mu
or_no_value mu (Some r) = r

abbrev pub type_variables : ℕ → List Closed → List Typ
type_variables i [] = []
type_variables i (r ∷ rs) = T.Variable i ∷ type_variables (suc i) rs

-- a number and an argument as they are there
abbrev pub number_there : Assignment → Num → Num
number_there mu t = constant (number mu t)

abbrev pub index_there : Assignment → Index → Index
index_there mu (N.Number t) = N.Number (number_there mu t)
index_there mu (N.Truth c) = N.Truth (C.Truth (true_in mu c))

abbrev pub tuple_of : Assignment → List Closed → Closed
tuple_of mu rs = plain mu (T.Tuple (type_variables 0 rs)) rs

abbrev pub named_of : Assignment → ℕ → List Index → List Closed → Closed
named_of mu u is rs = plain mu (T.Named u (map (index_there mu) is) (type_variables 0 rs)) rs

-- the types of the first Type variables; those behind them are the function's at work
abbrev pub types_or_own : List Closed → List Closed → List Closed
types_or_own [] own = own
types_or_own (r ∷ rs) [] = r ∷ rs
types_or_own (r ∷ rs) (c ∷ own) = r ∷ types_or_own rs own

-- ---- what indices mean: which values have them, and the type that they widen to

pub record Meant : Type 0 where
  pub holds : Value → Bool
  pub wide : Closed

abbrev pub wides : List Meant → List Closed
wides ms = map (λ m. m.wide) ms

abbrev pub each_holds : List Meant → List Value → Bool
each_holds [] [] = true
each_holds (m ∷ ms) (v ∷ vs) = m.holds v && each_holds ms vs
each_holds ms vs = false

module _ (types : Types) (mu : Assignment) (own : List Closed) where
  abbrev pub asked : List Value → List (Value × Asked)
  asked vs = map (λ v. (v, belongs types v)) vs

  -- a value of this form
  abbrev pub form_holds : Indices-F Meant Closed → Value-F Value → Bool
  form_holds W.Unit V.Unit = true
  form_holds (W.Truth c) (V.Truth b) = beq b (true_in mu c)
  form_holds W.Bit (V.Bit b) = true
  form_holds (W.Bits t) (V.Bits bits) = int_eq (pos (length bits)) (number mu t) && is_width (length bits)
  form_holds (W.Integer t) (V.Integer z) = int_eq z (number mu t) && is_small z
  form_holds W.String (V.String text) = true
  form_holds (W.List r) (V.List vs) = list_all (λ v. belongs types v r) vs
  form_holds (W.Vector t r) (V.Vector vs) =
      (int_eq (pos (length vs)) (number mu t) && is_length (length vs)) && list_all (λ v. belongs types v r) vs
  form_holds (W.Tuple ms) (V.Tuple vs) = each_holds ms vs
  form_holds (W.Named u is rs) (V.Member i k) = nat_eq i u && nat_lt k (length (members types i))
  form_holds (W.Named u is rs) (V.Struct i vs) = nat_eq i u && fields_belong (asked vs) (assigned mu is) (closeds rs) (fields types i)
  form_holds (W.Named u is rs) (V.Union i k v) = nat_eq i u && payload_belongs (belongs types v) (assigned mu is) (closeds rs) (payload types i k)
  form_holds i v = false

  -- the Type variables of the function at work stand for `own`
  abbrev pub indices_hold : Indices-F Meant Closed → Value → Bool
  indices_hold (W.Variable i) v = belongs types v (or_no_value mu (slice_get own i))
  indices_hold i v = form_holds i (out-Value v)

  -- any integer for an integer, any truth for a truth, all else as it is
  abbrev pub wide_of : Indices-F Meant Closed → Closed
  wide_of W.Never = no_value mu
  wide_of W.Unit = plain mu T.Unit []
  wide_of (W.Truth c) = plain mu T.Bool []
  wide_of W.Bit = plain mu T.Bit []
  wide_of (W.Bits t) = plain mu (T.Bits (number_there mu t)) []
  wide_of (W.Integer t) = plain mu (T.Range (constant least) (constant most)) []
  wide_of W.String = plain mu T.String []
  wide_of (W.List r) = plain mu (T.List (T.Variable 0)) (r ∷ [])
  wide_of (W.Vector t r) = plain mu (T.Vector (number_there mu t) (T.Variable 0)) (r ∷ [])
  wide_of (W.Tuple ms) = tuple_of mu (wides ms)
  wide_of (W.Named u is rs) = named_of mu u is rs
  wide_of (W.Variable i) = or_no_value mu (slice_get own i)

  abbrev pub meant_form : Indices-F Meant Closed → Meant
  meant_form i = record { holds = indices_hold i; wide = wide_of i }

  abbrev pub closed_form : Reading-F Meant Closed → Closed
  closed_form (W.Of t is rs) = reading t (assigned mu is) (closeds (types_or_own rs own))
  closed_form (W.Widened m) = m.wide
  closed_form (W.Parts rs) = tuple_of mu rs
  closed_form W.Hole = no_value mu

  abbrev pub meant : Indices → Meant
  meant = fold-Indices Meant Closed meant_form closed_form

  -- a type of the walk
  abbrev pub closed : Reading → Closed
  closed = fold-Reading Meant Closed meant_form closed_form

  -- whether a value has these indices
  abbrev pub has : Indices → Value → Bool
  has i v = (meant i).holds v

  -- whether it belongs to this type
  abbrev pub is_of : Reading → Value → Bool
  is_of r v = belongs types v (closed r)
