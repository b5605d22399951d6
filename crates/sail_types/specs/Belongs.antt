-- Which values belong to a type: those of its shape that have its numbers.
use Rattle.std.specs.Bool.{beq}
use Rattle.std.specs.Prelude.{ℕ, zero, suc, nat_eq, nat_lt, ℤ, pos, int_le, Bool, true, false, ◌&&◌, List, [], ◌∷◌, map, length}
use Rattle.std.specs.Prelude.{slice_index_or, Option, Some, None}
use Rattle.std.specs.Ordering.{int_eq}
use Rattle.std.specs.List.{list_all}
use Rattle.sail_types.specs.Before.{beyond_of}
use Rattle.sail_types.specs.Limits.{is_small, is_width, is_length}
use Rattle.sail_types.specs.Numbers.{Assignment, number, true_in}
use Rattle.sail_types.specs.Named.{fields, field_types, members, payload}
use Rattle.sail_types.specs.Places.{Given, an_int, placed}
use Rattle.sail_types.specs.Readings.{truth_at}
use Rattle.sail_types.specs.Sums.{constant, number_at, read, substituted, variable}
use Rattle.sail_types.specs.declared.numbers.Con.{Con}
use Rattle.sail_types.specs.declared.numbers.Index.{Index}
use Rattle.sail_types.specs.declared.numbers.Num.{Num}
use Rattle.sail_types.specs.declared.table.Field.{Field}
use Rattle.sail_types.specs.declared.table.Types.{Types}
use Rattle.sail_types.specs.declared.types.Typ.{Typ, Typ-F}
use Rattle.sail_types.specs.declared.types.Typ.TheFolds.{para-Typ}
use Rattle.sail_types.specs.declared.types.Typ.TheOpen as T
use Rattle.sail_types.specs.declared.values.Value.{Value, Value-F, roll-Value}
use Rattle.sail_types.specs.declared.values.Value.TheFolds.{para-Value, map-Value}
use Rattle.sail_types.specs.declared.values.Value.TheOpen as W

-- a type with what its variables stand for: integers and truths, and such types for its Type variables. Nothing is put
-- into the type itself.
mutual
  pub data Reading : Type 0 where
    reading : Typ → Assignment → Readings → Reading

  pub data Readings : Type 0 where
    no_readings : Readings
    more_readings : Reading → Readings → Readings

-- ---- what the variables further in stand for

-- what the Int and Bool parameters of a named type stand for: its arguments, as the assignment before a substitution has it
abbrev pub assigned : Assignment → List Index → Assignment
assigned nu indices = record {
  int = λ i. number nu (number_at indices i);
  bool = λ i. true_in nu (truth_at indices i);
  beyond = λ t. beyond_of nu (read indices t);
}

abbrev pub int_under : ℤ → (ℕ → ℤ) → ℕ → ℤ
int_under z f zero = z
int_under z f (suc i) = f i

abbrev pub bool_under : (ℕ → Bool) → ℕ → Bool
bool_under f zero = false
bool_under f (suc i) = f i

abbrev pub number_under : ℤ → ℕ → Num
number_under z zero = constant z
number_under z (suc i) = variable i

-- one binder further in: variable 0 is what it binds, and the others are one less outside
abbrev pub under : ℤ → Assignment → Assignment
under z nu = record {
  int = int_under z nu.int;
  bool = bool_under nu.bool;
  beyond = λ t. beyond_of nu (substituted (number_under z) t);
}

-- what the Type parameters stand for
abbrev pub read_each : Assignment → Readings → List Typ → Readings
read_each nu rs [] = no_readings
read_each nu rs (t ∷ ts) = more_readings (reading t nu rs) (read_each nu rs ts)

-- ---- values

-- a value, asked whether it belongs
abbrev pub Asked : Type 0
Asked = Reading → Bool

-- a type inside another, asked whether the value in hand belongs to it under these numbers
abbrev pub Inner : Type 0
Inner = Assignment → Bool

abbrev pub each_belongs : List (Value × Asked) → Assignment → Readings → List Typ → Bool
each_belongs [] nu rs [] = true
each_belongs (v ∷ vs) nu rs (t ∷ ts) = v.1 (reading t nu rs) && each_belongs vs nu rs ts
each_belongs vs nu rs ts = false

abbrev pub all_belong : List (Value × Asked) → Reading → Bool
all_belong vs r = list_all (λ v. v.1 r) vs

abbrev pub fields_belong : List (Value × Asked) → Assignment → Readings → Option (List Field) → Bool
fields_belong vs nu rs None = false
fields_belong vs nu rs (Some fs) = each_belongs vs nu rs (field_types fs)

abbrev pub payload_belongs : Asked → Assignment → Readings → Option Typ → Bool
payload_belongs v nu rs None = false
payload_belongs v nu rs (Some t) = v (reading t nu rs)

abbrev pub inner_types : {A : Type 0} → List (Typ × A) → List Typ
inner_types ts = map (λ t. t.0) ts

-- a `{'n, C. T}` where the value gives 'n this number
abbrev pub given_belongs : Option Given → Assignment → Con → Inner → Bool
given_belongs (Some (an_int z)) nu c t = true_in (under z nu) c && t (under z nu)
given_belongs given nu c t = false

-- a value of this form; `answers` are those for what the Type variables stand for
abbrev pub form_belongs : Types → Value-F (Value × Asked) → Readings → List Bool → Typ-F (Typ × Inner) → Inner
form_belongs types v rs answers (T.Variable i) nu = slice_index_or answers i false
form_belongs types v rs answers (T.Exists name c t) nu =
    given_belongs (placed t.0 0 (roll-Value (map-Value (Value × Asked) Value (λ p. p.0) v))) nu c t.1
form_belongs types W.Unit rs answers T.Unit nu = true
form_belongs types (W.Truth b) rs answers T.Bool nu = true
form_belongs types (W.Truth b) rs answers (T.Truth c) nu = beq b (true_in nu c)
form_belongs types (W.Bit b) rs answers T.Bit nu = true
form_belongs types (W.Bits bits) rs answers (T.Bits t) nu = int_eq (pos (length bits)) (number nu t) && is_width (length bits)
form_belongs types (W.Integer z) rs answers (T.Int t) nu = int_eq z (number nu t) && is_small z
form_belongs types (W.Integer z) rs answers (T.Range t u) nu = (int_le (number nu t) z && int_le z (number nu u)) && is_small z
form_belongs types (W.String text) rs answers T.String nu = true
form_belongs types (W.List vs) rs answers (T.List t) nu = all_belong vs (reading t.0 nu rs)
form_belongs types (W.Vector vs) rs answers (T.Vector n t) nu =
    (int_eq (pos (length vs)) (number nu n) && is_length (length vs)) && all_belong vs (reading t.0 nu rs)
form_belongs types (W.Tuple vs) rs answers (T.Tuple ts) nu = each_belongs vs nu rs (inner_types ts)
form_belongs types (W.Member i k) rs answers (T.Named j indices ts) nu = nat_eq i j && nat_lt k (length (members types i))
form_belongs types (W.Struct i vs) rs answers (T.Named j indices ts) nu =
    nat_eq i j && fields_belong vs (assigned nu indices) (read_each nu rs (inner_types ts)) (fields types i)
form_belongs types (W.Union i k v) rs answers (T.Named j indices ts) nu =
    nat_eq i j && payload_belongs v.1 (assigned nu indices) (read_each nu rs (inner_types ts)) (payload types i k)
form_belongs types v rs answers t nu = false

abbrev mutual
  pub form_belongs_to : Types → Value-F (Value × Asked) → Reading → Bool
  form_belongs_to types v (reading t nu rs) = para-Typ Inner (form_belongs types v rs (answers_to types v rs)) t nu

  pub answers_to : Types → Value-F (Value × Asked) → Readings → List Bool
  answers_to types v no_readings = []
  answers_to types v (more_readings r rs) = form_belongs_to types v r ∷ answers_to types v rs

-- whether a value belongs to a type under its numbers
abbrev pub belongs : Types → Value → Reading → Bool
belongs types = para-Value Asked (form_belongs_to types)
