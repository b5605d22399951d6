-- What a callee's variables stand for in a call (Sail language manual, "Polymorphic functions").
use Rattle.std.specs.List.{list_all}
use Rattle.std.specs.Prelude.{Bool, List, None, Option, Some, false, if◌then◌else◌, length, map, nat_eq, suc, true, zero, ℕ, [], ◌&&◌, ◌++◌, ◌∷◌}
use Rattle.sail_base.specs.declared.kind.Kind.{Kind}
use Rattle.sail_base.specs.declared.kind.Kind.TheVariants as K
use Rattle.sail_types.specs.Sums.{zero_num}
use Rattle.sail_types.specs.declared.numbers.Con.TheVariants as C
use Rattle.sail_types.specs.declared.numbers.Index.{Index}
use Rattle.sail_types.specs.declared.numbers.Index.TheVariants as N
use Rattle.sail_types.specs.declared.numbers.Num.{Num}
use Rattle.sail_types.specs.declared.table.Parameter.{Parameter}
use Rattle.sail_types.specs.declared.types.Typ.{Typ, Typ-F, fold-Typ, out-Typ}
use Rattle.sail_types.specs.declared.types.Typ.TheOpen as T
use Rattle.value_indices.specs.Steps.{Walk, bind, give}
use Rattle.value_indices.specs.declared.indices.Indices.{Indices, fold-Indices, out-Indices}
use Rattle.value_indices.specs.declared.indices.Indices.TheOpen as W
use Rattle.value_indices.specs.declared.indices.Indices.TheOpen.{Indices-F, Reading-F}
use Rattle.value_indices.specs.declared.indices.Reading.{Reading, fold-Reading}
use Rattle.value_indices.specs.declared.indices.Reading.TheVariants as R
use Rattle.value_fits.specs.Fitting.{among, placed}
use Rattle.wide_types.specs.Widening.{fresh_index, is_below, is_con_below, value_of_type, widened, widened_type}
use Rattle.call_arguments.specs.Aims.{aimed, is_hole}
use Rattle.call_arguments.specs.declared.aims.Aim.{Aim}
use Rattle.call_arguments.specs.declared.aims.Aim.TheVariants as Aims
use Rattle.call_arguments.specs.Holes.{fuller}

-- ---- which types name variables

abbrev pub index_under : ℕ → Index → Bool
index_under depth (N.Number t) = is_below depth t
index_under depth (N.Truth c) = is_con_below depth c

-- one variable more is bound
abbrev pub behind : ℕ → ℕ
behind depth = suc depth

abbrev pub are_both_under : ℕ → Num → Num → Bool
are_both_under depth t u = is_below depth t && is_below depth u

-- whether a type names no Int or Bool variable but those that it binds; so many are bound around it
abbrev pub numberless_form : Typ-F (ℕ → Bool) → ℕ → Bool
numberless_form (T.Truth c) depth = is_con_below depth c
numberless_form (T.Bits t) depth = is_below depth t
numberless_form (T.Int t) depth = is_below depth t
numberless_form (T.Range t u) depth = are_both_under depth t u
numberless_form (T.List f) depth = f depth
numberless_form (T.Vector n f) depth = is_below depth n && f depth
numberless_form (T.Tuple fs) depth = list_all (λ f. f depth) fs
numberless_form (T.Named u is fs) depth = list_all (index_under depth) is && list_all (λ f. f depth) fs
numberless_form (T.Exists name c f) depth = is_con_below (behind depth) c && f (behind depth)
numberless_form t depth = true

abbrev pub is_numberless_under : Typ → ℕ → Bool
is_numberless_under = fold-Typ (ℕ → Bool) numberless_form

abbrev pub is_numberless : Typ → Bool
is_numberless t = is_numberless_under t 0

abbrev pub typeless_form : Typ-F Bool → Bool
typeless_form (T.List b) = b
typeless_form (T.Vector n b) = b
typeless_form (T.Tuple bs) = list_all (λ b. b) bs
typeless_form (T.Named u is bs) = list_all (λ b. b) bs
typeless_form (T.Variable i) = false
typeless_form (T.Exists name c b) = b
typeless_form t = true

-- whether it names no Type variable
abbrev pub is_typeless : Typ → Bool
is_typeless = fold-Typ Bool typeless_form

abbrev pub is_closed : Typ → Bool
is_closed t = is_numberless t && is_typeless t

-- ---- arguments: a type is wanted of those whose parameter names no variable of the callee

abbrev pub argument_aim : Typ → Aim
argument_aim t = if is_closed t then aimed Aims.Given (R.Of t [] []) else Aims.Free

-- ---- the numbers of a callee's variables: each from the first place that gives it

abbrev pub or_zero : Kind → Option Index → Index
or_zero kind (Some i) = i
or_zero K.Bool None = N.Truth (C.Truth false)
or_zero kind None = N.Number zero_num

abbrev pub numbers_from : ℕ → List Parameter → List Typ → List Indices → List Index
numbers_from j [] ts is = []
numbers_from j (p ∷ ps) ts is = or_zero p.kind (among (map placed ts) j is) ∷ numbers_from (suc j) ps ts is

-- ---- types that name no variable from one on, but for integers and truths, which are widened

abbrev pub value_names_below : ℕ → Indices-F Bool Bool → Bool
value_names_below m (W.Bits t) = is_below m t
value_names_below m (W.List b) = b
value_names_below m (W.Vector t b) = is_below m t && b
value_names_below m (W.Tuple bs) = list_all (λ b. b) bs
value_names_below m (W.Named u is bs) = list_all (index_under m) is && list_all (λ b. b) bs
value_names_below m form = true

abbrev pub type_names_below : ℕ → Reading-F Bool Bool → Bool
type_names_below m (W.Of t is bs) = list_all (index_under m) is && list_all (λ b. b) bs
type_names_below m (W.Widened b) = b
type_names_below m (W.Parts bs) = list_all (λ b. b) bs
type_names_below m W.Hole = true

abbrev pub is_value_below : ℕ → Indices → Bool
is_value_below m = fold-Indices Bool Bool (value_names_below m) (type_names_below m)

abbrev pub is_type_below : ℕ → Reading → Bool
is_type_below m = fold-Reading Bool Bool (value_names_below m) (type_names_below m)

abbrev pub only_below : ℕ → Reading → Option Reading
only_below m r = if is_type_below m r then Some r else None

-- ---- its Type variables: each the widened type of what the first place that names it is given, of those that give it one without a hole
-- inside if there are such. Types of items are opened from the next variable of the call on; a type that names one of what they bind is none

pub record Typed : Type 0 where
  pub of_value : Indices → Option Reading
  pub of_type : Reading → Option Reading

abbrev pub first_typed : List Typed → List Indices → Option Reading
first_typed (f ∷ fs) (i ∷ is) = fuller (f.of_value i) (first_typed fs is)
first_typed fs is = None

abbrev pub first_type_typed : List Typed → List Reading → Option Reading
first_type_typed (f ∷ fs) (r ∷ rs) = fuller (f.of_type r) (first_type_typed fs rs)
first_type_typed fs rs = None

abbrev pub value_typed : ℕ → Typ-F Typed → Indices-F Indices Reading → Option Reading
value_typed k (T.List f) (W.List r) = f.of_type r
value_typed k (T.Vector n f) (W.Vector m r) = f.of_type r
value_typed k (T.Tuple fs) (W.Tuple is) = first_typed fs is
value_typed k (T.Named u arguments fs) (W.Named v is rs) = first_type_typed fs rs
value_typed k t i = None

-- where a place names the variable itself
abbrev pub value_if : ℕ → Bool → Indices → Option Reading
value_if m is i = if is then only_below m (widened i) else None

-- a hole gives no type
abbrev pub type_unless : ℕ → Bool → Reading → Option Reading
type_unless m hole r = if hole then None else only_below m (widened_type r)

abbrev pub type_if : ℕ → Bool → Reading → Option Reading
type_if m is r = if is then type_unless m (is_hole r) r else None

abbrev pub form_typed : ℕ → ℕ → Typ-F Typed → Typed
form_typed m k (T.Variable j) = record {
  of_value = value_if m (nat_eq j k);
  of_type = type_if m (nat_eq j k);
}
form_typed m k (T.Exists name c f) = f
form_typed m k t = record {
  of_value = λ i. value_typed k t (out-Indices i);
  of_type = λ r. value_typed k t (out-Indices (value_of_type m r));
}

abbrev pub typed_at : ℕ → ℕ → Typ → Typed
typed_at m k = fold-Typ Typed (form_typed m k)

-- what a value gives, and what a type does
abbrev pub value_typed_at : ℕ → ℕ → Typ → Indices → Option Reading
value_typed_at m k t = (typed_at m k t).of_value

abbrev pub type_typed_at : ℕ → ℕ → Typ → Reading → Option Reading
type_typed_at m k t = (typed_at m k t).of_type

abbrev pub or_hole : Option Reading → Reading
or_hole None = R.Hole
or_hole (Some r) = r

-- so many Type variables, from this one on
abbrev pub types_from : ℕ → ℕ → ℕ → List Typ → List Indices → List Reading
types_from m k zero ts is = []
types_from m k (suc count) ts is = or_hole (first_typed (map (typed_at m k) ts) is) ∷ types_from m (suc k) count ts is

-- ---- constructors

abbrev pub payload_form : ℕ → Typ → Typ-F Typ → List Typ
payload_form count t (T.Tuple ts) = if nat_eq count (length ts) then ts else t ∷ []
payload_form count t form = t ∷ []

abbrev pub payload_types : ℕ → Option Typ → List Typ
payload_types count None = []
payload_types count (Some t) = payload_form count t (out-Typ t)

-- a type is wanted where it is known: its numbers aren't known before all arguments are, its types where a wanted type gives them
abbrev pub part_aim : Option (List Reading) → Typ → Aim
part_aim None t = if is_closed t then aimed Aims.Due (R.Of t [] []) else Aims.Free
part_aim (Some rs) t = if is_numberless t then aimed Aims.Due (R.Of t [] rs) else Aims.Free

-- whether what is wanted of it was owed
abbrev pub was_due : Option (List Reading) → Typ → Bool
was_due None t = is_closed t
was_due (Some rs) t = is_numberless t

-- the kinds of parameters that have a number, in order; and how many have a type
abbrev pub is_number_kind : Kind → Bool
is_number_kind K.Type = false
is_number_kind kind = true

abbrev pub number_parameters : List Parameter → List Parameter
number_parameters [] = []
number_parameters (p ∷ ps) = if is_number_kind p.kind then p ∷ number_parameters ps else number_parameters ps

abbrev pub type_count : Kind → ℕ
type_count kind = if is_number_kind kind then 0 else 1

abbrev pub type_parameters : List Parameter → ℕ
type_parameters [] = 0
type_parameters (p ∷ ps) = if is_number_kind p.kind then type_parameters ps else suc (type_parameters ps)

-- a number that no argument gives is any
abbrev pub index_if : Parameter → Option Index → Walk (List Index)
index_if p None = fresh_index p p.kind
index_if p (Some i) = give (i ∷ [])

-- the number of a parameter alone, none of a type; and the number of the next variable
abbrev pub index_of : ℕ → Parameter → List Typ → List Indices → Walk (List Index)
index_of j p ts is = if is_number_kind p.kind then index_if p (among (map placed ts) j is) else give []

abbrev pub variable_behind : ℕ → Kind → ℕ
variable_behind j kind = if is_number_kind kind then suc j else j

abbrev pub indices_from : ℕ → List Parameter → List Typ → List Indices → Walk (List Index)
indices_from j [] ts is = give []
indices_from j (p ∷ ps) ts is =
    bind (index_if p (among (map placed ts) j is)) (λ i. bind (indices_from (suc j) ps ts is) (λ more. give (i ++ more)))

abbrev pub types_or : Option (List Reading) → List Reading → List Reading
types_or None qs = qs
types_or (Some rs) qs = rs
