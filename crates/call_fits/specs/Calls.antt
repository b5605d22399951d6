-- What a call owes suffices: its arguments belong to the parameters, where the callee's variables stand for what the call gives them (Sail language
-- manual, "Functions", "Type variables").
use Rattle.std.specs.Prelude.{◌≡◌, ◌≤◌, ℕ, zero, suc, ℤ, pos, int_le, Bool, true, false, List, [], ◌∷◌, length, map, Option, Some, None, if◌then◌else◌}
use Rattle.sail_base.specs.declared.kind.Kind.{Kind}
use Rattle.sail_base.specs.declared.kind.Kind.TheVariants as K
use Rattle.sail_types.specs.Belongs.{Reading as Closed, assigned, belongs}
use Rattle.sail_types.specs.Numbers.{Assignment, Positive, number, true_in}
use Rattle.sail_types.specs.Places.{Given, an_int, a_bool, first, form_is, is_variable, only}
use Rattle.sail_types.specs.Sums.{variable}
use Rattle.sail_types.specs.declared.numbers.Con.{out-Con}
use Rattle.sail_types.specs.declared.numbers.Con.TheVariants as C
use Rattle.sail_types.specs.declared.numbers.Index.{Index}
use Rattle.sail_types.specs.declared.numbers.Index.TheVariants as N
use Rattle.sail_types.specs.declared.table.Parameter.{Parameter}
use Rattle.sail_types.specs.declared.table.Types.{Types}
use Rattle.sail_types.specs.declared.types.Typ.{Typ, Typ-F, fold-Typ}
use Rattle.sail_types.specs.declared.types.Typ.TheOpen as T
use Rattle.sail_types.specs.declared.values.Value.{Value}
use Rattle.sail_core.specs.Numbers.{Givens, givens_of}
use Rattle.sail_core.specs.declared.model.Function.{Function}
use Rattle.value_indices.specs.declared.indices.Indices.{Indices}
use Rattle.value_indices.specs.declared.indices.Reading.{Reading}
use Rattle.value_indices.specs.declared.indices.Reading.TheVariants as R
use Rattle.value_fits.specs.Fitting.{fits}
use Rattle.call_arguments.specs.Callees.{is_closed, numbers_from, types_from}
use Rattle.call_arguments.specs.Placing.{call_conditions}
use Rattle.value_laws.specs.Belonging.{Integers, standing, over, meant, closed, types_or_own, has, is_of}
use Rattle.value_laws.specs.Known.{Point, Agree}
use Rattle.fitting_laws.specs.Fitting.{Suffices}

-- ---- the variables of a function, as a walk over its body has them

abbrev pub variable_index : Kind → ℕ → Index
variable_index K.Bool v = N.Truth (C.Holds v)
variable_index kind v = N.Number (variable v)

abbrev pub own_variables : ℕ → List Parameter → List Index
own_variables v [] = []
own_variables v (p ∷ ps) = variable_index p.kind v ∷ own_variables (suc v) ps

-- where they stand for these integers
abbrev pub inside : Positive → List Parameter → Integers → Assignment
inside past ps h = assigned (standing past h) (own_variables 0 ps)

-- what each stands for then
abbrev pub given_of : Kind → ℤ → Given
given_of K.Bool z = a_bool (int_le (pos 1) z)
given_of kind z = an_int z

abbrev pub givens_at : Integers → ℕ → List Parameter → Givens
givens_at h v [] = []
givens_at h v (p ∷ ps) = given_of p.kind (h v) ∷ givens_at h (suc v) ps

-- ---- what a call gives them

abbrev pub given_there : Assignment → Index → Given
given_there mu (N.Number t) = an_int (number mu t)
given_there mu (N.Truth c) = a_bool (true_in mu c)

-- as integers, counted from 0
abbrev pub integer_there : Assignment → Index → ℤ
integer_there mu (N.Number t) = number mu t
integer_there mu (N.Truth c) = if true_in mu c then pos 1 else pos 0

abbrev pub integers_there : Assignment → List Index → Integers
integers_there mu [] i = pos 0
integers_there mu (j ∷ js) zero = integer_there mu j
integers_there mu (j ∷ js) (suc i) = integers_there mu js i

-- ---- the place of a variable in a type, if it has one: whether the first is that of a truth

abbrev pub Kinds : Type 0
Kinds = ℕ → Option Bool

abbrev pub among_as : List Kinds → ℕ → Option Bool
among_as [] j = None
among_as (f ∷ fs) j = first (f j) (among_as fs j)

abbrev pub form_as : Typ-F Kinds → Kinds
form_as (T.Int t) j = only (is_variable j t) false
form_as (T.Truth c) j = only (form_is j (out-Con c)) true
form_as (T.Bits t) j = only (is_variable j t) false
form_as (T.Vector t f) j = only (is_variable j t) false
form_as (T.Tuple fs) j = among_as fs j
form_as (T.Exists name c f) j = f (suc j)
form_as t j = None

abbrev pub placed_as : Typ → Kinds
placed_as = fold-Typ Kinds form_as

abbrev pub is_bool : Kind → Bool
is_bool K.Bool = true
is_bool kind = false

-- each variable has a place in a parameter, the first one that of its kind; and no other variable has one
abbrev pub EachHasPlace : ℕ → List Parameter → List Typ → Type 0
EachHasPlace j [] ts = (i : ℕ) → j ≤ i → among_as (map placed_as ts) i ≡ None
EachHasPlace j (p ∷ ps) ts = (among_as (map placed_as ts) j ≡ Some (is_bool p.kind)) × EachHasPlace (suc j) ps ts

-- ---- arguments

module _ (types : Types) (past : Positive) (own : List Closed) {n : ℕ} (f : Point n) where
  -- a value has these indices, which mean one and the same
  pub record Has (i : Indices) (v : Value) : Type 0 where
    pub steady : (g : Integers) → Agree f g → meant types (standing past g) own i ≡ meant types (standing past f.integers) own i
    pub is_so : has types (standing past f.integers) own i v ≡ true

  -- one that owes further in belongs to a type that names no variable
  abbrev pub OwesInside : Bool → Typ → Value → Type 0
  OwesInside true t v = is_closed t ≡ true → (g : Integers) → Agree f g → is_of types (standing past g) own (R.Of t [] []) v ≡ true
  OwesInside false t v = Unit {0}

  -- as many as parameters
  abbrev pub AreArguments : List Bool → List Typ → List Indices → List Value → Type 0
  AreArguments [] [] [] [] = Unit {0}
  AreArguments (b ∷ bs) (t ∷ ts) (i ∷ is) (v ∷ vs) = Has i v × OwesInside b t v × AreArguments bs ts is vs
  AreArguments bs ts is vs = ⊥

-- ---- what suffices

abbrev pub AllBelong : Types → Assignment → List Closed → List Typ → List Value → Type 0
AllBelong types mu rs [] [] = Unit {0}
AllBelong types mu rs (t ∷ ts) (v ∷ vs) = (belongs types v (over mu t rs) ≡ true) × AllBelong types mu rs ts vs
AllBelong types mu rs ts vs = ⊥

-- the callee's variables stand for what the call gives them, the values belong to the parameters, and the constraint is true
pub record Enters (types : Types) (past : Positive) (own : List Closed) (fn : Function) (js : List Index) (qs : List Reading) (vs : List Value)
    (h g : Integers) : Type 0 where
  pub same : assigned (standing past g) js ≡ inside past fn.variables h
  pub given : map (given_there (standing past g)) js ≡ givens_at h 0 fn.variables
  pub belong : AllBelong types (inside past fn.variables h) (types_or_own (map (closed types (standing past g) own) qs) own) fn.parameters vs
  pub constraint : true_in (inside past fn.variables h) fn.constraint ≡ true
  pub are_given : givens_of (length fn.variables) fn.parameters vs ≡ Some (givens_at h 0 fn.variables)

-- what the callee's Type variables are found to stand for; types of items are opened from the next variable on
abbrev pub types_found : ℕ → Function → List Indices → List Reading
types_found n fn is = types_from n 0 (length fn.type_variables) fn.parameters is

abbrev pub CallsFit : Type 0
CallsFit = (types : Types) (past : Positive) (own : List Closed) (fn : Function) (bs : List Bool) (is : List Indices) (vs : List Value) (n : ℕ)
    (f : Point n)
    → EachHasPlace 0 fn.variables fn.parameters
    → AreArguments types past own f bs fn.parameters is vs
    → Suffices past n f (call_conditions (fits types) fn (numbers_from 0 fn.variables fn.parameters is) (types_found n fn is) bs is n)
    (λ g. Enters types past own fn (numbers_from 0 fn.variables fn.parameters is) (types_found n fn is) vs
    (integers_there (standing past f.integers) (numbers_from 0 fn.variables fn.parameters is)) g)
