-- What is so where a note of the walk stands, and the types at which values are made there.
use Rattle.std.specs.Prelude.{◌≡◌, ℕ, suc, ℤ, pos, int_le, Bool, true, List, [], ◌∷◌, ◌++◌, map, Option, Some, None}
use Rattle.sail_types.specs.Numbers.{Positive}
use Rattle.sail_types.specs.Places.{Given, an_int, a_bool}
use Rattle.sail_types.specs.declared.table.Types.{Types}
use Rattle.sail_types.specs.declared.values.Value.{Value}
use Rattle.size_values.specs.Sizes.{joined}
use Rattle.size_values.specs.declared.constants.Constant.{Constant}
use Rattle.size_values.specs.declared.constants.Constant.TheVariants as K
use Rattle.size_values.specs.declared.sized.Sized.{Sized}
use Rattle.size_values.specs.Sized.{value_sized, reading_sized}
use Rattle.value_indices.specs.declared.indices.Indices.{Indices, fold-Indices}
use Rattle.value_indices.specs.declared.indices.Indices.TheOpen as W
use Rattle.value_indices.specs.declared.indices.Indices.TheOpen.{Indices-F, Reading-F}
use Rattle.value_indices.specs.declared.indices.Naming.{Naming}
use Rattle.value_indices.specs.declared.indices.Reading.{Reading}
use Rattle.value_indices.specs.declared.notes.Fact.{Fact}
use Rattle.value_indices.specs.declared.notes.Fact.TheVariants as Y
use Rattle.value_indices.specs.declared.notes.Made.{Made}
use Rattle.value_indices.specs.declared.notes.Made.TheVariants as Makes
use Rattle.value_indices.specs.Opening.{opening}
use Rattle.value_indices.specs.Steps.{conditions}
use Rattle.call_arguments.specs.Placing.{variable_in}
use Rattle.value_laws.specs.Belonging.{Integers, standing, has, is_of}
use Rattle.value_laws.specs.Known.{AllTrue, given_in}
use Rattle.checked_meaning.specs.Checked.{Noted}
use Rattle.soundness_steps.specs.Works.{Work}

-- ---- what is so: the first variables have the numbers of the instance, all conditions are true, and the numbers that are given are noted

abbrev pub GivenIs : Option Given → ℤ → Type 0
GivenIs None z = Unit {0}
GivenIs (Some (an_int x)) z = z ≡ x
GivenIs (Some (a_bool b)) z = int_le (pos 1) z ≡ b

abbrev pub HasNumbers : ℕ → List (Option Given) → Integers → Type 0
HasNumbers i [] f = Unit {0}
HasNumbers i (g ∷ gs) f = GivenIs g (f i) × HasNumbers (suc i) gs f

abbrev pub EachNoted : Noted → Integers → List ℕ → Type 0
EachNoted noted f [] = Unit {0}
EachNoted noted f (v ∷ vs) = (noted v ≡ Some (f v)) × EachNoted noted f vs

pub record IsSo (past : Positive) (work : Work) (noted : Noted) (f : Integers) (facts : List Fact) : Type 0 where
  pub numbers : HasNumbers 0 work.instance.numbers f
  pub true_there : AllTrue (standing past f) (conditions facts)
  pub given : EachNoted noted f (given_in facts)

-- ---- the variables whose numbers a value gives: an integer, a width or a length that is one, also as a part of a tuple

abbrev pub one_or_none : Option ℕ → List ℕ
one_or_none None = []
one_or_none (Some v) = v ∷ []

abbrev pub form_gives : Indices-F (List ℕ) (List ℕ) → List ℕ
form_gives (W.Integer n) = one_or_none (variable_in n)
form_gives (W.Bits n) = one_or_none (variable_in n)
form_gives (W.Vector n vs) = one_or_none (variable_in n)
form_gives (W.Tuple vs) = joined vs
form_gives form = []

abbrev pub type_gives : Reading-F (List ℕ) (List ℕ) → List ℕ
type_gives form = []

abbrev pub variables_given : Indices → List ℕ
variables_given = fold-Indices (List ℕ) (List ℕ) form_gives type_gives

abbrev pub with_given : List Fact → List ℕ → List Fact
with_given facts vs = facts ++ map Y.IsGiven vs

-- ---- types, all of whose sizes are constants where the variables stand for these integers

abbrev pub known : Integers → ℕ → Constant
known f v = K.Number (f v)

-- of a value of these indices
abbrev pub sized : Types → List Sized → Integers → Indices → Sized
sized types own f i = value_sized types own (known f) i

-- of a type that isn't opened
abbrev pub type_sized : Types → List Sized → Integers → Reading → Sized
type_sized types own f r = reading_sized types own (known f) r

-- a value of a type has the type of each way to open it: so where the type binds a variable, its size is the one that the value has
pub record OpensAs (types : Types) (past : Positive) (work : Work) (f : Integers) (r : Reading) (v : Value) (s : Sized) : Type 0 where
  pub each : (tells : Bool) (name : Naming) (facts : List Fact) (n : ℕ)
      → has types (standing past f) work.types (opening r tells name facts n).value v ≡ true
      → s ≡ sized types work.own f (opening r tells name facts n).value

-- which values a node makes, and at which type
abbrev pub is_made : Types → Positive → Work → Integers → Made → Value → Bool
is_made types past work f (Makes.ByIndices i) v = has types (standing past f) work.types i v
is_made types past work f (Makes.ByType r) v = is_of types (standing past f) work.types r v

abbrev pub MadeAs : Types → Positive → Work → Integers → Made → Value → Sized → Type 0
MadeAs types past work f (Makes.ByIndices i) v s = s ≡ sized types work.own f i
MadeAs types past work f (Makes.ByType r) v s = OpensAs types past work f r v s
