-- What is known around an expression: the model, the type variables of the function, and the names in scope.
use Rattle.std.specs.Prelude.{ℕ, List, [], ◌∷◌, pos, Option, Some, None, option_map, if◌then◌else◌}
use Rattle.std.specs.Option.{option_copied}
use Rattle.std.specs.Str.{bytes_eq}
use Rattle.sail_types.specs.Sums.{constant, is_constant, read}
use Rattle.sail_types.specs.declared.numbers.Index.{Index}
use Rattle.sail_types.specs.declared.numbers.Num.{Num}
use Rattle.sail_types.specs.declared.table.Types.{Types}
use Rattle.sail_types.specs.declared.types.Typ.{Typ}
use Rattle.model_state.specs.declared.state.Register.{Register}
use Rattle.sail_core.specs.declared.model.Function.{Function}
use Rattle.sail_core.specs.declared.model.Direction.{Direction}
use Rattle.sail_core.specs.declared.written.Role.{Role}
use Rattle.sail_core.specs.declared.written.Role.TheVariants as Size
use Rattle.sail_core.specs.declared.written.Written.{Written}
use Rattle.sail_core.specs.declared.written.WrittenNumber.{WrittenNumber}
use Rattle.value_indices.specs.declared.indices.Indices.{Indices}
use Rattle.value_indices.specs.declared.indices.Reading.{Reading}
use Rattle.value_indices.specs.declared.indices.Reading.TheVariants as R
use Rattle.value_indices.specs.Steps.{Walk, bind, give, owe, Conditions}
use Rattle.value_indices.specs.Opening.{at_most}
use Rattle.pattern_leaves.specs.declared.names.TopLevel.{TopLevel}
use Rattle.pattern_leaves.specs.declared.names.Held.{Held}
use Rattle.pattern_leaves.specs.declared.names.Held.TheVariants as H
use Rattle.pattern_leaves.specs.declared.names.Bound.{Bound}
use Rattle.pattern_leaves.specs.declared.around.Around as code

pub record Around : Type 0 where
  pub types : Types
  pub exception : Option ℕ
  pub registers : List Register
  pub functions : List Function
  pub directions : List Direction
  pub lets : List TopLevel
  -- what the type variables of the function stand for: the first variables of the walk
  pub numbers : List Index
  -- the type of the function's result
  pub answer : Option Reading

-- what the code holds of it
abbrev pub around_of : code.Around → Around
around_of around = record {
  types = around.types.now;
  exception = around.exception;
  registers = around.registers.now;
  functions = around.functions.now;
  directions = around.directions.now;
  lets = around.lets.now;
  numbers = around.numbers.now;
  answer = option_copied around.answer;
}

-- ---- names

-- a name of a value of these indices
abbrev pub bound : List ℕ → Indices → Bound
bound name i = record { name = name; held = H.Value i; written = None }

-- a `var` of this type
abbrev pub declared : List ℕ → Reading → Bound
declared name r = record { name = name; held = H.Var r; written = None }

-- names in scope, the newest first
abbrev pub Scope : Type 0
Scope = List Bound

abbrev pub held_in : List ℕ → Scope → Option Held
held_in name [] = None
held_in name (b ∷ scope) = if bytes_eq b.name name then Some b.held else held_in name scope

-- a type under the type variables of the function
abbrev pub type_in : Around → Typ → Reading
type_in around t = R.Of t around.numbers []

abbrev pub written_in : Around → Written → Reading
written_in around w = type_in around w.typ

-- ---- exponents where they are written

-- from 0 to 126
abbrev pub fine_exponent : Option Num → Conditions
fine_exponent t = option_map (at_most (constant (pos 0))) t ∷ option_map (λ u. at_most u (constant (pos 126))) t ∷ []

abbrev pub exponent_owed : Option Num → Conditions
exponent_owed None = fine_exponent None
exponent_owed (Some t) = if is_constant t then [] else fine_exponent (Some t)

abbrev pub number_owed : Around → WrittenNumber → Role → Conditions
number_owed around n Size.Exponent = exponent_owed (read around.numbers n.number)
number_owed around n role = []

-- those of a written type that aren't constant, each at its `^`
abbrev pub exponents_owed : Around → List WrittenNumber → Walk (Unit {0})
exponents_owed around [] = give tt
exponents_owed around (n ∷ ns) = bind (owe n.place (number_owed around n n.role)) (λ t. exponents_owed around ns)
