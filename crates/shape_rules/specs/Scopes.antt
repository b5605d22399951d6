-- What can be named where shapes are found: the local names, and what each name of a value means in this phase (Sail language
-- manual, "Functions", "Mappings", "Overloading", "Registers").
use Rattle.std.specs.Prelude.{ℕ, true, false, List, [], ◌∷◌, ◌++◌, reverse, bytes_eq, Option, Some, None, if◌then◌else◌}
use Rattle.sail_base.specs.declared.operators.Operator.{Operator}
use Rattle.sail_types.specs.declared.shapes.Shape.{Shape}
use Rattle.sail_types.specs.declared.shapes.Shape.TheVariants as V
use Rattle.sail_types.specs.declared.table.Types.{Types}
use Rattle.sail_types.specs.declared.types.Typ.{Typ}
use Rattle.sail_kinds.specs.Scopes.{Within}
use Rattle.sail_kinds.specs.declared.scope.Meaning.{Meaning}
use Rattle.sail_kinds.specs.declared.scope.Meaning.TheVariants as Stands
use Rattle.shape_rules.specs.declared.callees.Candidate.{Candidate}
use Rattle.shape_rules.specs.declared.callees.Meant.{Meant}
use Rattle.shape_rules.specs.declared.locals.Local.{Local}

-- where an expression stands
pub record Setting : Type 0 where
  -- the table of named types, and the types and type variables that can be named
  pub types : Types
  pub within : Within
  -- what names of values mean, and the members that overloads add to an operator
  pub value : List ℕ → Option Meant
  pub added : Operator → List Candidate
  -- the places in the table of the union `exception`, and of the struct of a name
  pub exception : Option ℕ
  pub struct_named : List ℕ → Option ℕ
  -- the type of what a direction of a mapping gives, by the direction's number
  pub given_by : ℕ → Option Typ
  -- the shape of what a `return` gives; none where no function is around it
  pub answer : Option Shape

-- in a plain expression an operator means its builtin members
abbrev pub plainly : Setting → Setting
plainly setting = record setting { added = λ operator. [] }

-- a `return` gives a value of this shape, or there is no function around
abbrev pub answering : Option Shape → Setting → Setting
answering answer setting = record setting { answer = answer }

-- the place in the table of a struct, union or enum
abbrev pub defined_place : Meaning → Option ℕ
defined_place (Stands.Defined i) = Some i
defined_place meaning = None

-- the local names in scope, the innermost first
abbrev pub Locals : Type 0
Locals = List Local

-- the innermost local of a name
abbrev pub local_of : List ℕ → Locals → Option Local
local_of name [] = None
local_of name (inner ∷ outer) = if bytes_eq inner.name name then Some inner else local_of name outer

-- a name that a pattern or a `foreach` binds, and one that a `var` does
abbrev pub constant : List ℕ → Shape → Local
constant name s = record { name = name; shape = s; is_variable = false }

abbrev pub variable : List ℕ → Shape → Local
variable name s = record { name = name; shape = s; is_variable = true }

-- names in the order in which a pattern binds them, in scope before others
abbrev pub under : List Local → Locals → Locals
under found locals = reverse found ++ locals

-- the shape of what is thrown
abbrev pub thrown_as : Option ℕ → Shape
thrown_as None = V.Never
thrown_as (Some i) = V.Named i []

abbrev pub thrown_shape : Setting → Shape
thrown_shape setting = thrown_as setting.exception
