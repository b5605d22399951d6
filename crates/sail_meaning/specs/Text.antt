-- What the definitions of a text give to its meaning, as they are written, each name looked up.
use Rattle.std.specs.Prelude.{ℕ, List, Option}
use Rattle.sail_base.specs.declared.operators.Operator.{Operator}
use Rattle.sail_base.specs.declared.place.Place.{Place}
use Rattle.sail_types.specs.declared.rows.Row.{Row}
use Rattle.sail_types.specs.declared.shapes.Shape.{Shape}
use Rattle.sail_types.specs.declared.table.Types.{Types}
use Rattle.sail_types.specs.declared.types.Typ.{Typ}
use Rattle.sail_syntax.specs.declared.patterns.Pat.{Pat}
use Rattle.sail_syntax.specs.declared.expressions.Exp.{Exp}
use Rattle.sail_syntax.specs.declared.definitions.FunctionClause.{FunctionClause}
use Rattle.model_state.specs.declared.state.Register.{Register}
use Rattle.sail_kinds.specs.Scopes.{Within}

-- a `termination_measure`
pub record Measure : Type 0 where
  pub parameters : List Pat
  pub value : Exp

-- a function: the word that opens it; the types and type variables that can be named in it; how many of these variables are integers
-- and truths; the types of its parameters; its clauses in text order; its measure; the cycle of calls that it lies in
pub record Function : Type 0 where
  pub place : Place
  pub within : Within
  pub variables : ℕ
  pub parameters : List Typ
  pub clauses : List FunctionClause
  pub measure : Option Measure
  pub cycle : Option ℕ

-- a clause of a mapping in one direction: the side that is matched, its guard, and the side that is read as an expression
pub record Crossing : Type 0 where
  pub matched : Pat
  pub guard : Option Exp
  pub result : Pat

-- a direction of a mapping: the types of the side that it takes and of the side that it gives, and its clauses in text order
pub record Direction : Type 0 where
  pub takes : Typ
  pub gives : Typ
  pub clauses : List Crossing

-- what a call can come to: a function; a direction of a mapping; a constructor, with the shapes of its parameters; a builtin, likewise;
-- the builtin member of `::`
pub data Callee : Type 0 where
  function : Function → Callee
  direction : Direction → Callee
  constructor : ℕ → ℕ → List Shape → Callee
  builtin : Row → List Shape → Callee
  cons : Callee

-- what a name means in a call: one callee; an overload or a builtin of several members; a mapping, forwards and backwards
pub data Called : Type 0 where
  alone : Callee → Called
  overload : List Callee → Called
  mapping : Direction → Direction → Called

-- a top-level `let` at its word, or the initial value of the register of this place
pub data Opening : Type 0 where
  let_of : Place → Pat → Exp → Opening
  register_of : ℕ → Exp → Opening

pub record Text : Type 0 where
  -- the structs, unions and enums
  pub types : Types
  -- the types that can be named outside of functions
  pub within : Within
  -- what a name means in a call or as the head of a pattern
  pub called : List ℕ → Option Called
  -- the members that overloads add to an operator, in text order
  pub added : Operator → List Callee
  -- the registers, and lets and initial values, each in text order
  pub registers : List Register
  pub openings : List Opening
  -- how many directions of mappings there are
  pub directions : ℕ
