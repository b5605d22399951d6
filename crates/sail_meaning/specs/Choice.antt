-- Which callee a call comes to: a name that means several is decided by the values of the arguments (Sail language manual,
-- "Overloading").
use Rattle.std.specs.Prelude.{nat_eq, Bool, true, false, if◌then◌else◌, List, [], ◌∷◌, ◌++◌, map, length, find, Option, Some, None}
use Rattle.sail_base.specs.declared.operators.Operator.{Operator}
use Rattle.sail_base.specs.declared.operators.Operator.TheVariants as O
use Rattle.sail_base.specs.declared.operators.Prefix.{Prefix}
use Rattle.sail_types.specs.Rows.{row_members, members_of, operator_rows, prefix_rows}
use Rattle.sail_types.specs.Shapes.{fits, each_fits, shape}
use Rattle.sail_types.specs.declared.members.Member.{Member}
use Rattle.sail_types.specs.declared.rows.Row.{Row}
use Rattle.sail_types.specs.declared.shapes.Shape.{Shape, Shape-F, out-Shape}
use Rattle.sail_types.specs.declared.shapes.Shape.TheOpen as S
use Rattle.sail_types.specs.declared.shapes.Shape.TheVariants as Sh
use Rattle.sail_types.specs.declared.table.Types.{Types}
use Rattle.sail_types.specs.declared.values.Value.{Value}
use Rattle.sail_types.specs.declared.values.Value.TheVariants as V
use Rattle.sail_core.specs.Values.{payload_of}
use Rattle.sail_meaning.specs.Text.{Text, Direction, Callee, function, direction, constructor, builtin, cons, Called, alone, overload, mapping}

-- ---- members

-- the shapes of a callee's parameters; a mapping has one
abbrev pub parameters : Callee → List Shape
parameters (function f) = map shape f.parameters
parameters (direction d) = shape d.takes ∷ []
parameters (constructor u c ss) = ss
parameters (builtin row ss) = ss
parameters cons = Sh.Variable 0 ∷ Sh.List (Sh.Variable 0) ∷ []

-- whether a callee has so many parameters, and the values fit their shapes; a type variable fits all
abbrev pub accepts : Types → List Value → Callee → Bool
accepts types vs callee = each_fits (map (fits types) vs) (parameters callee)

-- the first member that the values fit
abbrev pub first_fitting : Types → List Callee → List Value → Option Callee
first_fitting types callees vs = find (accepts types vs) callees

-- ---- builtins

abbrev pub builtins : List Member → List Callee
builtins members = map (λ m. builtin m.row m.params) members

-- a builtin that is called by its name; `eq`, `neq` and `length` have several members
abbrev pub called_of : List Callee → Called
called_of (callee ∷ []) = alone callee
called_of callees = overload callees

abbrev pub called_builtin : Types → Row → Called
called_builtin types row = called_of (builtins (row_members types row))

-- the builtin members of an operator, in the order of the table
abbrev pub operator_builtins : Types → Operator → List Callee
operator_builtins types O.Cons = cons ∷ []
operator_builtins types operator = builtins (members_of types (operator_rows operator))

abbrev pub prefix_builtins : Types → Prefix → List Callee
prefix_builtins types prefix = builtins (members_of types (prefix_rows prefix))

-- all members of an operator: those of overloads stand behind
abbrev pub operator_members : Text → Operator → List Callee
operator_members text operator = operator_builtins text.types operator ++ text.added operator

-- ---- arguments

abbrev pub form_takes_unit : Shape-F Shape → Bool
form_takes_unit S.Unit = true
form_takes_unit (S.Variable i) = true
form_takes_unit form = false

-- `f()` is `f(())` where the one parameter is unit or a type variable
abbrev pub unit_for : List Shape → List Value
unit_for (s ∷ []) = if form_takes_unit (out-Shape s) then V.Unit ∷ [] else []
unit_for ss = []

-- the arguments as the callee takes them: a mapping takes one value, so that `m(a, b)` is `m((a, b))`; and `f()` may be `f(())`
abbrev pub arguments : Called → List Value → List Value
arguments (alone (direction d)) vs = payload_of vs ∷ []
arguments (alone callee) [] = unit_for (parameters callee)
arguments (alone callee) vs = vs
arguments (overload callees) [] = V.Unit ∷ []
arguments (overload callees) vs = vs
arguments (mapping forwards backwards) vs = payload_of vs ∷ []

-- the callee for these arguments: of an overload the first member that they fit, of a mapping the direction whose side they fit
abbrev pub choice : Types → Called → List Value → Option Callee
choice types (alone callee) vs = if nat_eq (length vs) (length (parameters callee)) then Some callee else None
choice types (overload callees) vs = first_fitting types callees vs
choice types (mapping forwards backwards) vs = first_fitting types (direction forwards ∷ direction backwards ∷ []) vs

abbrev pub chosen_direction : Option Callee → Option Direction
chosen_direction (Some (direction d)) = Some d
chosen_direction callee = None
