-- Builtins keep shapes: called on values of the shapes of a member's parameters, whatever its variable stands for, a builtin gives a value of the
-- shape of the member's result, where it gives one. And the core calls it as the text does (Sail language manual, "Integers", "Bitvectors",
-- "Vectors", "Overloading").
use Rattle.std.specs.Prelude.{◌≡◌, ℕ, true, List, [], ◌∷◌, ◌++◌, map, Contains}
use Rattle.std.specs.List.{list_all}
use Rattle.sail_base.specs.declared.operators.Operator.{Operator}
use Rattle.sail_base.specs.declared.operators.Prefix.{Prefix}
use Rattle.sail_base.specs.declared.place.Place.{Place}
use Rattle.sail_types.specs.Numbers.{Positive}
use Rattle.sail_types.specs.Rows.{row_members, members_of, operator_rows}
use Rattle.sail_types.specs.declared.members.Member.{Member}
use Rattle.sail_types.specs.declared.numbers.Num.{Num}
use Rattle.sail_types.specs.declared.rows.Row.{Row}
use Rattle.sail_types.specs.declared.shapes.Shape.{Shape}
use Rattle.sail_types.specs.declared.table.Types.{Types}
use Rattle.sail_types.specs.declared.values.Value.{Value, out-Value}
use Rattle.row_types.specs.RowTypes.{row_type}
use Rattle.row_types.specs.Calls.{is_sized, is_met, has_space, first_shape}
use Rattle.sail_core.specs.Run as R
use Rattle.sail_core.specs.Run.{Now, Ended, row_run}
use Rattle.sail_core.specs.Making as Core
use Rattle.sail_meaning.specs.Calls as Source
use Rattle.sail_meaning.specs.Text.{Callee}
use Rattle.sail_meaning.specs.Choice.{builtins, operator_builtins, prefix_builtins}
use Rattle.sail_meaning.specs.World.{apply_builtin}
use Rattle.shape_rules.specs.declared.callees.Candidate.{Candidate}
use Rattle.shape_rules.specs.Calls.{builtin_members, member_candidate, operator_members, prefix_members}
use Rattle.shape_rules.specs.Scopes.{Setting, thrown_shape}
use Rattle.shape_meanings.specs.Whole.{Choice}
use Rattle.shape_meanings.specs.Keeping.{Fits, FitAll, RegistersFit, KeepsApart}
use Rattle.shape_meanings.specs.Worlds.{Apply, StandForEach, ApartFrom, Distinct, is_builtin}

-- ---- shapes

-- each of some members
abbrev pub Each : (Member → Type 0) → List Member → Type 0
Each P [] = Unit {0}
Each P (m ∷ ms) = P m × Each P ms

-- a hart that calls a member's builtin on values of its parameters' shapes gets a value of its result's shape, where it gets one; registers keep
-- their shapes, and the names in scope stay
abbrev pub KeepsShapes : Types → Member → Type 0
KeepsShapes types m =
    (registers : List Shape) (thrown : Shape) (c : Choice) (hart : ℕ) (vs : List Value) (now : Now Value) → FitAll types c m.params vs
    → RegistersFit types registers now.state → KeepsApart types registers thrown (Fits types c m.answer) now (row_run m.row hart vs now)

abbrev pub RowsKeepShapes : Type 0
RowsKeepShapes = (types : Types) (row : Row) → Each (KeepsShapes types) (row_members types row)

-- a piece of a run that isn't stuck
abbrev pub GoesOn : Ended Value Value → Type 0
GoesOn R.Stuck = ⊥
GoesOn e = Unit {0}

-- no builtin is stuck by a wrong shape: it isn't on values of its parameters' shapes, within the limits, where what the call owes is true of their
-- numbers and the width or length of the result is within its limit
abbrev pub RowsGoOn : Type 0
RowsGoOn =
    (types : Types) (beyond : Num → Positive) (c : Choice) (row : Row) (m : Member) (vs : List Value) → Contains (row_members types row) m
    → FitAll types c m.params vs → list_all is_sized (map out-Value vs) ≡ true
    → is_met beyond (row_type row (first_shape m.params)) (map out-Value vs) ≡ true
    → has_space beyond (row_type row (first_shape m.params)) (map out-Value vs) ≡ true
    → (hart : ℕ) (now : Now Value) → GoesOn (row_run row hart vs now)

-- ---- both sides

-- a builtin on arguments is what a hart does that calls it
abbrev pub AppliesBuiltins : ℕ → Apply → Type 0
AppliesBuiltins hart apply =
    (place : Place) (callee : Callee) (vs : List Value) → is_builtin callee ≡ true → apply place callee vs ≡ apply_builtin hart callee vs

-- so it is in a text, in whatever calls
abbrev pub TextsApplyBuiltins : Type 0
TextsApplyBuiltins = (s : Source.Setting) (calls : Source.Calls) (active : Source.Measures) → AppliesBuiltins s.hart (Source.applied s calls active)

-- a builtin by its name: its members stand for those of the text, and no two of them share values
abbrev pub RowsStand : Type 0
RowsStand =
    (types : Types) (registers : List Shape) (thrown : Shape) (wc : Core.World Value) (hart : ℕ) (apply : Apply) → wc.hart ≡ hart
    → AppliesBuiltins hart apply → (row : Row)
    → StandForEach types registers thrown wc apply (map member_candidate (row_members types row)) (builtins (row_members types row))
    × Distinct (map member_candidate (row_members types row))

-- an operator before its operand
abbrev pub PrefixesStand : Type 0
PrefixesStand =
    (setting : Setting) (registers : List Shape) (wc : Core.World Value) (hart : ℕ) (apply : Apply) → wc.hart ≡ hart
    → AppliesBuiltins hart apply → (prefix : Prefix)
    → StandForEach setting.types registers (thrown_shape setting) wc apply (prefix_members setting prefix) (prefix_builtins setting.types prefix)
    × Distinct (prefix_members setting prefix)

-- an operator between its operands, with the members that overloads add to it behind its builtins
abbrev pub OperatorsStand : Type 0
OperatorsStand =
    (setting : Setting) (registers : List Shape) (wc : Core.World Value) (hart : ℕ) (apply : Apply) → wc.hart ≡ hart
    → AppliesBuiltins hart apply → (operator : Operator) (added : List Callee)
    → StandForEach setting.types registers (thrown_shape setting) wc apply (setting.added operator) added
    → StandForEach setting.types registers (thrown_shape setting) wc apply (operator_members setting operator)
    (operator_builtins setting.types operator ++ added)

-- the builtin members of an operator
abbrev pub operator_first : Types → Operator → List Candidate
operator_first types operator = builtin_members operator ++ map member_candidate (members_of types (operator_rows operator))

-- none of the one members shares values with one of the other
abbrev pub EachApart : List Candidate → List Candidate → Type 0
EachApart [] gs = Unit {0}
EachApart (f ∷ fs) gs = ApartFrom f gs × EachApart fs gs

-- members of an operator share no values, where those that are added share none with each other and with its builtins
abbrev pub OperatorsAreDistinct : Type 0
OperatorsAreDistinct =
    (setting : Setting) (operator : Operator) → Distinct (setting.added operator)
    → EachApart (operator_first setting.types operator) (setting.added operator) → Distinct (operator_members setting operator)
