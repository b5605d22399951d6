-- The two worlds around an expression, that of the core and that of the source, in which names mean what its shapes were found for.
use Rattle.std.specs.Prelude.{◌≡◌, ℕ, zero, suc, ◌*◌, nat_eq, Bool, true, false, bytes_eq, List, [], ◌∷◌, ◌++◌, map, slice_get, Option, Some, None}
use Rattle.sail_base.specs.declared.operators.Operator.{Operator}
use Rattle.sail_base.specs.declared.operators.Prefix.{Prefix}
use Rattle.sail_base.specs.declared.place.Place.{Place}
use Rattle.sail_types.specs.Named.{payload, fields}
use Rattle.sail_types.specs.Rows.{row_members}
use Rattle.sail_types.specs.Shapes.{fits, shares, shape}
use Rattle.sail_types.specs.declared.shapes.Shape.{Shape}
use Rattle.sail_types.specs.declared.shapes.Shape.TheVariants as V
use Rattle.sail_types.specs.declared.table.Definition.{Definition}
use Rattle.sail_types.specs.declared.table.Field.{Field}
use Rattle.sail_types.specs.declared.table.Types.{Types}
use Rattle.sail_types.specs.declared.types.Typ.{Typ, Typ-F, out-Typ}
use Rattle.sail_types.specs.declared.types.Typ.TheOpen as T
use Rattle.sail_types.specs.declared.values.Value.{Value}
use Rattle.sail_types.specs.declared.values.Value.TheVariants as Val
use Rattle.sail_core.specs.declared.tree.Callee.TheVariants as C
use Rattle.sail_core.specs.Run.{Now, Run, stuck, needs, ◌then◌}
use Rattle.sail_core.specs.Values.{cons_of}
use Rattle.sail_core.specs.Making as Core
use Rattle.sail_core.specs.Making.{plainly, made}
use Rattle.sail_core.specs.Targets.{called}
use Rattle.shape_joins.specs.Numbering.{overlaps}
use Rattle.sail_meaning.specs.Text.{Callee, builtin, cons, direction, Direction, Called, alone, overload, mapping}
use Rattle.sail_meaning.specs.Choice.{parameters, arguments, choice, builtins, called_builtin, operator_builtins, prefix_builtins}
use Rattle.sail_meaning.specs.Named.{member_named, constructor_named}
use Rattle.sail_meaning.specs.World as Source
use Rattle.sail_meaning.specs.World.{Piece, register_named, apply_builtin}
use Rattle.sail_meaning.specs.Targets.{constant_named}
use Rattle.shape_rules.specs.declared.callees.Candidate.{Candidate}
use Rattle.shape_rules.specs.declared.callees.Doing.{Doing}
use Rattle.shape_rules.specs.declared.callees.Doing.TheVariants as D
use Rattle.shape_rules.specs.declared.callees.Mapping.{Mapping}
use Rattle.shape_rules.specs.declared.callees.Meant.{Meant}
use Rattle.shape_rules.specs.declared.callees.Meant.TheVariants as M
use Rattle.shape_rules.specs.Calls.{param_shapes, member_candidate, operator_members, prefix_members}
use Rattle.shape_rules.specs.Values.{does_convert, variables_of_type}
use Rattle.shape_rules.specs.Patterns.{opposite}
use Rattle.shape_rules.specs.Scopes.{Setting, thrown_shape}
use Rattle.shape_meanings.specs.Whole.{Choice, below, all_below, closed}
use Rattle.shape_meanings.specs.Keeping.{Fits, FitAll, RegistersFit, AgreeApart}

-- a callee on arguments at a place, in the source
abbrev pub Apply : Type 0
Apply = Place → Callee → List Value → Piece Value

-- ---- callees

-- what a call of a candidate does in the core
abbrev pub doing_run : Core.World Value → Place → Doing → List Value → Run Value Value
doing_run w place (D.Calls callee) vs = called plainly w place 0 callee vs
doing_run w place D.Conses vs = needs (cons_of vs) then made plainly 0 vs

-- whatever its variables stand for: on arguments of its parameters' shapes it does the same in the core and in the source, and gives a value
-- of its result's shape
abbrev pub KeepsCall : Types → List Shape → Shape → Core.World Value → Apply → Candidate → Callee → Type 0
KeepsCall types registers thrown wc apply f callee =
    (c : Choice) (place : Place) (vs : List Value) (now : Now Value) → FitAll types c f.params vs → RegistersFit types registers now.state
    → AgreeApart types registers thrown (Fits types c f.answer) now (doing_run wc place f.doing vs now) (apply place callee vs now)

abbrev pub is_direction : Callee → Bool
is_direction (direction d) = true
is_direction callee = false

-- a candidate stands for a callee: both have the same parameters, which leave nothing open, and whose variables are those of the candidate, as
-- are those of the result; and both are a direction or none
pub record StandsFor (types : Types) (registers : List Shape) (thrown : Shape) (wc : Core.World Value) (apply : Apply) (f : Candidate) (callee : Callee)
    : Type 0 where
  pub params : parameters callee ≡ f.params
  pub whole : all_below f.variables f.params ≡ true
  pub answer : below f.variables f.answer ≡ true
  pub converts : is_direction callee ≡ does_convert f.doing
  pub keeps : KeepsCall types registers thrown wc apply f callee

abbrev pub StandForEach : Types → List Shape → Shape → Core.World Value → Apply → List Candidate → List Callee → Type 0
StandForEach types registers thrown wc apply [] [] = Unit {0}
StandForEach types registers thrown wc apply (f ∷ fs) (callee ∷ callees) =
    StandsFor types registers thrown wc apply f callee × StandForEach types registers thrown wc apply fs callees
StandForEach types registers thrown wc apply fs callees = ⊥

-- members share no values, but where their parameters are alike
abbrev pub ApartFrom : Candidate → List Candidate → Type 0
ApartFrom f [] = Unit {0}
ApartFrom f (g ∷ gs) = (overlaps f.params g.params ≡ false) × ApartFrom f gs

abbrev pub Distinct : List Candidate → Type 0
Distinct [] = Unit {0}
Distinct (f ∷ fs) = ApartFrom f fs × Distinct fs

-- a direction takes and gives one value
abbrev pub direction_candidate : List ℕ → ℕ → Typ → Typ → Candidate
direction_candidate name d from to =
    record { name = name; doing = D.Calls (C.Converts d); variables = 0; params = shape from ∷ []; answer = shape to }

-- so many variables, in order
abbrev pub variables_from : ℕ → ℕ → List Shape
variables_from i zero = []
variables_from i (suc count) = V.Variable i ∷ variables_from (suc i) count

-- ---- heads of patterns

-- a direction of a mapping in a pattern: on a value of the side that it takes, the core's way by its number does what the source's
-- conversion by name does
abbrev pub KeepsWay : Types → List Shape → Shape → Core.World Value → Source.World → List ℕ → ℕ → Typ → Typ → Type 0
KeepsWay types registers thrown wc ws name d takes gives =
    (v : Value) (now : Now Value) → fits types v (shape takes) ≡ true → RegistersFit types registers now.state
    → AgreeApart types registers thrown (λ u. fits types u (shape gives) ≡ true) now (wc.way d v now) (ws.convert name v now)

-- a direction of this number: its types leave nothing open and have no variable, and what it gives is known, as is what the opposite one gives
pub record IsDirection (setting : Setting) (d : ℕ) (it : Direction) : Type 0 where
  pub takes : closed (shape it.takes) ≡ true
  pub gives : closed (shape it.gives) ≡ true
  pub given : setting.given_by d ≡ Some it.gives
  pub taken : setting.given_by (opposite d) ≡ Some it.takes

-- a tuple that a constructor takes has several parts
abbrev pub is_payload_form : Typ-F Typ → Bool
is_payload_form (T.Tuple []) = false
is_payload_form (T.Tuple (t ∷ [])) = false
is_payload_form form = true

abbrev pub is_payload : Typ → Bool
is_payload t = is_payload_form (out-Typ t)

-- a constructor of this union, with so many Type variables
pub record IsConstructor (types : Types) (f : Candidate) (u k : ℕ) : Type 0 where
  pub typ : Typ
  pub there : payload types u k ≡ Some typ
  pub several : is_payload typ ≡ true
  pub params : f.params ≡ param_shapes typ
  pub answer : f.answer ≡ V.Named u (variables_from 0 f.variables)

-- a callee by its name, as the head of a pattern
abbrev pub HeadAs : Setting → List Shape → Core.World Value → Source.World → List ℕ → Candidate → Callee → Doing → Type 0
HeadAs setting registers wc ws name f callee (D.Calls (C.Constructor u k)) =
    (constructor_named setting.types name ≡ Some (u, k)) × IsConstructor setting.types f u k
HeadAs setting registers wc ws name f callee (D.Calls (C.Converts d)) =
    (constructor_named setting.types name ≡ None) × ((it : Direction) × (callee ≡ direction it) × IsDirection setting d it
    × (f.answer ≡ shape it.gives) × KeepsWay setting.types registers (thrown_shape setting) wc ws name d it.takes it.gives)
HeadAs setting registers wc ws name f callee doing = constructor_named setting.types name ≡ None

-- ---- names

-- the value of a top-level let has its shape, whatever variables stand for; a let without a value is no register either
abbrev pub LetAs : Types → Option ℕ → Shape → Option Value → Type 0
LetAs types register s None = register ≡ None
LetAs types register s (Some v) = (c : Choice) → Fits types c s v

-- a name of a value, where no local hides it: a top-level let has the same value on both sides, or none on either, where openings don't come to it
abbrev pub ValueAs : Setting → List Shape → Core.World Value → Source.World → List ℕ → Option Meant → Type 0
ValueAs setting registers wc ws name (Some (M.Register r s)) =
    (constant_named ws name ≡ None) × (register_named ws name ≡ Some r) × (slice_get registers r ≡ Some s)
ValueAs setting registers wc ws name (Some (M.Let i s)) =
    (member_named setting.types name ≡ None)
    × (o : Option Value) × (slice_get wc.lets i ≡ o) × (constant_named ws name ≡ o) × LetAs setting.types (register_named ws name) s o
ValueAs setting registers wc ws name (Some (M.Member i k)) =
    (member_named setting.types name ≡ Some (Val.Member i k)) × (fits setting.types (Val.Member i k) (V.Named i []) ≡ true)
ValueAs setting registers wc ws name meant = member_named setting.types name ≡ None

-- a mapping: its two directions have the numbers 2 n and 2 n + 1
pub record IsMapping (setting : Setting) (registers : List Shape) (wc : Core.World Value) (ws : Source.World) (apply : Apply) (name : List ℕ) (m : Mapping)
    : Type 0 where
  pub forwards : Direction
  pub backwards : Direction
  pub called : ws.text.called name ≡ Some (mapping forwards backwards)
  pub left : (forwards.takes ≡ m.left) × (backwards.gives ≡ m.left)
  pub right : (forwards.gives ≡ m.right) × (backwards.takes ≡ m.right)
  pub ahead : IsDirection setting (2 * m.number) forwards
  pub back : IsDirection setting (suc (2 * m.number)) backwards
  -- where a value tells the side, calls and patterns go its way
  pub calls_ahead : shares (shape m.left) (shape m.right) ≡ false
      → KeepsCall setting.types registers (thrown_shape setting) wc apply (direction_candidate name (2 * m.number) m.left m.right) (direction forwards)
  pub calls_back : shares (shape m.left) (shape m.right) ≡ false
      → KeepsCall setting.types registers (thrown_shape setting) wc apply (direction_candidate name (suc (2 * m.number)) m.right m.left) (direction backwards)
  pub ways_ahead : shares (shape m.left) (shape m.right) ≡ false
      → KeepsWay setting.types registers (thrown_shape setting) wc ws name (2 * m.number) m.left m.right
  pub ways_back : shares (shape m.left) (shape m.right) ≡ false
      → KeepsWay setting.types registers (thrown_shape setting) wc ws name (suc (2 * m.number)) m.right m.left
  pub no_constructor : constructor_named setting.types name ≡ None

-- a name in calls and at the heads of patterns
abbrev pub NameCalled : Setting → List Shape → Core.World Value → Source.World → Apply → List ℕ → Option Meant → Type 0
NameCalled setting registers wc ws apply name (Some (M.Callee f)) =
    (callee : Callee) × (ws.text.called name ≡ Some (alone callee))
    × StandsFor setting.types registers (thrown_shape setting) wc apply f callee × HeadAs setting registers wc ws name f callee f.doing
NameCalled setting registers wc ws apply name (Some (M.Row row)) =
    (ws.text.called name ≡ Some (called_builtin setting.types row))
    × StandForEach setting.types registers (thrown_shape setting) wc apply (map member_candidate (row_members setting.types row))
    (builtins (row_members setting.types row))
    × Distinct (map member_candidate (row_members setting.types row))
NameCalled setting registers wc ws apply name (Some (M.Mapping m)) = IsMapping setting registers wc ws apply name m
NameCalled setting registers wc ws apply name (Some (M.Overload fs)) =
    (callees : List Callee) × (ws.text.called name ≡ Some (overload callees))
    × StandForEach setting.types registers (thrown_shape setting) wc apply fs callees × Distinct fs
NameCalled setting registers wc ws apply name meant = Unit {0}

-- ---- the worlds

-- what a name or an operator does in a call, once it is known what it means there
abbrev pub call_by : Types → Apply → Place → Option Called → List Value → Piece Value
call_by types apply place None vs = stuck
call_by types apply place (Some c) vs = needs (choice types c (arguments c vs)) then λ callee. apply place callee (arguments c vs)

abbrev pub is_builtin : Callee → Bool
is_builtin (builtin row ss) = true
is_builtin cons = true
is_builtin callee = false

-- a struct's name is that of no other definition
abbrev pub IsStruct : Types → List ℕ → Option ℕ → Type 0
IsStruct types name None = Unit {0}
IsStruct types name (Some i) = (j : ℕ) (d : Definition) → slice_get types.definitions j ≡ Some d → bytes_eq d.name name ≡ nat_eq j i

-- the fields of a struct leave nothing open, and their variables are its own
abbrev pub FieldsBelow : Setting → ℕ → Option (List Field) → Type 0
FieldsBelow setting i None = Unit {0}
FieldsBelow setting i (Some fs) = all_below (variables_of_type setting i) (map (λ f. shape f.typ) fs) ≡ true

-- what is returned leaves nothing open
abbrev pub AnswerBelow : Option Shape → Type 0
AnswerBelow None = Unit {0}
AnswerBelow (Some s) = (n : ℕ) × (below n s ≡ true)

-- in these worlds, of the core and of the source, names mean what they mean in this setting, over registers of these shapes; each callee does
-- the same in both and keeps shapes
pub record Describes (setting : Setting) (registers : List Shape) (wc : Core.World Value) (ws : Source.World) : Type 0 where
  pub types : ws.text.types ≡ setting.types
  pub within : ws.within ≡ setting.within
  pub numbers : wc.numbers ≡ ws.numbers
  pub hart : wc.hart ≡ ws.hart
  -- no bare identifier in a pattern has a width; the sides of a mapping's clause are matched in a world beside this one
  pub bare : ws.bare_width ≡ (λ name. None)
  pub closed_registers : all_below 0 registers ≡ true
  pub closed_thrown : (i : ℕ) → setting.exception ≡ Some i → variables_of_type setting i ≡ 0
  pub answer : AnswerBelow setting.answer
  pub fields_below : (i : ℕ) → FieldsBelow setting i (fields setting.types i)
  pub structs : (name : List ℕ) → IsStruct setting.types name (setting.struct_named name)
  pub values : (name : List ℕ) → ValueAs setting registers wc ws name (setting.value name)
  pub apply : Apply
  pub names : (name : List ℕ) → NameCalled setting registers wc ws apply name (setting.value name)
  pub calls : (place : Place) (name : List ℕ) (vs : List Value) → ws.call place name vs ≡ call_by setting.types apply place (ws.text.called name) vs
  pub members : Operator → List Callee
  pub operators : (place : Place) (operator : Operator) (v u : Value)
      → ws.operator place operator (v ∷ u ∷ []) ≡ call_by setting.types apply place (Some (overload (members operator))) (v ∷ u ∷ [])
  pub members_stand : (operator : Operator)
      → StandForEach setting.types registers (thrown_shape setting) wc apply (operator_members setting operator) (members operator)
      × Distinct (operator_members setting operator)
  -- the builtin members come first
  pub builtins_first : (operator : Operator) → (added : List Callee) × (members operator ≡ operator_builtins setting.types operator ++ added)
  pub prefixes_stand : (prefix : Prefix)
      → StandForEach setting.types registers (thrown_shape setting) wc apply (prefix_members setting prefix) (prefix_builtins setting.types prefix)
      × Distinct (prefix_members setting prefix)
  pub builtins_apply : (place : Place) (callee : Callee) (vs : List Value) → is_builtin callee ≡ true → apply place callee vs ≡ apply_builtin ws.hart callee vs
