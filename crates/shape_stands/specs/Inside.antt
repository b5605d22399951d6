-- The worlds around a core that is found of a text: what can be named there has a value or can be called, and what is called keeps shapes (Sail
-- language manual, "Functions", "Mappings", "Overloading", "Let bindings", "Registers").
use Rattle.std.specs.Prelude.{◌≡◌, ℕ, suc, ◌*◌, Bool, true, List, [], ◌∷◌, map, slice_get, Option, Some, None, Contains}
use Rattle.std.specs.List.{list_all}
use Rattle.sail_base.specs.declared.kind.Kind.TheVariants as Sort
use Rattle.sail_base.specs.declared.operators.Operator.{Operator}
use Rattle.sail_base.specs.declared.operators.Prefix.{Prefix}
use Rattle.sail_base.specs.declared.place.Place.{Place}
use Rattle.sail_syntax.specs.declared.types.TyExp.{TyExp}
use Rattle.sail_types.specs.Named.{fields}
use Rattle.sail_types.specs.Rows.{row_members}
use Rattle.sail_types.specs.Shapes.{shape}
use Rattle.sail_types.specs.declared.members.Member.{Member}
use Rattle.sail_types.specs.declared.numbers.Con.{Con}
use Rattle.sail_types.specs.declared.numbers.Num.{Num}
use Rattle.sail_types.specs.declared.shapes.Shape.{Shape}
use Rattle.sail_types.specs.declared.shapes.Shape.TheVariants as V
use Rattle.sail_types.specs.declared.types.Typ.{Typ}
use Rattle.sail_types.specs.declared.values.Value.{Value}
use Rattle.sail_types.specs.declared.values.Value.TheVariants as Val
use Rattle.sail_core.specs.declared.tree.Callee.TheVariants as C
use Rattle.sail_core.specs.Making.{World}
use Rattle.sail_core.specs.Run.{Run}
use Rattle.sail_core.specs.Values.{payload_of}
use Rattle.sail_cycles.specs.Callees.{mappings_of_global}
use Rattle.sail_names.specs.Known as Tables
use Rattle.sail_names.specs.Known.{in_measure, is_callee, is_construction, is_global_value}
use Rattle.sail_names.specs.Patterns.{type_failures}
use Rattle.shape_rules.specs.declared.callees.Candidate.{Candidate}
use Rattle.shape_rules.specs.declared.callees.Doing.{Doing}
use Rattle.shape_rules.specs.declared.callees.Doing.TheVariants as D
use Rattle.shape_rules.specs.declared.callees.Mapping.{Mapping}
use Rattle.shape_rules.specs.declared.callees.Meant.{Meant}
use Rattle.shape_rules.specs.declared.callees.Meant.TheVariants as M
use Rattle.shape_rules.specs.declared.locals.Local.{Local}
use Rattle.shape_rules.specs.Calls.{cons_candidate, member_candidate, operator_members, prefix_members}
use Rattle.shape_rules.specs.Patterns.{construct_width, width_of}
use Rattle.shape_rules.specs.Scopes.{Setting, plainly}
use Rattle.shape_rules.specs.Written.{constraint_in, number_in, typ_in}
use Rattle.shape_meanings.specs.Keeping.{Fits, FitAll, reach_of}
use Rattle.shape_meanings.specs.Whole.{Choice, all_below, below, closed}
use Rattle.shape_meanings.specs.Worlds.{FieldsBelow, IsConstructor}
use Rattle.shape_progress.specs.Conditions.{given_in, truth_given}
use Rattle.shape_progress.specs.Going.{GoesOn}
use Rattle.shape_progress.specs.PatternRules.{IsEnum, IsUnion}

-- where an expression stands: what names mean to shapes and to the tables, and by the directions of which mappings a pattern there can convert
pub record Position : Type 0 where
  pub setting : Setting
  pub names : Tables.Setting
  pub converts : ℕ → Bool

-- that of a loop's measure, which is a plain expression
abbrev pub measuring : Position → Position
measuring here = record { setting = plainly here.setting; names = in_measure here.names; converts = here.converts }

-- ---- what is called goes on, whatever names are in scope, and gives a value of this shape under this choice

abbrev pub GoesTo : Position → List Shape → Choice → World Value → Choice → Shape → Run Value Value → Type 0
GoesTo here registers c w d s run = (slots : List Local) → GoesOn (reach_of here.setting registers c slots) w (Fits here.setting.types d s) run

-- a candidate is a member of the table of builtins, or a constructor, a function or a direction that takes values of its parameters' shapes
abbrev pub Does : Position → List Shape → Choice → World Value → Candidate → Doing → Type 0
Does here registers c w f (D.Calls (C.Row row)) =
    (m : Member) × Contains (row_members here.setting.types row) m × (m.row ≡ row) × (f.params ≡ m.params) × (f.answer ≡ m.answer)
Does here registers c w f (D.Calls (C.Constructor u k)) =
    (d : Choice) (vs : List Value) → FitAll here.setting.types d f.params vs → Fits here.setting.types d f.answer (Val.Union u k (payload_of vs))
Does here registers c w f (D.Calls (C.Function i)) =
    (d : Choice) (place : Place) (vs : List Value) → FitAll here.setting.types d f.params vs → GoesTo here registers c w d f.answer (w.call place i None vs)
Does here registers c w f (D.Calls (C.Converts n)) =
    (t : Shape) × (f.params ≡ t ∷ [])
    × ((d : Choice) (v : Value) → Fits here.setting.types d t v → GoesTo here registers c w d f.answer (w.enter n v))
Does here registers c w f (D.Calls callee) = ⊥
Does here registers c w f D.Conses = (f.params ≡ cons_candidate.params) × (f.answer ≡ cons_candidate.answer)

-- its parameters and its result leave nothing open, and have its own variables alone
pub record CanBeCalled (here : Position) (registers : List Shape) (c : Choice) (w : World Value) (f : Candidate) : Type 0 where
  pub whole : all_below f.variables f.params ≡ true
  pub answer : below f.variables f.answer ≡ true
  pub does : Does here registers c w f f.doing

abbrev pub EachCalled : Position → List Shape → Choice → World Value → List Candidate → Type 0
EachCalled here registers c w [] = Unit {0}
EachCalled here registers c w (f ∷ fs) = CanBeCalled here registers c w f × EachCalled here registers c w fs

-- a mapping of two directions, called with a value of one of its sides, which leave nothing open and have no variable
pub record MappingCalled (here : Position) (registers : List Shape) (c : Choice) (w : World Value) (m : Mapping) : Type 0 where
  pub left : closed (shape m.left) ≡ true
  pub right : closed (shape m.right) ≡ true
  pub ahead : (v : Value) → Fits here.setting.types c (shape m.left) v → GoesTo here registers c w c (shape m.right) (w.enter (2 * m.number) v)
  pub back : (v : Value) → Fits here.setting.types c (shape m.right) v → GoesTo here registers c w c (shape m.left) (w.enter (suc (2 * m.number)) v)

abbrev pub MeantCalled : Position → List Shape → Choice → World Value → Option Meant → Type 0
MeantCalled here registers c w (Some (M.Callee f)) = CanBeCalled here registers c w f
MeantCalled here registers c w (Some (M.Row row)) = EachCalled here registers c w (map member_candidate (row_members here.setting.types row))
MeantCalled here registers c w (Some (M.Overload fs)) = EachCalled here registers c w fs
MeantCalled here registers c w (Some (M.Mapping m)) = MappingCalled here registers c w m
MeantCalled here registers c w meant = Unit {0}

-- ---- heads of patterns: a constructor, a direction, or a mapping whose sides leave nothing open and have no variable

abbrev pub HeadDoes : Position → List Shape → Choice → World Value → Candidate → Doing → Type 0
HeadDoes here registers c w f (D.Calls (C.Constructor u k)) = IsConstructor here.setting.types f u k × IsUnion here.setting.types u
HeadDoes here registers c w f (D.Calls (C.Converts n)) =
    (t : Shape) × (f.params ≡ t ∷ []) × (closed t ≡ true) × (closed f.answer ≡ true)
    × ((v : Value) → Fits here.setting.types c t v → GoesTo here registers c w c f.answer (w.way n v))
HeadDoes here registers c w f doing = ⊥

pub record MappingHead (here : Position) (registers : List Shape) (c : Choice) (w : World Value) (m : Mapping) : Type 0 where
  pub left : closed (shape m.left) ≡ true
  pub right : closed (shape m.right) ≡ true
  pub ahead : (v : Value) → Fits here.setting.types c (shape m.left) v → GoesTo here registers c w c (shape m.right) (w.way (2 * m.number) v)
  pub back : (v : Value) → Fits here.setting.types c (shape m.right) v → GoesTo here registers c w c (shape m.left) (w.way (suc (2 * m.number)) v)

abbrev pub MeantHead : Position → List Shape → Choice → World Value → Option Meant → Type 0
MeantHead here registers c w (Some (M.Callee f)) = HeadDoes here registers c w f f.doing
MeantHead here registers c w (Some (M.Mapping m)) = MappingHead here registers c w m
MeantHead here registers c w meant = Unit {0}

-- ---- the worlds

-- what the tables let an expression name there is there, in a world over registers of these shapes, where variables stand for these shapes
pub record Inside (here : Position) (registers : List Shape) (c : Choice) (w : World Value) : Type 0 where
  pub lets : (name : List ℕ) (i : ℕ) (s : Shape) → here.setting.value name ≡ Some (M.Let i s)
      → is_global_value here.names.allowed here.names.number (here.names.known.value name) ≡ true
      → (v : Value) × (slice_get w.lets i ≡ Some v) × Fits here.setting.types c s v
  pub registers_there : (name : List ℕ) (r : ℕ) (s : Shape) → here.setting.value name ≡ Some (M.Register r s)
      → is_global_value here.names.allowed here.names.number (here.names.known.value name) ≡ true → slice_get registers r ≡ Some s
  pub registers_closed : all_below 0 registers ≡ true
  pub members : (name : List ℕ) (i k : ℕ) → here.setting.value name ≡ Some (M.Member i k)
      → IsEnum here.setting.types i × Fits here.setting.types c (V.Named i []) (Val.Member i k)
  pub callees : (name : List ℕ) → is_callee here.names name ≡ true → MeantCalled here registers c w (here.setting.value name)
  pub operators : (operator : Operator) → EachCalled here registers c w (operator_members here.setting operator)
  pub prefixes : (prefix : Prefix) → EachCalled here registers c w (prefix_members here.setting prefix)
  -- a pattern converts by these mappings alone
  pub heads : (name : List ℕ) → is_construction here.names name ≡ true
      → list_all here.converts (mappings_of_global (here.names.known.value name)) ≡ true → MeantHead here registers c w (here.setting.value name)
  -- type variables that a text can name stand for a number
  pub numbers : (typ : TyExp) (n : Num) → type_failures Sort.Int typ here.names ≡ [] → number_in here.setting.within typ ≡ Some n
      → given_in w.numbers n ≡ true
  pub constraints : (typ : TyExp) (x : Con) → type_failures Sort.Bool typ here.names ≡ [] → constraint_in here.setting.within typ ≡ Some x
      → truth_given w.numbers x ≡ true
  pub widths : (typ : TyExp) (t : Typ) (n : Num) → type_failures Sort.Type typ here.names ≡ [] → typ_in here.setting.within typ ≡ Some t
      → width_of t ≡ Some n → given_in w.numbers n ≡ true
  pub head_widths : (name : List ℕ) (n : Num) → is_construction here.names name ≡ true
      → construct_width here.setting (here.setting.value name) ≡ Some n → given_in w.numbers n ≡ true
  pub fields_below : (i : ℕ) → FieldsBelow here.setting i (fields here.setting.types i)
