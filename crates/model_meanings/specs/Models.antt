-- What has to be known of a whole model so that its core means what its text means: of what its definitions are, each once, and of nothing that
-- runs. Beside each clause stands why it holds of a text in which the tables have found no failure, and shapes none.
use Rattle.std.specs.Prelude.{◌≡◌, ℕ, suc, ◌*◌, true, List, [], length, Option, Some, None}
use Rattle.sail_base.specs.declared.operators.Operator.{Operator}
use Rattle.sail_types.specs.Named.{fields}
use Rattle.sail_types.specs.declared.shapes.Shape.{Shape}
use Rattle.sail_core.specs.declared.tree.Callee.TheVariants as C
use Rattle.sail_meaning.specs.Choice.{called_builtin}
use Rattle.sail_meaning.specs.Named.{constructor_named}
use Rattle.sail_meaning.specs.Text.{Callee, Direction, alone, mapping, overload}
use Rattle.shape_rules.specs.declared.callees.Doing.{Doing}
use Rattle.shape_rules.specs.declared.callees.Doing.TheVariants as D
use Rattle.shape_rules.specs.declared.callees.Mapping.{Mapping}
use Rattle.shape_rules.specs.declared.callees.Meant.{Meant}
use Rattle.shape_rules.specs.declared.callees.Meant.TheVariants as M
use Rattle.shape_rules.specs.Calls.{operator_members}
use Rattle.shape_rules.specs.Scopes.{Setting}
use Rattle.shape_rules.specs.Values.{variables_of_type}
use Rattle.shape_meanings.specs.Whole.{all_below}
use Rattle.shape_meanings.specs.Worlds.{Distinct, FieldsBelow, IsStruct, ValueAs}
use Rattle.model_meanings.specs.Callees.{CandidateStands, CandidatesStand, DirectionStands, Model, core_world, source_world}

-- ---- names in calls and at the heads of patterns

-- a mapping: its two directions have the numbers 2 n and 2 n + 1
pub record MappingStands (setting : Setting) (m : Model) (name : List ℕ) (it : Mapping) : Type 0 where
  pub forwards : Direction
  pub backwards : Direction
  pub called : m.source.text.called name ≡ Some (mapping forwards backwards)
  pub left : (forwards.takes ≡ it.left) × (backwards.gives ≡ it.left)
  pub right : (forwards.gives ≡ it.right) × (backwards.takes ≡ it.right)
  pub ahead : DirectionStands setting m forwards (2 * it.number)
  pub back : DirectionStands setting m backwards (suc (2 * it.number))
  pub no_constructor : constructor_named setting.types name ≡ None

-- the constructor that a candidate calls: its union, and which one of it
abbrev pub constructor_of : Doing → Option (ℕ × ℕ)
constructor_of (D.Calls (C.Constructor u k)) = Some (u, k)
constructor_of doing = None

-- what a name means to shapes is what the text calls by it
abbrev pub NameStands : Setting → Model → List ℕ → Option Meant → Type 0
NameStands setting m name (Some (M.Callee f)) =
    (callee : Callee) × (m.source.text.called name ≡ Some (alone callee)) × CandidateStands setting m f callee
    × (constructor_named setting.types name ≡ constructor_of f.doing)
NameStands setting m name (Some (M.Row row)) = m.source.text.called name ≡ Some (called_builtin setting.types row)
NameStands setting m name (Some (M.Mapping it)) = MappingStands setting m name it
NameStands setting m name (Some (M.Overload fs)) =
    (callees : List Callee) × (m.source.text.called name ≡ Some (overload callees)) × CandidatesStand setting m fs callees × Distinct fs
NameStands setting m name meant = Unit {0}

-- ---- a whole model

pub record ModelIs (setting : Setting) (registers : List Shape) (m : Model) : Type 0 where
  -- the table of named types, and how many directions there are: the core has them of the same definitions
  pub types : m.source.text.types ≡ setting.types
  pub directions : m.source.text.directions ≡ length m.directions
  -- no function is around a definition
  pub no_answer : setting.answer ≡ None
  -- types of registers, `exception` and fields: the tables refuse a variable that isn't bound, and arguments of a union `exception`
  pub closed_registers : all_below 0 registers ≡ true
  pub closed_thrown : (i : ℕ) → setting.exception ≡ Some i → variables_of_type setting i ≡ 0
  pub fields_below : (i : ℕ) → FieldsBelow setting i (fields setting.types i)
  -- the tables refuse two definitions of one name
  pub structs : (name : List ℕ) → IsStruct setting.types name (setting.struct_named name)
  -- registers, lets and members of enums by their names, which hang on no call; behind the openings a let has a value of its shape, the same on
  -- both sides, or on neither side one
  pub values : (name : List ℕ) → ValueAs setting registers (core_world m 0 [] [] []) (source_world m 0 [] setting.within []) name (setting.value name)
  -- each name in calls: functions stand where shapes find no failure in their clauses (`functions_stand`), directions of mappings where bare
  -- names have the same widths on both sides too (`directions_are_right`)
  pub names : (name : List ℕ) → NameStands setting m name (setting.value name)
  pub added : (operator : Operator) → CandidatesStand setting m (setting.added operator) (m.source.text.added operator)
  -- shapes refuse members of an overload that clash, and the table of builtins has none
  pub operators : (operator : Operator) → Distinct (operator_members setting operator)
