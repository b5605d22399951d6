-- The worlds in which top-level lets and initial values of registers are worked out: in them names mean the same in the core and in the text, but for
-- functions, mappings and overloads, of which neither world calls any.
use Rattle.std.specs.Prelude.{◌≡◌, ℕ, true, List, Option, Some, None}
use Rattle.sail_types.specs.Named.{fields}
use Rattle.sail_types.specs.declared.shapes.Shape.{Shape}
use Rattle.sail_types.specs.declared.table.Types.{Types}
use Rattle.sail_types.specs.declared.values.Value.{Value}
use Rattle.sail_core.specs.declared.tree.Callee.TheVariants as C
use Rattle.sail_core.specs.Start as CoreStart
use Rattle.sail_meaning.specs.Choice.{called_builtin}
use Rattle.sail_meaning.specs.Named.{constructor_named}
use Rattle.sail_meaning.specs.Start as SourceStart
use Rattle.sail_meaning.specs.Text.{Text, alone, constructor}
use Rattle.sail_meaning.specs.World.{Bindings}
use Rattle.shape_rules.specs.declared.callees.Candidate.{Candidate}
use Rattle.shape_rules.specs.declared.callees.Doing.TheVariants as D
use Rattle.shape_rules.specs.declared.callees.Meant.{Meant}
use Rattle.shape_rules.specs.declared.callees.Meant.TheVariants as M
use Rattle.shape_rules.specs.Scopes.{Setting, plainly}
use Rattle.shape_rules.specs.Values.{variables_of_type}
use Rattle.shape_meanings.specs.Whole.{all_below, below}
use Rattle.shape_meanings.specs.Worlds.{Describes, FieldsBelow, IsConstructor, IsStruct, ValueAs}
use Rattle.opening_meanings.specs.Plain.{uncalled, uncalled_meant}

-- a constructor is called by its name
pub record ConstructorStands (types : Types) (text : Text) (name : List ℕ) (f : Candidate) : Type 0 where
  pub union : ℕ
  pub place : ℕ
  pub does : f.doing ≡ D.Calls (C.Constructor union place)
  pub called : text.called name ≡ Some (alone (constructor union place f.params))
  pub named : constructor_named types name ≡ Some (union, place)
  pub whole : all_below f.variables f.params ≡ true
  pub answer : below f.variables f.answer ≡ true
  pub is : IsConstructor types f union place

-- what a name means to shapes is what the text calls by it
abbrev pub NameOpens : Types → Text → List ℕ → Option Meant → Type 0
NameOpens types text name (Some (M.Callee f)) = ConstructorStands types text name f
NameOpens types text name (Some (M.Row row)) = text.called name ≡ Some (called_builtin types row)
NameOpens types text name meant = Unit {0}

-- what has to be known of a text, and of lets that have these values on both sides
pub record Opens (setting : Setting) (registers : List Shape) (text : Text) (held : List Value) (bindings : Bindings) : Type 0 where
  pub types : text.types ≡ setting.types
  pub within : text.within ≡ setting.within
  pub no_answer : setting.answer ≡ None
  pub closed_registers : all_below 0 registers ≡ true
  pub closed_thrown : (i : ℕ) → setting.exception ≡ Some i → variables_of_type setting i ≡ 0
  pub fields_below : (i : ℕ) → FieldsBelow setting i (fields setting.types i)
  pub structs : (name : List ℕ) → IsStruct setting.types name (setting.struct_named name)
  -- a let that isn't worked out yet has a value on neither side
  pub values : (name : List ℕ)
      → ValueAs setting registers (CoreStart.opening_world held) (SourceStart.opening_world text bindings) name (setting.value name)
  pub names : (name : List ℕ) → NameOpens setting.types text name (uncalled_meant (setting.value name))

abbrev pub OpeningWorldsAreDescribed : Type 0
OpeningWorldsAreDescribed =
    (setting : Setting) (registers : List Shape) (text : Text) (values : List Value) (bindings : Bindings) → Opens setting registers text values bindings
    → Describes (plainly (uncalled setting)) registers (CoreStart.opening_world values) (SourceStart.opening_world text bindings)
