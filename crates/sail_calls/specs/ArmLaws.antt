-- An arm with its body, as a clause of a function or a mapping has it.
use Rattle.std.specs.Prelude.{Bool, true, List, [], ◌∷◌}
use Rattle.sail_base.specs.declared.place.Place.{Place}
use Rattle.sail_types.specs.declared.types.Typ.{Typ}
use Rattle.sail_core.specs.declared.model.Direction.{Direction}
use Rattle.sail_core.specs.declared.patterns.Arm.{Arm}
use Rattle.sail_core.specs.declared.tree.Core.{Core}
use Rattle.sail_core.specs.Making.{World}
use Rattle.sail_core.specs.Run.{Run}
use Rattle.value_indices.specs.declared.indices.Reading.{Reading}
use Rattle.pattern_leaves.specs.Settings.{Around, Scope}
use Rattle.call_arguments.specs.declared.aims.Aim.{Aim}
use Rattle.expression_steps.specs.Expressions.{part}
use Rattle.expression_steps.specs.Parts.{Part}
use Rattle.function_notes.specs.Functions.{body_part}
use Rattle.checked_meaning.specs.Items.{Item}
use Rattle.soundness_steps.specs.Works.{Scene}
use Rattle.soundness_steps.specs.Steps.{Grows}
use Rattle.soundness_forms.specs.Forms.{Fine, at}
use Rattle.soundness_forms.specs.Patterns.{ArmMatches}
use Rattle.soundness_calls.specs.Premises.{ArmIsSound, ClausesGrow}
use Rattle.soundness_calls.specs.Directions.{WaysGrow}

-- the scene in which a clause may say No
abbrev pub clause_scene : Scene → World Item → Scene
clause_scene q w = at q w q.names true

-- where its patterns match beside their walk, and its body, which comes to what is due, is fine
abbrev pub ArmsAreSound : Type 0
ArmsAreSound = (q : Scene) (w : World Item) (place : Place) (arm : Arm) (body : Part) (run : Run Item Item) (guard : Bool)
    → ArmMatches (clause_scene q w) w arm → Fine q w true guard body run → ArmIsSound (clause_scene q w) w place arm body run

-- ---- clauses count variables on where their bodies do

abbrev pub PartGrows : Part → Type 0
PartGrows p = (around : Around) (scope : Scope) (aim : Aim) → Grows (p.walk around scope aim)

abbrev pub EachGrows : (Core → Part) → List Core → Type 0
EachGrows read [] = Unit {0}
EachGrows read (c ∷ cs) = PartGrows (read c) × EachGrows read cs

pub record AllCount : Type 0 where
  pub clauses : (q : Scene) (place : Place) (ts : List Typ) (r : Reading) (declared : Bool) (arms : List Arm) (bodies : List Core)
      → EachGrows (body_part declared) bodies → ClausesGrow q place ts r declared arms bodies
  pub ways : (q : Scene) (place : Place) (m : Direction) (arms : List Arm) (bodies : List Core) → EachGrows part bodies → WaysGrow q place m arms bodies
