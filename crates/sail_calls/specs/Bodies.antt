-- Clauses whose bodies stand right, from nodes that are fine.
use Rattle.std.specs.Prelude.{◌≡◌, Bool, true, List, [], ◌∷◌, map}
use Rattle.sail_core.specs.Making.{World}
use Rattle.sail_core.specs.declared.model.Function.{Function}
use Rattle.sail_core.specs.declared.patterns.Arm.{Arm}
use Rattle.sail_core.specs.declared.tree.Core.{Core, out-Core}
use Rattle.sail_core.specs.declared.tree.Kind.TheVariants as K
use Rattle.value_indices.specs.declared.indices.Reading.{Reading}
use Rattle.function_notes.specs.Functions.{arm_of}
use Rattle.checked_meaning.specs.Items.{Item}
use Rattle.soundness_steps.specs.Works.{Scene}
use Rattle.soundness_forms.specs.Standing.{standing}
use Rattle.soundness_calls.specs.Premises.{CoreHolds}
use Rattle.soundness_binding.specs.Patterned.{arms_stand}
use Rattle.sail_soundness.specs.Whole.{EachFine, ModelStands, nodes}
use Rattle.sail_calls.specs.ArmLaws.{clause_scene}

-- each comes to the result and stands as the resolver puts it, and its patterns stand, and its nodes that aren't of a proved kind are fine
abbrev pub BodiesStand : Scene → World Item → List Core → Type 0
BodiesStand q w [] = Unit {0}
BodiesStand q w (c ∷ cs) =
    ((standing q.set.around c).cast ≡ true) × ((standing q.set.around c).right ≡ true) × EachFine q w (nodes c) × BodiesStand q w cs

pub record Clauses (q : Scene) (w : World Item) (declared : Bool) (core : Core) : Type 0 where
  pub arms : List Arm
  pub kind : (out-Core core).kind ≡ K.Clauses arms
  pub bodies : BodiesStand q w (out-Core core).parts
  pub patterns : arms_stand q.set.around.types q.numbers (map (arm_of declared) arms) ≡ true

-- so what calls take of a function's clauses holds, where the model stands
abbrev pub ClausesFollow : Type 0
ClausesFollow = (q : Scene) (w : World Item) (f : Function) (r : Reading) (declared : Bool) (core : Core)
    → ModelStands q.set q.work → Clauses q w declared core → CoreHolds (clause_scene q w) w f r declared core
