-- Assignments end well beside their walks, where what they are made of does (Sail language manual, "Variables and assignment", "Registers").
use Rattle.std.specs.Prelude.{◌≡◌, ℕ, List}
use Rattle.sail_core.specs.Making.{World}
use Rattle.sail_core.specs.declared.targets.Target.{Target}
use Rattle.sail_core.specs.declared.tree.Kind.TheVariants as K
use Rattle.checked_meaning.specs.Items.{Item}
use Rattle.soundness_steps.specs.Works.{Scene}
use Rattle.soundness_forms.specs.Calls.{CalleeFits}
use Rattle.soundness_forms.specs.EachKind.{KindFine}
use Rattle.soundness_forms.specs.Mappings.{MappingsClosed}
use Rattle.soundness_forms.specs.Registers.{RegistersClosed}
use Rattle.soundness_values.specs.Named.{TypesNarrow}

-- to any targets, one or several in a row, where fields and payloads name no Type variables but those of their own type, the types of registers and
-- mappings name no variable, and calls fit
abbrev pub AssignmentsAreFine : Type 0
AssignmentsAreFine = (q : Scene) (w : World Item) → TypesNarrow q.set.around.types → RegistersClosed q.set → ((i : ℕ) → CalleeFits q.set i)
    → MappingsClosed q.set → (targets : List Target) → KindFine q w (K.Assign targets)
