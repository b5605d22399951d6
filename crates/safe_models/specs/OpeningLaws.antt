-- Openings that pass the tests stand.
use Rattle.std.specs.Prelude.{◌≡◌, true, List, []}
use Rattle.sail_types.specs.Numbers.{Positive}
use Rattle.sail_core.specs.declared.model.CoreModel.{CoreModel}
use Rattle.pattern_leaves.specs.declared.names.TopLevel.{TopLevel}
use Rattle.checked_meaning.specs.Checked.{Checks}
use Rattle.soundness_steps.specs.Works.{Coverage, nobody}
use Rattle.sail_soundness.specs.Whole.{ModelStands}
use Rattle.whole_runs.specs.Initials.{pure_setting}
use Rattle.whole_runs.specs.OpeningsStand.{OpeningsAreRight}
use Rattle.safe_models.specs.OpeningTests.{openings_fit, openings_once}

abbrev pub TestedOpeningsStand : Type 0
TestedOpeningsStand = (m : CoreModel) (past : Positive) (covered : Coverage) (k : Checks)
    → ((names : List TopLevel) → ModelStands (pure_setting m past covered [] names) nobody) → openings_fit m [] m.openings ≡ true
    → openings_once m.openings ≡ true → OpeningsAreRight m past covered k 0 [] m.openings
