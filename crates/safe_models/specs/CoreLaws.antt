-- What passes the tests stands.
use Rattle.std.specs.Prelude.{◌≡◌, Bool, true}
use Rattle.sail_core.specs.Making.{World}
use Rattle.sail_core.specs.declared.model.Direction.{Direction}
use Rattle.sail_core.specs.declared.tree.Core.{Core}
use Rattle.checked_meaning.specs.Items.{Item}
use Rattle.soundness_steps.specs.Works.{Scene}
use Rattle.soundness_binding.specs.Patterned.{arms_stand}
use Rattle.sail_soundness.specs.Whole.{ModelStands}
use Rattle.whole_runs.specs.Initials.{ValueStands}
use Rattle.sail_calls.specs.Bodies.{Clauses}
use Rattle.sail_calls.specs.Models.{Ways}
use Rattle.safe_models.specs.CoreTests.{clauses_fit, direction_fits, value_fits}

-- clauses of a function
abbrev pub ClausesStand : Type 0
ClausesStand = (q : Scene) (w : World Item) (declared : Bool) (core : Core) → clauses_fit q.set.around q.numbers declared core ≡ true
    → Clauses q w declared core

-- both directions of a mapping, and the patterns of each
abbrev pub WaysStandBoth : Type 0
WaysStandBoth = (q : Scene) (m n : Direction) → direction_fits q.set.around q.numbers m ≡ true → direction_fits q.set.around q.numbers n ≡ true
    → (ways : Ways q m n) × (arms_stand q.set.around.types q.numbers ways.arms ≡ true) × (arms_stand q.set.around.types q.numbers ways.backs ≡ true)

-- a value of an opening
abbrev pub ValuesStand : Type 0
ValuesStand = (q : Scene) (w : World Item) (c : Core) → value_fits q.set.around q.numbers c ≡ true → ModelStands q.set q.work
    → ValueStands q w c
