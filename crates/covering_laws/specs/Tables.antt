-- The tables of an accepted list cover its model.
use Rattle.std.specs.Prelude.{◌≡◌, ℕ, Bool, true, Ok}
use Rattle.sail_types.specs.Numbers.{Positive}
use Rattle.sail_core.specs.declared.model.CoreModel.{CoreModel}
use Rattle.constraint_gen.specs.Models.{around_of}
use Rattle.size_notes.specs.Bodies.{bodies_of}
use Rattle.monomorph.specs.Instances.{model_of}
use Rattle.sized_nodes.specs.declared.trees.SizedCore.{SizedCore}
use Rattle.sized_trees.specs.Trees.{sized_core}
use Rattle.sized_meanings.specs.Sized.{checks_by}
use Rattle.soundness_steps.specs.Works.{Coverage, Setting}
use Rattle.met_notes.specs.Covers.{Covers, DirectionsPaired}
use Rattle.covering_laws.specs.Apart.{NumbersApart}
use Rattle.covering_laws.specs.Covered.{function_covered, is_found, ways_fall}
use Rattle.tabled_cores.specs.Cores.{all_found, core_tabled}

-- values carry their types, and values of a function's own Type variables have the sizes of its instance
abbrev pub covered_by_tables : CoreModel → SizedCore → Coverage
covered_by_tables core c = record {
  function = function_covered c;
  direction = is_found (all_found (model_of core (bodies_of core)));
  exact = true;
  fitted = true;
}

abbrev pub tabled_setting : CoreModel → Positive → ℕ → SizedCore → Setting
tabled_setting m past hart c = record { around = around_of m; past = past; hart = hart; covered = covered_by_tables m c }

-- an accepted list whose tables are whole, for the reading in which cases may go by numbers that their values give, or may not
abbrev pub TablesCover : Type 0
TablesCover = (given : Bool) (m : CoreModel) (past : Positive) (hart : ℕ) (rank : ℕ → ℕ) (c : SizedCore) → NumbersApart m → DirectionsPaired m
    → sized_core m ≡ Ok c → core_tabled given m ≡ true → ways_fall m rank ≡ true → Covers (tabled_setting m past hart c) m (checks_by given m c) rank
