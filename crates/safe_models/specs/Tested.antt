-- Texts that the program accepts are never stuck where their lists of instances are tested.
use Rattle.std.specs.Prelude.{◌≡◌, ◌<◌, ◌≤◌, ℕ, true, List, Ok}
use Rattle.sail_types.specs.Numbers.{Positive}
use Rattle.scattered.specs.Gathered.{gathered}
use Rattle.sail_core.specs.declared.model.CoreModel.{CoreModel}
use Rattle.sized_nodes.specs.declared.trees.SizedCore.{SizedCore}
use Rattle.sized_trees.specs.Trees.{sized_core}
use Rattle.met_notes.specs.Covers.{DirectionsPaired}
use Rattle.covering_laws.specs.Apart.{GivesKinds, NumbersApart}
use Rattle.covering_laws.specs.Covered.{checks_given, core_tested, covered_by, ways_fall}
use Rattle.text_progress.specs.Laws.{core_of}
use Rattle.sail_compile.specs.Checked.{no_cycle}
use Rattle.sail_compile.specs.Models.{AreAccepted}
use Rattle.sail_compile.specs.declared.models.Accepted.{Accepted}
use Rattle.whole_runs.specs.Safe.{CoversThroughout}
use Rattle.safe_models.specs.Safe.{RunsSafely}

-- the list of instances of a core is found and tested
pub record IsTested (m : CoreModel) (c : SizedCore) : Type 0 where
  pub found : sized_core m ≡ Ok c
  pub tested : core_tested m ≡ true

-- such a list covers the core, where the numbers of its nodes differ, arguments give variables of functions what is of their kinds, its directions stand
-- in pairs, and ranks of its mappings fall
abbrev pub TestedListsCover : Type 0
TestedListsCover = (m : CoreModel) (rank : ℕ → ℕ) (c : SizedCore) → NumbersApart m → GivesKinds m → DirectionsPaired m → IsTested m c
    → ways_fall m rank ≡ true → (past : Positive) (count : ℕ) → CoversThroughout m past (covered_by m c) (checks_given m c) rank count

-- so the text isn't stuck
abbrev pub TestedModelsRunSafely : Type 0
TestedModelsRunSafely = (texts : List (List ℕ)) (made : Accepted) (accepted : AreAccepted texts made) (c : SizedCore)
    → IsTested (core_of (gathered accepted.definitions) no_cycle) c → (past : Positive) (count : ℕ) → 0 < count → count ≤ 8
    → RunsSafely (gathered accepted.definitions) no_cycle past count
