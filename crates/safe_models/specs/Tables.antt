-- Runs of an accepted text in which values carry the types that its tables tell are never stuck, where its tables are whole (Sail language manual, "Type
-- variables").
use Rattle.std.specs.Prelude.{◌≡◌, ◌<◌, ◌≤◌, ℕ, Bool, true, List, Ok}
use Rattle.sail_types.specs.Numbers.{Positive}
use Rattle.scattered.specs.Gathered.{gathered}
use Rattle.model_state.specs.RunState.{RunState}
use Rattle.sail_core.specs.Start.{init_ran}
use Rattle.sail_core.specs.declared.model.CoreModel.{CoreModel}
use Rattle.constraint_gen.specs.Obligations.{obligations}
use Rattle.goal_laws.specs.Goals.{AllHold}
use Rattle.checked_meaning.specs.Checked.{checking}
use Rattle.sized_nodes.specs.declared.trees.SizedCore.{SizedCore}
use Rattle.sized_trees.specs.Trees.{sized_core}
use Rattle.sized_meanings.specs.Sized.{checks_by}
use Rattle.tabled_cores.specs.Cores.{core_tabled}
use Rattle.met_notes.specs.Covers.{DirectionsPaired}
use Rattle.covering_laws.specs.Apart.{NumbersApart}
use Rattle.covering_laws.specs.Covered.{ways_fall}
use Rattle.covering_laws.specs.Tables.{covered_by_tables}
use Rattle.text_progress.specs.Laws.{core_of}
use Rattle.sail_compile.specs.Checked.{no_cycle}
use Rattle.sail_compile.specs.Models.{AreAccepted}
use Rattle.sail_compile.specs.declared.models.Accepted.{Accepted}
use Rattle.whole_runs.specs.Never.{AllEnd}
use Rattle.whole_runs.specs.Runs.{Goes, PartsGo}
use Rattle.whole_runs.specs.Safe.{CoversThroughout, IsFit, core_parts}
use Rattle.safe_models.specs.Safe.{Cycles}

-- the list of instances of a core is found, and its tables are whole, where cases may go by numbers that their values give, or may not
pub record IsWhole (given : Bool) (m : CoreModel) (c : SizedCore) : Type 0 where
  pub found : sized_core m ≡ Ok c
  pub whole : core_tabled given m ≡ true

-- such tables cover the core, where the numbers of its nodes differ, its directions stand in pairs, and ranks of its mappings fall
abbrev pub WholeTablesCover : Type 0
WholeTablesCover = (given : Bool) (m : CoreModel) (rank : ℕ → ℕ) (c : SizedCore) → NumbersApart m → DirectionsPaired m → IsWhole given m c
    → ways_fall m rank ≡ true → (past : Positive) (count : ℕ) → CoversThroughout m past (covered_by_tables m c) (checks_by given m c) rank count

-- the core of an accepted text, with these numbers of its cycles of calls
abbrev pub core_in : {texts : List (List ℕ)} {made : Accepted} → AreAccepted texts made → Cycles → CoreModel
core_in accepted cycle = core_of (gathered accepted.definitions) cycle

-- so no part of a run is stuck, where openings end; the start isn't, however they end
abbrev pub PartsGoBy : Bool → CoreModel → SizedCore → Positive → ℕ → Type 0
PartsGoBy given m c past count =
    (AllEnd m (checks_by given m c) → PartsGo (core_parts (checking (checks_by given m c)) m) count (IsFit m past count))
    × ((state : RunState) → IsFit m past count state → Goes (init_ran (checking (checks_by given m c)) m state) (λ ran. IsFit m past count ran.state))

-- whatever the numbers of its cycles of calls, where the obligations of the core hold
abbrev pub TabledCoresGo : Type 0
TabledCoresGo = (given : Bool) (texts : List (List ℕ)) (made : Accepted) (accepted : AreAccepted texts made) (cycle : Cycles) (c : SizedCore)
    → AllHold (obligations (core_in accepted cycle)) → IsWhole given (core_in accepted cycle) c
    → (past : Positive) (count : ℕ) → 0 < count → count ≤ 8 → PartsGoBy given (core_in accepted cycle) c past count

-- those of the core without such numbers do
abbrev pub TabledTextsGo : Type 0
TabledTextsGo = (given : Bool) (texts : List (List ℕ)) (made : Accepted) (accepted : AreAccepted texts made) (c : SizedCore)
    → IsWhole given (core_in accepted no_cycle) c → (past : Positive) (count : ℕ) → 0 < count → count ≤ 8
    → PartsGoBy given (core_in accepted no_cycle) c past count
