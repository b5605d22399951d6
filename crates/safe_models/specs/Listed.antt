-- Texts that the program accepts, and whose instances are found without refusal, are never stuck.
use Rattle.std.specs.Prelude.{◌≡◌, ◌<◌, ◌≤◌, ℕ, true, List, [], ◌∷◌, Ok}
use Rattle.sail_types.specs.Numbers.{Positive}
use Rattle.scattered.specs.Gathered.{gathered}
use Rattle.sail_core.specs.declared.model.CoreModel.{CoreModel}
use Rattle.size_notes.specs.Bodies.{bodies_of}
use Rattle.monomorph.specs.declared.found.Found.{Found}
use Rattle.sized_nodes.specs.declared.trees.Instance.{Instance}
use Rattle.monomorph.specs.Instances.{entry, found_from, instances_of, model_of}
use Rattle.met_notes.specs.Covers.{DirectionsPaired}
use Rattle.covering_laws.specs.Apart.{GivesKinds, NumbersApart}
use Rattle.covering_laws.specs.Covered.{ways_fall}
use Rattle.covering_laws.specs.Plain.{found_covered, plain_checks}
use Rattle.text_progress.specs.Laws.{core_of}
use Rattle.sail_compile.specs.Checked.{no_cycle}
use Rattle.sail_compile.specs.Models.{AreAccepted}
use Rattle.sail_compile.specs.declared.models.Accepted.{Accepted}
use Rattle.whole_runs.specs.Safe.{CoversThroughout}
use Rattle.safe_models.specs.Safe.{RunsSafely}

-- what is found without refusal covers the core, where the numbers of its nodes differ, arguments give variables of functions what is of their kinds, its
-- directions stand in pairs, and ranks of its mappings fall
abbrev pub FoundListsCover : Type 0
FoundListsCover = (m : CoreModel) (rank : ℕ → ℕ) (all : List Found) → NumbersApart m → GivesKinds m → DirectionsPaired m
    → found_from (model_of m (bodies_of m)) (entry m.reset ∷ entry m.step ∷ []) ≡ Ok all → ways_fall m rank ≡ true
    → (past : Positive) (count : ℕ)
    → CoversThroughout m past (found_covered all) (plain_checks (model_of m (bodies_of m))) rank count

-- so the text isn't stuck
abbrev pub ListedModelsRunSafely : Type 0
ListedModelsRunSafely = (texts : List (List ℕ)) (made : Accepted) (accepted : AreAccepted texts made) (list : List Instance)
    → instances_of (model_of (core_of (gathered accepted.definitions) no_cycle) (bodies_of (core_of (gathered accepted.definitions) no_cycle))) ≡ Ok list
    → (past : Positive) (count : ℕ) → 0 < count → count ≤ 8 → RunsSafely (gathered accepted.definitions) no_cycle past count

-- the list of an accepted text is found, so it isn't stuck
abbrev pub AcceptedTextsRunSafely : Type 0
AcceptedTextsRunSafely = (texts : List (List ℕ)) (made : Accepted) (accepted : AreAccepted texts made)
    → (past : Positive) (count : ℕ) → 0 < count → count ≤ 8 → RunsSafely (gathered accepted.definitions) no_cycle past count
