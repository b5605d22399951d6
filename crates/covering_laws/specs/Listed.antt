-- A list of instances that is found without refusal covers its model, where any type will do.
use Rattle.std.specs.Prelude.{◌≡◌, ℕ, true, List, [], ◌∷◌, Ok}
use Rattle.sail_types.specs.Numbers.{Positive}
use Rattle.sail_core.specs.declared.model.CoreModel.{CoreModel}
use Rattle.size_notes.specs.Bodies.{bodies_of}
use Rattle.monomorph.specs.declared.found.Found.{Found}
use Rattle.monomorph.specs.Instances.{entry, found_from, model_of}
use Rattle.met_notes.specs.Covers.{Covers, DirectionsPaired}
use Rattle.covering_laws.specs.Apart.{GivesKinds, NumbersApart}
use Rattle.covering_laws.specs.Covered.{ways_fall}
use Rattle.covering_laws.specs.Plain.{found_setting, plain_checks}

abbrev pub ListsCover : Type 0
ListsCover = (m : CoreModel) (past : Positive) (hart : ℕ) (rank : ℕ → ℕ) (all : List Found) → NumbersApart m → GivesKinds m → DirectionsPaired m
    → found_from (model_of m (bodies_of m)) (entry m.reset ∷ entry m.step ∷ []) ≡ Ok all → ways_fall m rank ≡ true
    → Covers (found_setting m past hart all) m (plain_checks (model_of m (bodies_of m))) rank
