-- Where every obligation of a model holds, each goal of the walks over its definitions is true, whatever integers their variables stand for
-- with which all is true that is in force there.
use Rattle.std.specs.Prelude.{◌≡◌, true, List, [], ◌∷◌}
use Rattle.sail_types.specs.Numbers.{Positive, true_in}
use Rattle.sail_core.specs.declared.model.CoreModel.{CoreModel}
use Rattle.linear.specs.laws.Entailment.{IsImplied}
use Rattle.obligations.specs.declared.obligation.Obligation.{Obligation}
use Rattle.obligations.specs.Owed.{problem_of}
use Rattle.value_indices.specs.Steps.{Note, goal_note}
use Rattle.constraint_gen.specs.Models.{Definition, around_of, from_nothing, listed}
use Rattle.constraint_gen.specs.Obligations.{obligations}
use Rattle.value_laws.specs.Belonging.{Integers, standing}
use Rattle.value_laws.specs.Known.{InForce}

-- an assignment that makes the facts of an obligation true makes its goal true
abbrev pub AllHold : List Obligation → Type 0
AllHold [] = Unit {0}
AllHold (o ∷ os) = IsImplied (problem_of o) × AllHold os

-- ---- goals where they stand

abbrev pub GoalIsTrue : Note → Type 0
GoalIsTrue (goal_note facts place goal) =
    (past : Positive) (f : Integers) → InForce past f facts → true_in (standing past f) goal ≡ true
GoalIsTrue note = Unit {0}

-- ---- of all definitions: functions, measures, mappings, top-level lets and initial values

abbrev pub EachNote : (Note → Type 0) → List Note → Type 0
EachNote P [] = Unit {0}
EachNote P (n ∷ ns) = P n × EachNote P ns

abbrev pub EachOf : (Note → Type 0) → List Definition → Type 0
EachOf P [] = Unit {0}
EachOf P (d ∷ ds) = EachNote P (from_nothing d).notes × EachOf P ds

abbrev pub GoalsHold : Type 0
GoalsHold = (m : CoreModel) → AllHold (obligations m) → EachOf GoalIsTrue (listed m (around_of m))
