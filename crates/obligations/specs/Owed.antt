-- An obligation of a goal under the facts that are in force where it stands.
use Rattle.std.specs.Prelude.{ℕ, List, map}
use Rattle.sail_base.specs.declared.place.Place.{Place}
use Rattle.sail_types.specs.Texts.{atom_text}
use Rattle.sail_types.specs.declared.numbers.Con.{Con}
use Rattle.linear.specs.Cases.{variables_of}
use Rattle.linear.specs.Choices.{variables_in}
use Rattle.linear.specs.declared.problem.Problem.{Problem}
use Rattle.obligations.specs.Closing.{with_closing}
use Rattle.obligations.specs.Connected.{connected}
use Rattle.obligations.specs.declared.obligation.Obligation.{Obligation}

-- whether its facts imply its goal
abbrev pub problem_of : Obligation → Problem
problem_of o = record { facts = o.facts; goal = o.goal }

-- of the facts in force those connected to the goal, and behind them those that close the obligation
abbrev pub facts_for : List Con → Con → List Con
facts_for cs goal = with_closing (connected cs (variables_in goal)) goal

-- the variables of facts and a goal as they are printed, by the names of all variables
abbrev pub names_for : List (List ℕ) → List Con → Con → List (List ℕ)
names_for names facts goal = map (atom_text names) (variables_of (record { facts = facts; goal = goal }))

-- a goal that is owed at a place under these facts in force
abbrev pub owed : List (List ℕ) → List Con → Con → Place → Obligation
owed names cs goal place = record {
  facts = facts_for cs goal;
  goal = goal;
  place = place;
  names = names_for names (facts_for cs goal) goal;
}
