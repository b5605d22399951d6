-- A body under an instance, node by node: the cases of each, where calls lead, and which numbers a value gives (Sail language manual, "Type
-- variables").
use Rattle.std.specs.Prelude.{ℕ, ℤ, List, [], ◌∷◌, ◌++◌, map, Option, None}
use Rattle.sail_types.specs.declared.numbers.Index.{Index}
use Rattle.sail_core.specs.declared.tree.Callee.{Callee}
use Rattle.sail_core.specs.declared.tree.Callee.TheVariants as D
use Rattle.sail_core.specs.declared.tree.Giver.{Giver}
use Rattle.value_indices.specs.declared.indices.Indices.{Indices}
use Rattle.value_indices.specs.declared.indices.Reading.{Reading}
use Rattle.value_indices.specs.declared.notes.Fact.{Fact}
use Rattle.value_indices.specs.declared.notes.Made.{Made}
use Rattle.value_indices.specs.declared.notes.Step.{Step}
use Rattle.value_indices.specs.declared.notes.Step.TheVariants as S
use Rattle.value_indices.specs.Steps.{Note, made_note, call_note, given_note}
use Rattle.size_values.specs.declared.sized.Sized.{Sized}
use Rattle.size_splits.specs.Alone.{sizes_given}
use Rattle.size_splits.specs.Bodies.{Body}
use Rattle.size_splits.specs.Sizing.{made_facts, made_indices}
use Rattle.sized_nodes.specs.declared.trees.Instance.{Instance}
use Rattle.monomorph.specs.Lasts.{Model}
use Rattle.monomorph.specs.Reading.{Inside, reading_of}
use Rattle.sized_trees.specs.declared.combinations.Choice.{Choice}
use Rattle.sized_nodes.specs.declared.trees.Case.{Case}
use Rattle.sized_nodes.specs.declared.trees.Lead.{Lead}
use Rattle.sized_nodes.specs.declared.trees.NodeSizes.{NodeSizes}
use Rattle.sized_nodes.specs.declared.trees.NodeSizes.TheVariants as Z
use Rattle.sized_nodes.specs.declared.trees.Told.{Told}
use Rattle.sized_trees.specs.Cases.{cases_under, leads_under}
use Rattle.sized_trees.specs.Combinations.{choices_at, combinations_at}

-- ---- what a note says of its node

-- a value as it is made: what its type binds is opened from the first number on that is no variable's of the body
abbrev pub value_at : Inside → Made → Indices
value_at r made = made_indices r.variables made None

abbrev pub made_choices : Inside → List Fact → Made → List Choice
made_choices r facts made = choices_at r facts (made_facts r.variables made None) (sizes_given r.types (value_at r made))

abbrev pub node_cases : Inside → List Fact → List Indices → Made → List Case
node_cases r facts operands made = cases_under r operands (value_at r made) (made_choices r facts made)

abbrev pub told_at : Inside → List Fact → List Indices → Made → Told
told_at r facts operands made = record { value = value_at r made; cases = node_cases r facts operands made }

abbrev pub node_leads : Inside → List Instance → List Fact → List Indices → ℕ → List Index → List Reading → List Lead
node_leads r list facts operands f js qs = leads_under r list operands f js qs (combinations_at r facts)

abbrev pub made_at : Inside → List Fact → ℕ → List Indices → Made → List NodeSizes
made_at r facts k operands made = Z.Makes k (value_at r made) (node_cases r facts operands made) ∷ []

abbrev pub function_at : Inside → List Instance → List Fact → ℕ → List Indices → ℕ → List Index → List Reading → List NodeSizes
function_at r list facts k operands f js qs = Z.Calls k (node_leads r list facts operands f js qs) ∷ []

-- a call of what isn't a function leads to no instance
abbrev pub at_call : Inside → List Instance → List Fact → ℕ → List Indices → Callee → List Index → List Reading → List NodeSizes
at_call r list facts k operands (D.Function f) js qs = function_at r list facts k operands f js qs
at_call r list facts k operands callee js qs = []

abbrev pub given_at : Giver → Indices → List NodeSizes
given_at g i = Z.Gives g i ∷ []

abbrev pub at_note : Inside → List Instance → Note → List NodeSizes
at_note r list (made_note facts k operands made) = made_at r facts k operands made
at_note r list (call_note facts place k operands callee js qs) = at_call r list facts k operands callee js qs
at_note r list (given_note facts g i) = given_at g i
at_note r list note = []

-- in the order of the walk; the number of a target comes where it is read and where it is written
abbrev pub at_notes : Inside → List Instance → List Note → List NodeSizes
at_notes r list [] = []
at_notes r list (n ∷ ns) = at_note r list n ++ at_notes r list ns

-- as code reads a step, under what is in force there
abbrev pub at_step : Inside → List Instance → List Fact → Step → List NodeSizes
at_step r list facts (S.Makes k operands made) = made_at r facts k operands made
at_step r list facts (S.Calls place k operands callee js qs) = at_call r list facts k operands callee js qs
at_step r list facts (S.Gives g i) = given_at g i
at_step r list facts step = []

-- ---- a body, for these numbers and types

abbrev pub sized_body : Model → List Instance → List (Option ℤ) → List Sized → Body → List NodeSizes
sized_body m list zs own b = at_notes (reading_of m.core.types m.sizing zs own b) list b.notes

abbrev pub sized_bodies : Model → List Instance → List (Option ℤ) → List Sized → List Body → List (List NodeSizes)
sized_bodies m list zs own bs = map (sized_body m list zs own) bs
