-- What is noted at a node that makes a value: what it makes of its operands, and the numbers of variables that the value gives (Sail language
-- manual, "Type variables").
use Rattle.std.specs.Prelude.{List, None, Option, Some, map, ℕ, [], ◌∷◌, ◌++◌}
use Rattle.sail_base.specs.declared.place.Place.{Place}
use Rattle.sail_core.specs.declared.tree.Giver.{Giver}
use Rattle.sail_core.specs.declared.tree.Giver.TheVariants as Gives
use Rattle.value_indices.specs.Steps.{Walk, bind, give, give_number, given_note, made_note, note}
use Rattle.value_indices.specs.declared.indices.Indices.{Indices, fold-Indices}
use Rattle.value_indices.specs.declared.indices.Indices.TheOpen as W
use Rattle.value_indices.specs.declared.indices.Indices.TheOpen.{Indices-F, Reading-F}
use Rattle.value_indices.specs.declared.indices.Indices.TheVariants as I
use Rattle.value_indices.specs.declared.indices.Reading.{Reading}
use Rattle.value_indices.specs.declared.notes.Made.{Made}
use Rattle.value_indices.specs.declared.notes.Made.TheVariants as Makes
use Rattle.pattern_leaves.specs.declared.names.Bound.{Bound}
use Rattle.pattern_leaves.specs.declared.names.Held.{Held}
use Rattle.pattern_leaves.specs.declared.names.Held.TheVariants as H
use Rattle.call_arguments.specs.Placing.{variable_in}
use Rattle.call_notes.specs.Ends.{opened_at}

-- ---- what the node of a number makes of these operands

abbrev pub node_made : ℕ → List Indices → Made → Walk (Unit {0})
node_made k is m = note (λ facts. made_note facts k is m)

-- a value of these indices
abbrev pub node_ended : ℕ → List Indices → Indices → Walk Indices
node_ended k is i = bind (node_made k is (Makes.ByIndices i)) (λ t. give i)

-- a value of a type, opened: what it makes stands before what is known of the value
abbrev pub made_opened : Place → ℕ → List Indices → Reading → Walk Indices
made_opened place k is r = bind (node_made k is (Makes.ByType r)) (λ t. opened_at place r)

-- ---- the variables whose numbers a value gives: an integer, a width or a length that is one, also as a part of a tuple

abbrev pub number_given : Option ℕ → Walk (Unit {0})
number_given None = give tt
number_given (Some v) = give_number v

abbrev pub all_given : List (Walk (Unit {0})) → Walk (Unit {0})
all_given [] = give tt
all_given (w ∷ ws) = bind w (λ t. all_given ws)

abbrev pub form_given : Indices-F (Walk (Unit {0})) (Walk (Unit {0})) → Walk (Unit {0})
form_given (W.Integer n) = number_given (variable_in n)
form_given (W.Bits n) = number_given (variable_in n)
form_given (W.Vector n w) = number_given (variable_in n)
form_given (W.Tuple ws) = all_given ws
form_given form = give tt

abbrev pub type_given : Reading-F (Walk (Unit {0})) (Walk (Unit {0})) → Walk (Unit {0})
type_given form = give tt

abbrev pub numbers_given : Indices → Walk (Unit {0})
numbers_given = fold-Indices (Walk (Unit {0})) (Walk (Unit {0})) form_given type_given

-- they are given, and noted from here on
abbrev pub numbers_by : Giver → Indices → Walk (Unit {0})
numbers_by g i = bind (note (λ facts. given_note facts g i)) (λ t. numbers_given i)

-- by the node of a number
abbrev pub numbers_noted : ℕ → Indices → Walk (Unit {0})
numbers_noted k i = numbers_by (Gives.Node k) i

abbrev pub node_given : ℕ → Indices → Walk Indices
node_given k i = bind (numbers_noted k i) (λ t. give i)

-- ---- the names that an arm binds, which are no `var`s: what they hold, behind what the arm matches, as one tuple

abbrev pub indices_held : Held → Indices
indices_held (H.Value i) = i
indices_held (H.Var r) = I.Unit

abbrev pub name_indices : Bound → Indices
name_indices b = indices_held b.held

abbrev pub names_given : Giver → List Indices → List Bound → Walk (List Bound)
names_given g is found = bind (numbers_by g (I.Tuple (is ++ map name_indices found))) (λ t. give found)
