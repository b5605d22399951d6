-- What is tested of notes of bodies as they are read for an instance, so that its tables are whole: under each combination of numbers that counts there
-- each node has a case, and each call a lead, in which all sizes are constants for certain; and a value of a type tells the sizes at which it is opened
-- (Sail language manual, "Type variables").
use Rattle.std.specs.Prelude.{ℕ, nat_lt, Bool, true, false, not, ◌&&◌, ◌||◌, List, [], ◌∷◌, length}
use Rattle.std.specs.List.{list_all}
use Rattle.sail_types.specs.declared.numbers.Index.{Index}
use Rattle.sail_core.specs.declared.tree.Callee.{Callee}
use Rattle.sail_core.specs.declared.tree.Callee.TheVariants as D
use Rattle.value_indices.specs.Steps.{Note, call_note, made_note, size_note}
use Rattle.value_indices.specs.declared.indices.Indices.{Indices}
use Rattle.value_indices.specs.declared.indices.Reading.{Reading}
use Rattle.value_indices.specs.declared.notes.Fact.{Fact}
use Rattle.value_indices.specs.declared.notes.Fact.TheVariants as Y
use Rattle.value_indices.specs.declared.notes.Made.{Made}
use Rattle.value_indices.specs.declared.notes.Made.TheVariants as Makes
use Rattle.expression_forms.specs.Inside.{is_type_below}
use Rattle.size_values.specs.declared.constants.Constant.{Constant}
use Rattle.size_values.specs.declared.constants.Picked.{Picked}
use Rattle.size_values.specs.Numbers.{all_before, known_at, known_of}
use Rattle.size_splits.specs.Sizing.{flags_of}
use Rattle.size_splits.specs.Splits.{counted}
use Rattle.sized_nodes.specs.declared.trees.Instance.{Instance}
use Rattle.monomorph.specs.Reading.{Inside, under}
use Rattle.sized_trees.specs.declared.combinations.Choice.{Choice}
use Rattle.sized_trees.specs.Bodies.{made_choices, value_at}
use Rattle.sized_trees.specs.Combinations.{combinations_at, is_given, picked_by}
pub use Rattle.sized_trees.specs.Whole.{has_all_cases, has_all_leads, has_case, has_case_of, has_lead}
use Rattle.told_sizes.specs.Among.{has_in, reading_among}
use Rattle.told_sizes.specs.Exact.{is_exact_index, only_if, reading_tells}
use Rattle.told_sizes.specs.Passing.{reading_passes, value_passes}

-- ---- where these numbers are taken

abbrev pub one_passes : Inside → List Picked → Indices → Bool
one_passes r ps i = value_passes r.types (length r.own) (under r ps) i

abbrev pub values_pass : Inside → List Picked → List Indices → Bool
values_pass r ps is = list_all (one_passes r ps) is

abbrev pub readings_pass : Inside → List Picked → List Reading → Bool
readings_pass r ps qs = list_all (reading_passes r.types (length r.own) (under r ps)) qs

-- a value of a type tells the sizes at which it is opened
abbrev pub tells : Inside → Reading → List Picked → Bool
tells r q ps = reading_tells r.types (length r.own) (under r ps) q

abbrev pub type_given : Inside → List Fact → Made → Bool
type_given r facts (Makes.ByIndices i) = true
type_given r facts (Makes.ByType q) = list_all (tells r q) (counted (known_of r.numbers) r.split facts [])

-- ---- what nodes make: there is a case, in which all sizes are constants for certain

-- what is made by a type names variables of the body alone, and its values tell its sizes
abbrev pub is_own : Inside → ℕ → Bool
is_own r v = nat_lt v r.variables

abbrev pub has_own : Inside → ℕ → Bool
has_own r = has_in (known_at (all_before r.variables))

abbrev pub made_alone : Inside → Made → Bool
made_alone r (Makes.ByIndices i) = true
made_alone r (Makes.ByType q) = is_type_below r.variables q

abbrev pub type_tells : Inside → Reading → List Picked → Bool
type_tells r q ps = reading_among r.types (has_own r) q && tells r q ps

abbrev pub made_tells : Inside → Made → List Picked → Bool
made_tells r (Makes.ByIndices i) ps = true
made_tells r (Makes.ByType q) ps = type_tells r q ps

abbrev pub choice_passes : Inside → List Indices → Made → Indices → Choice → Bool
choice_passes r operands made i c = values_pass r c.noted operands && (one_passes r (picked_by c) i && made_tells r made c.noted)

abbrev pub made_passes : Inside → Made → Choice → Bool
made_passes r made c = one_passes r (picked_by c) (value_at r made) && made_tells r made c.noted

abbrev pub node_passes : Inside → List Indices → Made → Choice → Bool
node_passes r operands made c = choice_passes r operands made (value_at r made) c

-- an instance knows numbers of the body's variables alone, and what is in force gives those alone
abbrev pub gives_own : Inside → Fact → Bool
gives_own r (Y.Holds c) = true
gives_own r (Y.IsGiven v) = is_own r v

abbrev pub facts_own : Inside → List Fact → Bool
facts_own r facts = not (nat_lt r.variables (length r.numbers)) && list_all (gives_own r) facts

-- whether each number by which a case is chosen is noted before the value is there
abbrev pub is_in_force : List Fact → Picked → Bool
is_in_force facts p = is_given facts p.variable

abbrev pub choice_noted : List Fact → Choice → Bool
choice_noted facts c = list_all (is_in_force facts) (picked_by c)

abbrev pub made_noted : Inside → List Fact → Made → Bool
made_noted r facts made = list_all (choice_noted facts) (made_choices r facts made)

abbrev pub choices_pass : Inside → List Fact → List Indices → Made → Bool
choices_pass r facts operands made =
    has_all_cases r facts operands made
    && ((facts_own r facts && made_alone r made) && list_all (node_passes r operands made) (made_choices r facts made))

-- a case may go by numbers that its value gives, or not
abbrev pub made_tested : Bool → Inside → List Fact → List Indices → Made → Bool
made_tested given r facts operands made = choices_pass r facts operands made && (given || made_noted r facts made)

-- ---- calls of functions: each leads to an instance; what is given to size variables are numbers

abbrev pub numbers_pass : (ℕ → Constant) → List Bool → List Index → Bool
numbers_pass of [] [] = true
numbers_pass of (b ∷ bs) (j ∷ js) = only_if b (is_exact_index of j) && numbers_pass of bs js
numbers_pass of bs js = false

abbrev pub lead_passes : Inside → List Indices → ℕ → List Index → List Reading → List Picked → Bool
lead_passes r operands f js qs ps =
    values_pass r ps operands && (readings_pass r ps qs && numbers_pass (under r ps) (flags_of r.sizing f) js)

abbrev pub function_tested : Inside → List Instance → List Fact → List Indices → ℕ → List Index → List Reading → Bool
function_tested r list facts operands f js qs =
    has_all_leads r list facts operands f js qs && list_all (lead_passes r operands f js qs) (combinations_at r facts)

abbrev pub call_tested : Inside → List Instance → List Fact → List Indices → Callee → List Index → List Reading → Bool
call_tested r list facts operands (D.Function f) js qs = function_tested r list facts operands f js qs
call_tested r list facts operands callee js qs = true

-- ---- a note: the numbers that are given need no test, nor what is so of every list that is found

abbrev pub note_tabled : Bool → List Instance → Inside → Note → Bool
note_tabled given list r (size_note facts place made) = type_given r facts made
note_tabled given list r (made_note facts k operands made) = made_tested given r facts operands made
note_tabled given list r (call_note facts place k operands callee js qs) = call_tested r list facts operands callee js qs
note_tabled given list r note = true
