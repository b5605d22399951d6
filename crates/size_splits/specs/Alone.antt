-- The variables whose numbers a value gives by itself, and that are in its sizes (Sail language manual, "Type variables").
use Rattle.std.specs.Prelude.{ℕ, nat_eq, Bool, true, false, List, [], ◌∷◌, ◌++◌, if◌then◌else◌}
use Rattle.std.specs.List.{list_any}
use Rattle.sail_types.specs.declared.table.Types.{Types}
use Rattle.value_indices.specs.declared.indices.Indices.{Indices}
use Rattle.value_indices.specs.declared.notes.Fact.{Fact}
use Rattle.value_indices.specs.declared.notes.Fact.TheVariants as Y
use Rattle.call_notes.specs.Noted.{numbers_noted}
use Rattle.size_values.specs.Sizes.{value_names}

-- what comes into force behind a value: the numbers of which variables are noted
abbrev pub given_facts : Indices → List Fact
given_facts i = (numbers_noted 0 i [] 0).facts

abbrev pub is_it : ℕ → ℕ → Bool
is_it v w = nat_eq v w

-- each once
abbrev pub once_where : Bool → ℕ → List ℕ → List ℕ
once_where true v seen = if list_any (is_it v) seen then seen else seen ++ v ∷ []
once_where false v seen = seen

abbrev pub with_given : Types → Indices → List ℕ → Fact → List ℕ
with_given types i seen (Y.Holds c) = seen
with_given types i seen (Y.IsGiven v) = once_where (value_names types v i) v seen

abbrev pub all_given : Types → Indices → List ℕ → List Fact → List ℕ
all_given types i seen [] = seen
all_given types i seen (f ∷ fs) = all_given types i (with_given types i seen f) fs

abbrev pub sizes_given : Types → Indices → List ℕ
sizes_given types i = all_given types i [] (given_facts i)
