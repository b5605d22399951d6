-- Whether tables are whole at a note: each combination that counts there has a case, or a lead (Sail language manual, "Type variables").
use Rattle.std.specs.Prelude.{ℕ, Bool, List, is_some}
use Rattle.std.specs.List.{list_all}
use Rattle.sail_types.specs.declared.numbers.Index.{Index}
use Rattle.value_indices.specs.declared.indices.Indices.{Indices}
use Rattle.value_indices.specs.declared.indices.Reading.{Reading}
use Rattle.value_indices.specs.declared.notes.Fact.{Fact}
use Rattle.value_indices.specs.declared.notes.Made.{Made}
use Rattle.size_values.specs.declared.constants.Picked.{Picked}
use Rattle.sized_nodes.specs.declared.trees.Instance.{Instance}
use Rattle.monomorph.specs.Reading.{Inside}
use Rattle.sized_trees.specs.declared.combinations.Choice.{Choice}
use Rattle.sized_trees.specs.Bodies.{made_choices, value_at}
use Rattle.sized_trees.specs.Cases.{case_under, lead_under}
use Rattle.sized_trees.specs.Combinations.{combinations_at}

-- what a node makes

abbrev pub has_case_of : Inside → List Indices → Indices → Choice → Bool
has_case_of r operands i c = is_some (case_under r operands i c)

abbrev pub has_case : Inside → List Indices → Made → Choice → Bool
has_case r operands made c = has_case_of r operands (value_at r made) c

abbrev pub has_all_cases : Inside → List Fact → List Indices → Made → Bool
has_all_cases r facts operands made = list_all (has_case r operands made) (made_choices r facts made)

-- what is called

abbrev pub has_lead : Inside → List Instance → List Indices → ℕ → List Index → List Reading → List Picked → Bool
has_lead r list operands g js qs ps = is_some (lead_under r list operands g js qs ps)

abbrev pub has_all_leads : Inside → List Instance → List Fact → List Indices → ℕ → List Index → List Reading → Bool
has_all_leads r list facts operands g js qs = list_all (has_lead r list operands g js qs) (combinations_at r facts)
