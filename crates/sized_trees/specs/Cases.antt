-- The cases of a node: for each combination that counts there, the types of its operands and of its value, all of whose sizes are constants
-- (Sail language manual, "Type variables").
use Rattle.std.specs.Prelude.{ℕ, suc, Bool, ◌&&◌, List, [], ◌∷◌, ◌++◌, map, Option, Some, None, option_map, if◌then◌else◌}
use Rattle.std.specs.List.{list_all}
use Rattle.sail_types.specs.Places.{only}
use Rattle.sail_types.specs.declared.numbers.Index.{Index}
use Rattle.value_indices.specs.declared.indices.Indices.{Indices}
use Rattle.value_indices.specs.declared.indices.Reading.{Reading}
use Rattle.size_values.specs.declared.constants.Constant.{Constant}
use Rattle.size_values.specs.declared.constants.Picked.{Picked}
use Rattle.size_values.specs.declared.sized.Sized.{Sized}
use Rattle.size_values.specs.Numbers.{index_under}
use Rattle.size_values.specs.Sizes.{reading_sizes, value_sizes}
use Rattle.size_values.specs.Sized.{value_sized}
use Rattle.size_splits.specs.Sizing.{flags_of, indices_where}
use Rattle.sized_nodes.specs.declared.trees.Instance.{Instance}
use Rattle.monomorph.specs.Found.{instance_eq}
use Rattle.monomorph.specs.Reading.{Inside, instance_of, under}
use Rattle.sized_trees.specs.declared.combinations.Choice.{Choice}
use Rattle.sized_nodes.specs.declared.trees.Case.{Case}
use Rattle.sized_nodes.specs.declared.trees.Lead.{Lead}
use Rattle.sized_trees.specs.Combinations.{picked_by}
use Rattle.sized_trees.specs.Within.{all_numbers, all_within}

abbrev pub one_or_none : {A : Type 0} → Option A → List A
one_or_none None = []
one_or_none (Some x) = x ∷ []

-- ---- whether all sizes are constants within their limits, where these numbers are taken

abbrev pub value_within : Inside → List Picked → Indices → Bool
value_within r ps i = all_within (value_sizes r.types (under r ps) i)

abbrev pub values_within : Inside → List Picked → List Indices → Bool
values_within r ps is = list_all (value_within r ps) is

abbrev pub reading_within : Inside → List Picked → Reading → Bool
reading_within r ps q = all_within (reading_sizes r.types (under r ps) q)

abbrev pub readings_within : Inside → List Picked → List Reading → Bool
readings_within r ps qs = list_all (reading_within r ps) qs

-- ---- the types

abbrev pub sized_under : Inside → List Picked → Indices → Sized
sized_under r ps i = value_sized r.types r.own (under r ps) i

abbrev pub all_sized_under : Inside → List Picked → List Indices → List Sized
all_sized_under r ps is = map (sized_under r ps) is

-- ---- a case

abbrev pub case_within : Inside → List Indices → Indices → Choice → Bool
case_within r operands i c = values_within r c.noted operands && value_within r (picked_by c) i

abbrev pub case_of : Inside → List Indices → Indices → Choice → Case
case_of r operands i c =
    record { picked = picked_by c; takes = all_sized_under r c.noted operands; gives = sized_under r (picked_by c) i }

-- none, where a size isn't such a constant
abbrev pub case_under : Inside → List Indices → Indices → Choice → Option Case
case_under r operands i c = only (case_within r operands i c) (case_of r operands i c)

abbrev pub cases_under : Inside → List Indices → Indices → List Choice → List Case
cases_under r operands i [] = []
cases_under r operands i (c ∷ more) = one_or_none (case_under r operands i c) ++ cases_under r operands i more

-- ---- where a call of a function leads: the place of the instance among all

abbrev pub place_from : ℕ → Instance → List Instance → Option ℕ
place_from n x [] = None
place_from n x (y ∷ ys) = if instance_eq x y then Some n else place_from (suc n) x ys

abbrev pub place_in : List Instance → Instance → Option ℕ
place_in list x = place_from 0 x list

-- what is given to the size variables
abbrev pub given_constants : Inside → ℕ → List Index → List Picked → List Constant
given_constants r f js ps = map (index_under (under r ps)) (indices_where (flags_of r.sizing f) js)

abbrev pub lead_within : Inside → List Indices → ℕ → List Index → List Reading → List Picked → Bool
lead_within r operands f js qs ps = values_within r ps operands && (all_numbers (given_constants r f js ps) && readings_within r ps qs)

abbrev pub lead_to : Inside → List Indices → List Picked → ℕ → Lead
lead_to r operands ps place = record { picked = ps; takes = all_sized_under r ps operands; instance = place }

abbrev pub lead_found : Inside → List Instance → List Indices → ℕ → List Index → List Reading → List Picked → Option Lead
lead_found r list operands f js qs ps = option_map (lead_to r operands ps) (place_in list (instance_of r (under r ps) f js qs))

-- none, where what is given isn't such a constant
abbrev pub lead_under : Inside → List Instance → List Indices → ℕ → List Index → List Reading → List Picked → Option Lead
lead_under r list operands f js qs ps = if lead_within r operands f js qs ps then lead_found r list operands f js qs ps else None

abbrev pub leads_under : Inside → List Instance → List Indices → ℕ → List Index → List Reading → List (List Picked) → List Lead
leads_under r list operands f js qs [] = []
leads_under r list operands f js qs (ps ∷ more) =
    one_or_none (lead_under r list operands f js qs ps) ++ leads_under r list operands f js qs more
