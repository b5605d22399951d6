-- Where each combination that counts at a node has a case, the case of the present numbers is present (Sail language manual, "Type variables").
use Rattle.std.specs.Prelude.{◌≡◌, ◌<◌, ℕ, nat_eq, true, List, None, Some}
use Rattle.std.specs.List.{list_any}
use Rattle.sail_types.specs.Numbers.{Positive}
use Rattle.sail_types.specs.declared.numbers.Index.{Index}
use Rattle.value_indices.specs.declared.indices.Indices.{Indices}
use Rattle.value_indices.specs.declared.indices.Reading.{Reading}
use Rattle.value_indices.specs.declared.notes.Fact.{Fact}
use Rattle.value_indices.specs.declared.notes.Made.{Made}
use Rattle.value_indices.specs.Steps.{conditions}
use Rattle.size_values.specs.declared.constants.Picked.{Picked}
use Rattle.size_values.specs.Numbers.{known_of}
use Rattle.size_splits.specs.Alone.{sizes_given}
use Rattle.size_splits.specs.Sizing.{made_facts}
use Rattle.value_laws.specs.Belonging.{Integers, standing}
use Rattle.value_laws.specs.Known.{AllTrue}
use Rattle.split_laws.specs.Counted.{Agrees, AreTaken, IsIn}
use Rattle.sized_nodes.specs.declared.trees.Instance.{Instance}
use Rattle.monomorph.specs.Reading.{Inside}
use Rattle.checked_meaning.specs.Checked.{Noted}
use Rattle.sized_trees.specs.declared.combinations.Choice.{Choice}
use Rattle.sized_nodes.specs.declared.trees.Lead.{Lead}
use Rattle.sized_trees.specs.Bodies.{made_choices, node_cases, node_leads, value_at}
use Rattle.sized_trees.specs.Cases.{case_of, lead_under}
use Rattle.sized_trees.specs.Combinations.{combinations_at, is_given, picked_by}
pub use Rattle.sized_trees.specs.Whole.{has_all_cases, has_all_leads}
use Rattle.sized_meanings.specs.Laws.{AreNoted}
use Rattle.sized_meanings.specs.Present.{present_case, present_lead}

-- ---- what is in force is so: the known variables have these integers, all facts are true, and the numbers that are given are noted

pub record IsSo (past : Positive) (f : Integers) (r : Inside) (facts : List Fact) (noted : Noted) : Type 0 where
  pub known : Agrees (known_of r.numbers) f
  pub true_there : AllTrue (standing past f) (conditions facts)
  pub given : (v : ℕ) → is_given facts v ≡ true → noted v ≡ Some (f v)

-- ---- cases

-- a value is made whose type is opened under integers that are the same before the body's last variable: what the opening says is true, and the numbers
-- that the value gives are noted
pub record IsOpened (past : Positive) (f g : Integers) (r : Inside) (facts : List Fact) (made : Made) (noted : Noted) : Type 0 where
  pub known : Agrees (known_of r.numbers) g
  pub same : (i : ℕ) → i < r.variables → f i ≡ g i
  pub true_there : AllTrue (standing past g) (conditions (made_facts r.variables made None))
  pub told : (v : ℕ) → list_any (nat_eq v) (sizes_given r.types (value_at r made)) ≡ true → noted v ≡ Some (g v)
  -- what is in force gives no number of a later variable
  pub given_before : (v : ℕ) → is_given facts v ≡ true → v < r.variables

pub record HasPresentCase (r : Inside) (facts : List Fact) (operands : List Indices) (made : Made) (noted : Noted) (f g : Integers) : Type 0 where
  -- one of the choices by which its cases are told apart
  pub choice : Choice
  pub is_in : IsIn choice (made_choices r facts made)
  pub before : AreTaken f choice.noted
  pub are : AreTaken g (picked_by choice)
  pub is_there : present_case noted (node_cases r facts operands made) ≡ Some (case_of r operands (value_at r made) choice)

abbrev pub PresentCases : Type 0
PresentCases = (past : Positive) (f g : Integers) (r : Inside) (facts : List Fact) (noted : Noted) (operands : List Indices) (made : Made)
    → IsSo past f r facts noted → IsOpened past f g r facts made noted → has_all_cases r facts operands made ≡ true
    → HasPresentCase r facts operands made noted f g

-- where all numbers of a choice are noted, its case is present, whatever else is noted
abbrev pub PresentChoices : Type 0
PresentChoices = (r : Inside) (facts : List Fact) (operands : List Indices) (made : Made) (c : Choice) (noted : Noted)
    → has_all_cases r facts operands made ≡ true → IsIn c (made_choices r facts made) → AreNoted noted (picked_by c)
    → present_case noted (node_cases r facts operands made) ≡ Some (case_of r operands (value_at r made) c)

-- ---- where a call leads

pub record HasPresentLead (r : Inside) (list : List Instance) (facts : List Fact) (operands : List Indices) (g : ℕ) (js : List Index)
    (qs : List Reading) (noted : Noted) (f : Integers) : Type 0 where
  -- one of the combinations by which its cases are told apart
  pub picked : List Picked
  pub is_in : IsIn picked (combinations_at r facts)
  pub are : AreTaken f picked
  pub lead : Lead
  pub is : lead_under r list operands g js qs picked ≡ Some lead
  pub is_there : present_lead noted (node_leads r list facts operands g js qs) ≡ Some lead

abbrev pub PresentLeads : Type 0
PresentLeads = (past : Positive) (f : Integers) (r : Inside) (list : List Instance) (facts : List Fact) (noted : Noted) (operands : List Indices)
    (g : ℕ) (js : List Index) (qs : List Reading) → IsSo past f r facts noted → has_all_leads r list facts operands g js qs ≡ true
    → HasPresentLead r list facts operands g js qs noted f
