-- What is said of the node of a number, and the case that is present: the first whose numbers are the noted ones.
use Rattle.std.specs.Prelude.{ℕ, ℤ, nat_eq, Bool, true, false, ◌&&◌, List, [], ◌∷◌, ◌++◌, Option, Some, None, is_some, if◌then◌else◌}
use Rattle.std.specs.Ordering.{int_eq}
use Rattle.sail_types.specs.Places.{first}
use Rattle.sail_types.specs.declared.values.Value.{Value}
use Rattle.sail_core.specs.declared.tree.Giver.{Giver}
use Rattle.sail_core.specs.Nodes.{giver_eq}
use Rattle.value_indices.specs.declared.indices.Indices.{Indices}
use Rattle.size_values.specs.declared.constants.Picked.{Picked}
use Rattle.checked_meaning.specs.Checked.{Noted}
use Rattle.sized_nodes.specs.declared.trees.Case.{Case}
use Rattle.sized_nodes.specs.declared.trees.Lead.{Lead}
use Rattle.sized_nodes.specs.declared.trees.NodeSizes.{NodeSizes}
use Rattle.sized_nodes.specs.declared.trees.NodeSizes.TheVariants as Z
use Rattle.sized_meanings.specs.Noting.{noted_by}

-- ---- of the cases at a node: none, where a number that an earlier one asks for isn't noted

abbrev pub is_noted : Noted → List Picked → Bool
is_noted noted [] = true
is_noted noted (p ∷ ps) = is_some (noted p.variable) && is_noted noted ps

abbrev pub is_same : Option ℤ → ℤ → Bool
is_same None z = false
is_same (Some x) z = int_eq x z

abbrev pub is_present : Noted → List Picked → Bool
is_present noted [] = true
is_present noted (p ∷ ps) = is_same (noted p.variable) p.number && is_present noted ps

abbrev pub present : {A : Type 0} → (A → List Picked) → Noted → List A → Option A
present picks noted [] = None
present picks noted (x ∷ xs) =
    if is_noted noted (picks x) then (if is_present noted (picks x) then Some x else present picks noted xs) else None

abbrev pub present_case : Noted → List Case → Option Case
present_case = present (λ c. c.picked)

abbrev pub present_lead : Noted → List Lead → Option Lead
present_lead = present (λ l. l.picked)

-- ---- by the number of a node: a target's stands more than once, where it is read and where it is written

abbrev pub first_in : {A : Type 0} → (NodeSizes → Option A) → List NodeSizes → Option A
first_in f [] = None
first_in f (n ∷ ns) = first (f n) (first_in f ns)

abbrev pub if_at : {A : Type 0} → ℕ → ℕ → Option A → Option A
if_at k j o = if nat_eq k j then o else None

-- the numbers by which a case is chosen: those that the value gives as well, or those alone that are noted by then
abbrev pub noted_with : Bool → Indices → Value → Noted → Noted
noted_with true i v noted = noted_by i v noted
noted_with false i v noted = noted

abbrev pub case_by : Bool → ℕ → Value → Noted → NodeSizes → Option Case
case_by given k v noted (Z.Makes j i cases) = if_at k j (present_case (noted_with given i v noted) cases)
case_by given k v noted node = None

abbrev pub lead_in : ℕ → Noted → NodeSizes → Option Lead
lead_in k noted (Z.Calls j leads) = if_at k j (present_lead noted leads)
lead_in k noted node = None

-- all that is said of what is given there
abbrev pub gives_in : Giver → NodeSizes → List Indices
gives_in g (Z.Gives h i) = if giver_eq g h then i ∷ [] else []
gives_in g node = []

abbrev pub gives_at : List NodeSizes → Giver → List Indices
gives_at [] g = []
gives_at (n ∷ ns) g = gives_in g n ++ gives_at ns g
