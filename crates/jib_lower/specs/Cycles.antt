-- The numbers of cycles of calls, by the functions of a model: how they stand to the cycles of the model, and to the calls of its instances.
use Rattle.std.specs.Prelude.{◌≡◌, ℕ, ◌/◌, Bool, true, false, ◌&&◌, not, List, [], ◌∷◌, length, Option, Some, None, nat_eq, slice_get, slice_index_or}
use Rattle.std.specs.Prelude.{if◌then◌else◌, nat_le, nat_lt, ◌<◌, ◌≤◌}
use Rattle.call_graph.specs.declared.found.Cycles.{Cycles}
use Rattle.call_graph.specs.Components.{component_of, node_count}
use Rattle.call_graph.specs.Graphs.{HasEdge}
use Rattle.sail_core.specs.declared.model.Function.{Function}
use Rattle.sized_nodes.specs.declared.trees.Lead.{Lead}
use Rattle.sized_nodes.specs.declared.trees.NodeSizes.{NodeSizes}
use Rattle.sized_nodes.specs.declared.trees.NodeSizes.TheVariants as N
use Rattle.sized_nodes.specs.declared.trees.SizedInstance.{SizedInstance}

-- whether both are of one cycle
abbrev pub in_one : Option ℕ → Option ℕ → Bool
in_one (Some c) (Some d) = nat_eq c d
in_one (Some c) None = false
in_one None d = false

abbrev pub alike : Option ℕ → Option ℕ → Bool
alike (Some c) (Some d) = nat_eq c d
alike (Some c) None = false
alike None (Some d) = false
alike None None = true

-- two functions that have these numbers
abbrev pub pair_fits : ℕ → ℕ → Option ℕ → Option ℕ → Bool
pair_fits m n c d = if nat_eq m n then alike c d else not (in_one c d)

-- a function of this number and this cycle beside each of others, and each of some beside each of others
abbrev pub fits_all : ℕ → Option ℕ → List Function → List ℕ → Bool
fits_all n c (g ∷ gs) (m ∷ ms) = pair_fits n m c g.cycle && fits_all n c gs ms
fits_all n c gs ms = true

abbrev pub all_fit : List Function → List ℕ → List Function → List ℕ → Bool
all_fit (f ∷ fs) (n ∷ ns) gs ms = fits_all n f.cycle gs ms && all_fit fs ns gs ms
all_fit fs ns gs ms = true

-- functions of one cycle of the model have one number, those of other cycles and of none have others
pub record CyclesFit (functions : List Function) (numbers : List ℕ) : Type 0 where
  pub many : length numbers ≡ length functions
  pub each : (i j : ℕ) (f g : Function) → slice_get functions i ≡ Some f → slice_get functions j ≡ Some g
      → pair_fits (slice_index_or numbers i 0) (slice_index_or numbers j 0) f.cycle g.cycle ≡ true

-- the number of the function of an instance
abbrev pub number_there : List ℕ → Option SizedInstance → ℕ
number_there numbers (Some x) = slice_index_or numbers x.instance.function 0
number_there numbers None = 0

abbrev pub cycle_at : List ℕ → List SizedInstance → ℕ → ℕ
cycle_at numbers xs i = number_there numbers (slice_get xs i)

-- calls lead to instances with this number or a lower one
abbrev pub leads_fall : List ℕ → List SizedInstance → ℕ → List Lead → Bool
leads_fall numbers xs own [] = true
leads_fall numbers xs own (l ∷ ls) = nat_le (cycle_at numbers xs l.instance) own && leads_fall numbers xs own ls

abbrev pub nodes_fall : List ℕ → List SizedInstance → ℕ → List NodeSizes → Bool
nodes_fall numbers xs own [] = true
nodes_fall numbers xs own (N.Calls k ls ∷ nodes) = leads_fall numbers xs own ls && nodes_fall numbers xs own nodes
nodes_fall numbers xs own (node ∷ nodes) = nodes_fall numbers xs own nodes

abbrev pub bodies_fall : List ℕ → List SizedInstance → ℕ → List (List NodeSizes) → Bool
bodies_fall numbers xs own [] = true
bodies_fall numbers xs own (nodes ∷ bodies) = nodes_fall numbers xs own nodes && bodies_fall numbers xs own bodies

abbrev pub instances_fall : List ℕ → List SizedInstance → List SizedInstance → Bool
instances_fall numbers xs [] = true
instances_fall numbers xs (x ∷ rest) = bodies_fall numbers xs (slice_index_or numbers x.instance.function 0) x.bodies && instances_fall numbers xs rest

-- so do those of a mapping, of which these are the nodes
abbrev pub mapping_falls : List ℕ → List SizedInstance → ℕ → Option (List NodeSizes) → Bool
mapping_falls numbers xs own None = true
mapping_falls numbers xs own (Some nodes) = nodes_fall numbers xs own nodes

-- those of the mappings of these directions; a mapping has two
abbrev pub directions_fall : List ℕ → List SizedInstance → List (List NodeSizes) → ℕ → List ℕ → Bool
directions_fall numbers xs mappings own [] = true
directions_fall numbers xs mappings own (d ∷ ds) = mapping_falls numbers xs own (slice_get mappings (d / 2)) && directions_fall numbers xs mappings own ds

-- those of the directions to which the calls of a function lead, where there is one
abbrev pub turn_falls : List ℕ → List SizedInstance → List (List NodeSizes) → ℕ → Option (List ℕ) → Bool
turn_falls numbers xs mappings own None = true
turn_falls numbers xs mappings own (Some ds) = directions_fall numbers xs mappings own ds

-- and those of the directions to which the calls of these instances lead, by their functions
abbrev pub turns_fall : List ℕ → List SizedInstance → List (List NodeSizes) → List (List ℕ) → List SizedInstance → Bool
turns_fall numbers xs mappings turns [] = true
turns_fall numbers xs mappings turns (x ∷ rest) =
    turn_falls numbers xs mappings (slice_index_or numbers x.instance.function 0) (slice_get turns x.instance.function)
    && turns_fall numbers xs mappings turns rest

-- the functions of a module's cycles have these numbers: they fit the cycles of the model and the calls of its instances, through directions too
pub record NumbersFit (functions : List Function) (xs : List SizedInstance) (mappings : List (List NodeSizes)) (turns : List (List ℕ)) (numbers : List ℕ)
    : Type 0 where
  pub cycles : CyclesFit functions numbers
  pub falls : instances_fall numbers xs xs ≡ true
  pub turns_so : turns_fall numbers xs mappings turns xs ≡ true

-- ---- how the numbers are found: as those of the components of a graph of calls

-- the function of each instance is there, of so many
abbrev pub all_there : ℕ → List SizedInstance → Bool
all_there n [] = true
all_there n (x ∷ xs) = nat_lt x.instance.function n && all_there n xs

-- numbers that no edge raises
abbrev pub Falls : List ℕ → List (List ℕ) → Type 0
Falls numbers graph = (from to : ℕ) → HasEdge graph from to → slice_index_or numbers to 0 ≤ slice_index_or numbers from 0

-- edges come to a graph that raise no numbers of which this holds, and raise all others
pub record Joined (holds : List ℕ → Type 0) (old new : List (List ℕ)) : Type 0 where
  pub many : length new ≡ length old
  pub falls : (numbers : List ℕ) → length numbers ≤ length old → Falls numbers old → holds numbers → Falls numbers new
  pub fell : (numbers : List ℕ) → length numbers ≤ length old → Falls numbers new → Falls numbers old × holds numbers

-- two functions have one number where they are of one cycle of the model
abbrev pub Even : List Function → List ℕ → ℕ → ℕ → Type 0
Even functions numbers i j = (f g : Function) → slice_get functions i ≡ Some f → slice_get functions j ≡ Some g → in_one f.cycle g.cycle ≡ true
    → slice_index_or numbers i 0 ≡ slice_index_or numbers j 0

-- so the i-th and each behind it, up to one; and each of the first ones and all behind it
abbrev pub EvenBehind : List Function → ℕ → ℕ → List ℕ → Type 0
EvenBehind functions i k numbers = (j : ℕ) → i < j → j < k → Even functions numbers i j

abbrev pub AllEven : List Function → ℕ → List ℕ → Type 0
AllEven functions k numbers = (i : ℕ) → i < k → EvenBehind functions i (length functions) numbers

-- a graph of the functions with an edge for each call of an instance, also of those to which directions lead, and edges both ways between those of one cycle
-- of the model
pub record GraphOf (functions : List Function) (xs : List SizedInstance) (mappings : List (List NodeSizes)) (turns : List (List ℕ)) (graph : List (List ℕ))
    : Type 0 where
  pub many : length graph ≡ length functions
  pub falls : (numbers : List ℕ) → length numbers ≤ length graph → instances_fall numbers xs xs ≡ true → turns_fall numbers xs mappings turns xs ≡ true
      → AllEven functions (length functions) numbers → Falls numbers graph
  pub calls : (numbers : List ℕ) → length numbers ≤ length graph → Falls numbers graph → instances_fall numbers xs xs ≡ true
  pub turned : (numbers : List ℕ) → length numbers ≤ length graph → Falls numbers graph → turns_fall numbers xs mappings turns xs ≡ true
  pub even : (numbers : List ℕ) → length numbers ≤ length graph → Falls numbers graph → AllEven functions (length functions) numbers

-- the numbers of its components
pub record NumbersOf (cycles : Cycles) (numbers : List ℕ) : Type 0 where
  pub many : length numbers ≡ node_count cycles
  pub each : (node : ℕ) → node < node_count cycles → slice_index_or numbers node 0 ≡ component_of cycles node

-- where any numbers fit the cycles of the model and the calls of its instances, these do
abbrev pub FitIfAny : List Function → List SizedInstance → List (List NodeSizes) → List (List ℕ) → List ℕ → Type 0
FitIfAny functions xs mappings turns numbers = (others : List ℕ) → NumbersFit functions xs mappings turns others
    → NumbersFit functions xs mappings turns numbers
