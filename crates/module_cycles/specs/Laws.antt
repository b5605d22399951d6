-- Cycles of calls of the module of a model.
use Rattle.std.specs.Prelude.{◌≡◌, ℕ, ◌+◌, ◌-◌, ◌*◌, ◌/◌, Bool, List, [], ◌∷◌, length, Option, Some, None, slice_get, slice_index_or}
use Rattle.sail_core.specs.declared.model.CoreModel.{CoreModel}
use Rattle.sized_nodes.specs.declared.trees.NodeSizes.{NodeSizes}
use Rattle.sized_nodes.specs.declared.trees.SizedCore.{SizedCore}
use Rattle.sized_nodes.specs.declared.trees.SizedInstance.{SizedInstance}
use Rattle.sized_meanings.specs.Sized.{joined_nodes}
use Rattle.jib.specs.declared.code.Module.{Module}
use Rattle.lowered_pieces.specs.Nodes.{awaited_in, function_in, leads_at}
use Rattle.lowered_steps.specs.Setting.{direction_in}
use Rattle.lowered_laws.specs.Modules.{Agrees, Made}
use Rattle.lowered_typed.specs.Judging.{turned_in}
use Rattle.jib_lower.specs.Lowered.{FlatFrom}

-- ---- what stands at a place: an instance, or behind all instances a direction of a mapping, where it is made

abbrev pub way_nodes : Option (Option ℕ) → Option (List NodeSizes) → List NodeSizes
way_nodes (Some (Some cycle)) (Some nodes) = joined_nodes (nodes ∷ [])
way_nodes turned nodes = []

abbrev pub way_cycle : Option (Option ℕ) → ℕ
way_cycle (Some (Some cycle)) = cycle
way_cycle turned = 0

-- its nodes; a mapping has two directions
abbrev pub nodes_by : SizedCore → List (Option ℕ) → ℕ → Option SizedInstance → List NodeSizes
nodes_by sized turned d None = way_nodes (slice_get turned d) (slice_get sized.mappings (d / 2))
nodes_by sized turned d (Some x) = joined_nodes x.bodies

-- and the number of its cycle
abbrev pub cycle_by : List ℕ → List (Option ℕ) → ℕ → Option SizedInstance → ℕ
cycle_by cycles turned d None = way_cycle (slice_get turned d)
cycle_by cycles turned d (Some x) = slice_index_or cycles x.instance.function 0

module _ (core : CoreModel) (sized : SizedCore) (m : Module) (low : FlatFrom core sized m) where
  abbrev pub nodes_of : ℕ → List NodeSizes
  nodes_of p = nodes_by sized low.model.turned.now (p - length sized.instances) (slice_get sized.instances p)

  abbrev pub cycle_there : ℕ → ℕ
  cycle_there p = cycle_by low.called.cycles low.model.turned.now (p - length sized.instances) (slice_get sized.instances p)

  -- the directions that it may call or ask
  abbrev pub may_cross : ℕ → ℕ → Bool
  may_cross p d = turned_in (cycle_there p) (slice_get low.model.turned.now d)

  -- the module is that of a model, and the nodes of what stands at a place are those of its bodies
  pub record OfModel (x : Made) : Type 0 where
    pub module_is : x.m ≡ m
    pub functions : x.s.functions ≡ core.functions
    pub function : (p : ℕ) → x.function p ≡ length low.ways + 2 * p
    pub leads : (p k : ℕ) → (x.tables p).leads k ≡ leads_at k (nodes_of p)
    pub of : (p q : ℕ) → (x.tables p).of q ≡ function_in (slice_get sized.instances q)
    pub awaits : (p q : ℕ) → (x.tables p).awaits q ≡ awaited_in (slice_get sized.instances q)
    pub direction : (d : ℕ) → x.direction d ≡ direction_in (slice_get low.model.directions.now d)
    pub way : (d : ℕ) → x.way d ≡ length sized.instances + d
    pub crosses : (p d : ℕ) → x.crosses p d ≡ may_cross p d

abbrev pub ModelsAgree : Type 0
ModelsAgree = (core : CoreModel) (sized : SizedCore) (m : Module) (x : Made) → (low : FlatFrom core sized m) → OfModel core sized m low x → Agrees x
