-- Which functions and mappings reach themselves: functions in a cycle of calls have measures (M12), and no mapping reaches itself
-- through patterns (M24) (Sail language manual, "Functions", "Mappings", "Termination measures").
use Rattle.std.specs.Prelude.{◌≡◌, ℕ, ◌+◌, ◌<◌, Bool, false, ◌&&◌, not, nat_eq, nat_lt, if◌then◌else◌, Option, Some, None, is_some, IsSome, ◌↔◌}
use Rattle.std.specs.Prelude.{List, [], ◌∷◌, ◌++◌, map, length, filter, flat_map}
use Rattle.std.specs.Bool.{Decides}
use Rattle.sail_syntax.specs.declared.expressions.Exp.{Exp}
use Rattle.sail_syntax.specs.declared.definitions.Side.{Side}
use Rattle.sail_syntax.specs.declared.definitions.FunctionClause.{FunctionClause}
use Rattle.sail_syntax.specs.declared.definitions.MappingClause.{MappingClause}
use Rattle.sail_syntax.specs.declared.definitions.Def.{Def}
use Rattle.sail_syntax.specs.declared.definitions.Def.TheVariants as D
use Rattle.call_graph.specs.declared.found.Cycles.{Cycles}
use Rattle.call_graph.specs.Components.{node_count, cycle_of}
use Rattle.call_graph.specs.Graphs.{successors, IsInCycle, AreInOneCycle}
use Rattle.sail_kinds.specs.declared.error.TableError.{TableError}
use Rattle.sail_kinds.specs.declared.error.TableError.TheVariants as error
use Rattle.sail_names.specs.declared.names.Global.{Global}
use Rattle.sail_names.specs.declared.names.Global.TheVariants as G
use Rattle.sail_cycles.specs.declared.expressions.Which.{Which}
use Rattle.sail_cycles.specs.declared.expressions.Which.TheVariants.{CallsAndPatterns, Patterns}
use Rattle.sail_names.specs.Known.{Known}
use Rattle.sail_cycles.specs.Callees.{pattern_callees, expression_callees}
use Rattle.sail_signatures.specs.Parts.{parts_of}

-- ---- what a body can enter

abbrev pub maybe_callees : Which → Known → Option Exp → List ℕ
maybe_callees which known None = []
maybe_callees which known (Some e) = expression_callees which known e

abbrev pub clause_callees : Which → Known → FunctionClause → List ℕ
clause_callees which known clause = flat_map (pattern_callees known) clause.parameters ++ expression_callees which known clause.body

abbrev pub side_callees : Which → Known → Side → List ℕ
side_callees which known side = pattern_callees known side.pattern ++ maybe_callees which known side.guard

abbrev pub mapping_clause_callees : Which → Known → MappingClause → List ℕ
mapping_clause_callees which known clause = side_callees which known clause.left ++ side_callees which known clause.right

-- of functions and mappings those of all calls and patterns; of mappings by themselves those of patterns, also inside their guards, but
-- of nothing that a guard calls
abbrev pub callees : Which → Known → Def → List ℕ
callees CallsAndPatterns known (D.Function place extent name clauses) = flat_map (clause_callees CallsAndPatterns known) clauses
callees which known (D.Mapping place name sides clauses) = flat_map (mapping_clause_callees which known) clauses
callees which known d = []

-- ---- the graph

-- the number of a function or mapping: the position of the first definition that takes its name
abbrev pub number_named : Option Global → Option ℕ
number_named (Some (G.Function number)) = Some number
number_named (Some (G.Mapping number)) = Some number
number_named global = None

abbrev pub own_number : Known → Def → Option ℕ
own_number known (D.Function place extent name clauses) = number_named (known.value name.text)
own_number known (D.Mapping place name sides clauses) = number_named (known.value name.text)
own_number known d = None

-- an edge from the number of a function or mapping to that of one that its body can enter
abbrev pub Edge : Type 0
Edge = ℕ × ℕ

abbrev pub edges_to : Option ℕ → List ℕ → List Edge
edges_to None numbers = []
edges_to (Some from) numbers = map (λ to. (from, to)) numbers

abbrev pub edges : Which → Known → Def → List Edge
edges which known d = edges_to (own_number known d) (callees which known d)

abbrev pub all_edges : Which → Known → List Def → List Edge
all_edges which known text = flat_map (edges which known) text

-- the nodes to which the edges from a node lead, of so many nodes
abbrev pub targets : ℕ → List Edge → ℕ → List ℕ
targets count all node = filter (λ to. nat_lt to count) (map (λ edge. edge.1) (filter (λ edge. nat_eq edge.0 node) all))

-- so many nodes from one on, each with the nodes to which its edges lead
abbrev pub nodes_from : {A : Type 0} → ℕ → List Edge → ℕ → List A → List (List ℕ)
nodes_from count all node [] = []
nodes_from count all node (x ∷ xs) = targets count all node ∷ nodes_from count all (node + 1) xs

-- a node for each definition of a text
abbrev pub graph_of : Which → Known → List Def → List (List ℕ)
graph_of which known text = nodes_from (length text) (all_edges which known text) 0 text

abbrev pub call_graph : Known → List Def → List (List ℕ)
call_graph known text = graph_of CallsAndPatterns known text

abbrev pub pattern_graph : Known → List Def → List (List ℕ)
pattern_graph known text = graph_of Patterns known text

-- ---- cycles

-- a test tells which nodes of a graph reach themselves
abbrev pub TellsCycles : List (List ℕ) → (ℕ → Bool) → Type 0
TellsCycles graph test = (node : ℕ) → Decides (test node) (IsInCycle graph node)

-- each node has the number of its cycle, where it lies in one
pub record AreCyclesOf (graph : List (List ℕ)) (cycles : Cycles) : Type 0 where
  pub nodes : node_count cycles ≡ length graph
  pub some : (node : ℕ) → node < length graph → IsSome (cycle_of cycles node) ↔ IsInCycle graph node
  pub same : (left right : ℕ) → left < length graph → right < length graph → IsInCycle graph left
      → (cycle_of cycles left ≡ cycle_of cycles right) ↔ AreInOneCycle graph left right

abbrev pub is_cyclic_at : Cycles → ℕ → Bool
is_cyclic_at cycles node = nat_lt node (node_count cycles) && is_some (cycle_of cycles node)

-- ---- failures

abbrev pub has_measure : List Def → List ℕ → Bool
has_measure text name = is_some (parts_of text name).measure

abbrev pub reaches_itself : (ℕ → Bool) → Option ℕ → Bool
reaches_itself test None = false
reaches_itself test (Some number) = test number

-- the failure of a definition, where these numbers reach themselves, by calls and patterns or by patterns alone
abbrev pub cycle_failures : List Def → Known → (ℕ → Bool) → (ℕ → Bool) → Def → List TableError
cycle_failures text known is_cyclic is_pattern_cyclic (D.Function place extent name clauses) =
    if reaches_itself is_cyclic (number_named (known.value name.text)) && not (has_measure text name.text)
    then error.MeasureMissing place name.text ∷ [] else []
cycle_failures text known is_cyclic is_pattern_cyclic (D.Mapping place name sides clauses) =
    if reaches_itself is_pattern_cyclic (number_named (known.value name.text)) then error.MappingCycle place name.text ∷ [] else []
cycle_failures text known is_cyclic is_pattern_cyclic d = []

-- those of definitions of a text
abbrev pub all_cycle_failures : List Def → Known → (ℕ → Bool) → (ℕ → Bool) → List Def → List TableError
all_cycle_failures text known is_cyclic is_pattern_cyclic definitions =
    flat_map (cycle_failures text known is_cyclic is_pattern_cyclic) definitions

-- ---- what the code holds on the way

-- a graph has these edges
abbrev pub HasEdges : List Edge → List (List ℕ) → Type 0
HasEdges all graph = (node : ℕ) → node < length graph → successors graph node ≡ targets (length graph) all node
