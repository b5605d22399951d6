-- Which directions of mappings are made: those that are asked. And the numbers of their cycles of calls.
use Rattle.std.specs.Prelude.{◌≡◌, ℕ, zero, suc, ◌+◌, ◌/◌, nat_eq, nat_lt, Bool, true, false, ◌&&◌, ◌||◌, List, [], ◌∷◌, ◌++◌, length, map}
use Rattle.std.specs.Prelude.{Option, Some, None, slice_get, if◌then◌else◌}
use Rattle.sail_core.specs.declared.model.CoreModel.{CoreModel}
use Rattle.sail_core.specs.declared.model.Direction.{Direction}
use Rattle.sail_core.specs.declared.model.Function.{Function}
use Rattle.sail_core.specs.declared.patterns.Arm.{Arm}
use Rattle.sail_core.specs.declared.patterns.Step.{Step}
use Rattle.sail_core.specs.declared.patterns.Step.TheVariants as P
use Rattle.sail_core.specs.declared.tree.Callee.{Callee}
use Rattle.sail_core.specs.declared.tree.Callee.TheVariants as F
use Rattle.sail_core.specs.declared.tree.Core.{Core, fold-Core}
use Rattle.sail_core.specs.declared.tree.Kind.{Kind}
use Rattle.sail_core.specs.declared.tree.Kind.TheVariants as K
use Rattle.sail_core.specs.declared.tree.Statement.{Statement}
use Rattle.sail_core.specs.declared.tree.Statement.TheVariants as S
use Rattle.sized_nodes.specs.declared.trees.Lead.{Lead}
use Rattle.sized_nodes.specs.declared.trees.NodeSizes.{NodeSizes}
use Rattle.sized_nodes.specs.declared.trees.NodeSizes.TheVariants as N
use Rattle.sized_nodes.specs.declared.trees.SizedCore.{SizedCore}
use Rattle.sized_nodes.specs.declared.trees.SizedInstance.{SizedInstance}
use Rattle.lowered_pieces.specs.Arms.{steps_in}
use Rattle.lowered_pieces.specs.Functions.{measure_of}
use Rattle.lowered_laws.specs.Returning.{returns_nothing}
use Rattle.jib_lower.specs.Cycles.{cycle_at, mapping_falls}

-- ---- the directions that are asked: by calls, and by patterns

abbrev pub called_as : Callee → List ℕ
called_as (F.Applies d) = d ∷ []
called_as callee = []

abbrev pub seen_as : Step → List ℕ
seen_as (P.Sees i d) = d ∷ []
seen_as step = []

abbrev pub seen_in : List Step → List ℕ
seen_in [] = []
seen_in (s ∷ ss) = seen_as s ++ seen_in ss

abbrev pub seen_by : List Arm → List ℕ
seen_by [] = []
seen_by (arm ∷ arms) = seen_in (steps_in arm) ++ seen_by arms

-- in the patterns of statements
abbrev pub stated_as : Statement → List ℕ
stated_as (S.Define place arm) = seen_in (steps_in arm)
stated_as statement = []

abbrev pub stated_in : List Statement → List ℕ
stated_in [] = []
stated_in (s ∷ ss) = stated_as s ++ stated_in ss

abbrev pub asked_here : Kind → List ℕ
asked_here (K.Call callee) = called_as callee
asked_here (K.Let arm) = seen_in (steps_in arm)
asked_here (K.Match arms shape) = seen_by arms
asked_here (K.Try arms shape) = seen_by arms
asked_here (K.Clauses arms) = seen_by arms
asked_here (K.Block statements) = stated_in statements
asked_here kind = []

abbrev pub joined : List (List ℕ) → List ℕ
joined [] = []
joined (ds ∷ rest) = ds ++ joined rest

-- in a tree, in order
abbrev pub asked_in : Core → List ℕ
asked_in = fold-Core (List ℕ) (λ c. asked_here c.kind ++ joined c.parts)

abbrev pub asked_if : Option Core → List ℕ
asked_if None = []
asked_if (Some c) = asked_in c

-- in a function, its measure with it where it is in a cycle
abbrev pub asked_by : Function → List ℕ
asked_by f = asked_in f.body ++ asked_if (measure_of f.cycle f.measure)

-- in each direction
abbrev pub calls_of : List Direction → List (List ℕ)
calls_of ms = map (λ m. asked_in m.body) ms

-- ---- and those that these lead to

abbrev pub is_in : ℕ → List ℕ → Bool
is_in d [] = false
is_in d (x ∷ xs) = nat_eq d x || is_in d xs

abbrev pub with_one : ℕ → List ℕ → List ℕ
with_one d seen = if is_in d seen then seen else seen ++ d ∷ []

-- directions come behind others, each once
abbrev pub with_all : List ℕ → List ℕ → List ℕ
with_all [] seen = seen
with_all (d ∷ ds) seen = with_all ds (with_one d seen)

abbrev pub list_at : Option (List ℕ) → List ℕ
list_at None = []
list_at (Some ds) = ds

-- so those that these ask
abbrev pub with_behind : List (List ℕ) → List ℕ → List ℕ → List ℕ
with_behind calls [] seen = seen
with_behind calls (d ∷ ds) seen = with_behind calls ds (with_all (list_at (slice_get calls d)) seen)

-- until there are no more, in at most so many steps
abbrev pub reached : List (List ℕ) → ℕ → List ℕ → List ℕ
reached calls zero seen = seen
reached calls (suc n) seen =
    if nat_eq (length (with_behind calls seen seen)) (length seen) then seen else reached calls n (with_behind calls seen seen)

-- each step but the last finds one of the directions that are there, and one may be none of them: so there are no more steps than these
abbrev pub leads_from : List (List ℕ) → List ℕ → List ℕ
leads_from calls ds = reached calls (length calls + 1) (with_all ds [])

-- by functions
abbrev pub turns_by : List (List ℕ) → List Function → List (List ℕ)
turns_by calls fs = map (λ f. leads_from calls (asked_by f)) fs

abbrev pub turns_of : CoreModel → List (List ℕ)
turns_of core = turns_by (calls_of core.directions) core.functions

-- by the functions of all instances
abbrev pub wanted_by : List (List ℕ) → List SizedInstance → List ℕ → List ℕ
wanted_by turns [] seen = seen
wanted_by turns (x ∷ xs) seen = wanted_by turns xs (with_all (list_at (slice_get turns x.instance.function)) seen)

-- ---- the numbers of cycles

abbrev pub higher : ℕ → ℕ → ℕ
higher a b = if nat_lt a b then b else a

-- the highest number of an instance to which calls of these nodes lead
abbrev pub highest_lead : List ℕ → List SizedInstance → List Lead → ℕ
highest_lead numbers xs [] = 0
highest_lead numbers xs (l ∷ ls) = higher (cycle_at numbers xs l.instance) (highest_lead numbers xs ls)

abbrev pub highest_in : List ℕ → List SizedInstance → List NodeSizes → ℕ
highest_in numbers xs [] = 0
highest_in numbers xs (N.Calls k ls ∷ nodes) = higher (highest_lead numbers xs ls) (highest_in numbers xs nodes)
highest_in numbers xs (node ∷ nodes) = highest_in numbers xs nodes

abbrev pub highest_at : List ℕ → List SizedInstance → Option (List NodeSizes) → ℕ
highest_at numbers xs None = 0
highest_at numbers xs (Some nodes) = highest_in numbers xs nodes

-- so of the nodes of the mappings of these directions
abbrev pub highest_of : List ℕ → List SizedInstance → List (List NodeSizes) → List ℕ → ℕ
highest_of numbers xs mappings [] = 0
highest_of numbers xs mappings (d ∷ ds) = higher (highest_at numbers xs (slice_get mappings (d / 2))) (highest_of numbers xs mappings ds)

-- the number of a direction is the highest one to which its calls lead, also through other directions; it has one where it is made
abbrev pub turned_as : List ℕ → List SizedInstance → List (List NodeSizes) → List (List ℕ) → List ℕ → ℕ → List ℕ → Option ℕ
turned_as numbers xs mappings calls wanted d ds =
    if is_in d wanted then Some (highest_of numbers xs mappings (d ∷ leads_from calls ds)) else None

-- of the directions from the d-th on, each of which asks these
abbrev pub turned_from : List ℕ → List SizedInstance → List (List NodeSizes) → List (List ℕ) → List ℕ → ℕ → List (List ℕ) → List (Option ℕ)
turned_from numbers xs mappings calls wanted d [] = []
turned_from numbers xs mappings calls wanted d (ds ∷ rest) =
    turned_as numbers xs mappings calls wanted d ds ∷ turned_from numbers xs mappings calls wanted (d + 1) rest

-- of all directions of a model, of the functions of which these are the numbers
abbrev pub turned_by : CoreModel → SizedCore → List ℕ → List (Option ℕ)
turned_by core sized numbers =
    turned_from numbers sized.instances sized.mappings (calls_of core.directions) (wanted_by (turns_of core) sized.instances []) 0
    (calls_of core.directions)

-- the calls of the mapping of a direction that has a number lead to instances with this one or a lower one
abbrev pub way_falls : List ℕ → List SizedInstance → Option (List NodeSizes) → Option ℕ → Bool
way_falls numbers xs nodes None = true
way_falls numbers xs nodes (Some own) = mapping_falls numbers xs own nodes

-- so of each direction from the d-th on
abbrev pub ways_fall : List ℕ → List SizedInstance → List (List NodeSizes) → ℕ → List (Option ℕ) → Bool
ways_fall numbers xs mappings d [] = true
ways_fall numbers xs mappings d (own ∷ turned) = way_falls numbers xs (slice_get mappings (d / 2)) own && ways_fall numbers xs mappings (d + 1) turned

-- nothing in the body of a direction returns
abbrev pub AllStay : List Direction → Type 0
AllStay directions = (d : ℕ) (m : Direction) → slice_get directions d ≡ Some m → returns_nothing m.body ≡ true
