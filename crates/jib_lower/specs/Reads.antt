-- The types at which a function's variables are read: of each name what the cases of the nodes that read it give.
use Rattle.std.specs.Prelude.{ℕ, Bool, false, ◌||◌, List, [], ◌∷◌, ◌++◌, Option, Some, None, if◌then◌else◌}
use Rattle.std.specs.Str.{bytes_eq}
use Rattle.sail_core.specs.declared.tree.Core.{Core, fold-Core}
use Rattle.sail_core.specs.declared.tree.Kind.{Kind}
use Rattle.sail_core.specs.declared.tree.Kind.TheVariants as K
use Rattle.sail_core.specs.declared.model.Function.{Function}
use Rattle.size_values.specs.declared.sized.Sized.{Sized}
use Rattle.sized_nodes.specs.declared.trees.Case.{Case}
use Rattle.sized_nodes.specs.declared.trees.NodeSizes.{NodeSizes}
use Rattle.sized_meanings.specs.Sized.{joined_nodes}
use Rattle.lowered_pieces.specs.Functions.{measure_of}
use Rattle.lowered_pieces.specs.Tables.{is_among}
use Rattle.lowered_pieces.specs.Nodes.{cases_at}
use Rattle.lowered_steps.specs.declared.setting.Reads.{Reads}
use Rattle.jib_lower.specs.declared.reads.Reading.{Reading}

-- ---- the nodes that read variables

-- by the variable's name and the node's number
pub record Read : Type 0 where
  pub name : List ℕ
  pub node : ℕ

abbrev pub read_of : Reading → Read
read_of r = record { name = r.name.now; node = r.node }

abbrev pub read_here : ℕ → Kind → List Read
read_here k (K.Variable name) = record { name = name; node = k } ∷ []
read_here k kind = []

abbrev pub joined : List (List Read) → List Read
joined [] = []
joined (rs ∷ rest) = rs ++ joined rest

-- of a tree, in order
abbrev pub read_in : Core → List Read
read_in = fold-Core (List Read) (λ c. read_here c.number c.kind ++ joined c.parts)

abbrev pub read_by : Option Core → List Read
read_by None = []
read_by (Some c) = read_in c

-- ---- the types at which they read

-- types come behind others, each once
abbrev pub with_cases : List Case → List Sized → List Sized
with_cases [] us = us
with_cases (c ∷ cs) us = with_cases cs (if is_among c.gives us then us else us ++ c.gives ∷ [])

abbrev pub with_read : List NodeSizes → List ℕ → List Read → List Sized → List Sized
with_read nodes name [] us = us
with_read nodes name (r ∷ rs) us = with_read nodes name rs (if bytes_eq r.name name then with_cases (cases_at r.node 0 nodes) us else us)

abbrev pub is_told : List ℕ → List Reads → Bool
is_told name [] = false
is_told name (t ∷ ts) = bytes_eq t.name name || is_told name ts

-- a name comes behind others, where it isn't among them, with all its types
abbrev pub with_name : List NodeSizes → List Read → List ℕ → List Reads → List Reads
with_name nodes all name told = if is_told name told then told else told ++ record { name = name; types = with_read nodes name all [] } ∷ []

abbrev pub with_names : List NodeSizes → List Read → List Read → List Reads → List Reads
with_names nodes all [] told = told
with_names nodes all (r ∷ rs) told = with_names nodes all rs (with_name nodes all r.name told)

abbrev pub types_read : List (List NodeSizes) → List Read → List Reads
types_read bodies rs = with_names (joined_nodes bodies) rs rs []

abbrev pub tree_reads : List (List NodeSizes) → Core → List Reads
tree_reads bodies c = types_read bodies (read_in c)

-- those of a function, its measure with it where it is in a cycle
abbrev pub function_reads : List (List NodeSizes) → Function → List Reads
function_reads bodies f = types_read bodies (read_in f.body ++ read_by (measure_of f.cycle f.measure))
