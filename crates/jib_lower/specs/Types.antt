-- The types that get a number: those of all that nodes make and take, of what comes in and goes out, and of registers.
use Rattle.std.specs.Prelude.{◌≡◌, ◌≤◌, ℕ, zero, suc, pos, ◌+◌, ◌/◌, Bool, true, ◌&&◌, List, [], ◌∷◌, ◌++◌, Option, Some, None, slice_get}
use Rattle.sail_types.specs.declared.table.Types.{Types}
use Rattle.model_state.specs.declared.state.Register.{Register}
use Rattle.size_values.specs.declared.sized.Sized.{Sized, out-Sized}
use Rattle.size_values.specs.declared.sized.Sized.TheVariants as S
use Rattle.sized_nodes.specs.declared.trees.Case.{Case}
use Rattle.sized_nodes.specs.declared.trees.Lead.{Lead}
use Rattle.sized_nodes.specs.declared.trees.Told.{Told}
use Rattle.sized_nodes.specs.declared.trees.Signature.{Signature}
use Rattle.sized_nodes.specs.declared.trees.NodeSizes.{NodeSizes}
use Rattle.sized_nodes.specs.declared.trees.NodeSizes.TheVariants as N
use Rattle.sized_nodes.specs.declared.trees.SizedInstance.{SizedInstance}
use Rattle.sized_nodes.specs.declared.trees.SizedCore.{SizedCore}
use Rattle.sail_core.specs.declared.model.CoreModel.{CoreModel}
use Rattle.sail_core.specs.declared.model.Direction.{Direction}
use Rattle.lowered_steps.specs.declared.setting.Mapped.{Mapped}
use Rattle.checked_meaning.specs.Items.{fixed_typ}
use Rattle.lowered_types.specs.Table.{all_known, is_known}
use Rattle.lowered_pieces.specs.Arms.{word_width}
use Rattle.lowered_validity.specs.Laws.{sizes_small}
use Rattle.lowered_tables.specs.Built.{sizes_fit, with_numbers}
use Rattle.jib_lower.specs.Entering.{mapped_by}

abbrev pub exception_typ : Option ℕ → Sized
exception_typ (Some u) = S.Named u [] []
exception_typ None = S.Unit

-- widths and lengths that constants may have
abbrev pub all_small : List Sized → Bool
all_small [] = true
all_small (s ∷ ss) = sizes_small (out-Sized s) && all_small ss

-- widths are at most 128, lengths at most 4,096
abbrev pub all_sizes_fit : List Sized → Bool
all_sizes_fit [] = true
all_sizes_fit (s ∷ ss) = sizes_fit (out-Sized s) && all_sizes_fit ss

-- words have at most 128 bits
abbrev pub AllNarrow : List Sized → Type 0
AllNarrow ss = (i : ℕ) (t : Sized) → slice_get ss i ≡ Some t → word_width (out-Sized t) ≤ 128

abbrev pub all_in_cases : List Sized → List Case → Bool
all_in_cases ss [] = true
all_in_cases ss (c ∷ cs) = all_known ss c.takes && (is_known ss c.gives && all_in_cases ss cs)

abbrev pub all_in_leads : List Sized → List Lead → Bool
all_in_leads ss [] = true
all_in_leads ss (x ∷ xs) = all_known ss x.takes && all_in_leads ss xs

abbrev pub all_in_nodes : List Sized → List NodeSizes → Bool
all_in_nodes ss [] = true
all_in_nodes ss (N.Makes k i cs ∷ nodes) = all_in_cases ss cs && all_in_nodes ss nodes
all_in_nodes ss (N.Calls k xs ∷ nodes) = all_in_leads ss xs && all_in_nodes ss nodes
all_in_nodes ss (node ∷ nodes) = all_in_nodes ss nodes

abbrev pub all_in_bodies : List Sized → List (List NodeSizes) → Bool
all_in_bodies ss [] = true
all_in_bodies ss (nodes ∷ bodies) = all_in_nodes ss nodes && all_in_bodies ss bodies

abbrev pub all_in_told : List Sized → List Told → Bool
all_in_told ss [] = true
all_in_told ss (t ∷ ts) = all_in_cases ss t.cases && all_in_told ss ts

abbrev pub in_signature : List Sized → Option Signature → Bool
in_signature ss None = true
in_signature ss (Some s) = all_in_told ss s.parameters && all_in_cases ss s.result.cases

abbrev pub all_in_instances : List Sized → List SizedInstance → Bool
all_in_instances ss [] = true
all_in_instances ss (x ∷ xs) = in_signature ss x.signature && (all_in_bodies ss x.bodies && all_in_instances ss xs)

abbrev pub all_in_registers : Types → List Sized → List Register → Bool
all_in_registers types ss [] = true
all_in_registers types ss (r ∷ rs) = is_known ss (fixed_typ types r.typ) && all_in_registers types ss rs

abbrev pub in_mapping : List Sized → Option (List NodeSizes) → Bool
in_mapping ss None = true
in_mapping ss (Some nodes) = all_in_nodes ss nodes

-- the types of the mappings of directions from the d-th on that have a number of a cycle; a mapping has two
abbrev pub all_in_ways : List Sized → List (List NodeSizes) → ℕ → List Direction → List (Option ℕ) → Bool
all_in_ways ss mappings d [] turned = true
all_in_ways ss mappings d (m ∷ ms) [] = true
all_in_ways ss mappings d (m ∷ ms) (None ∷ turned) = all_in_ways ss mappings (d + 1) ms turned
all_in_ways ss mappings d (m ∷ ms) (Some cycle ∷ turned) = in_mapping ss (slice_get mappings (d / 2)) && all_in_ways ss mappings (d + 1) ms turned

-- ---- the types of a model, in the order in which they get numbers

abbrev pub types_in_cases : List Case → List Sized
types_in_cases [] = []
types_in_cases (c ∷ cs) = c.takes ++ c.gives ∷ types_in_cases cs

abbrev pub types_in_leads : List Lead → List Sized
types_in_leads [] = []
types_in_leads (x ∷ xs) = x.takes ++ types_in_leads xs

abbrev pub types_in_nodes : List NodeSizes → List Sized
types_in_nodes [] = []
types_in_nodes (N.Makes k i cs ∷ nodes) = types_in_cases cs ++ types_in_nodes nodes
types_in_nodes (N.Calls k xs ∷ nodes) = types_in_leads xs ++ types_in_nodes nodes
types_in_nodes (node ∷ nodes) = types_in_nodes nodes

abbrev pub types_in_bodies : List (List NodeSizes) → List Sized
types_in_bodies [] = []
types_in_bodies (nodes ∷ bodies) = types_in_nodes nodes ++ types_in_bodies bodies

abbrev pub types_in_told : List Told → List Sized
types_in_told [] = []
types_in_told (t ∷ ts) = types_in_cases t.cases ++ types_in_told ts

abbrev pub types_in_signature : Option Signature → List Sized
types_in_signature None = []
types_in_signature (Some s) = types_in_told s.parameters ++ types_in_cases s.result.cases

abbrev pub types_in_instances : List SizedInstance → List Sized
types_in_instances [] = []
types_in_instances (x ∷ xs) = types_in_signature x.signature ++ (types_in_bodies x.bodies ++ types_in_instances xs)

abbrev pub types_in_registers : Types → List Register → List Sized
types_in_registers types [] = []
types_in_registers types (r ∷ rs) = fixed_typ types r.typ ∷ types_in_registers types rs

-- words of fewer bits than this
unfoldable pub word_types : ℕ → List Sized
word_types zero = []
word_types (suc n) = S.Bits (pos n) ∷ word_types n

abbrev pub basic_types : Option ℕ → List Sized
basic_types exception = S.Unit ∷ S.Bool ∷ S.Int ∷ exception_typ exception ∷ []

abbrev pub types_in_mapped : Mapped → List Sized
types_in_mapped x = x.takes ∷ x.payload ∷ x.gives ∷ []

abbrev pub types_in_mapping : Option (List NodeSizes) → List Sized
types_in_mapping None = []
types_in_mapping (Some nodes) = types_in_nodes nodes

-- of a direction: those of what calls of it enter, and of the mapping at this place
abbrev pub types_in_way : Types → List (List NodeSizes) → ℕ → Direction → List Sized
types_in_way types mappings at m = types_in_mapped (mapped_by types 0 m) ++ types_in_mapping (slice_get mappings at)

-- of directions from the d-th on that have a number of a cycle
abbrev pub types_in_ways : Types → List (List NodeSizes) → ℕ → List Direction → List (Option ℕ) → List Sized
types_in_ways types mappings d [] turned = []
types_in_ways types mappings d (m ∷ ms) [] = []
types_in_ways types mappings d (m ∷ ms) (None ∷ turned) = types_in_ways types mappings (d + 1) ms turned
types_in_ways types mappings d (m ∷ ms) (Some cycle ∷ turned) =
    types_in_way types mappings (d / 2) m ++ types_in_ways types mappings (d + 1) ms turned

abbrev pub types_in_model : CoreModel → SizedCore → List Sized
types_in_model core sized =
    basic_types core.exception ++ (word_types 129 ++ (types_in_registers core.types core.registers
    ++ (types_in_instances sized.instances ++ types_in_bodies sized.openings)))

-- those of a model beside its directions that have a number, in order: nothing where types are nested too deeply
abbrev pub listed_types : CoreModel → SizedCore → Option (List Sized)
listed_types core sized = with_numbers core.types (S.Never ∷ []) (types_in_model core sized)

-- the types that have a number in a model, in order, where these directions have a number of a cycle
abbrev pub numbered_types : CoreModel → SizedCore → List (Option ℕ) → Option (List Sized)
numbered_types core sized turned =
    with_numbers core.types (S.Never ∷ []) (types_in_model core sized ++ types_in_ways core.types sized.mappings 0 core.directions turned)
