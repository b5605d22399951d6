-- Laws of the code of forms.
use Rattle.std.specs.Prelude.{◌≡◌, ◌≤◌, ℕ, true, List, [], Option, option_map}
use Rattle.sail_base.specs.declared.place.Place.{Place as TextPlace}
use Rattle.sail_types.specs.declared.table.Types.{Types}
use Rattle.size_values.specs.declared.sized.Sized.{Sized}
use Rattle.sail_core.specs.declared.patterns.Arm.{Arm}
use Rattle.sail_core.specs.declared.tree.Core.{Core}
use Rattle.sail_core.specs.Making.{World}
use Rattle.sail_core.specs.Meaning.{meaning}
use Rattle.checked_meaning.specs.Items.{Item}
use Rattle.lowered_pieces.specs.Places.{Kit}
use Rattle.lowered_laws.specs.CodeLaws.{Own, sets}
use Rattle.lowered_pieces.specs.Tables.{Tables}
use Rattle.lowered_pieces.specs.Forms.{Stand, Tail, Piece, Callees, cast_piece}
use Rattle.lowered_pieces.specs.Functions.{called_code, event_code}
use Rattle.lowered_pieces.specs.Lowering.{piece, is_lowered}
use Rattle.lowered_pieces.specs.Openings.{named_piece}
use Rattle.lowered_laws.specs.Simulation.{AtWork, kit, reading, Good, Around, CallsOk}

-- the code of a node does what the node means, where each call with fewer ticks goes well: for the kinds that are lowered here
abbrev pub NodesSimulate : Type 0
NodesSimulate = (g : AtWork) (callees : Callees) (w : World Item) → CallsOk g callees w → Around g callees w
    → (c : Core) → is_lowered g.table (kit g) g.number callees g.tables c ≡ true
    → Good g (meaning (reading g) w c) (piece g.table (kit g) g.number callees g.tables c)

-- the code of a tail sets labels of its own alone, each at most once
abbrev pub OwnTail : Tail → Type 0
OwnTail tail = (t : Sized) → Own (tail.code t) tail.labels

-- so does the code of a node, with its tail's among them
abbrev pub NodesOwnLabels : Type 0
NodesOwnLabels = (types : Types) (kit : Kit) (number : Sized → ℕ) (callees : Callees) (tables : Tables) (c : Core) (tail : Tail) → OwnTail tail
    → (s : Stand) → Own ((piece types kit number callees tables c).ended tail s) ((piece types kit number callees tables c).labels tail.labels)

-- a function's body at the node of its result
abbrev pub result_of : Types → Kit → (Sized → ℕ) → Callees → Tables → ℕ → Core → Piece
result_of types kit number callees tables last body =
    cast_piece kit number (tables.cases last 1) (tables.gives last) (piece types kit number callees tables body)

-- the code of a function that calls enter, and of one that events enter, sets each label at most once
abbrev pub FunctionsOwnLabels : Type 0
FunctionsOwnLabels = (types : Types) (kit : Kit) (number : Sized → ℕ) (callees : Callees) (tables : Tables) (place : TextPlace) (measure : Option Core)
    (last : ℕ) (body : Core) (k : ℕ)
    → (sets k (called_code kit place (option_map (piece types kit number callees tables) measure) (result_of types kit number callees tables last body)) ≤ 1)
    × (sets k (event_code kit place (result_of types kit number callees tables last body)) ≤ 1)

-- so does the code of the initial value of a register and of a top-level let, and of each name that such a let binds
abbrev pub OpeningsOwnLabels : Type 0
OpeningsOwnLabels = (types : Types) (kit : Kit) (place : TextPlace) (k : ℕ)
    → ((number : Sized → ℕ) (callees : Callees) (tables : Tables) (value : Core)
    → sets k (event_code kit place (piece types kit number callees tables value)) ≤ 1)
    × ((i : ℕ) (whole : Sized) (arm : Arm) (text : List ℕ) (u : Sized) → sets k (event_code kit place (named_piece types kit [] place i whole arm text u)) ≤ 1)
