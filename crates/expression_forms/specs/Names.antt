-- Literals, and names that are read (Sail language manual, "Literals", "Variables and assignment", "Registers").
use Rattle.std.specs.Prelude.{List, None, Option, Some, length, pos, ℕ, [], ◌∷◌}
use Rattle.sail_base.specs.declared.place.Place.{Place}
use Rattle.sail_types.specs.Sums.{constant}
use Rattle.sail_types.specs.declared.numbers.Con.TheVariants as C
use Rattle.sail_types.specs.declared.shapes.Shape.TheVariants as V
use Rattle.sail_types.specs.declared.table.Types.{Types}
use Rattle.model_state.specs.declared.state.Register.{Register}
use Rattle.sail_core.specs.declared.patterns.Literal.{Literal}
use Rattle.sail_core.specs.declared.patterns.Literal.TheVariants as L
use Rattle.value_indices.specs.Opening.{opened_for}
use Rattle.value_indices.specs.Steps.{Walk, bind, give}
use Rattle.value_indices.specs.declared.indices.Indices.{Indices}
use Rattle.value_indices.specs.declared.indices.Indices.TheVariants as I
use Rattle.value_indices.specs.declared.indices.Indices.TheOpen as W
use Rattle.value_indices.specs.declared.indices.Indices.TheOpen.{Reading-F}
use Rattle.value_indices.specs.declared.indices.Naming.TheVariants as M
use Rattle.value_indices.specs.declared.indices.Reading.{Reading, out-Reading}
use Rattle.value_indices.specs.declared.indices.Reading.TheVariants as R
use Rattle.value_indices.specs.declared.notes.Made.TheVariants as Makes
use Rattle.wide_types.specs.Widening.{filled}
use Rattle.pattern_leaves.specs.declared.names.Held.{Held}
use Rattle.pattern_leaves.specs.declared.names.Held.TheVariants as H
use Rattle.pattern_leaves.specs.declared.names.TopLevel.{TopLevel}
use Rattle.pattern_leaves.specs.declared.names.TopLevel.TheVariants as T
use Rattle.call_notes.specs.Ends.{sized_by, wrong_value}
use Rattle.call_notes.specs.Noted.{node_ended, node_made}

abbrev pub literal_indices : Literal → Indices
literal_indices L.Unit = I.Unit
literal_indices (L.Integer z) = I.Integer (constant z)
literal_indices (L.Truth b) = I.Truth (C.Truth b)
literal_indices (L.Bit b) = I.Bit
literal_indices (L.Bits bits) = I.Bits (constant (pos (length bits)))
literal_indices (L.String text) = I.String
literal_indices (L.Member e k) = I.Named e [] []

-- a value of this type, opened for this name; its sizes are read before
abbrev pub named_opened : Place → List ℕ → Reading → Walk Indices
named_opened place name r = bind (sized_by place r) (λ t. opened_for (M.Named name) r)

-- the same where the node of a number reads it
abbrev pub named_read : Place → ℕ → List ℕ → Reading → Walk Indices
named_read place k name r = bind (node_made k [] (Makes.ByType r)) (λ t. named_opened place name r)

-- a name in scope: of a `let`, and of a `var`
abbrev pub local_walk : Place → ℕ → Option Held → Walk Indices
local_walk place k (Some (H.Value i)) = node_ended k (i ∷ []) i
local_walk place k held = wrong_value place

abbrev pub variable_walk : Place → ℕ → List ℕ → Option Held → Walk Indices
variable_walk place k name (Some (H.Var r)) = named_read place k name r
variable_walk place k name held = wrong_value place

-- the type of a top-level `let` where it is read: a number of a type that is found names the `let`'s own variables, unless it is constant,
-- and is any number elsewhere; a type that is written names none
abbrev pub read_form : Types → Reading → Reading-F Indices Reading → Walk Reading
read_form types r (W.Widened i) = filled types 0 V.Hole i
read_form types r form = give r

abbrev pub type_read : Types → Reading → Walk Reading
type_read types r = read_form types r (out-Reading r)

abbrev pub made_read : ℕ → List ℕ → Reading → Walk Indices
made_read k name r = bind (node_made k [] (Makes.ByType r)) (λ t. opened_for (M.Named name) r)

abbrev pub read_opened : Types → ℕ → List ℕ → Reading → Walk Indices
read_opened types k name r = bind (type_read types r) (made_read k name)

-- a name that a top-level `let` bound
abbrev pub top_level_walk : Types → Place → ℕ → Option TopLevel → Walk Indices
top_level_walk types place k None = wrong_value place
top_level_walk types place k (Some (T.Known i)) = node_ended k [] i
top_level_walk types place k (Some (T.Read name r)) = read_opened types k name r

abbrev pub register_type : Register → Reading
register_type r = R.Of r.typ [] []

abbrev pub register_walk : Place → ℕ → Option Register → Walk Indices
register_walk place k None = wrong_value place
register_walk place k (Some r) = named_read place k r.name (register_type r)
