-- Laws of what lowered code keeps of the rules of a valid module.
use Rattle.std.specs.Prelude.{◌≡◌, ℕ, ◌-◌, ◌≤◌, ◌&&◌, Bool, true, false, List, [], ◌∷◌, Option, Some, length, nat_eq, option_map, slice_get}
use Rattle.sail_base.specs.declared.place.Place.{Place as TextPlace}
use Rattle.sail_types.specs.Limits.{is_small}
use Rattle.sail_types.specs.declared.table.Types.{Types}
use Rattle.sail_types.specs.declared.types.Typ.TheVariants as T
use Rattle.size_values.specs.declared.sized.Sized.{Sized, Sized-F, out-Sized}
use Rattle.size_values.specs.declared.sized.Sized.TheOpen as Z
use Rattle.sail_core.specs.declared.patterns.Arm.{Arm}
use Rattle.sail_core.specs.declared.tree.Core.{Core}
use Rattle.value_indices.specs.declared.indices.Indices.{Indices}
use Rattle.sail_core.specs.Values.{int_typ}
use Rattle.checked_meaning.specs.Items.{fixed_typ}
use Rattle.jib.specs.declared.code.Instruction.{Instruction}
use Rattle.jib.specs.declared.code.Function.{Function}
use Rattle.jib.specs.declared.code.Module.{Module}
use Rattle.jib.specs.Operands.{each}
use Rattle.jib.specs.Typing.{same}
use Rattle.jib.specs.Valid.{instruction_right, is_end}
use Rattle.lowered_types.specs.Table.{is_known, type_in}
use Rattle.lowered_pieces.specs.Places.{Naming, Kit}
use Rattle.lowered_pieces.specs.Emitted.{UsesBelow}
use Rattle.lowered_pieces.specs.Openings.{named_piece}
use Rattle.lowered_pieces.specs.Functions.{all_in, called_code, direction_code, event_code}
use Rattle.lowered_pieces.specs.Tables.{Tables}
use Rattle.lowered_pieces.specs.Forms.{Callees, Piece, cast_piece}
use Rattle.lowered_pieces.specs.Lowering.{kit_of, piece}
use Rattle.lowered_laws.specs.CodeLaws.{sets}
use Rattle.lowered_validity.specs.Right.{Labels, Placed, Right, RightPiece, Signs}
use Rattle.lowered_validity.specs.Typing.{Typing, are_of, arm_right, result_right, typing}

-- widths and lengths that constants may have
abbrev pub sizes_small : Sized-F Sized → Bool
sizes_small (Z.Bits n) = is_small n
sizes_small (Z.Vector n s) = is_small n
sizes_small s = true

-- the types that have a number, among them those that every model has
pub record Numbered (types : Types) (tables : Tables) (ss : List Sized) : Type 0 where
  pub known : (t : Sized) → tables.known t ≡ true → is_known ss t ≡ true
  pub unit : is_known ss (fixed_typ types T.Unit) ≡ true
  pub truth : is_known ss (fixed_typ types T.Bool) ≡ true
  pub integer : is_known ss (fixed_typ types int_typ) ≡ true
  pub small : (t : Sized) → is_known ss t ≡ true → sizes_small (out-Sized t) ≡ true

-- the code of a node of which it is decided that it has its types keeps the rules, wherever it stands in its function
abbrev pub NodesAreRight : Type 0
NodesAreRight = (types : Types) (ss : List Sized) (callees : Callees) (tables : Tables) (g : Signs) (m : Module) (f : Function) (n : ℕ) (name : Naming)
    → Placed types ss (type_in ss) callees m f n name g → Numbered types tables ss
    → (c : Core) → (typing types (type_in ss) callees tables g c).right ≡ true
    → RightPiece m f n (piece types (kit_of types name (type_in ss) g.exception callees.size callees.direction) (type_in ss) callees tables c)
    (typing types (type_in ss) callees tables g c).types

-- ---- functions

abbrev pub no_label : Labels
no_label k = false

-- code that keeps the rules by itself, the last instruction of which ends the function
pub record Ended (m : Module) (f : Function) (n : ℕ) (code : List Instruction) : Type 0 where
  pub right : Right m f n no_label code
  pub last : is_end (slice_get code (length code - 1)) ≡ true

-- what is decided of the measure
abbrev pub measure_right : (Core → Typing) → Option Core → Bool
measure_right typed measure = all_in (λ c. (typed c).right) measure

module _ (types : Types) (ss : List Sized) (callees : Callees) (tables : Tables) (g : Signs) (name : Naming) where
  abbrev kit : Kit
  kit = kit_of types name (type_in ss) g.exception callees.size callees.direction

  abbrev typed : Core → Typing
  typed = typing types (type_in ss) callees tables g

  abbrev code_for : Core → Piece
  code_for = piece types kit (type_in ss) callees tables

  -- the body's value comes to the type of the result at a node of its own
  abbrev pub result_for : ℕ → Core → Piece
  result_for last body = cast_piece kit (type_in ss) (tables.cases last 1) (tables.gives last) (code_for body)

  abbrev pub is_typed : Option Core → ℕ → Core → Bool
  is_typed measure last body = measure_right typed measure && result_right types (type_in ss) callees tables g last (typed body)

  -- the code of functions that calls enter, of those that events enter, and of initial values
  abbrev pub called_for : TextPlace → Option Core → ℕ → Core → List Instruction
  called_for place measure last body = called_code kit place (option_map code_for measure) (result_for last body)

  abbrev pub event_for : TextPlace → ℕ → Core → List Instruction
  event_for place last body = event_code kit place (result_for last body)

  abbrev pub value_for : TextPlace → Core → List Instruction
  value_for place value = event_code kit place (code_for value)

  -- a direction of a mapping
  abbrev pub direction_for : TextPlace → Core → List Instruction
  direction_for place body = direction_code kit place (code_for body)

  -- a name of the let whose value the k-th opening gives
  abbrev pub name_for : List Indices → TextPlace → ℕ → Sized → Arm → List ℕ → Sized → List Instruction
  name_for gives place k t arm text u = event_code kit place (named_piece types kit gives place k t arm text u)

  abbrev pub is_named : ℕ → Sized → Arm → Sized → Bool
  is_named k t arm u =
      same (slice_get g.lets k) (Some (type_in ss t)) && (arm_right types (type_in ss) callees tables g arm (t ∷ []) && nat_eq (type_in ss u) g.result)

  abbrev pub is_value : Core → Bool
  is_value value = (typed value).right && are_of types (type_in ss) callees tables g g.result (typed value).types

abbrev pub CalledAreRight : Type 0
CalledAreRight = (types : Types) (ss : List Sized) (callees : Callees) (tables : Tables) (g : Signs) (m : Module) (f : Function) (n : ℕ) (name : Naming)
    → Placed types ss (type_in ss) callees m f n name g → Numbered types tables ss → f.is_pure ≡ false
    → (place : TextPlace) (measure : Option Core) (last : ℕ) (body : Core) → is_typed types ss callees tables g name measure last body ≡ true
    → Ended m f n (called_for types ss callees tables g name place measure last body)

abbrev pub EventsAreRight : Type 0
EventsAreRight = (types : Types) (ss : List Sized) (callees : Callees) (tables : Tables) (g : Signs) (m : Module) (f : Function) (n : ℕ) (name : Naming)
    → Placed types ss (type_in ss) callees m f n name g → Numbered types tables ss
    → (place : TextPlace) (measure : Option Core) (last : ℕ) (body : Core) → is_typed types ss callees tables g name measure last body ≡ true
    → Ended m f n (event_for types ss callees tables g name place last body)

abbrev pub ValuesAreRight : Type 0
ValuesAreRight = (types : Types) (ss : List Sized) (callees : Callees) (tables : Tables) (g : Signs) (m : Module) (f : Function) (n : ℕ) (name : Naming)
    → Placed types ss (type_in ss) callees m f n name g → Numbered types tables ss
    → (place : TextPlace) (value : Core) → is_value types ss callees tables g name value ≡ true
    → Ended m f n (value_for types ss callees tables g name place value)

abbrev pub DirectionsAreRight : Type 0
DirectionsAreRight = (types : Types) (ss : List Sized) (callees : Callees) (tables : Tables) (g : Signs) (m : Module) (f : Function) (n : ℕ) (name : Naming)
    → Placed types ss (type_in ss) callees m f n name g → Numbered types tables ss
    → (place : TextPlace) (body : Core) → is_value types ss callees tables g name body ≡ true
    → Ended m f n (direction_for types ss callees tables g name place body)

abbrev pub NamesAreRight : Type 0
NamesAreRight = (types : Types) (ss : List Sized) (callees : Callees) (tables : Tables) (g : Signs) (m : Module) (f : Function) (n : ℕ) (name : Naming)
    → Placed types ss (type_in ss) callees m f n name g → Numbered types tables ss
    → (gives : List Indices) (place : TextPlace) (k : ℕ) (t : Sized) (arm : Arm) (text : List ℕ) (u : Sized)
    → is_named types ss callees tables g name k t arm u ≡ true → Ended m f n (name_for types ss callees tables g name gives place k t arm text u)

-- code that keeps the rules by itself, sets each label once and has slots for all that it uses is right, instruction by instruction
abbrev pub CodesAreRight : Type 0
CodesAreRight = (m : Module) (f : Function) (n : ℕ) → Right m f n no_label f.code → ((k : ℕ) → sets k f.code ≤ 1) → UsesBelow (length f.slots) f.code
    → each (instruction_right m f n) 0 f.code ≡ true
