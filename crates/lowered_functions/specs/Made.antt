-- What is made of a function: its code under the numbering of its own slots, of which the first are for what is thrown and for its arguments.
use Rattle.std.specs.Prelude.{◌≡◌, ℕ, ◌+◌, ◌<◌, List, [], ◌∷◌, ◌++◌, length, option_map, slice_get, Some}
use Rattle.sail_base.specs.declared.place.Place.{Place as TextPlace}
use Rattle.sail_types.specs.declared.types.Typ.{Typ}
use Rattle.sail_core.specs.Meaning.{option_typ}
use Rattle.sail_core.specs.declared.patterns.Arm.TheVariants.{Flat}
use Rattle.sail_core.specs.declared.tree.Core.{Core}
use Rattle.sail_core.specs.declared.tree.Giver.TheVariants as G
use Rattle.sail_core.specs.declared.model.Function.{Function}
use Rattle.model_state.specs.declared.cause.Cause.TheVariants.{MatchFailure}
use Rattle.size_values.specs.declared.sized.Sized.{Sized}
use Rattle.checked_meaning.specs.Items.{fixed_typ}
use Rattle.sized_meanings.specs.Present.{gives_at}
use Rattle.jib.specs.declared.code.Instruction.{Instruction}
use Rattle.jib.specs.declared.code.Instruction.TheVariants as I
use Rattle.lowered_slots.specs.declared.slots.Slot.{Slot}
use Rattle.lowered_slots.specs.declared.slots.Place.TheVariants.{Given, Raised}
use Rattle.lowered_slots.specs.Slots.{name_in}
use Rattle.lowered_pieces.specs.declared.coding.Coding.{Coding}
use Rattle.lowered_pieces.specs.Emitted.{Begins, UsesBelow}
use Rattle.lowered_pieces.specs.Mapped.{optional_piece}
use Rattle.lowered_pieces.specs.Nodes.{cases_at}
use Rattle.lowered_pieces.specs.Places.{Kit, Naming, Temp, from}
use Rattle.lowered_pieces.specs.Arms.{arm_piece, else_piece, in_hand, stop_here}
use Rattle.lowered_pieces.specs.Forms.{Piece, Stand, cast_piece, code_of, count_of, one_end, return_tail}
use Rattle.lowered_pieces.specs.Openings.{name_piece, named_piece}
use Rattle.lowered_functions.specs.declared.openings.LetName.{LetName}
use Rattle.lowered_pieces.specs.Functions.{answer_code, called_code, direction_code, event_code, measure_of, measure_stand}
use Rattle.lowered_steps.specs.declared.setting.Setting.{Setting}
use Rattle.lowered_steps.specs.Setting.{kit_for, number_for, nodes_in}
use Rattle.lowered_nodes.specs.Around.{piece_for}
use Rattle.lowered_nodes.specs.declared.walk.Walk.{Walk}

abbrev pub given_slots : Setting → ℕ → List Sized → List Slot
given_slots setting i [] = []
given_slots setting i (t ∷ ts) = record { place = Given i; typ = number_for setting t } ∷ given_slots setting (i + 1) ts

-- no slot is for an argument from this one on
abbrev pub Fresh : Coding → ℕ → Type 0
Fresh coding i = (k j : ℕ) (s : Slot) → slice_get coding.slots k ≡ Some s → s.place ≡ Given j → j < i

-- a function's first slots
abbrev pub first_slots : Setting → List Sized → List Slot
first_slots setting given = record { place = Raised; typ = setting.exception } ∷ given_slots setting 0 given

-- where a label is for what doesn't match
abbrev pub failing_at : ℕ → Stand → Stand
failing_at off s = record s { on_no = off }

-- a name of a top-level let: what the pattern looks at, and the value of the name as what the function gives; a label for what doesn't match
module _ (setting : Setting) (naming : Naming) (n : LetName) (s : Stand) where
  abbrev looked_for : Piece
  looked_for =
      arm_piece setting.types.now (kit_for setting naming) [] (in_hand (one_end n.whole.now)) (Flat 0 n.steps.now)
      (name_piece setting.types.now (kit_for setting naming) n.name.now n.typ.now)

  abbrev pub held_for : ℕ → ℕ → List Instruction
  held_for off l = looked_for.ended (return_tail (kit_for setting naming) s) (failing_at off s) l

  -- and where it doesn't match the run stops at the let
  abbrev pub let_for : ℕ → List Instruction
  let_for l =
      (else_piece setting.types.now (kit_for setting naming) looked_for (stop_here setting.types.now (kit_for setting naming)
      (MatchFailure n.place))).ended (return_tail (kit_for setting naming) s) s l

module _ (walk : Walk) (name : Naming) where
  abbrev setting : Setting
  setting = walk.setting.now

  abbrev kit : Kit
  kit = kit_for setting name

  abbrev piece_at : Core → Piece
  piece_at c = piece_for setting walk.around.now name c

  -- the body's value comes to the type of the result at a node of its own
  abbrev pub result_for : ℕ → Core → Piece
  result_for last body = cast_piece kit (number_for setting) (cases_at last 1 (nodes_in setting)) (gives_at (nodes_in setting) (G.Node last)) (piece_at body)

  -- what stands behind the tick of a function with a measure, from a label on, and how many labels it has
  abbrev pub measured_for : Function → Core → ℕ → List Instruction
  measured_for f m l =
      (code_of (piece_at m) measure_stand l ++ I.Measure (from kit (Temp 0) kit.integer) ∷ [])
      ++ (answer_code kit f.place (result_for f.last f.body) (l + count_of (piece_at m)) ++ I.Label 2 ∷ I.NoMeasure ∷ [])

  abbrev pub measured_labels : Function → Core → ℕ
  measured_labels f m = count_of (piece_at m) + count_of (result_for f.last f.body)

  abbrev pub called_for : Function → List Instruction
  called_for f = called_code kit f.place (option_map piece_at (measure_of f.cycle f.measure)) (result_for f.last f.body)

  -- what a direction gives is an option of what its clauses give
  abbrev pub mapping_for : TextPlace → Typ → Core → List Instruction
  mapping_for place t c =
      direction_code kit place
      (optional_piece setting.types.now kit (fixed_typ setting.types.now (option_typ t)) (fixed_typ setting.types.now t) (piece_at c))

  abbrev pub event_for : Function → List Instruction
  event_for f = event_code kit f.place (result_for f.last f.body)

  -- of what gives a value, and of what gives that of a name of a top-level let
  abbrev pub value_for : TextPlace → Core → List Instruction
  value_for place value = event_code kit place (piece_at value)

  abbrev pub name_for : LetName → List Instruction
  name_for n =
      event_code kit n.place (named_piece setting.types.now kit [] n.place n.opening n.whole.now (Flat 0 n.steps.now) n.name.now n.typ.now)

-- a function's slots and code
pub record CodeMade (walk : Walk) (coding : Coding) (given : List Sized) (code : Naming → List Instruction) : Type 0 where
  pub first : Begins (first_slots walk.setting.now given) coding.slots
  pub put : coding.code ≡ code (name_in coding.slots)
  pub room : UsesBelow (length coding.slots) coding.code
