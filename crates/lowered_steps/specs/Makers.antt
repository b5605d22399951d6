-- How a value comes to its place in a case, as the code that makes its code holds it.
use Rattle.std.specs.Prelude.{Bool, true, false, ◌&&◌, List, [], ◌∷◌, reverse}
use Rattle.jib.specs.declared.code.Source.{Source}
use Rattle.jib.specs.declared.code.Source.TheVariants as R
use Rattle.lowered_pieces.specs.Places.{Naming, Raised, from}
use Rattle.lowered_pieces.specs.Forms.{Maker, Order, again_make, answer_make, cast_make, construct_make, in_fields, in_order, local_make, source_make}
use Rattle.lowered_pieces.specs.Forms.{unit_source}
use Rattle.lowered_pieces.specs.Forms.{variable_make, work_make}
use Rattle.lowered_pieces.specs.Fields.{with_make}
use Rattle.lowered_steps.specs.declared.setting.Setting.{Setting}
use Rattle.lowered_steps.specs.declared.making.Order.{Order as Ordering}
use Rattle.lowered_steps.specs.declared.making.Order.TheVariants as W
use Rattle.lowered_steps.specs.declared.making.Making.{Making}
use Rattle.lowered_steps.specs.declared.making.Making.TheVariants as M
use Rattle.lowered_steps.specs.Setting.{kit_for, number_for}

-- operands in hand are all read from slots
abbrev pub is_slot : Source → Bool
is_slot (R.Slot i) = true
is_slot source = false

abbrev pub all_slots : List Source → Bool
all_slots [] = true
all_slots (a ∷ rs) = is_slot a && all_slots rs

module _ (setting : Setting) (name : Naming) where
  abbrev pub order_of : Ordering → Order
  order_of W.Forwards = in_order
  order_of W.Backwards = reverse
  order_of (W.Fields fields) = in_fields (unit_source (kit_for setting name)) fields.now

  abbrev pub maker_of : Making → Maker (kit_for setting name) (number_for setting)
  maker_of (M.Local text) = local_make (kit_for setting name) (number_for setting) text.now
  maker_of (M.Variable text) = variable_make (kit_for setting name) (number_for setting) text.now
  maker_of (M.Register r) = source_make (kit_for setting name) (number_for setting) (R.Register r)
  maker_of (M.Opening i) = source_make (kit_for setting name) (number_for setting) (R.Let i)
  maker_of M.Caught = source_make (kit_for setting name) (number_for setting) (from (kit_for setting name) Raised (kit_for setting name).exception)
  maker_of M.Casts = cast_make (kit_for setting name) (number_for setting)
  maker_of (M.Works op order) = work_make (kit_for setting name) (number_for setting) op (order_of order)
  maker_of (M.Changes fields) = with_make (kit_for setting name) (number_for setting) setting.types.now fields.now
  maker_of (M.Constructs u c) = construct_make (kit_for setting name) (number_for setting) setting.types.now u c
  maker_of (M.Answers typ) = answer_make (kit_for setting name) (number_for setting) typ
  maker_of M.Again = again_make (kit_for setting name) (number_for setting)
