-- What is asked of a case, as the code holds it.
use Rattle.std.specs.Prelude.{Bool, true, List, reverse}
use Rattle.jib.specs.declared.code.Source.{Source}
use Rattle.sized_nodes.specs.declared.trees.Case.{Case}
use Rattle.lowered_pieces.specs.Forms.{in_fields, in_order}
use Rattle.lowered_validity.specs.Typing.{comes, is_cast, is_changed, is_constructed, is_recast, is_sourced, is_work, no_value}
use Rattle.lowered_typed.specs.declared.cases.Asked.{Asked}
use Rattle.lowered_typed.specs.declared.cases.Asked.TheVariants as A
use Rattle.lowered_typed.specs.declared.cases.Order.{Order}
use Rattle.lowered_typed.specs.declared.cases.Order.TheVariants as O
use Rattle.lowered_typed.specs.declared.signs.Judge.{Judge}
use Rattle.lowered_typed.specs.Judging.{callees_here, number_here, signs_here, tables_here}

module _ (j : Judge) where
  abbrev pub order_of : Order → List Source → List Source
  order_of O.Forwards = in_order
  order_of O.Backwards = reverse
  order_of (O.Fields fields) = in_fields (no_value j.setting.now.types.now (number_here j) (callees_here j) (tables_here j) (signs_here j)) fields.now

  abbrev pub asked : Asked → Case → Bool
  asked A.Nothing c = true
  asked A.Casts c = is_cast j.setting.now.types.now (number_here j) (callees_here j) (tables_here j) (signs_here j) c
  asked A.Recasts c = is_recast j.setting.now.types.now (number_here j) (callees_here j) (tables_here j) (signs_here j) c
  asked (A.From t) c = comes (signs_here j) t (number_here j c.gives)
  asked (A.Sourced o) c = is_sourced j.setting.now.types.now (number_here j) (callees_here j) (tables_here j) (signs_here j) o c
  asked (A.Works op order) c =
      is_work j.setting.now.types.now (number_here j) (callees_here j) (tables_here j) (signs_here j) op (order_of order) c
  asked (A.Changes fields) c =
      is_changed j.setting.now.types.now (number_here j) (callees_here j) (tables_here j) (signs_here j) fields.now c
  asked (A.Constructs u k) c = is_constructed j.setting.now.types.now (number_here j) (callees_here j) (tables_here j) (signs_here j) u k c
