-- What is decided of code, under what is around it.
use Rattle.std.specs.Prelude.{ℕ, ℤ, Bool, List, [], ◌∷◌, ◌++◌, Option, Some, None, bytes_eq, if◌then◌else◌}
use Rattle.jib.specs.declared.code.Source.{Source}
use Rattle.jib.specs.declared.code.Operation.{Operation}
use Rattle.jib.specs.declared.code.Literal.{Literal}
use Rattle.sized_nodes.specs.declared.trees.Case.{Case}
use Rattle.sized_nodes.specs.declared.trees.Lead.{Lead}
use Rattle.sail_types.specs.declared.rows.Row.{Row}
use Rattle.sail_core.specs.declared.targets.Way.{Way}
use Rattle.sail_core.specs.declared.targets.Suffix.{Suffix}
use Rattle.sail_core.specs.declared.patterns.Head.{Head}
use Rattle.sail_core.specs.declared.patterns.Step.{Step}
use Rattle.sail_core.specs.declared.patterns.Step.TheVariants as P
use Rattle.sail_core.specs.declared.patterns.Arm.{Arm}
use Rattle.sail_core.specs.declared.tree.Statement.{Statement}
use Rattle.sail_core.specs.declared.tree.Kind.{Kind}
use Rattle.sail_types.specs.declared.numbers.Num.{Num}
use Rattle.size_values.specs.declared.sized.Sized.{Sized}
use Rattle.lowered_pieces.specs.Forms.{Order, End}
use Rattle.lowered_pieces.specs.Writes.{Cell, Holder, Spot}
use Rattle.lowered_validity.specs.Typing.{Typing}
use Rattle.lowered_validity.specs.Typing as typing
use Rattle.lowered_typed.specs.declared.signs.Judge.{Judge}
use Rattle.lowered_typed.specs.Judging.{callees_here, number_here, signs_here, tables_here}

module _ (j : Judge) where
  abbrev pub unit_number : ℕ
  unit_number = typing.unit_number j.setting.now.types.now (number_here j) (callees_here j) (tables_here j) (signs_here j)

  abbrev pub integer_number : ℕ
  integer_number = typing.integer_number j.setting.now.types.now (number_here j) (callees_here j) (tables_here j) (signs_here j)

  abbrev pub no_value : Source
  no_value = typing.no_value j.setting.now.types.now (number_here j) (callees_here j) (tables_here j) (signs_here j)

  abbrev pub numbers : List Sized → List ℕ
  numbers = typing.numbers j.setting.now.types.now (number_here j) (callees_here j) (tables_here j) (signs_here j)

  abbrev pub works : Operation → List Source → List Sized → Sized → Bool
  works = typing.works j.setting.now.types.now (number_here j) (callees_here j) (tables_here j) (signs_here j)

  abbrev pub is_constant : Sized → Literal → Bool
  is_constant = typing.is_constant j.setting.now.types.now (number_here j) (callees_here j) (tables_here j) (signs_here j)

  abbrev pub cases_right : (Case → Bool) → List Case → Bool
  cases_right = typing.cases_right j.setting.now.types.now (number_here j) (callees_here j) (tables_here j) (signs_here j)

  abbrev pub first_number : List Sized → ℕ
  first_number = typing.first_number j.setting.now.types.now (number_here j) (callees_here j) (tables_here j) (signs_here j)

  abbrev pub is_cast : Case → Bool
  is_cast = typing.is_cast j.setting.now.types.now (number_here j) (callees_here j) (tables_here j) (signs_here j)

  abbrev pub is_recast : Case → Bool
  is_recast = typing.is_recast j.setting.now.types.now (number_here j) (callees_here j) (tables_here j) (signs_here j)

  abbrev pub is_sourced : Option ℕ → Case → Bool
  is_sourced = typing.is_sourced j.setting.now.types.now (number_here j) (callees_here j) (tables_here j) (signs_here j)

  abbrev pub is_work : Operation → Order → Case → Bool
  is_work = typing.is_work j.setting.now.types.now (number_here j) (callees_here j) (tables_here j) (signs_here j)

  abbrev pub is_payload : ℕ → ℕ → List Sized → Sized → Bool
  is_payload = typing.is_payload j.setting.now.types.now (number_here j) (callees_here j) (tables_here j) (signs_here j)

  abbrev pub is_constructed : ℕ → ℕ → Case → Bool
  is_constructed = typing.is_constructed j.setting.now.types.now (number_here j) (callees_here j) (tables_here j) (signs_here j)

  abbrev pub takes_fields : Sized → ℕ → List Sized → Bool
  takes_fields = typing.takes_fields j.setting.now.types.now (number_here j) (callees_here j) (tables_here j) (signs_here j)

  abbrev pub is_with : List ℕ → List Sized → Sized → Bool
  is_with = typing.is_with j.setting.now.types.now (number_here j) (callees_here j) (tables_here j) (signs_here j)

  abbrev pub is_changed : List ℕ → Case → Bool
  is_changed = typing.is_changed j.setting.now.types.now (number_here j) (callees_here j) (tables_here j) (signs_here j)

  abbrev pub meets : List Sized → List Case → Bool
  meets = typing.meets j.setting.now.types.now (number_here j) (callees_here j) (tables_here j) (signs_here j)

  abbrev pub meet_right : List Sized → List Case → Bool
  meet_right = typing.meet_right j.setting.now.types.now (number_here j) (callees_here j) (tables_here j) (signs_here j)

  abbrev pub is_lead : Option (List ℕ) → List Sized → Bool
  is_lead = typing.is_lead j.setting.now.types.now (number_here j) (callees_here j) (tables_here j) (signs_here j)

  abbrev pub leads_right : List Case → List Lead → Bool
  leads_right = typing.leads_right j.setting.now.types.now (number_here j) (callees_here j) (tables_here j) (signs_here j)

  abbrev pub operand_typ : Option Sized → Sized
  operand_typ = typing.operand_typ j.setting.now.types.now (number_here j) (callees_here j) (tables_here j) (signs_here j)

  abbrev pub operand_types : List Typing → List Sized
  operand_types = typing.operand_types j.setting.now.types.now (number_here j) (callees_here j) (tables_here j) (signs_here j)

  abbrev pub state_right : Row → List Case → List Sized → Bool
  state_right = typing.state_right j.setting.now.types.now (number_here j) (callees_here j) (tables_here j) (signs_here j)

  abbrev pub way_types : Way → ℕ → List Sized
  way_types = typing.way_types j.setting.now.types.now (number_here j) (callees_here j) (tables_here j) (signs_here j)

  abbrev pub path_types : List Suffix → List Sized → List Sized
  path_types = typing.path_types j.setting.now.types.now (number_here j) (callees_here j) (tables_here j) (signs_here j)

  abbrev pub is_taken : Way → Sized → Bool
  is_taken = typing.is_taken j.setting.now.types.now (number_here j) (callees_here j) (tables_here j) (signs_here j)

  abbrev pub is_put : Way → Sized → Sized → Bool
  is_put = typing.is_put j.setting.now.types.now (number_here j) (callees_here j) (tables_here j) (signs_here j)

  abbrev pub replaces : List Suffix → Sized → Sized → Bool
  replaces = typing.replaces j.setting.now.types.now (number_here j) (callees_here j) (tables_here j) (signs_here j)

  abbrev pub replaces_all : List Suffix → List Case → List Sized → Bool
  replaces_all = typing.replaces_all j.setting.now.types.now (number_here j) (callees_here j) (tables_here j) (signs_here j)

  abbrev pub last_types : List Typing → List Sized
  last_types = typing.last_types j.setting.now.types.now (number_here j) (callees_here j) (tables_here j) (signs_here j)

  abbrev pub holder_right : Holder → List Case → Bool
  holder_right = typing.holder_right j.setting.now.types.now (number_here j) (callees_here j) (tables_here j) (signs_here j)

  abbrev pub typed_right : List Suffix → Cell → Bool
  typed_right = typing.typed_right j.setting.now.types.now (number_here j) (callees_here j) (tables_here j) (signs_here j)

  abbrev pub cell_right : Cell → Bool
  cell_right = typing.cell_right j.setting.now.types.now (number_here j) (callees_here j) (tables_here j) (signs_here j)

  abbrev pub cells_right : List Cell → Bool
  cells_right = typing.cells_right j.setting.now.types.now (number_here j) (callees_here j) (tables_here j) (signs_here j)

  abbrev pub all_fields_right : List Sized → ℕ → Bool
  all_fields_right = typing.all_fields_right j.setting.now.types.now (number_here j) (callees_here j) (tables_here j) (signs_here j)

  abbrev pub spot_types : Option Spot → List Typing → List Sized
  spot_types = typing.spot_types j.setting.now.types.now (number_here j) (callees_here j) (tables_here j) (signs_here j)

  abbrev pub fields_typ : Sized → ℕ → ℕ → List Sized
  fields_typ = typing.fields_typ j.setting.now.types.now (number_here j) (callees_here j) (tables_here j) (signs_here j)

  abbrev pub fields_right : Sized → ℕ → ℕ → Bool
  fields_right = typing.fields_right j.setting.now.types.now (number_here j) (callees_here j) (tables_here j) (signs_here j)

  abbrev pub items_typ : Sized → ℕ → List Sized
  items_typ = typing.items_typ j.setting.now.types.now (number_here j) (callees_here j) (tables_here j) (signs_here j)

  abbrev pub items_right : Sized → ℕ → Bool
  items_right = typing.items_right j.setting.now.types.now (number_here j) (callees_here j) (tables_here j) (signs_here j)

  abbrev pub payload_parts : Sized → ℕ → List Sized
  payload_parts = typing.payload_parts j.setting.now.types.now (number_here j) (callees_here j) (tables_here j) (signs_here j)

  abbrev pub payload_right : Sized → ℕ → Bool
  payload_right = typing.payload_right j.setting.now.types.now (number_here j) (callees_here j) (tables_here j) (signs_here j)

  abbrev pub list_right : Sized → Bool
  list_right = typing.list_right j.setting.now.types.now (number_here j) (callees_here j) (tables_here j) (signs_here j)

  abbrev pub cut_types : List ℕ → List Sized
  cut_types = typing.cut_types j.setting.now.types.now (number_here j) (callees_here j) (tables_here j) (signs_here j)

  abbrev pub cut_typed : Sized → ℕ → ℕ → Bool
  cut_typed = typing.cut_typed j.setting.now.types.now (number_here j) (callees_here j) (tables_here j) (signs_here j)

  abbrev pub cut_right : Sized → ℕ → List ℕ → Bool
  cut_right = typing.cut_right j.setting.now.types.now (number_here j) (callees_here j) (tables_here j) (signs_here j)

  abbrev pub widths_in : Sized → List (Option Num) → List ℕ
  widths_in = typing.widths_in j.setting.now.types.now (number_here j) (callees_here j) (tables_here j) (signs_here j)

  abbrev pub head_types : Sized → Head → ℕ → List Sized
  head_types = typing.head_types j.setting.now.types.now (number_here j) (callees_here j) (tables_here j) (signs_here j)

  abbrev pub head_right : Sized → Head → ℕ → Bool
  head_right = typing.head_right j.setting.now.types.now (number_here j) (callees_here j) (tables_here j) (signs_here j)

  abbrev pub typ_at_hand : List Sized → ℕ → Sized
  typ_at_hand = typing.typ_at_hand j.setting.now.types.now (number_here j) (callees_here j) (tables_here j) (signs_here j)

  abbrev pub sees_right : ℕ → Sized → Bool
  sees_right = typing.sees_right j.setting.now.types.now (number_here j) (callees_here j) (tables_here j) (signs_here j)

  abbrev pub step_types : Step → List Sized → List Sized
  step_types = typing.step_types j.setting.now.types.now (number_here j) (callees_here j) (tables_here j) (signs_here j)

  abbrev pub step_right : Step → List Sized → Bool
  step_right = typing.step_right j.setting.now.types.now (number_here j) (callees_here j) (tables_here j) (signs_here j)

  abbrev pub are_known : List Sized → Bool
  are_known = typing.are_known j.setting.now.types.now (number_here j) (callees_here j) (tables_here j) (signs_here j)

  abbrev pub steps_right : List Step → List Sized → Bool
  steps_right = typing.steps_right j.setting.now.types.now (number_here j) (callees_here j) (tables_here j) (signs_here j)

  abbrev pub arm_right : Arm → List Sized → Bool
  arm_right = typing.arm_right j.setting.now.types.now (number_here j) (callees_here j) (tables_here j) (signs_here j)

  abbrev pub ends_right : Arm → List End → Bool
  ends_right = typing.ends_right j.setting.now.types.now (number_here j) (callees_here j) (tables_here j) (signs_here j)

  abbrev pub arms_types : List Typing → List Sized
  arms_types = typing.arms_types j.setting.now.types.now (number_here j) (callees_here j) (tables_here j) (signs_here j)

  abbrev pub all_ending : Sized → List Typing → Bool
  all_ending = typing.all_ending j.setting.now.types.now (number_here j) (callees_here j) (tables_here j) (signs_here j)

  abbrev pub ending_if : Option Sized → List Typing → List End
  ending_if = typing.ending_if j.setting.now.types.now (number_here j) (callees_here j) (tables_here j) (signs_here j)

  abbrev pub common_of : List Typing → List End
  common_of = typing.common_of j.setting.now.types.now (number_here j) (callees_here j) (tables_here j) (signs_here j)

  abbrev pub moves_to : Option Sized → Sized → Bool
  moves_to = typing.moves_to j.setting.now.types.now (number_here j) (callees_here j) (tables_here j) (signs_here j)

  abbrev pub all_come : List Sized → Sized → Bool
  all_come = typing.all_come j.setting.now.types.now (number_here j) (callees_here j) (tables_here j) (signs_here j)

  abbrev pub variable_right : List Sized → List Case → Bool
  variable_right = typing.variable_right j.setting.now.types.now (number_here j) (callees_here j) (tables_here j) (signs_here j)

  abbrev pub variable_types : List Sized → List Case → List Sized
  variable_types = typing.variable_types j.setting.now.types.now (number_here j) (callees_here j) (tables_here j) (signs_here j)

  abbrev pub kept_right : List Sized → List Sized → Bool
  kept_right = typing.kept_right j.setting.now.types.now (number_here j) (callees_here j) (tables_here j) (signs_here j)

  abbrev pub all_thrown : List End → Bool
  all_thrown = typing.all_thrown j.setting.now.types.now (number_here j) (callees_here j) (tables_here j) (signs_here j)

  abbrev pub are_of : ℕ → List Sized → Bool
  are_of = typing.are_of j.setting.now.types.now (number_here j) (callees_here j) (tables_here j) (signs_here j)

  abbrev pub block_types : List Statement → List Typing → List Sized
  block_types = typing.block_types j.setting.now.types.now (number_here j) (callees_here j) (tables_here j) (signs_here j)

  abbrev pub block_right : List Statement → List Typing → Bool
  block_right = typing.block_right j.setting.now.types.now (number_here j) (callees_here j) (tables_here j) (signs_here j)

  abbrev pub number_types : Option ℤ → List Sized
  number_types = typing.number_types j.setting.now.types.now (number_here j) (callees_here j) (tables_here j) (signs_here j)

  abbrev pub number_right : Option ℤ → Bool
  number_right = typing.number_right j.setting.now.types.now (number_here j) (callees_here j) (tables_here j) (signs_here j)

  abbrev pub truth_types : Option Bool → List Sized
  truth_types = typing.truth_types j.setting.now.types.now (number_here j) (callees_here j) (tables_here j) (signs_here j)

  abbrev pub truth_right : Option Bool → Bool
  truth_right = typing.truth_right j.setting.now.types.now (number_here j) (callees_here j) (tables_here j) (signs_here j)

  abbrev pub kind_types : ℕ → Kind → List Typing → List Sized
  kind_types = typing.kind_types j.setting.now.types.now (number_here j) (callees_here j) (tables_here j) (signs_here j)

  abbrev pub kind_right : ℕ → Kind → List Typing → Bool
  kind_right = typing.kind_right j.setting.now.types.now (number_here j) (callees_here j) (tables_here j) (signs_here j)

  abbrev pub result_right : ℕ → Typing → Bool
  result_right = typing.result_right j.setting.now.types.now (number_here j) (callees_here j) (tables_here j) (signs_here j)

  -- the type of what a name of an arm holds, the first that is so called
  abbrev pub name_typ : List Step → List Sized → List ℕ → Option Sized
  name_typ [] ts text = None
  name_typ (P.Names i name ∷ ss) ts text = if bytes_eq name text then Some (typ_at_hand ts i) else name_typ ss ts text
  name_typ (s ∷ ss) ts text = name_typ ss (ts ++ step_types s ts) text
