-- What is decided of nodes, as the code decides it: first whether a kind has so many parts, then what is asked of the kind, then of its parts.
use Rattle.std.specs.Prelude.{ℕ, ◌-◌, pos, nat_eq, nat_le, Bool, true, false, not, ◌&&◌, ◌||◌, List, [], ◌∷◌, ◌++◌, length, map, reverse}
use Rattle.std.specs.Prelude.{Option, Some, None, slice_get, if◌then◌else◌}
use Rattle.sail_types.specs.declared.numbers.Num.{Num}
use Rattle.sail_types.specs.declared.numbers.Con.{Con}
use Rattle.sail_types.specs.declared.rows.Row.{Row}
use Rattle.sail_types.specs.declared.types.Typ.{Typ}
use Rattle.sail_types.specs.declared.types.Typ.TheVariants as T
use Rattle.sail_core.specs.declared.patterns.Arm.{Arm}
use Rattle.sail_core.specs.declared.patterns.Literal.{Literal}
use Rattle.sail_core.specs.declared.targets.Suffix.{Suffix}
use Rattle.sail_core.specs.declared.targets.Target.{Target}
use Rattle.sail_core.specs.declared.targets.Way.{Way}
use Rattle.sail_core.specs.declared.targets.Way.TheVariants as Y
use Rattle.sail_core.specs.declared.tree.Callee.{Callee}
use Rattle.sail_core.specs.declared.tree.Callee.TheVariants as F
use Rattle.sail_core.specs.declared.tree.Statement.{Statement}
use Rattle.sail_core.specs.declared.tree.Statement.TheVariants as S
use Rattle.sail_core.specs.declared.tree.Kind.{Kind}
use Rattle.sail_core.specs.declared.tree.Kind.TheVariants as K
use Rattle.sail_core.specs.declared.tree.Core.{Core}
use Rattle.sail_core.specs.Making.{one_item, payload}
use Rattle.sail_core.specs.Meaning.{option_typ}
use Rattle.sail_core.specs.Values.{int_typ, literal_typ}
use Rattle.row_types.specs.Calls.{has_state}
use Rattle.size_values.specs.declared.sized.Sized.{Sized, out-Sized}
use Rattle.size_values.specs.declared.sized.Sized.TheVariants as Z
use Rattle.sized_nodes.specs.declared.trees.Case.{Case}
use Rattle.sized_nodes.specs.declared.trees.Lead.{Lead}
use Rattle.checked_meaning.specs.Items.{fixed_typ, part_typ}
use Rattle.jib.specs.declared.code.Literal.TheVariants as L
use Rattle.jib.specs.declared.code.Source.TheVariants as R
use Rattle.jib.specs.declared.code.Operation.{Operation}
use Rattle.jib.specs.declared.code.Operation.TheVariants as O
use Rattle.jib.specs.Operands.{some_comparable}
use Rattle.jib.specs.Typing.{payload_typ, same, sort_at}
use Rattle.sail_core.specs.Patterns.{known_sum, solved}
use Rattle.lowered_pieces.specs.Arms.{constant_of, is_union, part_width, word_width}
use Rattle.lowered_pieces.specs.Places.{Mapped}
use Rattle.lowered_pieces.specs.Forms.{End, ends_of, in_fields, in_order, is_never, set_fields}
use Rattle.lowered_pieces.specs.Gathered.{only_end}
use Rattle.lowered_pieces.specs.Writes.{Cell as Aim, Spot, called, one, several, target_spot}
use Rattle.lowered_steps.specs.Cells.{holder_in}
use Rattle.lowered_steps.specs.declared.cells.Cell.{Cell}
use Rattle.lowered_ends.specs.Able.{suffixes_fit}
use Rattle.lowered_validity.specs.Typing.{Typing, all_right, comes, gives_in, one_operand, operands, picks_small, shell}
use Rattle.lowered_typed.specs.declared.cases.Asked.TheVariants as A
use Rattle.lowered_typed.specs.declared.cases.Order.{Order as OrderAsked}
use Rattle.lowered_typed.specs.declared.signs.Judge.{Judge}
use Rattle.lowered_typed.specs.Asked.{asked, order_of}
use Rattle.lowered_typed.specs.Counts.{count_fits}
use Rattle.lowered_typed.specs.Here as here
use Rattle.lowered_typed.specs.Judging.{callees_here, cases_typed, number_here, signs_here, tables_here, typed}

-- a source of a type's number has the type of this number
abbrev pub is_of : Option ℕ → ℕ → Bool
is_of o n = same o (Some n)

-- ---- of several parts

abbrev pub first_types : List Typing → List Sized
first_types [] = []
first_types (a ∷ ps) = a.types

abbrev pub first_ends : List Typing → List End
first_ends [] = []
first_ends (a ∷ ps) = a.ends

abbrev pub behind : List Core → List Core
behind [] = []
behind (c ∷ cs) = cs

abbrev pub others : List Typing → List Typing
others [] = []
others (a ∷ ps) = ps

module _ (j : Judge) where
  abbrev pub all_here : List Core → List Typing
  all_here cs = map (typed j) cs

  abbrev pub cases_at : ℕ → ℕ → List Case
  cases_at k n = (tables_here j).cases k n

  abbrev unit_typ : Sized
  unit_typ = fixed_typ j.setting.now.types.now T.Unit

  abbrev is_pure : Bool
  is_pure = (signs_here j).is_pure

  -- ---- cases

  abbrev pub tuple_right : ℕ → List Sized → Sized → Sized → Bool
  tuple_right c ts t s = here.works j O.Build (operands 0 (here.numbers j ts)) ts t && here.works j (O.Construct c) one_operand (t ∷ []) s

  abbrev pub is_built : List ℕ → List Sized → List Sized → Sized → Bool
  is_built is new old s =
      here.works j O.Build (set_fields is (operands 0 (here.numbers j new)) (operands (length new) (here.numbers j old))) (new ++ old) s

  -- a value of the type comes to the types of the cases
  abbrev pub come_right : Sized → List Case → Bool
  come_right t cases = cases_typed j (λ c. comes (signs_here j) (number_here j t) (number_here j c.gives)) cases

  -- so where it exists
  abbrev pub met_right : Sized → List Case → Bool
  met_right t cases = cases_typed j (λ c. is_never t || comes (signs_here j) (number_here j t) (number_here j c.gives)) cases

  abbrev pub answered : List Case → Lead → Bool
  answered cases x = cases_typed j (λ c. comes (signs_here j) (number_here j ((callees_here j).answer x.instance)) (number_here j c.gives)) cases

  abbrev pub lead_right : List Case → Lead → Bool
  lead_right cases x =
      (picks_small x.picked && here.is_lead j ((signs_here j).parameters x.instance) x.takes) && answered cases x

  abbrev pub case_replaced : List Suffix → Case → Sized → Bool
  case_replaced ss c u = (picks_small c.picked && (tables_here j).known c.gives) && here.replaces j ss c.gives u

  -- an operation takes a value of the type, and one integer or two
  abbrev pub integer_typ : Sized
  integer_typ = fixed_typ j.setting.now.types.now int_typ

  abbrev pub works_at : Operation → Sized → Sized → Bool
  works_at op t u = here.works j op (R.Slot 0 ∷ R.Slot 1 ∷ []) (t ∷ integer_typ ∷ []) u

  abbrev pub works_between : Operation → Sized → Sized → Bool
  works_between op t u = here.works j op (R.Slot 0 ∷ R.Slot 1 ∷ R.Slot 2 ∷ []) (t ∷ integer_typ ∷ integer_typ ∷ []) u

  -- ---- heads

  abbrev pub item_right : Sized → ℕ → Bool
  item_right t k =
      here.works j O.Item (R.Slot 0 ∷ R.Constant (here.integer_number j) (L.Integer (pos k)) ∷ []) (t ∷ [])
      (part_typ j.setting.now.types.now one_item t)

  abbrev pub has_payload : ℕ → ℕ → ℕ → Bool
  has_payload n c k = same (payload_typ (shell (signs_here j)) (Some n) c) (Some k)

  abbrev payload_of : ℕ → ℕ → Sized → Sized
  payload_of u c t = part_typ j.setting.now.types.now (payload u c) t

  abbrev pub payload_fits : ℕ → ℕ → Sized → ℕ → Bool
  payload_fits u c t k =
      is_union u (out-Sized t)
      && (has_payload (number_here j t) c (number_here j (payload_of u c t)) && here.payload_right j (payload_of u c t) k)

  -- of the first item of a list, and of the rest
  abbrev pub first_and_rest : Sized → List Sized
  first_and_rest t = part_typ j.setting.now.types.now one_item t ∷ t ∷ []

  abbrev pub test_right : Sized → Literal → Bool
  test_right t literal =
      here.is_constant j t (constant_of literal) && some_comparable (sort_at (shell (signs_here j)) (Some (number_here j t)))

  abbrev pub no_cut_right : Bool
  no_cut_right = here.works j O.Same (R.Constant (number_here j (Z.Bits (pos 0))) (L.Bits []) ∷ []) [] (Z.Bits (pos 0))

  abbrev pub cut_fits : Sized → ℕ → ℕ → Bool
  cut_fits = here.cut_typed j

  -- the widths of parts, where one that isn't written has this width
  abbrev pub widths_by : ℕ → List (Option Num) → List ℕ
  widths_by rest ws = map (solved rest) (map (part_width (callees_here j).size) ws)

  abbrev pub rest_width : Sized → List (Option Num) → ℕ
  rest_width t ws = word_width (out-Sized t) - known_sum (map (part_width (callees_here j).size) ws)

  abbrev pub thrown_right : Case → Bool
  thrown_right c = picks_small c.picked && nat_eq (number_here j c.gives) (signs_here j).exception

  -- ---- arms

  abbrev pub given_right : Arm → Case → Bool
  given_right arm c = picks_small c.picked && here.arm_right j arm (c.gives ∷ [])

  abbrev pub all_end_right : List Arm → List End → Bool
  all_end_right [] es = true
  all_end_right (arm ∷ arms) es = here.ends_right j arm es && all_end_right arms es

  abbrev pub all_given_right : List Arm → List Sized → Bool
  all_given_right [] ts = true
  all_given_right (arm ∷ arms) ts = here.arm_right j arm ts && all_given_right arms ts

  -- ---- what kinds ask

  abbrev pub let_asked : ℕ → List Case → Bool
  let_asked i cases = cases_typed j (asked j (A.Sourced (slice_get (signs_here j).lets ((callees_here j).opening i)))) cases

  abbrev pub read_asked : ℕ → List Case → Bool
  read_asked r cases = cases_typed j (asked j (A.Sourced (slice_get (signs_here j).registers r))) cases

  abbrev pub literal_asked : Literal → Bool
  literal_asked literal = here.is_constant j (fixed_typ j.setting.now.types.now (literal_typ literal)) (constant_of literal)

  abbrev pub register_asked : ℕ → ℕ → Bool
  register_asked r k = not is_pure && read_asked r (cases_at k 0)

  abbrev pub size_asked : Num → Bool
  size_asked t = here.number_right j ((callees_here j).size t)

  abbrev pub condition_asked : Con → Bool
  condition_asked c = here.truth_right j ((callees_here j).truth c)

  -- an operation makes values of a node of so many parts
  abbrev pub built_asked : Operation → OrderAsked → ℕ → ℕ → Bool
  built_asked op order k n = cases_typed j (here.is_work j op (order_of j order)) (cases_at k n)

  -- a builtin; one of the state has one case, and takes its operands at the only types that they have
  abbrev pub state_asked : Row → List Case → List Typing → Bool
  state_asked row cases ps = not is_pure && here.state_right j row cases (here.operand_types j ps)

  abbrev pub row_asked : Bool → Row → List Case → List Typing → Bool
  row_asked true row cases ps = state_asked row cases ps
  row_asked false row cases ps = cases_typed j (here.is_work j (O.Builtin row) in_order) cases

  abbrev pub row_here : Row → List Case → List Typing → Bool
  row_here row cases ps = row_asked (has_state row) row cases ps

  -- a value comes to the type of this number, where one type is said of it
  abbrev pub comes_to : Option Sized → ℕ → Bool
  comes_to None n = true
  comes_to (Some t) n = comes (signs_here j) (number_here j t) n

  abbrev pub mapped_asked : Mapped → List Case → Option Sized → Bool
  mapped_asked m cases o =
      here.moves_to j o m.takes
      && (has_payload (number_here j m.gives) 0 (number_here j m.payload)
      && cases_typed j (asked j (A.From (number_here j m.payload))) cases)

  abbrev pub may_turn : ℕ → Bool
  may_turn d = (signs_here j).directions d

  abbrev pub turned_asked : ℕ → ℕ → List Typing → Bool
  turned_asked d k ps = mapped_asked ((callees_here j).direction d) (cases_at k 1) (only_end (first_ends ps))

  -- a direction of a mapping, of one operand
  abbrev pub applied_asked : ℕ → ℕ → List Typing → Bool
  applied_asked d k ps = nat_eq (length ps) 1 && (not is_pure && (may_turn d && turned_asked d k ps))

  abbrev pub function_asked : ℕ → ℕ → Bool
  function_asked k n = not is_pure && here.leads_right j (cases_at k n) ((tables_here j).leads k)

  abbrev pub call_asked : Callee → ℕ → List Typing → Bool
  call_asked (F.Function f) k ps = function_asked k (length ps)
  call_asked (F.Row row) k ps = row_here row (cases_at k (length ps)) ps
  call_asked (F.Constructor u c) k ps = cases_typed j (asked j (A.Constructs u c)) (cases_at k (length ps))
  call_asked (F.Applies d) k ps = applied_asked d k ps
  call_asked callee k ps = false

  abbrev pub with_asked : List ℕ → List Case → Bool
  with_asked [] cases = false
  with_asked (i ∷ []) cases = cases_typed j (here.is_work j (O.WithField i) in_order) cases
  with_asked (i ∷ k ∷ is) cases = cases_typed j (here.is_changed j (i ∷ k ∷ is)) cases

  abbrev pub way_asked : Way → ℕ → Bool
  way_asked (Y.Field struct i) k = cases_typed j (here.is_work j (O.Field i) in_order) (cases_at k 1)
  way_asked Y.Item k = cases_typed j (here.is_work j O.Item in_order) (cases_at k 2)
  way_asked Y.Slice k = cases_typed j (here.is_work j O.Slice in_order) (cases_at k 3)

  abbrev pub ways_asked : List Suffix → Bool
  ways_asked [] = true
  ways_asked (s ∷ ss) = way_asked s.way s.number && ways_asked ss

  abbrev pub part_asked : List Suffix → ℕ → Bool
  part_asked suffixes n = suffixes_fit suffixes (n - 1) && ways_asked suffixes

  abbrev pub cast_asked : ℕ → Bool
  cast_asked k = cases_typed j (here.is_recast j) (cases_at k 1)

  -- a part of what a holder holds
  abbrev pub part_right : Cell → Bool
  part_right c =
      cases_typed j (λ k. true) (cases_at c.read 0)
      && (here.holder_right j (holder_in c.holder) (cases_at c.read 0)
      && here.replaces_all j c.suffixes.now (cases_at c.read 0) (gives_in (cases_at c.number 1)))

  abbrev pub written_asked : ℕ → ℕ → ℕ → Bool
  written_asked k i n = cast_asked k && here.leads_right j (cases_at i n) ((tables_here j).leads i)

  abbrev pub several_asked : List Aim → List Typing → Bool
  several_asked cs ps = here.cells_right j cs && here.all_fields_right j (here.last_types j ps) (length cs)

  abbrev pub spot_fits : Option Spot → List Typing → Bool
  spot_fits None ps = false
  spot_fits (Some (one c)) ps = here.cell_right j c
  spot_fits (Some (several cs)) ps = several_asked cs ps
  spot_fits (Some (called k place m i f)) ps = written_asked k i (length ps)

  abbrev pub spot_asked : Option Spot → List Typing → Bool
  spot_asked spot ps = nat_le 1 (length ps) && spot_fits spot ps

  abbrev pub assign_asked : List Target → List Typing → Bool
  assign_asked (t ∷ []) ps = not is_pure && spot_asked (target_spot t) ps
  assign_asked ts ps = false

  -- where there is a second branch, both come to the type of the case behind
  abbrev pub if_asked : ℕ → List Typing → Bool
  if_asked k ps = if nat_eq (length ps) 3 then here.meet_right j (here.arms_types j (others ps)) (cases_at k 1) else true

  abbrev pub match_asked : List Arm → ℕ → List Typing → Bool
  match_asked arms k ps =
      nat_eq (length arms) (length (others ps))
      && (all_end_right arms (first_ends ps) && here.meet_right j (here.arms_types j (others ps)) (cases_at k 1))

  abbrev pub caught_ends : ℕ → List End
  caught_ends k = ends_of ((tables_here j).gives k) (cases_at k 0)

  abbrev pub caught_asked : ℕ → Bool
  caught_asked k =
      cases_typed j (asked j (A.Sourced (Some (signs_here j).exception))) (cases_at k 0) && here.all_thrown j (caught_ends k)

  abbrev pub try_asked : List Arm → ℕ → List Typing → Bool
  try_asked arms k ps =
      nat_eq (length arms) (length (others ps))
      && (caught_asked k && (all_end_right arms (caught_ends k) && here.meet_right j (here.arms_types j ps) (cases_at k 1)))

  abbrev pub clauses_asked : List Arm → ℕ → Bool
  clauses_asked arms n = nat_eq (length arms) n && all_given_right arms (callees_here j).given

  abbrev pub option_right : Sized → Sized → Bool
  option_right t option =
      here.works j (O.Construct 0) one_operand (t ∷ []) option && here.works j (O.Construct 1) (here.no_value j ∷ []) [] option

  abbrev pub option_asked : Typ → List Typing → Bool
  option_asked t ps =
      here.all_come j (first_types ps) (fixed_typ j.setting.now.types.now t)
      && option_right (fixed_typ j.setting.now.types.now t) (fixed_typ j.setting.now.types.now (option_typ t))

  -- ---- variables, where they are read at types that are known

  abbrev pub var_asked : List ℕ → List Typing → Bool
  var_asked text ps = here.kept_right j ((tables_here j).reads text) (first_types ps)

  abbrev pub variable_asked : List ℕ → ℕ → Bool
  variable_asked text k = here.variable_right j ((tables_here j).reads text) (cases_at k 0)

  abbrev pub variable_types : List ℕ → ℕ → List Sized
  variable_types text k = here.variable_types j ((tables_here j).reads text) (cases_at k 0)

  -- of a kind that has as many parts as it takes
  abbrev pub kind_asked : Kind → ℕ → List Typing → Bool
  kind_asked (K.Constant literal) k ps = literal_asked literal
  kind_asked (K.Local name) k ps = cases_typed j (here.is_cast j) (cases_at k 1)
  kind_asked (K.TopLevel i) k ps = let_asked i (cases_at k 0)
  kind_asked (K.Register r) k ps = register_asked r k
  kind_asked (K.Call callee) k ps = call_asked callee k ps
  kind_asked K.Tuple k ps = cases_typed j (here.is_work j O.Build in_order) (cases_at k (length ps))
  kind_asked (K.Vector shape) k ps = cases_typed j (here.is_work j O.Build reverse) (cases_at k (length ps))
  kind_asked (K.List shape) k ps = cases_typed j (here.is_work j O.Build in_order) (cases_at k (length ps))
  kind_asked (K.Cons shape) k ps = cases_typed j (here.is_work j O.Cons in_order) (cases_at k (length ps))
  kind_asked (K.Struct struct fields) k ps = cases_typed j (here.is_work j O.Build (in_fields (here.no_value j) fields)) (cases_at k (length ps))
  kind_asked (K.With struct fields) k ps = with_asked fields (cases_at k (length ps))
  kind_asked (K.Part suffixes) k ps = part_asked suffixes (length ps)
  kind_asked K.WithItem k ps = cases_typed j (here.is_work j O.WithItem in_order) (cases_at k 3)
  kind_asked K.WithSlice k ps = cases_typed j (here.is_work j O.WithSlice in_order) (cases_at k 4)
  kind_asked (K.Cast written) k ps = cases_typed j (here.is_recast j) (cases_at k 1)
  kind_asked (K.SizeOf t numbers) k ps = size_asked t
  kind_asked (K.Constraint c numbers) k ps = condition_asked c
  kind_asked (K.Assign targets) k ps = assign_asked targets ps
  kind_asked (K.If shape) k ps = if_asked k ps
  kind_asked K.While k ps = not is_pure
  kind_asked K.Repeat k ps = not is_pure
  kind_asked (K.Foreach name way) k ps = not is_pure
  kind_asked K.Throw k ps = here.are_of j (signs_here j).exception (first_types ps)
  kind_asked K.Return k ps = here.are_of j (signs_here j).result (first_types ps)
  kind_asked (K.Let arm) k ps = here.ends_right j arm (first_ends ps)
  kind_asked (K.Match arms shape) k ps = match_asked arms k ps
  kind_asked (K.Try arms shape) k ps = try_asked arms k ps
  kind_asked (K.Clauses arms) k ps = clauses_asked arms (length ps)
  kind_asked (K.Optional t) k ps = option_asked t ps
  kind_asked (K.Var text written) k ps = var_asked text ps
  kind_asked (K.Variable text) k ps = variable_asked text k
  kind_asked kind k ps = true

  -- ---- and of its parts

  abbrev pub statement_asked : Statement → Typing → Bool
  statement_asked (S.Define place arm) a = here.ends_right j arm a.ends
  statement_asked (S.Declare text written) a = here.kept_right j ((tables_here j).reads text) a.types
  statement_asked s a = true

  abbrev pub last_asked : ℕ → Bool
  last_asked k = cast_asked k && cases_typed j (asked j (A.Sourced (Some (signs_here j).result))) (cases_at k 1)

  abbrev pub kind_parts : Kind → List Typing → Bool
  kind_parts (K.Block statements) ps = here.block_right j statements ps
  kind_parts kind ps = all_right ps

  abbrev pub kind_judged : Kind → ℕ → List Typing → Bool
  kind_judged kind k ps = count_fits kind (length ps) && (kind_asked kind k ps && kind_parts kind ps)

  -- ---- the types that the value of a kind may have that has as many parts as it takes

  abbrev pub second_types : List Typing → List Sized
  second_types ps = first_types (others ps)

  abbrev pub one_branch : List Typing → List Sized
  one_branch ps = second_types ps ++ unit_typ ∷ []

  abbrev pub if_types : ℕ → List Typing → List Sized
  if_types k ps = if nat_eq (length ps) 2 then one_branch ps else gives_in (cases_at k 1)

  -- a call that writes has its own, with so many parts
  abbrev pub spot_types : Option Spot → ℕ → List Sized
  spot_types (Some (called k place m i f)) n = gives_in (cases_at i n)
  spot_types spot n = unit_typ ∷ []

  abbrev pub assign_types : List Target → ℕ → List Sized
  assign_types (t ∷ []) n = spot_types (target_spot t) n
  assign_types ts n = []

  abbrev pub size_types : Num → List Sized
  size_types t = here.number_types j ((callees_here j).size t)

  abbrev pub condition_types : Con → List Sized
  condition_types c = here.truth_types j ((callees_here j).truth c)

  abbrev pub literal_types : Literal → List Sized
  literal_types literal = fixed_typ j.setting.now.types.now (literal_typ literal) ∷ []

  abbrev pub option_types : Typ → List Sized
  option_types t = fixed_typ j.setting.now.types.now (option_typ t) ∷ fixed_typ j.setting.now.types.now (option_typ t) ∷ []

  abbrev pub types_by : Kind → ℕ → List Typing → List Sized
  types_by (K.Constant literal) k ps = fixed_typ j.setting.now.types.now (literal_typ literal) ∷ []
  types_by (K.Local name) k ps = gives_in (cases_at k 1)
  types_by (K.TopLevel i) k ps = gives_in (cases_at k 0)
  types_by (K.Register r) k ps = gives_in (cases_at k 0)
  types_by (K.Call callee) k ps = gives_in (cases_at k (length ps))
  types_by K.Tuple k ps = gives_in (cases_at k (length ps))
  types_by (K.Vector shape) k ps = gives_in (cases_at k (length ps))
  types_by (K.List shape) k ps = gives_in (cases_at k (length ps))
  types_by (K.Cons shape) k ps = gives_in (cases_at k (length ps))
  types_by (K.Struct struct fields) k ps = gives_in (cases_at k (length ps))
  types_by (K.With struct fields) k ps = gives_in (cases_at k (length ps))
  types_by (K.Part suffixes) k ps = here.path_types j suffixes (first_types ps)
  types_by K.WithItem k ps = gives_in (cases_at k 3)
  types_by K.WithSlice k ps = gives_in (cases_at k 4)
  types_by (K.Cast written) k ps = gives_in (cases_at k 1)
  types_by (K.SizeOf t numbers) k ps = size_types t
  types_by (K.Constraint c numbers) k ps = condition_types c
  types_by (K.Assign targets) k ps = assign_types targets (length ps)
  types_by (K.Block statements) k ps = here.block_types j statements ps
  types_by (K.Var name written) k ps = second_types ps
  types_by (K.If shape) k ps = if_types k ps
  types_by K.While k ps = unit_typ ∷ []
  types_by K.Repeat k ps = unit_typ ∷ []
  types_by (K.Foreach name way) k ps = unit_typ ∷ []
  types_by (K.Assert text) k ps = unit_typ ∷ []
  types_by K.And k ps = fixed_typ j.setting.now.types.now T.Bool ∷ []
  types_by K.Or k ps = fixed_typ j.setting.now.types.now T.Bool ∷ []
  types_by K.When k ps = second_types ps
  types_by (K.Let arm) k ps = second_types ps
  types_by (K.Match arms shape) k ps = gives_in (cases_at k 1)
  types_by (K.Try arms shape) k ps = gives_in (cases_at k 1)
  types_by (K.Clauses arms) k ps = here.arms_types j ps
  types_by (K.Optional t) k ps = option_types t
  types_by (K.Variable text) k ps = variable_types text k
  types_by kind k ps = []
