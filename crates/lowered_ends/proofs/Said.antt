-- What is said of the values of nodes, by their kinds.
use Rattle.std.proofs.Common.{◌≡◌, ◌∙◌, ◌≤◌, ℕ, ℤ, nat_eq, zero, suc, true, false, List, [], ◌∷◌, length, map, refl, sym, ap, arith}
use Rattle.std.proofs.lemmas.Bool.{ne_eqb}
use Rattle.std.specs.Prelude.{Bool, Option, Some, None}
use Rattle.sail_types.specs.declared.numbers.Con.{Con}
use Rattle.sail_types.specs.declared.numbers.Num.{Num}
use Rattle.sail_types.specs.declared.shapes.Shape.{Shape}
use Rattle.sail_types.specs.declared.table.Types.{Types}
use Rattle.sail_types.specs.declared.types.Typ.{Typ}
use Rattle.sail_core.specs.declared.patterns.Arm.{Arm}
use Rattle.sail_core.specs.declared.patterns.Literal.{Literal}
use Rattle.sail_core.specs.declared.targets.Suffix.{Suffix}
use Rattle.sail_core.specs.declared.targets.Target.{Target}
use Rattle.sail_core.specs.declared.tree.Callee.TheVariants as F
use Rattle.sail_core.specs.declared.tree.Core.{Core, out-Core}
use Rattle.sail_core.specs.declared.tree.Counting.{Counting}
use Rattle.sail_core.specs.declared.tree.Kind.TheVariants as K
use Rattle.sail_core.specs.declared.tree.Statement.{Statement}
use Rattle.sail_core.specs.declared.tree.Statement.TheVariants as X
use Rattle.sail_core.specs.declared.written.Written.{Written}
use Rattle.sail_core.specs.declared.written.WrittenNumber.{WrittenNumber}
use Rattle.lowered_pieces.specs.Places.{Naming}
use Rattle.lowered_steps.specs.declared.setting.Setting.{Setting}
use Rattle.lowered_ends.specs.declared.around.Around.{Around}
use Rattle.sail_types.specs.declared.rows.Row.{Row}
use Rattle.row_types.specs.Calls.{has_state}
use Rattle.value_indices.specs.declared.indices.Indices.{Indices}
use Rattle.sized_nodes.specs.declared.trees.Case.{Case}
use Rattle.lowered_pieces.specs.Forms.{Piece, ends_of, one_end, variable_piece}
use Rattle.lowered_pieces.specs.Gathered.{state_piece}
use Rattle.lowered_pieces.specs.Lowering.{Node, number_piece, pieces_of, row_piece, truth_piece}
use Rattle.lowered_pieces.specs.Nodes.{cases_at}
use Rattle.lowered_pieces.specs.Paths.{path_ends}
use Rattle.lowered_pieces.specs.Tables.{Tables}
use Rattle.lowered_pieces.proofs.Pathing.{path_said}
use Rattle.sail_core.specs.declared.tree.Giver.TheVariants as G
use Rattle.sized_meanings.specs.Present.{gives_at}
use Rattle.lowered_steps.specs.Setting.{kit_for, nodes_in, number_for, reads_at, size_for, tables_for}
use Rattle.size_values.specs.declared.sized.Sized.{Sized}
use Rattle.size_values.specs.declared.sized.Sized.TheVariants as S
use Rattle.lowered_ends.specs.Around.{callees_of, node_for, piece_as}
use Rattle.lowered_ends.specs.Ends.{block_ends, counted_ends, if_known, literal_ends, met_ends, only_gives, part_ends, read_ends, row_ends, second_ends}
use Rattle.lowered_ends.specs.Ends.{size_ends, truth_ends, variable_ends}
use Rattle.lowered_ends.proofs.Opened.{many_nodes, piece_with}
use Rattle.lowered_ends.proofs.Sizes.{bool_typ, integer_typ}

module _ (setting : Setting) (around : Around) (name : Naming) (node : Core) where
  abbrev read_piece : List Sized → ℕ → List ℕ → Piece
  read_piece us k text =
      variable_piece (kit_for setting name) (number_for setting) us text (cases_at k 0 (nodes_in setting)) (gives_at (nodes_in setting) (G.Node k))

  read_said : (us : List Sized) (k : ℕ) (text : List ℕ) → read_ends setting us k ≡ (read_piece us k text).ends
  read_said [] k text = refl
  read_said (u ∷ us) k text = refl

  pub variable_said : (text : List ℕ) (cs : List Core) → variable_ends setting text (out-Core node).number
      ≡ (piece_with setting around name (K.Variable text) node cs).ends
  variable_said text cs = read_said (reads_at setting.reads.now text) (out-Core node).number text

  pub and_ends : (cs : List Core) → [] ≡ (piece_with setting around name K.And node cs).ends
  and_ends [] = refl
  and_ends (a ∷ []) = refl
  and_ends (a ∷ b ∷ []) = refl
  and_ends (a ∷ b ∷ c ∷ cs) = refl

  pub or_ends : (cs : List Core) → [] ≡ (piece_with setting around name K.Or node cs).ends
  or_ends [] = refl
  or_ends (a ∷ []) = refl
  or_ends (a ∷ b ∷ []) = refl
  or_ends (a ∷ b ∷ c ∷ cs) = refl

  pub when_ends : (cs : List Core) → second_ends setting around name cs ≡ (piece_with setting around name K.When node cs).ends
  when_ends [] = refl
  when_ends (a ∷ []) = refl
  when_ends (a ∷ b ∷ []) = refl
  when_ends (a ∷ b ∷ c ∷ cs) = refl

  pub foreach_ends : (text : List ℕ) (way : Counting) (cs : List Core) → [] ≡ (piece_with setting around name (K.Foreach text way) node cs).ends
  foreach_ends text way [] = refl
  foreach_ends text way (a ∷ []) = refl
  foreach_ends text way (a ∷ b ∷ []) = refl
  foreach_ends text way (a ∷ b ∷ c ∷ []) = refl
  foreach_ends text way (a ∷ b ∷ c ∷ d ∷ []) = refl
  foreach_ends text way (a ∷ b ∷ c ∷ d ∷ e ∷ cs) = refl

  pub while_ends : (cs : List Core) → [] ≡ (piece_with setting around name K.While node cs).ends
  while_ends [] = refl
  while_ends (a ∷ []) = refl
  while_ends (a ∷ b ∷ []) = refl
  while_ends (a ∷ b ∷ c ∷ []) = refl
  while_ends (a ∷ b ∷ c ∷ d ∷ cs) = refl

  pub repeat_ends : (cs : List Core) → [] ≡ (piece_with setting around name K.Repeat node cs).ends
  repeat_ends [] = refl
  repeat_ends (a ∷ []) = refl
  repeat_ends (a ∷ b ∷ []) = refl
  repeat_ends (a ∷ b ∷ c ∷ []) = refl
  repeat_ends (a ∷ b ∷ c ∷ d ∷ cs) = refl

  pub return_ends : (cs : List Core) → [] ≡ (piece_with setting around name K.Return node cs).ends
  return_ends [] = refl
  return_ends (a ∷ []) = refl
  return_ends (a ∷ b ∷ cs) = refl

  pub throw_ends : (cs : List Core) → [] ≡ (piece_with setting around name K.Throw node cs).ends
  throw_ends [] = refl
  throw_ends (a ∷ []) = refl
  throw_ends (a ∷ b ∷ cs) = refl

  pub exit_ends : (cs : List Core) → [] ≡ (piece_with setting around name K.Exit node cs).ends
  exit_ends [] = refl
  exit_ends (a ∷ []) = refl
  exit_ends (a ∷ b ∷ cs) = refl

  pub assert_ends : (text : Option (List ℕ)) (cs : List Core) → [] ≡ (piece_with setting around name (K.Assert text) node cs).ends
  assert_ends text [] = refl
  assert_ends text (a ∷ []) = refl
  assert_ends text (a ∷ b ∷ cs) = refl

  pub optional_ends : (t : Typ) (cs : List Core) → [] ≡ (piece_with setting around name (K.Optional t) node cs).ends
  optional_ends t [] = refl
  optional_ends t (a ∷ []) = refl
  optional_ends t (a ∷ b ∷ cs) = refl

  pub assign_ends : (ts : List Target) (cs : List Core) → [] ≡ (piece_with setting around name (K.Assign ts) node cs).ends
  assign_ends [] cs = refl
  assign_ends (t ∷ []) cs = refl
  assign_ends (t ∷ u ∷ ts) cs = refl

  -- with another count of parts
  uncounted : (o n m : ℕ) → (n ≡ m → ⊥) → counted_ends setting (out-Core node).number o (nat_eq n m) ≡ []
  uncounted o n m other = ap (λ b. counted_ends setting (out-Core node).number o b) (ne_eqb n m other)

  pub withitem_ends : (cs : List Core) → counted_ends setting (out-Core node).number 3 (nat_eq (length cs) 3)
      ≡ (piece_with setting around name K.WithItem node cs).ends
  withitem_ends [] = refl
  withitem_ends (a ∷ []) = refl
  withitem_ends (a ∷ b ∷ []) = refl
  withitem_ends (a ∷ b ∷ c ∷ []) = refl
  withitem_ends (a ∷ b ∷ c ∷ d ∷ cs) = uncounted 3 (suc (suc (suc (suc (length cs))))) 3 (λ e. omega (arith, e))

  pub withslice_ends : (cs : List Core) → counted_ends setting (out-Core node).number 4 (nat_eq (length cs) 4)
      ≡ (piece_with setting around name K.WithSlice node cs).ends
  withslice_ends [] = refl
  withslice_ends (a ∷ []) = refl
  withslice_ends (a ∷ b ∷ []) = refl
  withslice_ends (a ∷ b ∷ c ∷ []) = refl
  withslice_ends (a ∷ b ∷ c ∷ d ∷ []) = refl
  withslice_ends (a ∷ b ∷ c ∷ d ∷ e ∷ cs) = uncounted 4 (suc (suc (suc (suc (suc (length cs)))))) 4 (λ x. omega (arith, x))

  pub if_ends : (shape : Shape) (cs : List Core) → counted_ends setting (out-Core node).number 1 (nat_eq (length cs) 3)
      ≡ (piece_with setting around name (K.If shape) node cs).ends
  if_ends shape [] = refl
  if_ends shape (a ∷ []) = refl
  if_ends shape (a ∷ b ∷ []) = refl
  if_ends shape (a ∷ b ∷ c ∷ []) = refl
  if_ends shape (a ∷ b ∷ c ∷ d ∷ cs) = uncounted 1 (suc (suc (suc (suc (length cs))))) 3 (λ e. omega (arith, e))

  pub match_ends : (arms : List Arm) (shape : Shape) (cs : List Core) → met_ends setting (out-Core node).number (length cs)
      ≡ (piece_with setting around name (K.Match arms shape) node cs).ends
  match_ends arms shape [] = refl
  match_ends arms shape (a ∷ cs) = refl

  pub try_ends : (arms : List Arm) (shape : Shape) (cs : List Core) → met_ends setting (out-Core node).number (length cs)
      ≡ (piece_with setting around name (K.Try arms shape) node cs).ends
  try_ends arms shape [] = refl
  try_ends arms shape (a ∷ cs) = refl

  pub let_ends : (arm : Arm) (cs : List Core) → second_ends setting around name cs ≡ (piece_with setting around name (K.Let arm) node cs).ends
  let_ends arm [] = refl
  let_ends arm (a ∷ []) = refl
  let_ends arm (a ∷ b ∷ []) = refl
  let_ends arm (a ∷ b ∷ c ∷ cs) = refl

  pub var_ends : (text : List ℕ) (w : Option Written) (cs : List Core) → second_ends setting around name cs
      ≡ (piece_with setting around name (K.Var text w) node cs).ends
  var_ends text w [] = refl
  var_ends text w (a ∷ []) = refl
  var_ends text w (a ∷ b ∷ []) = refl
  var_ends text w (a ∷ b ∷ c ∷ cs) = refl

  pub block_same : (ss : List Statement) (cs : List Core) → block_ends setting around name ss cs
      ≡ (piece_with setting around name (K.Block ss) node cs).ends
  block_same [] [] = refl
  block_same [] (c ∷ []) = refl
  block_same [] (c ∷ d ∷ cs) = refl
  block_same (X.Evaluate ∷ ss) [] = refl
  block_same (X.Define place arm ∷ ss) [] = refl
  block_same (X.Declare text w ∷ ss) [] = refl
  block_same (X.Evaluate ∷ ss) (c ∷ cs) = block_same ss cs
  block_same (X.Define place arm ∷ ss) (c ∷ cs) = block_same ss cs
  block_same (X.Declare text w ∷ ss) (c ∷ cs) = block_same ss cs

  pub part_same : (ss : List Suffix) (cs : List Core) → part_ends setting around name ss cs ≡ (piece_with setting around name (K.Part ss) node cs).ends
  part_same ss [] = refl
  part_same ss (c ∷ cs) =
      let tables : Tables = tables_for setting around.instances.now in
      let ps : List Piece = pieces_of (map (node_for setting around name) cs) in
      ap (λ n. path_ends tables ss n (node_for setting around name c).piece.ends)
      (sym (many_nodes (node_for setting around name) cs)
      ∙ sym (many_nodes (λ (n : Node). n.piece) (map (node_for setting around name) cs)))
      ∙ sym (path_said (kit_for setting name) (number_for setting) tables ss ps (node_for setting around name c).piece)

  pub local_ends : (text : List ℕ) (cs : List Core) → counted_ends setting (out-Core node).number 1 (nat_eq (length cs) 0)
      ≡ (piece_with setting around name (K.Local text) node cs).ends
  local_ends text [] = refl
  local_ends text (a ∷ cs) = uncounted 1 (suc (length cs)) 0 (λ e. omega (arith, e))

  pub top_ends : (i : ℕ) (cs : List Core) → counted_ends setting (out-Core node).number 0 (nat_eq (length cs) 0)
      ≡ (piece_with setting around name (K.TopLevel i) node cs).ends
  top_ends i [] = refl
  top_ends i (a ∷ cs) = uncounted 0 (suc (length cs)) 0 (λ e. omega (arith, e))

  pub register_ends : (r : ℕ) (cs : List Core) → counted_ends setting (out-Core node).number 0 (nat_eq (length cs) 0)
      ≡ (piece_with setting around name (K.Register r) node cs).ends
  register_ends r [] = refl
  register_ends r (a ∷ cs) = uncounted 0 (suc (length cs)) 0 (λ e. omega (arith, e))

  pub cast_ends : (w : Option Written) (cs : List Core) → counted_ends setting (out-Core node).number 1 (nat_eq (length cs) 1)
      ≡ (piece_with setting around name (K.Cast w) node cs).ends
  cast_ends w [] = refl
  cast_ends w (a ∷ []) = refl
  cast_ends w (a ∷ b ∷ cs) = uncounted 1 (suc (suc (length cs))) 1 (λ e. omega (arith, e))

  pub applies_ends : (d : ℕ) (cs : List Core) → counted_ends setting (out-Core node).number 1 (nat_eq (length cs) 1)
      ≡ (piece_with setting around name (K.Call (F.Applies d)) node cs).ends
  applies_ends d [] = refl
  applies_ends d (a ∷ []) = refl
  applies_ends d (a ∷ b ∷ cs) = uncounted 1 (suc (suc (length cs))) 1 (λ e. omega (arith, e))

  pub constant_ends : (literal : Literal) (cs : List Core) → literal_ends setting.types.now literal (length cs)
      ≡ (piece_with setting around name (K.Constant literal) node cs).ends
  constant_ends literal [] = refl
  constant_ends literal (a ∷ cs) = refl

  pub sizeof_ends : (t : Num) (us : List WrittenNumber) (cs : List Core) → size_ends setting t (length cs)
      ≡ (piece_with setting around name (K.SizeOf t us) node cs).ends
  sizeof_ends t us [] = known (size_for setting t)
    where
      known : (z : Option ℤ) → if_known S.Int z ≡ (number_piece setting.types.now (kit_for setting name) (number_for setting) (callees_of setting around)
          (tables_for setting around.instances.now) z).ends
      known None = refl
      known (Some z) = ap (λ (s : Sized). one_end s) (sym (integer_typ setting.types.now))
  sizeof_ends t us (a ∷ cs) = refl

  pub constraint_ends : (t : Con) (us : List WrittenNumber) (cs : List Core) → truth_ends setting t (length cs)
      ≡ (piece_with setting around name (K.Constraint t us) node cs).ends
  constraint_ends t us [] = known ((callees_of setting around).truth t)
    where
      known : (b : Option Bool) → if_known S.Bool b ≡ (truth_piece setting.types.now (kit_for setting name) (number_for setting) (callees_of setting around)
          (tables_for setting around.instances.now) b).ends
      known None = refl
      known (Some b) = ap (λ (s : Sized). one_end s) (sym (bool_typ setting.types.now))
  constraint_ends t us (a ∷ cs) = refl

  -- of a node that makes its value of all its parts
  pub made_same : (n : ℕ) → n ≡ length (out-Core node).parts
      → ends_of (gives_at (nodes_in setting) (G.Node (out-Core node).number)) (cases_at (out-Core node).number n (nodes_in setting))
      ≡ ends_of (gives_at (nodes_in setting) (G.Node (out-Core node).number))
      (cases_at (out-Core node).number (length (pieces_of (map (node_for setting around name) (out-Core node).parts))) (nodes_in setting))
  made_same n is =
      ap (λ m. ends_of (gives_at (nodes_in setting) (G.Node (out-Core node).number)) (cases_at (out-Core node).number m (nodes_in setting)))
      (is ∙ sym (many_nodes (node_for setting around name) (out-Core node).parts)
      ∙ sym (many_nodes (λ (n : Node). n.piece) (map (node_for setting around name) (out-Core node).parts)))

  pub with_ends : (u : ℕ) (is : List ℕ) → 1 ≤ length is → ends_of (gives_at (nodes_in setting) (G.Node (out-Core node).number))
      (cases_at (out-Core node).number (length (pieces_of (map (node_for setting around name) (out-Core node).parts))) (nodes_in setting))
      ≡ (piece_as setting around name (K.With u is) node).ends
  with_ends u [] some = absurd (omega arith)
  with_ends u (i ∷ []) some = refl
  with_ends u (i ∷ j ∷ is) some = refl

  -- a builtin
  state_said : (row : Row) (cs : List Case) (gives : List Indices) (ps : List Piece) → only_gives setting cs
      ≡ (state_piece (kit_for setting name) row cs gives ps).ends
  state_said row [] gives ps = refl
  state_said row (c ∷ []) gives ps = refl
  state_said row (c ∷ d ∷ cs) gives ps = refl

  by_state : (row : Row) (b : Bool) (ps : List Piece) → row_ends setting b (out-Core node).number (length ps)
      ≡ (row_piece setting.types.now (kit_for setting name) (number_for setting) (callees_of setting around) (tables_for setting around.instances.now) b
      (out-Core node).number row ps).ends
  by_state row true ps =
      state_said row (cases_at (out-Core node).number (length ps) (nodes_in setting)) (gives_at (nodes_in setting) (G.Node (out-Core node).number)) ps
  by_state row false ps = refl

  pub row_said : (row : Row) (n : ℕ) → n ≡ length (out-Core node).parts
      → row_ends setting (has_state row) (out-Core node).number n ≡ (piece_as setting around name (K.Call (F.Row row)) node).ends
  row_said row n is =
      ap (λ m. row_ends setting (has_state row) (out-Core node).number m)
      (is ∙ sym (many_nodes (node_for setting around name) (out-Core node).parts)
      ∙ sym (many_nodes (λ (n : Node). n.piece) (map (node_for setting around name) (out-Core node).parts)))
      ∙ by_state row (has_state row) (pieces_of (map (node_for setting around name) (out-Core node).parts))

-- parts where there should be none
pub literal_short : (types : Types) (literal : Literal) (n : ℕ) → 1 ≤ n → [] ≡ literal_ends types literal n
literal_short types literal zero some = absurd (omega (arith, some))
literal_short types literal (suc n) some = refl

module _ (setting : Setting) where
  pub size_short : (t : Num) (n : ℕ) → 1 ≤ n → [] ≡ size_ends setting t n
  size_short t zero some = absurd (omega (arith, some))
  size_short t (suc n) some = refl

  pub truth_short : (c : Con) (n : ℕ) → 1 ≤ n → [] ≡ truth_ends setting c n
  truth_short c zero some = absurd (omega (arith, some))
  truth_short c (suc n) some = refl

  pub several_gives : (cs : List Case) → 2 ≤ length cs → [] ≡ only_gives setting cs
  several_gives [] some = absurd (omega (arith, some))
  several_gives (c ∷ []) some = absurd (omega (arith, some))
  several_gives (c ∷ d ∷ cs) some = refl
