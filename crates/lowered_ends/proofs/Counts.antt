-- How many parts a node has that is lowered, by its kind; and what kinds hold that doesn't matter to their code.
use Rattle.std.proofs.Common.{◌≡◌, ◌≤◌, ℕ, true, List, [], ◌∷◌, length, refl, arith}
use Rattle.std.proofs.lemmas.Bool.{false≢true}
use Rattle.std.specs.Prelude.{Option}
use Rattle.sail_base.specs.declared.place.Place.{Place as TextPlace}
use Rattle.sail_types.specs.declared.numbers.Con.{Con}
use Rattle.sail_types.specs.declared.numbers.Num.{Num}
use Rattle.sail_types.specs.declared.shapes.Shape.{Shape}
use Rattle.sail_types.specs.declared.table.Types.{Types}
use Rattle.sail_core.specs.declared.patterns.Arm.{Arm}
use Rattle.sail_core.specs.declared.patterns.Literal.{Literal}
use Rattle.sail_core.specs.declared.targets.Suffix.{Suffix}
use Rattle.sail_core.specs.declared.targets.Target.{Target}
use Rattle.sail_core.specs.declared.tree.Callee.TheVariants as F
use Rattle.sail_core.specs.declared.tree.Counting.{Counting}
use Rattle.sail_core.specs.declared.tree.Kind.TheVariants as K
use Rattle.sail_core.specs.declared.written.Written.{Written}
use Rattle.sail_core.specs.declared.written.WrittenNumber.{WrittenNumber}
use Rattle.size_values.specs.declared.sized.Sized.{Sized}
use Rattle.lowered_pieces.specs.Forms.{Callees, Piece}
use Rattle.lowered_pieces.specs.Lowering.{Node, kind_lowered, kind_piece}
use Rattle.lowered_pieces.specs.Places.{Kit}
use Rattle.lowered_pieces.specs.Tables.{Tables}

module _ (types : Types) (callees : Callees) (tables : Tables) (k : ℕ) where
  pub constant_parts : (literal : Literal) (ns : List Node) → kind_lowered types callees tables k (K.Constant literal) ns ≡ true → length ns ≡ 0
  constant_parts literal [] h = refl
  constant_parts literal (a ∷ ns) h = absurd (false≢true h)

  pub local_parts : (text : List ℕ) (ns : List Node) → kind_lowered types callees tables k (K.Local text) ns ≡ true → length ns ≡ 0
  local_parts text [] h = refl
  local_parts text (a ∷ ns) h = absurd (false≢true h)

  pub top_parts : (i : ℕ) (ns : List Node) → kind_lowered types callees tables k (K.TopLevel i) ns ≡ true → length ns ≡ 0
  top_parts i [] h = refl
  top_parts i (a ∷ ns) h = absurd (false≢true h)

  pub register_parts : (r : ℕ) (ns : List Node) → kind_lowered types callees tables k (K.Register r) ns ≡ true → length ns ≡ 0
  register_parts r [] h = refl
  register_parts r (a ∷ ns) h = absurd (false≢true h)

  pub size_parts : (t : Num) (us : List WrittenNumber) (ns : List Node) → kind_lowered types callees tables k (K.SizeOf t us) ns ≡ true → length ns ≡ 0
  size_parts t us [] h = refl
  size_parts t us (a ∷ ns) h = absurd (false≢true h)

  pub truth_parts : (t : Con) (us : List WrittenNumber) (ns : List Node) → kind_lowered types callees tables k (K.Constraint t us) ns ≡ true → length ns ≡ 0
  truth_parts t us [] h = refl
  truth_parts t us (a ∷ ns) h = absurd (false≢true h)

  pub cast_parts : (w : Option Written) (ns : List Node) → kind_lowered types callees tables k (K.Cast w) ns ≡ true → length ns ≡ 1
  cast_parts w [] h = absurd (false≢true h)
  cast_parts w (a ∷ []) h = refl
  cast_parts w (a ∷ b ∷ ns) h = absurd (false≢true h)

  pub applies_parts : (d : ℕ) (ns : List Node) → kind_lowered types callees tables k (K.Call (F.Applies d)) ns ≡ true → length ns ≡ 1
  applies_parts d [] h = absurd (false≢true h)
  applies_parts d (a ∷ []) h = refl
  applies_parts d (a ∷ b ∷ ns) h = absurd (false≢true h)

  pub return_parts : (ns : List Node) → kind_lowered types callees tables k K.Return ns ≡ true → length ns ≡ 1
  return_parts [] h = absurd (false≢true h)
  return_parts (a ∷ []) h = refl
  return_parts (a ∷ b ∷ ns) h = absurd (false≢true h)

  pub throw_parts : (ns : List Node) → kind_lowered types callees tables k K.Throw ns ≡ true → length ns ≡ 1
  throw_parts [] h = absurd (false≢true h)
  throw_parts (a ∷ []) h = refl
  throw_parts (a ∷ b ∷ ns) h = absurd (false≢true h)

  pub exit_parts : (ns : List Node) → kind_lowered types callees tables k K.Exit ns ≡ true → length ns ≡ 1
  exit_parts [] h = absurd (false≢true h)
  exit_parts (a ∷ []) h = refl
  exit_parts (a ∷ b ∷ ns) h = absurd (false≢true h)

  pub assert_parts : (text : Option (List ℕ)) (ns : List Node) → kind_lowered types callees tables k (K.Assert text) ns ≡ true → length ns ≡ 1
  assert_parts text [] h = absurd (false≢true h)
  assert_parts text (a ∷ []) h = refl
  assert_parts text (a ∷ b ∷ ns) h = absurd (false≢true h)

  pub both_parts : (ns : List Node) → kind_lowered types callees tables k K.And ns ≡ true → length ns ≡ 2
  both_parts [] h = absurd (false≢true h)
  both_parts (a ∷ []) h = absurd (false≢true h)
  both_parts (a ∷ b ∷ []) h = refl
  both_parts (a ∷ b ∷ c ∷ ns) h = absurd (false≢true h)

  pub or_parts : (ns : List Node) → kind_lowered types callees tables k K.Or ns ≡ true → length ns ≡ 2
  or_parts [] h = absurd (false≢true h)
  or_parts (a ∷ []) h = absurd (false≢true h)
  or_parts (a ∷ b ∷ []) h = refl
  or_parts (a ∷ b ∷ c ∷ ns) h = absurd (false≢true h)

  pub when_parts : (ns : List Node) → kind_lowered types callees tables k K.When ns ≡ true → length ns ≡ 2
  when_parts [] h = absurd (false≢true h)
  when_parts (a ∷ []) h = absurd (false≢true h)
  when_parts (a ∷ b ∷ []) h = refl
  when_parts (a ∷ b ∷ c ∷ ns) h = absurd (false≢true h)

  pub let_parts : (arm : Arm) (ns : List Node) → kind_lowered types callees tables k (K.Let arm) ns ≡ true → length ns ≡ 2
  let_parts arm [] h = absurd (false≢true h)
  let_parts arm (a ∷ []) h = absurd (false≢true h)
  let_parts arm (a ∷ b ∷ []) h = refl
  let_parts arm (a ∷ b ∷ c ∷ ns) h = absurd (false≢true h)

  pub var_parts : (text : List ℕ) (w : Option Written) (ns : List Node) → kind_lowered types callees tables k (K.Var text w) ns ≡ true → length ns ≡ 2
  var_parts text w [] h = absurd (false≢true h)
  var_parts text w (a ∷ []) h = absurd (false≢true h)
  var_parts text w (a ∷ b ∷ []) h = refl
  var_parts text w (a ∷ b ∷ c ∷ ns) h = absurd (false≢true h)

  pub item_parts : (ns : List Node) → kind_lowered types callees tables k K.WithItem ns ≡ true → length ns ≡ 3
  item_parts [] h = absurd (false≢true h)
  item_parts (a ∷ []) h = absurd (false≢true h)
  item_parts (a ∷ b ∷ []) h = absurd (false≢true h)
  item_parts (a ∷ b ∷ c ∷ []) h = refl
  item_parts (a ∷ b ∷ c ∷ d ∷ ns) h = absurd (false≢true h)

  pub while_parts : (ns : List Node) → kind_lowered types callees tables k K.While ns ≡ true → length ns ≡ 3
  while_parts [] h = absurd (false≢true h)
  while_parts (a ∷ []) h = absurd (false≢true h)
  while_parts (a ∷ b ∷ []) h = absurd (false≢true h)
  while_parts (a ∷ b ∷ c ∷ []) h = refl
  while_parts (a ∷ b ∷ c ∷ d ∷ ns) h = absurd (false≢true h)

  pub repeat_parts : (ns : List Node) → kind_lowered types callees tables k K.Repeat ns ≡ true → length ns ≡ 3
  repeat_parts [] h = absurd (false≢true h)
  repeat_parts (a ∷ []) h = absurd (false≢true h)
  repeat_parts (a ∷ b ∷ []) h = absurd (false≢true h)
  repeat_parts (a ∷ b ∷ c ∷ []) h = refl
  repeat_parts (a ∷ b ∷ c ∷ d ∷ ns) h = absurd (false≢true h)

  pub slice_parts : (ns : List Node) → kind_lowered types callees tables k K.WithSlice ns ≡ true → length ns ≡ 4
  slice_parts [] h = absurd (false≢true h)
  slice_parts (a ∷ []) h = absurd (false≢true h)
  slice_parts (a ∷ b ∷ []) h = absurd (false≢true h)
  slice_parts (a ∷ b ∷ c ∷ []) h = absurd (false≢true h)
  slice_parts (a ∷ b ∷ c ∷ d ∷ []) h = refl
  slice_parts (a ∷ b ∷ c ∷ d ∷ e ∷ ns) h = absurd (false≢true h)

  pub foreach_parts : (text : List ℕ) (way : Counting) (ns : List Node) → kind_lowered types callees tables k (K.Foreach text way) ns ≡ true → length ns ≡ 4
  foreach_parts text way [] h = absurd (false≢true h)
  foreach_parts text way (a ∷ []) h = absurd (false≢true h)
  foreach_parts text way (a ∷ b ∷ []) h = absurd (false≢true h)
  foreach_parts text way (a ∷ b ∷ c ∷ []) h = absurd (false≢true h)
  foreach_parts text way (a ∷ b ∷ c ∷ d ∷ []) h = refl
  foreach_parts text way (a ∷ b ∷ c ∷ d ∷ e ∷ ns) h = absurd (false≢true h)

  pub part_parts : (ss : List Suffix) (ns : List Node) → kind_lowered types callees tables k (K.Part ss) ns ≡ true → 1 ≤ length ns
  part_parts ss [] h = absurd (false≢true h)
  part_parts ss (a ∷ ns) h = omega arith

  pub match_parts : (arms : List Arm) (shape : Shape) (ns : List Node) → kind_lowered types callees tables k (K.Match arms shape) ns ≡ true → 1 ≤ length ns
  match_parts arms shape [] h = absurd (false≢true h)
  match_parts arms shape (a ∷ ns) h = omega arith

  pub try_parts : (arms : List Arm) (shape : Shape) (ns : List Node) → kind_lowered types callees tables k (K.Try arms shape) ns ≡ true → 1 ≤ length ns
  try_parts arms shape [] h = absurd (false≢true h)
  try_parts arms shape (a ∷ ns) h = omega arith

  -- an `if` has two or three
  pub if_parts : (shape : Shape) (ns : List Node) → kind_lowered types callees tables k (K.If shape) ns ≡ true → 2 ≤ length ns
  if_parts shape [] h = absurd (false≢true h)
  if_parts shape (a ∷ []) h = absurd (false≢true h)
  if_parts shape (a ∷ b ∷ ns) h = omega arith

  pub if_most : (shape : Shape) (ns : List Node) → kind_lowered types callees tables k (K.If shape) ns ≡ true → length ns ≤ 3
  if_most shape [] h = omega arith
  if_most shape (a ∷ []) h = omega arith
  if_most shape (a ∷ b ∷ []) h = omega arith
  if_most shape (a ∷ b ∷ c ∷ []) h = omega arith
  if_most shape (a ∷ b ∷ c ∷ d ∷ ns) h = absurd (false≢true h)

  -- ---- what doesn't matter

  pub cast_alike : (u w : Option Written) (ns : List Node)
      → kind_lowered types callees tables k (K.Cast u) ns ≡ kind_lowered types callees tables k (K.Cast w) ns
  cast_alike u w [] = refl
  cast_alike u w (a ∷ []) = refl
  cast_alike u w (a ∷ b ∷ ns) = refl

  pub size_alike : (t : Num) (us ws : List WrittenNumber) (ns : List Node)
      → kind_lowered types callees tables k (K.SizeOf t us) ns ≡ kind_lowered types callees tables k (K.SizeOf t ws) ns
  size_alike t us ws [] = refl
  size_alike t us ws (a ∷ ns) = refl

  pub truth_alike : (t : Con) (us ws : List WrittenNumber) (ns : List Node)
      → kind_lowered types callees tables k (K.Constraint t us) ns ≡ kind_lowered types callees tables k (K.Constraint t ws) ns
  truth_alike t us ws [] = refl
  truth_alike t us ws (a ∷ ns) = refl

  pub var_alike : (text : List ℕ) (u w : Option Written) (ns : List Node)
      → kind_lowered types callees tables k (K.Var text u) ns ≡ kind_lowered types callees tables k (K.Var text w) ns
  var_alike text u w [] = refl
  var_alike text u w (a ∷ []) = refl
  var_alike text u w (a ∷ b ∷ []) = refl
  var_alike text u w (a ∷ b ∷ c ∷ ns) = refl

  pub if_alike : (u w : Shape) (ns : List Node) → kind_lowered types callees tables k (K.If u) ns ≡ kind_lowered types callees tables k (K.If w) ns
  if_alike u w [] = refl
  if_alike u w (a ∷ []) = refl
  if_alike u w (a ∷ b ∷ []) = refl
  if_alike u w (a ∷ b ∷ c ∷ []) = refl
  if_alike u w (a ∷ b ∷ c ∷ d ∷ ns) = refl

  pub match_alike : (arms : List Arm) (u w : Shape) (ns : List Node)
      → kind_lowered types callees tables k (K.Match arms u) ns ≡ kind_lowered types callees tables k (K.Match arms w) ns
  match_alike arms u w [] = refl
  match_alike arms u w (a ∷ ns) = refl

  pub try_alike : (arms : List Arm) (u w : Shape) (ns : List Node)
      → kind_lowered types callees tables k (K.Try arms u) ns ≡ kind_lowered types callees tables k (K.Try arms w) ns
  try_alike arms u w [] = refl
  try_alike arms u w (a ∷ ns) = refl

  pub with_alike : (u w : ℕ) (is : List ℕ) (ns : List Node)
      → kind_lowered types callees tables k (K.With u is) ns ≡ kind_lowered types callees tables k (K.With w is) ns
  with_alike u w [] ns = refl
  with_alike u w (i ∷ []) ns = refl
  with_alike u w (i ∷ j ∷ is) ns = refl

module _ (types : Types) (kit : Kit) (number : Sized → ℕ) (callees : Callees) (tables : Tables) (place : TextPlace) (k : ℕ) where
  pub cast_same : (u w : Option Written) (ps : List Piece) → kind_piece types kit number callees tables place k (K.Cast u) ps
      ≡ kind_piece types kit number callees tables place k (K.Cast w) ps
  cast_same u w [] = refl
  cast_same u w (a ∷ []) = refl
  cast_same u w (a ∷ b ∷ ps) = refl

  pub size_same : (t : Num) (us ws : List WrittenNumber) (ps : List Piece) → kind_piece types kit number callees tables place k (K.SizeOf t us) ps
      ≡ kind_piece types kit number callees tables place k (K.SizeOf t ws) ps
  size_same t us ws [] = refl
  size_same t us ws (a ∷ ps) = refl

  pub truth_same : (t : Con) (us ws : List WrittenNumber) (ps : List Piece) → kind_piece types kit number callees tables place k (K.Constraint t us) ps
      ≡ kind_piece types kit number callees tables place k (K.Constraint t ws) ps
  truth_same t us ws [] = refl
  truth_same t us ws (a ∷ ps) = refl

  pub var_same : (text : List ℕ) (u w : Option Written) (ps : List Piece) → kind_piece types kit number callees tables place k (K.Var text u) ps
      ≡ kind_piece types kit number callees tables place k (K.Var text w) ps
  var_same text u w [] = refl
  var_same text u w (a ∷ []) = refl
  var_same text u w (a ∷ b ∷ []) = refl
  var_same text u w (a ∷ b ∷ c ∷ ps) = refl

  pub if_same : (u w : Shape) (ps : List Piece) → kind_piece types kit number callees tables place k (K.If u) ps
      ≡ kind_piece types kit number callees tables place k (K.If w) ps
  if_same u w [] = refl
  if_same u w (a ∷ []) = refl
  if_same u w (a ∷ b ∷ []) = refl
  if_same u w (a ∷ b ∷ c ∷ []) = refl
  if_same u w (a ∷ b ∷ c ∷ d ∷ ps) = refl

  pub match_same : (arms : List Arm) (u w : Shape) (ps : List Piece) → kind_piece types kit number callees tables place k (K.Match arms u) ps
      ≡ kind_piece types kit number callees tables place k (K.Match arms w) ps
  match_same arms u w [] = refl
  match_same arms u w (a ∷ ps) = refl

  pub try_same : (arms : List Arm) (u w : Shape) (ps : List Piece) → kind_piece types kit number callees tables place k (K.Try arms u) ps
      ≡ kind_piece types kit number callees tables place k (K.Try arms w) ps
  try_same arms u w [] = refl
  try_same arms u w (a ∷ ps) = refl

  pub with_same : (u w : ℕ) (is : List ℕ) (ps : List Piece) → kind_piece types kit number callees tables place k (K.With u is) ps
      ≡ kind_piece types kit number callees tables place k (K.With w is) ps
  with_same u w [] ps = refl
  with_same u w (i ∷ []) ps = refl
  with_same u w (i ∷ j ∷ is) ps = refl

-- ---- assignments

module _ (types : Types) (callees : Callees) (tables : Tables) (k : ℕ) where
  pub assign_one : (ts : List Target) (ns : List Node) → kind_lowered types callees tables k (K.Assign ts) ns ≡ true → length ts ≡ 1
  assign_one [] ns h = absurd (false≢true h)
  assign_one (t ∷ []) ns h = refl
  assign_one (t ∷ u ∷ ts) ns h = absurd (false≢true h)
