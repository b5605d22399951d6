-- The code of a node, by its kind.
use Rattle.std.specs.Prelude.{ℕ, ℤ, Option, Some, None, is_some, Bool, true, false, ◌&&◌, List, [], ◌∷◌, length, map, reverse}
use Rattle.sail_base.specs.declared.place.Place.{Place as TextPlace}
use Rattle.sail_types.specs.declared.table.Types.{Types}
use Rattle.sail_types.specs.declared.numbers.Num.{Num}
use Rattle.sail_types.specs.declared.types.Typ.{Typ}
use Rattle.sail_types.specs.declared.types.Typ.TheVariants as T
use Rattle.sail_core.specs.declared.targets.Way.{Way}
use Rattle.sail_core.specs.declared.targets.Way.TheVariants as Y
use Rattle.sail_core.specs.declared.targets.Suffix.{Suffix}
use Rattle.sail_core.specs.declared.tree.Callee.TheVariants as F
use Rattle.sail_core.specs.declared.tree.Statement.{Statement}
use Rattle.sail_core.specs.declared.tree.Statement.TheVariants as S
use Rattle.sail_core.specs.declared.tree.Kind.{Kind}
use Rattle.sail_core.specs.declared.tree.Kind.TheVariants as K
use Rattle.sail_core.specs.declared.tree.Core.{Core, fold-Core}
use Rattle.row_types.specs.Calls.{has_state}
use Rattle.sail_types.specs.declared.values.Value.TheVariants as V
use Rattle.jib.specs.declared.code.Literal.TheVariants as J
use Rattle.sail_core.specs.Values.{literal_typ, literal_value, int_typ}
use Rattle.model_state.specs.declared.cause.Cause.TheVariants.{Exit, Assertion, MatchFailure}
use Rattle.size_values.specs.declared.sized.Sized.{Sized}
use Rattle.checked_meaning.specs.Fits.{has_sizes}
use Rattle.checked_meaning.specs.Items.{fixed_typ}
use Rattle.jib.specs.declared.code.Operation.TheVariants as O
use Rattle.jib.specs.declared.code.Source.TheVariants as R
use Rattle.lowered_pieces.specs.Places.{Naming, Mapped, Kit}
use Rattle.lowered_pieces.specs.Tables.{Tables, cases_among, leads_to}
use Rattle.lowered_pieces.specs.Nodes.{is_empty}
use Rattle.lowered_pieces.specs.Arms.{arm_fits, arms_fit, constant_of, match_piece, let_piece, clauses_piece, try_piece}
use Rattle.sail_types.specs.declared.rows.Row.{Row}
use Rattle.sized_meanings.specs.Case.{Case}
use Rattle.lowered_pieces.specs.Paths.{path_piece}
use Rattle.lowered_pieces.specs.Gathered.{state_piece, all_one, is_one}
use Rattle.lowered_pieces.specs.Writes.{target_spot, assign_piece, is_read, spot_lowered}
use Rattle.lowered_pieces.specs.Counted.{foreach_piece}
use Rattle.lowered_pieces.specs.Mapped.{applied_piece, ends_with, fixed_end, optional_piece, with_ends}
use Rattle.sail_core.specs.Meaning.{option_typ}
use Rattle.lowered_pieces.specs.Fields.{with_make}
use Rattle.lowered_pieces.specs.Forms.{Callees, End, Piece, nothing_piece, constant_piece, unit_piece, made_piece, local_make, source_make, cast_piece}
use Rattle.lowered_pieces.specs.Forms.{variable_piece, var_piece, throw_piece, seq_piece, if_piece, meet_piece, inside_piece, while_piece, repeat_piece}
use Rattle.lowered_pieces.specs.Forms.{work_piece, made_of_piece, construct_make, call_piece, in_order, in_fields, unit_source, return_piece}
use Rattle.lowered_pieces.specs.Forms.{stop_piece, assert_piece, and_piece}
use Rattle.lowered_pieces.specs.Forms.{or_piece, when_piece, ends_of, has_ends, unsaid}

-- the number of a type that has no variable
abbrev pub fixed_number : Types → (Sized → ℕ) → Typ → ℕ
fixed_number types number t = number (fixed_typ types t)

-- what code is made with, where each type with constant sizes has a number in the table of the module
abbrev pub kit_of : Types → Naming → (Sized → ℕ) → ℕ → (Num → Option ℤ) → (ℕ → Mapped) → Kit
kit_of types name number exception size ways = record {
  name = name;
  unit = fixed_number types number T.Unit;
  truth = fixed_number types number T.Bool;
  integer = fixed_number types number int_typ;
  exception = exception;
  number = number;
  nothing = fixed_typ types T.Unit;
  truths = fixed_typ types T.Bool;
  depth = λ x. 0;
  size = size;
  ways = ways;
}

module _ (types : Types) (kit : Kit) (number : Sized → ℕ) (callees : Callees) (tables : Tables) where
  -- statements of the block of a number, each with the rest of the block behind it
  abbrev pub block_piece : ℕ → List Statement → List Piece → Piece
  block_piece k [] [] = unsaid (unit_piece kit)
  block_piece k [] (value ∷ []) = value
  block_piece k (S.Evaluate ∷ ss) (a ∷ parts) = seq_piece a (block_piece k ss parts)
  block_piece k (S.Define place arm ∷ ss) (a ∷ parts) =
      let_piece types kit (tables.named k (length ss)) a arm (block_piece k ss parts) (MatchFailure place)
  block_piece k (S.Declare name written ∷ ss) (a ∷ parts) = var_piece kit (tables.reads name) name a (block_piece k ss parts)
  block_piece k ss parts = nothing_piece

  -- a number or a truth of the type variables
  abbrev pub number_piece : Option ℤ → Piece
  number_piece None = nothing_piece
  number_piece (Some z) = constant_piece kit (fixed_typ types int_typ) (J.Integer z)

  abbrev pub truth_piece : Option Bool → Piece
  truth_piece None = nothing_piece
  truth_piece (Some b) = constant_piece kit (fixed_typ types T.Bool) (J.Truth b)

  -- a builtin; one of the state may stop the run, before there is a case
  abbrev pub row_piece : Bool → ℕ → Row → List Piece → Piece
  row_piece true k row args = state_piece kit row (tables.cases k (length args)) (tables.gives k) args
  row_piece false k row args = work_piece kit number (O.Builtin row) in_order (tables.cases k (length args)) (tables.gives k) args

  abbrev pub kind_piece : TextPlace → ℕ → Kind → List Piece → Piece
  kind_piece place k (K.Constant literal) [] = constant_piece kit (fixed_typ types (literal_typ literal)) (constant_of literal)
  kind_piece place k (K.Local name) [] = made_piece kit number (local_make kit number name) (tables.cases k 1) (tables.gives k)
  kind_piece place k (K.Variable name) parts = variable_piece kit number (tables.reads name) name (tables.cases k 0) (tables.gives k)
  kind_piece place k (K.TopLevel i) [] =
      made_piece kit number (source_make kit number (R.Let (callees.opening i))) (tables.cases k 0) (tables.gives k)
  kind_piece place k (K.Register r) [] = made_piece kit number (source_make kit number (R.Register r)) (tables.cases k 0) (tables.gives k)
  kind_piece place k (K.Call (F.Function f)) args =
      call_piece kit number callees place (tables.cases k (length args)) (tables.leads k) (tables.gives k) args
  kind_piece place k (K.Call (F.Row row)) args = row_piece (has_state row) k row args
  kind_piece place k (K.Call (F.Constructor u c)) args =
      made_of_piece kit number (construct_make kit number types u c) (tables.cases k (length args)) (tables.gives k) args
  kind_piece place k K.Tuple parts = work_piece kit number O.Build in_order (tables.cases k (length parts)) (tables.gives k) parts
  kind_piece place k (K.Vector shape) parts = work_piece kit number O.Build reverse (tables.cases k (length parts)) (tables.gives k) parts
  kind_piece place k (K.List shape) parts = work_piece kit number O.Build in_order (tables.cases k (length parts)) (tables.gives k) parts
  kind_piece place k (K.Cons shape) parts = work_piece kit number O.Cons in_order (tables.cases k (length parts)) (tables.gives k) parts
  kind_piece place k (K.Struct struct fields) parts =
      work_piece kit number O.Build (in_fields (unit_source kit) fields) (tables.cases k (length parts)) (tables.gives k) parts
  kind_piece place k (K.With struct (i ∷ [])) parts =
      work_piece kit number (O.WithField i) in_order (tables.cases k (length parts)) (tables.gives k) parts
  kind_piece place k (K.With struct (i ∷ j ∷ is)) parts =
      made_of_piece kit number (with_make kit number types (i ∷ j ∷ is)) (tables.cases k (length parts)) (tables.gives k) parts
  kind_piece place k (K.Part suffixes) (a ∷ indexes) = path_piece kit number tables suffixes indexes a
  kind_piece place k K.WithItem (a ∷ b ∷ c ∷ []) =
      work_piece kit number O.WithItem in_order (tables.cases k 3) (tables.gives k) (a ∷ b ∷ c ∷ [])
  kind_piece place k K.WithSlice (a ∷ b ∷ c ∷ d ∷ []) =
      work_piece kit number O.WithSlice in_order (tables.cases k 4) (tables.gives k) (a ∷ b ∷ c ∷ d ∷ [])
  kind_piece place k (K.Cast written) (a ∷ []) = cast_piece kit number (tables.cases k 1) (tables.gives k) a
  kind_piece place k (K.SizeOf t numbers) [] = number_piece (callees.size t)
  kind_piece place k (K.Constraint c numbers) [] = truth_piece (callees.truth c)
  kind_piece place k (K.Assign (t ∷ [])) parts = unsaid (assign_piece types kit number callees tables (target_spot t) parts)
  kind_piece place k (K.Block statements) parts = block_piece k statements parts
  kind_piece place k (K.Var name written) (a ∷ b ∷ []) = var_piece kit (tables.reads name) name a b
  kind_piece place k (K.If shape) (c ∷ a ∷ []) = if_piece kit c (inside_piece kit a) (unit_piece kit)
  kind_piece place k (K.If shape) (c ∷ a ∷ b ∷ []) =
      meet_piece kit number (tables.cases k 1) (tables.gives k) (if_piece kit c (inside_piece kit a) (inside_piece kit b))
  kind_piece place k K.While (m ∷ c ∷ b ∷ []) = while_piece kit place (inside_piece kit m) (inside_piece kit c) (inside_piece kit b)
  kind_piece place k K.Repeat (m ∷ b ∷ c ∷ []) = repeat_piece kit place (inside_piece kit m) (inside_piece kit b) (inside_piece kit c)
  kind_piece place k (K.Foreach name way) (a ∷ b ∷ c ∷ body ∷ []) = foreach_piece kit name way a b c (inside_piece kit body)
  kind_piece place k K.Throw (a ∷ []) = throw_piece kit a
  kind_piece place k K.Return (a ∷ []) = return_piece kit a
  kind_piece place k K.Exit (a ∷ []) = stop_piece (Exit place) a
  kind_piece place k (K.Assert text) (a ∷ []) = assert_piece kit (Assertion place text) a
  kind_piece place k K.And (a ∷ b ∷ []) = and_piece kit a (inside_piece kit b)
  kind_piece place k K.Or (a ∷ b ∷ []) = or_piece kit a (inside_piece kit b)
  kind_piece place k K.When (a ∷ b ∷ []) = when_piece kit a b
  kind_piece place k (K.Let arm) (a ∷ b ∷ []) = let_piece types kit (tables.named k 0) a arm b (MatchFailure place)
  kind_piece place k (K.Match arms shape) (a ∷ bodies) =
      meet_piece kit number (tables.cases k 1) (tables.gives k) (match_piece types kit (tables.named k) a arms bodies (MatchFailure place))
  kind_piece place k (K.Try arms shape) (a ∷ bodies) =
      meet_piece kit number (tables.cases k 1) (tables.gives k)
      (try_piece types kit (tables.cases k 0) (tables.gives k) (tables.named k) arms bodies a)
  kind_piece place k (K.Clauses arms) bodies = with_ends (clauses_piece types kit (tables.named k) callees.given arms bodies) bodies
  kind_piece place k (K.Call (F.Applies d)) (a ∷ []) = applied_piece kit place (callees.direction d) (tables.cases k 1) (tables.gives k) a
  kind_piece place k (K.Optional t) (a ∷ []) = optional_piece types kit (fixed_typ types (option_typ t)) (fixed_typ types t) a
  kind_piece place k kind parts = nothing_piece

-- ---- the kinds that are lowered here, with their counts of parts

-- a node's code, and whether it is lowered here
pub record Node : Type 0 where
  pub piece : Piece
  pub ok : Bool

abbrev pub all_lowered : List Node → Bool
all_lowered [] = true
all_lowered (n ∷ ns) = n.ok && all_lowered ns

abbrev pub pieces_of : List Node → List Piece
pieces_of ns = map (λ n. n.piece) ns

-- what is matched, where the types that it may have are known
abbrev pub is_matched : Node → Bool
is_matched n = n.ok && has_ends n.piece.ends

abbrev pub block_lowered : Callees → Tables → List Statement → List Node → Bool
block_lowered callees tables [] [] = true
block_lowered callees tables [] (value ∷ []) = value.ok
block_lowered callees tables (S.Evaluate ∷ ss) (a ∷ parts) = a.ok && block_lowered callees tables ss parts
block_lowered callees tables (S.Define place arm ∷ ss) (a ∷ parts) =
    arm_fits callees.size callees.crosses tables.reads arm && (is_matched a && block_lowered callees tables ss parts)
block_lowered callees tables (S.Declare name written ∷ ss) (a ∷ parts) = a.ok && block_lowered callees tables ss parts
block_lowered callees tables ss parts = false

abbrev pub no_parts : List Node → Bool
no_parts [] = true
no_parts (n ∷ ns) = false

abbrev pub variable_lowered : List Sized → List Case → List Node → Bool
variable_lowered us cases parts = is_read us && (no_parts parts && cases_among us cases)

-- a suffix takes its indexes
abbrev pub way_lowered : Way → List Node → (List Node → Bool) → Bool
way_lowered (Y.Field struct i) ns more = more ns
way_lowered Y.Item (n ∷ ns) more = n.ok && more ns
way_lowered Y.Slice (n ∷ m ∷ ns) more = n.ok && (m.ok && more ns)
way_lowered way ns more = false

abbrev pub path_lowered : List Suffix → List Node → Bool
path_lowered [] [] = true
path_lowered (s ∷ ss) ns = way_lowered s.way ns (path_lowered ss)
path_lowered ss ns = false

abbrev pub number_lowered : Types → Option ℤ → Bool
number_lowered types None = false
number_lowered types (Some z) = has_sizes types (V.Integer z) (fixed_typ types int_typ)

-- a builtin of the state is done before it is known that its case is there: it has to be the only one, and so the type of each operand
abbrev pub row_lowered : Bool → List Case → List Node → Bool
row_lowered true cases args = is_one cases && (all_one (pieces_of args) && all_lowered args)
row_lowered false cases args = all_lowered args

-- a direction that is called takes values of the one type that its operand has
abbrev pub applied_lowered : Callees → ℕ → List End → Bool
applied_lowered callees d es = callees.crosses d && ends_with (callees.direction d).takes (fixed_end es)

-- literals have to be of their types, numbers and truths of variables have to be known, and a call has to lead to instances of its function
abbrev pub kind_lowered : Types → Callees → Tables → ℕ → Kind → List Node → Bool
kind_lowered types callees tables k (K.Constant literal) [] =
    has_sizes types (literal_value literal) (fixed_typ types (literal_typ literal)) && tables.known (fixed_typ types (literal_typ literal))
kind_lowered types callees tables k (K.Local name) [] = true
kind_lowered types callees tables k (K.Variable name) parts = variable_lowered (tables.reads name) (tables.cases k 0) parts
kind_lowered types callees tables k (K.TopLevel i) [] = true
kind_lowered types callees tables k (K.Register r) [] = true
kind_lowered types callees tables k (K.Call (F.Function f)) args = leads_to tables.of f (tables.leads k) && all_lowered args
kind_lowered types callees tables k (K.Call (F.Row row)) args = row_lowered (has_state row) (tables.cases k (length args)) args
kind_lowered types callees tables k (K.Call (F.Constructor u c)) args = all_lowered args
kind_lowered types callees tables k K.Tuple parts = all_lowered parts
kind_lowered types callees tables k (K.Vector shape) parts = all_lowered parts
kind_lowered types callees tables k (K.List shape) parts = all_lowered parts
kind_lowered types callees tables k (K.Cons shape) parts = all_lowered parts
kind_lowered types callees tables k (K.Struct struct fields) parts = all_lowered parts
kind_lowered types callees tables k (K.With struct (i ∷ is)) parts = all_lowered parts
kind_lowered types callees tables k (K.Part suffixes) (a ∷ indexes) = a.ok && path_lowered suffixes indexes
kind_lowered types callees tables k K.WithItem (a ∷ b ∷ c ∷ []) = a.ok && (b.ok && c.ok)
kind_lowered types callees tables k K.WithSlice (a ∷ b ∷ c ∷ d ∷ []) = a.ok && (b.ok && (c.ok && d.ok))
kind_lowered types callees tables k (K.Cast written) (a ∷ []) = a.ok
kind_lowered types callees tables k (K.SizeOf t numbers) [] = number_lowered types (callees.size t)
kind_lowered types callees tables k (K.Constraint c numbers) [] = is_some (callees.truth c)
kind_lowered types callees tables k (K.Assign (t ∷ [])) parts = spot_lowered types tables (target_spot t) (length parts) && all_lowered parts
kind_lowered types callees tables k (K.Block statements) parts = block_lowered callees tables statements parts
kind_lowered types callees tables k (K.Var name written) (a ∷ b ∷ []) = a.ok && b.ok
kind_lowered types callees tables k (K.If shape) (c ∷ a ∷ []) = c.ok && a.ok
kind_lowered types callees tables k (K.If shape) (c ∷ a ∷ b ∷ []) = c.ok && (a.ok && b.ok)
kind_lowered types callees tables k K.While (m ∷ c ∷ b ∷ []) = m.ok && (c.ok && b.ok)
kind_lowered types callees tables k K.Repeat (m ∷ b ∷ c ∷ []) = m.ok && (b.ok && c.ok)
kind_lowered types callees tables k (K.Foreach name way) (a ∷ b ∷ c ∷ body ∷ []) =
    is_empty (tables.reads name) && (a.ok && (b.ok && (c.ok && body.ok)))
kind_lowered types callees tables k K.Throw (a ∷ []) = a.ok
kind_lowered types callees tables k K.Return (a ∷ []) = a.ok
kind_lowered types callees tables k K.Exit (a ∷ []) = a.ok
kind_lowered types callees tables k (K.Assert text) (a ∷ []) = a.ok
kind_lowered types callees tables k K.And (a ∷ b ∷ []) = a.ok && b.ok
kind_lowered types callees tables k K.Or (a ∷ b ∷ []) = a.ok && b.ok
kind_lowered types callees tables k K.When (a ∷ b ∷ []) = a.ok && b.ok
kind_lowered types callees tables k (K.Let arm) (a ∷ b ∷ []) = arm_fits callees.size callees.crosses tables.reads arm && (is_matched a && b.ok)
kind_lowered types callees tables k (K.Match arms shape) (a ∷ bodies) =
    is_matched a && (arms_fit callees.size callees.crosses tables.reads arms && all_lowered bodies)
kind_lowered types callees tables k (K.Try arms shape) (a ∷ bodies) =
    a.ok && (has_ends (ends_of (tables.gives k) (tables.cases k 0)) && (arms_fit callees.size callees.crosses tables.reads arms && all_lowered bodies))
kind_lowered types callees tables k (K.Clauses arms) bodies = arms_fit callees.size callees.crosses tables.reads arms && all_lowered bodies
kind_lowered types callees tables k (K.Call (F.Applies d)) (a ∷ []) = applied_lowered callees d a.piece.ends && a.ok
kind_lowered types callees tables k kind parts = false

module _ (types : Types) (kit : Kit) (number : Sized → ℕ) (callees : Callees) (tables : Tables) where
  abbrev pub node : Core → Node
  node = fold-Core Node (λ c. record {
    piece = kind_piece types kit number callees tables c.place c.number c.kind (pieces_of c.parts);
    ok = kind_lowered types callees tables c.number c.kind c.parts;
  })

  -- the code of a node
  abbrev pub piece : Core → Piece
  piece c = (node c).piece

  abbrev pub is_lowered : Core → Bool
  is_lowered c = (node c).ok
