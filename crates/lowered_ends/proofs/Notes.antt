-- What nodes note, by their kinds, as the code lists it.
use Rattle.std.proofs.Common.{◌≡◌, ◌∙◌, ◌≤◌, ◌<◌, ℕ, zero, suc, ℤ, nat_eq, List, [], ◌∷◌, ◌++◌, length, map, refl, sym, ap, subst, arith, append-nil, append_assoc, get_or, true, false}
use Rattle.std.proofs.lemmas.Bool.{ne_eqb}
use Rattle.std.proofs.lemmas.Result.{on_ok_weaker}
use Rattle.std.specs.Prelude.{Bool, OnOk, Option, Result, Some, None, slice_index_or}
use Rattle.model_state.specs.declared.cause.Cause.TheVariants.{MatchFailure}
use Rattle.sail_types.specs.declared.numbers.Con.{Con}
use Rattle.sail_types.specs.declared.numbers.Num.{Num}
use Rattle.sail_types.specs.declared.rows.Row.{Row}
use Rattle.sail_types.specs.declared.shapes.Shape.{Shape}
use Rattle.sail_types.specs.declared.shapes.Shape.TheVariants as S
use Rattle.sail_types.specs.declared.types.Typ.{Typ}
use Rattle.sail_core.specs.declared.patterns.Arm.{Arm}
use Rattle.sail_core.specs.declared.patterns.Literal.{Literal}
use Rattle.sail_core.specs.declared.targets.Suffix.{Suffix}
use Rattle.sail_core.specs.declared.targets.Way.{Way}
use Rattle.sail_core.specs.declared.tree.Callee.TheVariants as F
use Rattle.sail_core.specs.declared.tree.Core.{Core, out-Core}
use Rattle.sail_core.specs.declared.tree.Counting.{Counting}
use Rattle.sail_core.specs.declared.tree.Kind.TheVariants as K
use Rattle.sail_core.specs.declared.tree.Statement.{Statement}
use Rattle.sail_core.specs.declared.tree.Statement.TheVariants as X
use Rattle.sail_core.specs.declared.written.Written.{Written}
use Rattle.sail_core.specs.declared.written.WrittenNumber.{WrittenNumber}
use Rattle.lowered_pieces.specs.Places.{Naming}
use Rattle.lowered_steps.specs.declared.setting.Setting.{Setting}
use Rattle.lowered_ends.specs.declared.around.Around.{Around}
use Rattle.lowered_ends.proofs.Lists.{first_at, others}
use Rattle.lowered_ends.proofs.Opened.{many_nodes, piece_with}
use Rattle.value_indices.specs.declared.indices.Indices.{Indices}
use Rattle.size_values.specs.declared.sized.Sized.{Sized}
use Rattle.sized_meanings.specs.Present.{gives_at}
use Rattle.sail_core.specs.declared.tree.Giver.TheVariants as G
use Rattle.lowered_pieces.specs.Arms.{Matched, arguments, fall_piece, first_piece, in_hand, stop_here, throw_here}
use Rattle.lowered_pieces.specs.Forms.{End, Piece, all_notes, cases_ends, ends_of, notes_in, variable_piece}
use Rattle.row_types.specs.Calls.{has_state}
use Rattle.sized_nodes.specs.declared.trees.Case.{Case}
use Rattle.lowered_pieces.specs.Gathered.{is_one, state_piece}
use Rattle.lowered_pieces.specs.Nodes.{cases_at}
use Rattle.lowered_pieces.specs.Lowering.{Node, number_piece, pieces_of, row_piece, truth_piece}
use Rattle.lowered_steps.specs.Setting.{kit_for, nodes_in, number_for, reads_at, tables_for}
use Rattle.lowered_ends.specs.Around.{callees_of, node_for, piece_as}
use Rattle.lowered_ends.specs.Noted.{all_noted, block_for, both_noted, bounds_noted, caught_notes, counted_notes, first_noted, leaf_notes, let_noted, made_notes, match_noted, named_notes, node_notes, one_noted, only_notes, read_notes, row_listed, row_noted, slice_notes, suffix_notes, variable_notes, way_notes}

module _ (setting : Setting) (around : Around) (name : Naming) where
  pub notes_same : (cs : List Core) → all_noted setting around name cs
      ≡ notes_in (kit_for setting name) (number_for setting) (pieces_of (map (node_for setting around name) cs))
  notes_same [] = refl
  notes_same (c ∷ cs) = ap (λ ns. node_notes setting around name c ++ ns) (notes_same cs)

module _ (setting : Setting) (around : Around) (name : Naming) (node : Core) where
  pub return_notes : (cs : List Core) → one_noted setting around name cs ≡ (piece_with setting around name K.Return node cs).notes
  return_notes [] = refl
  return_notes (a ∷ []) = refl
  return_notes (a ∷ b ∷ cs) = refl

  pub throw_notes : (cs : List Core) → one_noted setting around name cs ≡ (piece_with setting around name K.Throw node cs).notes
  throw_notes [] = refl
  throw_notes (a ∷ []) = refl
  throw_notes (a ∷ b ∷ cs) = refl

  pub exit_notes : (cs : List Core) → one_noted setting around name cs ≡ (piece_with setting around name K.Exit node cs).notes
  exit_notes [] = refl
  exit_notes (a ∷ []) = refl
  exit_notes (a ∷ b ∷ cs) = refl

  pub assert_notes : (text : Option (List ℕ)) (cs : List Core) → one_noted setting around name cs
      ≡ (piece_with setting around name (K.Assert text) node cs).notes
  assert_notes text [] = refl
  assert_notes text (a ∷ []) = refl
  assert_notes text (a ∷ b ∷ cs) = refl

  pub optional_notes : (t : Typ) (cs : List Core) → one_noted setting around name cs ≡ (piece_with setting around name (K.Optional t) node cs).notes
  optional_notes t [] = refl
  optional_notes t (a ∷ []) = sym (append-nil (node_notes setting around name a))
  optional_notes t (a ∷ b ∷ cs) = refl

  pub and_notes : (cs : List Core) → first_noted setting around name cs ≡ (piece_with setting around name K.And node cs).notes
  and_notes [] = refl
  and_notes (a ∷ []) = refl
  and_notes (a ∷ b ∷ []) = sym (append-nil (node_notes setting around name a))
  and_notes (a ∷ b ∷ c ∷ cs) = refl

  pub or_notes : (cs : List Core) → first_noted setting around name cs ≡ (piece_with setting around name K.Or node cs).notes
  or_notes [] = refl
  or_notes (a ∷ []) = refl
  or_notes (a ∷ b ∷ []) = sym (append-nil (node_notes setting around name a))
  or_notes (a ∷ b ∷ c ∷ cs) = refl

  pub when_notes : (cs : List Core) → both_noted setting around name cs ≡ (piece_with setting around name K.When node cs).notes
  when_notes [] = refl
  when_notes (a ∷ []) = refl
  when_notes (a ∷ b ∷ []) = refl
  when_notes (a ∷ b ∷ c ∷ cs) = refl

  pub var_notes : (text : List ℕ) (w : Option Written) (cs : List Core) → both_noted setting around name cs
      ≡ (piece_with setting around name (K.Var text w) node cs).notes
  var_notes text w [] = refl
  var_notes text w (a ∷ []) = refl
  var_notes text w (a ∷ b ∷ []) = refl
  var_notes text w (a ∷ b ∷ c ∷ cs) = refl

  pub foreach_notes : (text : List ℕ) (way : Counting) (cs : List Core) → bounds_noted setting around name cs
      ≡ (piece_with setting around name (K.Foreach text way) node cs).notes
  foreach_notes text way [] = refl
  foreach_notes text way (a ∷ []) = refl
  foreach_notes text way (a ∷ b ∷ []) = refl
  foreach_notes text way (a ∷ b ∷ c ∷ []) = refl
  foreach_notes text way (a ∷ b ∷ c ∷ d ∷ []) = refl
  foreach_notes text way (a ∷ b ∷ c ∷ d ∷ e ∷ cs) = refl

  -- with another count of parts
  uncounted : (cs : List Core) (n m : ℕ) → (n ≡ m → ⊥) → counted_notes setting around name (out-Core node).number cs (nat_eq n m) ≡ []
  uncounted cs n m other = ap (λ b. counted_notes setting around name (out-Core node).number cs b) (ne_eqb n m other)

  pub withitem_notes : (cs : List Core) → counted_notes setting around name (out-Core node).number cs (nat_eq (length cs) 3)
      ≡ (piece_with setting around name K.WithItem node cs).notes
  withitem_notes [] = refl
  withitem_notes (a ∷ []) = refl
  withitem_notes (a ∷ b ∷ []) = refl
  withitem_notes (a ∷ b ∷ c ∷ []) = refl
  withitem_notes (a ∷ b ∷ c ∷ d ∷ cs) = uncounted (a ∷ b ∷ c ∷ d ∷ cs) (suc (suc (suc (suc (length cs))))) 3 (λ e. omega (arith, e))

  pub withslice_notes : (cs : List Core) → counted_notes setting around name (out-Core node).number cs (nat_eq (length cs) 4)
      ≡ (piece_with setting around name K.WithSlice node cs).notes
  withslice_notes [] = refl
  withslice_notes (a ∷ []) = refl
  withslice_notes (a ∷ b ∷ []) = refl
  withslice_notes (a ∷ b ∷ c ∷ []) = refl
  withslice_notes (a ∷ b ∷ c ∷ d ∷ []) = refl
  withslice_notes (a ∷ b ∷ c ∷ d ∷ e ∷ cs) = uncounted (a ∷ b ∷ c ∷ d ∷ e ∷ cs) (suc (suc (suc (suc (suc (length cs)))))) 4 (λ x. omega (arith, x))

  pub cast_notes : (w : Option Written) (cs : List Core) → counted_notes setting around name (out-Core node).number cs (nat_eq (length cs) 1)
      ≡ (piece_with setting around name (K.Cast w) node cs).notes
  cast_notes w [] = refl
  cast_notes w (a ∷ []) = ap (λ ns. ns ++ all_notes (gives_at (nodes_in setting) (G.Node (out-Core node).number)))
      (append-nil (node_notes setting around name a))
  cast_notes w (a ∷ b ∷ cs) = uncounted (a ∷ b ∷ cs) (suc (suc (length cs))) 1 (λ e. omega (arith, e))

  pub applies_notes : (d : ℕ) (cs : List Core) → counted_notes setting around name (out-Core node).number cs (nat_eq (length cs) 1)
      ≡ (piece_with setting around name (K.Call (F.Applies d)) node cs).notes
  applies_notes d [] = refl
  applies_notes d (a ∷ []) = ap (λ ns. ns ++ all_notes (gives_at (nodes_in setting) (G.Node (out-Core node).number)))
      (append-nil (node_notes setting around name a))
  applies_notes d (a ∷ b ∷ cs) = uncounted (a ∷ b ∷ cs) (suc (suc (length cs))) 1 (λ e. omega (arith, e))

  pub local_notes : (text : List ℕ) (cs : List Core) → leaf_notes setting (out-Core node).number (length cs)
      ≡ (piece_with setting around name (K.Local text) node cs).notes
  local_notes text [] = refl
  local_notes text (a ∷ cs) = refl

  pub toplevel_notes : (i : ℕ) (cs : List Core) → leaf_notes setting (out-Core node).number (length cs)
      ≡ (piece_with setting around name (K.TopLevel i) node cs).notes
  toplevel_notes i [] = refl
  toplevel_notes i (a ∷ cs) = refl

  pub register_notes : (r : ℕ) (cs : List Core) → leaf_notes setting (out-Core node).number (length cs)
      ≡ (piece_with setting around name (K.Register r) node cs).notes
  register_notes r [] = refl
  register_notes r (a ∷ cs) = refl

  pub constant_notes : (literal : Literal) (cs : List Core) → [] ≡ (piece_with setting around name (K.Constant literal) node cs).notes
  constant_notes literal [] = refl
  constant_notes literal (a ∷ cs) = refl

  abbrev read_piece : List Sized → ℕ → List ℕ → Piece
  read_piece us k text =
      variable_piece (kit_for setting name) (number_for setting) us text (cases_at k 0 (nodes_in setting)) (gives_at (nodes_in setting) (G.Node k))

  read_said : (us : List Sized) (k : ℕ) (text : List ℕ) → read_notes setting us k ≡ (read_piece us k text).notes
  read_said [] k text = refl
  read_said (u ∷ us) k text = refl

  pub variable_noted : (text : List ℕ) (cs : List Core) → variable_notes setting text (out-Core node).number
      ≡ (piece_with setting around name (K.Variable text) node cs).notes
  variable_noted text cs = read_said (reads_at setting.reads.now text) (out-Core node).number text

  pub while_notes : (cs : List Core) → [] ≡ (piece_with setting around name K.While node cs).notes
  while_notes [] = refl
  while_notes (a ∷ []) = refl
  while_notes (a ∷ b ∷ []) = refl
  while_notes (a ∷ b ∷ c ∷ []) = refl
  while_notes (a ∷ b ∷ c ∷ d ∷ cs) = refl

  pub repeat_notes : (cs : List Core) → [] ≡ (piece_with setting around name K.Repeat node cs).notes
  repeat_notes [] = refl
  repeat_notes (a ∷ []) = refl
  repeat_notes (a ∷ b ∷ []) = refl
  repeat_notes (a ∷ b ∷ c ∷ []) = refl
  repeat_notes (a ∷ b ∷ c ∷ d ∷ cs) = refl

  number_notes : (z : Option ℤ) → [] ≡ (number_piece setting.types.now (kit_for setting name) (number_for setting) (callees_of setting around)
      (tables_for setting around.instances.now) z).notes
  number_notes None = refl
  number_notes (Some z) = refl

  truth_notes : (b : Option Bool) → [] ≡ (truth_piece setting.types.now (kit_for setting name) (number_for setting) (callees_of setting around)
      (tables_for setting around.instances.now) b).notes
  truth_notes None = refl
  truth_notes (Some b) = refl

  pub sizeof_notes : (t : Num) (us : List WrittenNumber) (cs : List Core) → [] ≡ (piece_with setting around name (K.SizeOf t us) node cs).notes
  sizeof_notes t us [] = number_notes ((callees_of setting around).size t)
  sizeof_notes t us (a ∷ cs) = refl

  pub constraint_notes : (t : Con) (us : List WrittenNumber) (cs : List Core) → [] ≡ (piece_with setting around name (K.Constraint t us) node cs).notes
  constraint_notes t us [] = truth_notes ((callees_of setting around).truth t)
  constraint_notes t us (a ∷ cs) = refl

  pub let_notes : (arm : Arm) (cs : List Core) → let_noted setting around name (out-Core node).number cs
      ≡ (piece_with setting around name (K.Let arm) node cs).notes
  let_notes arm [] = refl
  let_notes arm (a ∷ []) = refl
  let_notes arm (a ∷ b ∷ []) =
      ap (λ ns. node_notes setting around name a ++ ns)
      (sym (append-nil (all_notes (gives_at (nodes_in setting) (G.Arm (out-Core node).number 0)) ++ node_notes setting around name b)))
  let_notes arm (a ∷ b ∷ c ∷ cs) = refl

  -- arms note nothing, as deep as their node stands
  first_notes : (names : ℕ → List Indices) (m : Matched) (arms : List Arm) (bodies : List Piece) (none : Piece) → none.notes ≡ []
      → [] ≡ (first_piece setting.types.now (kit_for setting name) names m arms bodies none).notes
  first_notes names m [] [] none is = sym is
  first_notes names m [] (b ∷ bs) none is = refl
  first_notes names m (arm ∷ arms) [] none is = refl
  first_notes names m (arm ∷ arms) (b ∷ bs) none is = first_notes names m arms bs none is

  pub clauses_notes : (arms : List Arm) (cs : List Core) → [] ≡ (piece_with setting around name (K.Clauses arms) node cs).notes
  clauses_notes arms cs =
      first_notes ((tables_for setting around.instances.now).named (out-Core node).number) (arguments (callees_of setting around).given) arms
      (pieces_of (map (node_for setting around name) cs)) (fall_piece setting.types.now (kit_for setting name)) refl

  pub match_notes : (arms : List Arm) (shape : Shape) (cs : List Core) → match_noted setting around name (out-Core node).number cs
      ≡ (piece_with setting around name (K.Match arms shape) node cs).notes
  match_notes arms shape [] = refl
  match_notes arms shape (a ∷ cs) =
      ap (λ ns. ns ++ all_notes (gives_at (nodes_in setting) (G.Node (out-Core node).number)))
      (sym (append-nil (node_notes setting around name a))
      ∙ ap (λ ns. node_notes setting around name a ++ ns) (first_notes
      ((tables_for setting around.instances.now).named (out-Core node).number) (in_hand (node_for setting around name a).piece.ends) arms
      (pieces_of (map (node_for setting around name) cs)) (stop_here setting.types.now (kit_for setting name) (MatchFailure (out-Core node).place)) refl))

  pub try_notes : (arms : List Arm) (shape : Shape) (cs : List Core) → caught_notes setting (out-Core node).number (length cs)
      ≡ (piece_with setting around name (K.Try arms shape) node cs).notes
  try_notes arms shape [] = refl
  try_notes arms shape (a ∷ cs) =
      ap (λ ns. ns ++ all_notes (gives_at (nodes_in setting) (G.Node (out-Core node).number)))
      (sym (append-nil (all_notes (gives_at (nodes_in setting) (G.Node (out-Core node).number))))
      ∙ ap (λ ns. all_notes (gives_at (nodes_in setting) (G.Node (out-Core node).number)) ++ ns)
      (first_notes ((tables_for setting around.instances.now).named (out-Core node).number) (in_hand caught) arms
      (pieces_of (map (node_for setting around name) cs)) (throw_here setting.types.now (kit_for setting name) (in_hand caught)) refl))
    where
      caught : List End
      caught =
          ends_of (gives_at (nodes_in setting) (G.Node (out-Core node).number)) (cases_at (out-Core node).number 0 (nodes_in setting))

  -- of a node that makes its value of all its parts
  pub made_noted : made_notes setting around name (out-Core node).number (out-Core node).parts
      ≡ notes_in (kit_for setting name) (number_for setting) (pieces_of (map (node_for setting around name) (out-Core node).parts))
      ++ all_notes (gives_at (nodes_in setting) (G.Node (out-Core node).number))
  made_noted = ap (λ ns. ns ++ all_notes (gives_at (nodes_in setting) (G.Node (out-Core node).number))) (notes_same setting around name (out-Core node).parts)

  pub with_noted : (u : ℕ) (is : List ℕ) → 1 ≤ length is
      → notes_in (kit_for setting name) (number_for setting) (pieces_of (map (node_for setting around name) (out-Core node).parts))
      ++ all_notes (gives_at (nodes_in setting) (G.Node (out-Core node).number)) ≡ (piece_as setting around name (K.With u is) node).notes
  with_noted u [] some = absurd (omega arith)
  with_noted u (i ∷ []) some = refl
  with_noted u (i ∷ j ∷ is) some = refl

-- what is listed for others that are the same
pub noted_as : {T E : Type 0} (r : Result T E) (old new xs ys : List ℕ) → xs ≡ ys → OnOk r (new ≡ old ++ xs) → OnOk r (new ≡ old ++ ys)
noted_as r old new xs ys same h = subst (λ (zs : List ℕ). OnOk r (new ≡ old ++ zs)) same h

pub noted_none : (old xs : List ℕ) → [] ≡ xs → old ≡ old ++ xs
noted_none old xs none = sym (append-nil old) ∙ ap (λ (zs : List ℕ). old ++ zs) none

pub noted_then : {T E : Type 0} (r : Result T E) (old mid new xs ys : List ℕ) → mid ≡ old ++ xs → OnOk r (new ≡ mid ++ ys) → OnOk r (new ≡ old ++ (xs ++ ys))
noted_then r old mid new xs ys is h =
    on_ok_weaker r (λ (e : new ≡ mid ++ ys). e ∙ ap (λ (zs : List ℕ). zs ++ ys) is ∙ append_assoc old xs ys) h

-- lists that are too short or too long
module _ (setting : Setting) (around : Around) (name : Naming) where
  pub one_short : (cs : List Core) → (length cs ≡ 1 → ⊥) → [] ≡ one_noted setting around name cs
  one_short [] other = refl
  one_short (c ∷ []) other = absurd (other refl)
  one_short (c ∷ d ∷ cs) other = refl

  pub first_short : (cs : List Core) → (length cs ≡ 2 → ⊥) → [] ≡ first_noted setting around name cs
  first_short [] other = refl
  first_short (c ∷ []) other = refl
  first_short (c ∷ d ∷ []) other = absurd (other refl)
  first_short (c ∷ d ∷ e ∷ cs) other = refl

  pub both_short : (cs : List Core) → (length cs ≡ 2 → ⊥) → [] ≡ both_noted setting around name cs
  both_short [] other = refl
  both_short (c ∷ []) other = refl
  both_short (c ∷ d ∷ []) other = absurd (other refl)
  both_short (c ∷ d ∷ e ∷ cs) other = refl

  pub bounds_short : (cs : List Core) → (length cs ≡ 4 → ⊥) → [] ≡ bounds_noted setting around name cs
  bounds_short [] other = refl
  bounds_short (c ∷ []) other = refl
  bounds_short (c ∷ d ∷ []) other = refl
  bounds_short (c ∷ d ∷ e ∷ []) other = refl
  bounds_short (c ∷ d ∷ e ∷ f ∷ []) other = absurd (other refl)
  bounds_short (c ∷ d ∷ e ∷ f ∷ g ∷ cs) other = refl

  -- and those that are not
  pub first_two : (cs : List Core) (x : Core) → 2 ≤ length cs → length cs < 3 → x ≡ get_or cs 0 x
      → node_notes setting around name x ≡ first_noted setting around name cs
  first_two [] x some few is = absurd (omega (arith, some))
  first_two (c ∷ []) x some few is = absurd (omega (arith, some))
  first_two (c ∷ d ∷ []) x some few is = ap (λ (e : Core). node_notes setting around name e) is
  first_two (c ∷ d ∷ e ∷ cs) x some few is = absurd (omega (arith, few))

  pub bounds_four : (cs : List Core) (x y z : Core) → 4 ≤ length cs → length cs < 5 → x ≡ get_or cs 0 x → y ≡ get_or cs 1 y → z ≡ get_or cs 2 z
      → (node_notes setting around name x ++ (node_notes setting around name y ++ node_notes setting around name z)) ≡ bounds_noted setting around name cs
  bounds_four [] x y z some few a b e = absurd (omega (arith, some))
  bounds_four (c ∷ []) x y z some few a b e = absurd (omega (arith, some))
  bounds_four (c ∷ d ∷ []) x y z some few a b e = absurd (omega (arith, some))
  bounds_four (c ∷ d ∷ f ∷ []) x y z some few a b e = absurd (omega (arith, some))
  bounds_four (c ∷ d ∷ f ∷ g ∷ []) x y z some few a b e =
      λ i. node_notes setting around name (a i) ++ (node_notes setting around name (b i) ++ node_notes setting around name (e i))
  bounds_four (c ∷ d ∷ f ∷ g ∷ h ∷ cs) x y z some few a b e = absurd (omega (arith, few))

  pub let_short : (k : ℕ) (cs : List Core) → (length cs ≡ 2 → ⊥) → [] ≡ let_noted setting around name k cs
  let_short k [] other = refl
  let_short k (c ∷ []) other = refl
  let_short k (c ∷ d ∷ []) other = absurd (other refl)
  let_short k (c ∷ d ∷ e ∷ cs) other = refl

pub noted_three : {T E : Type 0} (r : Result T E) (old a b new xs ys zs : List ℕ) → a ≡ old ++ xs → b ≡ a ++ ys → OnOk r (new ≡ b ++ zs)
    → OnOk r (new ≡ old ++ (xs ++ (ys ++ zs)))
noted_three r old a b new xs ys zs one two h = noted_then r old a new xs (ys ++ zs) one (noted_then r a b new ys zs two h)

pub noted_four : {T E : Type 0} (r : Result T E) (old a b d new xs ys zs us : List ℕ) → a ≡ old ++ xs → b ≡ a ++ ys → d ≡ b ++ zs → OnOk r (new ≡ d ++ us)
    → OnOk r (new ≡ old ++ (xs ++ (ys ++ (zs ++ us))))
noted_four r old a b d new xs ys zs us one two three h = noted_then r old a new xs (ys ++ (zs ++ us)) one (noted_three r a b d new ys zs us two three h)

module _ (setting : Setting) (around : Around) (name : Naming) where
  pub slice_short : (k : ℕ) (ss : List Suffix) (cs : List Core) → length cs < 2 → [] ≡ slice_notes setting around name k ss cs
  slice_short k ss [] few = refl
  slice_short k ss (c ∷ []) few = refl
  slice_short k ss (c ∷ d ∷ cs) few = absurd (omega arith)

  pub suffix_step : (ss : List Suffix) (d : Suffix) (way : Way) → 1 ≤ length ss → (slice_index_or ss 0 d).way ≡ way → (cs : List Core)
      → way_notes setting around name way (slice_index_or ss 0 d).number cs (suffix_notes setting around name (others ss))
      ≡ suffix_notes setting around name ss cs
  suffix_step ss d way some is cs =
      ap (λ (w : Way). way_notes setting around name w (slice_index_or ss 0 d).number cs (suffix_notes setting around name (others ss))) (sym is)
      ∙ ap (λ (us : List Suffix). suffix_notes setting around name us cs) (sym (first_at ss d some))

  -- blocks
  pub last_notes : (k : ℕ) (cs : List Core) → one_noted setting around name cs ≡ (block_for setting around name k [] cs).notes
  last_notes k [] = refl
  last_notes k (c ∷ []) = refl
  last_notes k (c ∷ d ∷ cs) = refl

  pub block_notes : (k : ℕ) (x : Statement) (ss : List Statement) (c : Core) (cs : List Core)
      → node_notes setting around name c ++ (named_notes setting (G.Arm k (length ss)) x ++ (block_for setting around name k ss cs).notes)
      ≡ (block_for setting around name k (x ∷ ss) (c ∷ cs)).notes
  block_notes k X.Evaluate ss c cs = refl
  block_notes k (X.Define place arm) ss c cs =
      ap (λ ns. node_notes setting around name c ++ ns)
      (sym (append-nil (named_notes setting (G.Arm k (length ss)) (X.Define place arm) ++ (block_for setting around name k ss cs).notes)))
  block_notes k (X.Declare text written) ss c cs = refl

-- parts where there should be none, and some where there should be
module _ (setting : Setting) (k : ℕ) where
  pub leaf_short : (n : ℕ) → 1 ≤ n → [] ≡ leaf_notes setting k n
  leaf_short zero some = absurd (omega (arith, some))
  leaf_short (suc n) some = refl

  pub caught_some : (n : ℕ) → 1 ≤ n
      → all_notes (gives_at (nodes_in setting) (G.Node k)) ++ all_notes (gives_at (nodes_in setting) (G.Node k)) ≡ caught_notes setting k n
  caught_some zero some = absurd (omega (arith, some))
  caught_some (suc n) some = refl

-- where it is listed
module _ (setting : Setting) (around : Around) (name : Naming) (k : ℕ) (ds : List Core) where
  listed_at : (cs : List Case) → counted_notes setting around name k ds (is_one (cases_ends cs)) ≡ only_notes setting around name cs k ds
  listed_at [] = refl
  listed_at (c ∷ []) = refl
  listed_at (c ∷ d ∷ cs) = refl

  pub listed_row : (b : Bool) → counted_notes setting around name k ds (row_listed setting b k (length ds)) ≡ row_noted setting around name b k ds
  listed_row true = listed_at (cases_at k (length ds) (nodes_in setting))
  listed_row false = refl

-- a builtin
module _ (setting : Setting) (around : Around) (name : Naming) (node : Core) where
  state_noted : (row : Row) (cs : List Case) (ds : List Core) → only_notes setting around name cs (out-Core node).number ds
      ≡ (state_piece (kit_for setting name) row cs (gives_at (nodes_in setting) (G.Node (out-Core node).number))
      (pieces_of (map (node_for setting around name) ds))).notes
  state_noted row [] ds = refl
  state_noted row (c ∷ []) ds = ap (λ ns. ns ++ all_notes (gives_at (nodes_in setting) (G.Node (out-Core node).number))) (notes_same setting around name ds)
  state_noted row (c ∷ d ∷ cs) ds = refl

  by_state : (row : Row) (b : Bool) (ds : List Core) → row_noted setting around name b (out-Core node).number ds
      ≡ (row_piece setting.types.now (kit_for setting name) (number_for setting) (callees_of setting around) (tables_for setting around.instances.now) b
      (out-Core node).number row (pieces_of (map (node_for setting around name) ds))).notes
  by_state row true ds =
      ap (λ n. only_notes setting around name (cases_at (out-Core node).number n (nodes_in setting)) (out-Core node).number ds)
      (sym (many_nodes (node_for setting around name) ds) ∙ sym (many_nodes (λ (n : Node). n.piece) (map (node_for setting around name) ds)))
      ∙ state_noted row (cases_at (out-Core node).number (length (pieces_of (map (node_for setting around name) ds))) (nodes_in setting)) ds
  by_state row false ds = ap (λ ns. ns ++ all_notes (gives_at (nodes_in setting) (G.Node (out-Core node).number))) (notes_same setting around name ds)

  pub row_notes : (row : Row) → row_noted setting around name (has_state row) (out-Core node).number (out-Core node).parts
      ≡ (piece_as setting around name (K.Call (F.Row row)) node).notes
  row_notes row = by_state row (has_state row) (out-Core node).parts

  -- two and three parts of an `if`
  pub if_two : (x : Core) (cs : List Core) → 2 ≤ length cs → length cs < 3 → x ≡ get_or cs 0 x
      → node_notes setting around name x ≡ (piece_with setting around name (K.If S.Unit) node cs).notes
  if_two x [] some few is = absurd (omega (arith, some))
  if_two x (a ∷ []) some few is = absurd (omega (arith, some))
  if_two x (a ∷ b ∷ []) some few is = ap (λ (c : Core). node_notes setting around name c) is ∙ sym (append-nil (node_notes setting around name a))
  if_two x (a ∷ b ∷ c ∷ cs) some few is = absurd (omega (arith, few))

  pub if_few : (cs : List Core) → length cs < 2 → [] ≡ (piece_with setting around name (K.If S.Unit) node cs).notes
  if_few [] few = refl
  if_few (a ∷ []) few = refl
  if_few (a ∷ b ∷ cs) few = absurd (omega (arith, few))

  pub if_many : (cs : List Core) → 4 ≤ length cs → [] ≡ (piece_with setting around name (K.If S.Unit) node cs).notes
  if_many [] some = refl
  if_many (a ∷ []) some = refl
  if_many (a ∷ b ∷ []) some = absurd (omega (arith, some))
  if_many (a ∷ b ∷ c ∷ []) some = absurd (omega (arith, some))
  if_many (a ∷ b ∷ c ∷ d ∷ cs) some = refl

  pub if_three : (x : Core) (cs : List Core) → 3 ≤ length cs → length cs < 4 → x ≡ get_or cs 0 x
      → node_notes setting around name x ++ all_notes (gives_at (nodes_in setting) (G.Node (out-Core node).number))
      ≡ (piece_with setting around name (K.If S.Unit) node cs).notes
  if_three x [] some few is = absurd (omega (arith, some))
  if_three x (a ∷ []) some few is = absurd (omega (arith, some))
  if_three x (a ∷ b ∷ []) some few is = absurd (omega (arith, some))
  if_three x (a ∷ b ∷ c ∷ []) some few is =
      ap (λ (d : Core). node_notes setting around name d ++ all_notes (gives_at (nodes_in setting) (G.Node (out-Core node).number))) is
      ∙ ap (λ ns. ns ++ all_notes (gives_at (nodes_in setting) (G.Node (out-Core node).number))) (sym (append-nil (node_notes setting around name a)))
  if_three x (a ∷ b ∷ c ∷ d ∷ cs) some few is = absurd (omega (arith, few))
