-- Code that is lowered, and of which it is decided that it has its types, calls and asks such directions of mappings alone as it may.
use Rattle.std.proofs.Common.{◌≡◌, ◌∙◌, ℕ, Bool, true, false, List, [], ◌∷◌, length, map, Option, Some, None, refl, ap, sym, subst}
use Rattle.std.specs.Prelude.{◌&&◌, ◌++◌, not}
use Rattle.std.proofs.lemmas.Bool.{and_parts}
use Rattle.sail_types.specs.declared.table.Types.{Types}
use Rattle.sail_types.specs.declared.rows.Row.{Row}
use Rattle.sail_types.specs.declared.types.Typ.{Typ}
use Rattle.sail_core.specs.declared.patterns.Arm.{Arm}
use Rattle.sail_core.specs.declared.patterns.Arm.TheVariants as A
use Rattle.sail_core.specs.declared.patterns.Step.{Step}
use Rattle.sail_core.specs.declared.patterns.Step.TheVariants as P
use Rattle.sail_core.specs.declared.targets.Suffix.{Suffix}
use Rattle.sail_core.specs.declared.targets.Way.{Way}
use Rattle.sail_core.specs.declared.targets.Way.TheVariants as Y
use Rattle.sail_core.specs.declared.tree.Callee.TheVariants as F
use Rattle.sail_core.specs.declared.tree.Core.{Core, Core-F, fold-roll-Core, fold_out-Core, ind-Core, map-Core, out-Core, roll-Core}
use Rattle.sail_core.specs.declared.tree.Kind.{Kind}
use Rattle.sail_core.specs.declared.tree.Kind.TheVariants as K
use Rattle.sail_core.specs.declared.tree.Statement.{Statement}
use Rattle.sail_core.specs.declared.tree.Statement.TheVariants as S
use Rattle.row_types.specs.Calls.{has_state}
use Rattle.size_values.specs.declared.sized.Sized.{Sized}
use Rattle.sized_nodes.specs.declared.trees.Case.{Case}
use Rattle.jib.specs.declared.code.Operation.TheVariants as O
use Rattle.lowered_pieces.specs.Arms.{Matched, arguments, arms_fit, in_hand}
use Rattle.lowered_pieces.specs.Forms.{Callees, End, ends_of, has_ends, in_order}
use Rattle.lowered_pieces.specs.Lowering.{Node, all_lowered, block_lowered, is_matched, kind_lowered, kind_piece, no_parts, node, path_lowered}
use Rattle.lowered_pieces.specs.Lowering.{pieces_of, row_lowered, way_lowered}
use Rattle.lowered_pieces.specs.Places.{Kit}
use Rattle.lowered_pieces.specs.Tables.{Tables}
use Rattle.lowered_pieces.specs.Writes.{Spot, called, one, several, target_spot}
use Rattle.lowered_laws.specs.Crossings.{arm_within, arms_within, crosses_here, crosses_within, statements_within, step_within, steps_within}
use Rattle.lowered_laws.specs.Returning.{all_so, returns_nothing, stays_here}
use Rattle.lowered_validity.specs.Right.{Signs}
use Rattle.lowered_validity.specs.Typing.{Typing, all_right, all_thrown, arm_right, arms_right, arms_types, block_right, cases_right, ends_right, is_sourced}
use Rattle.lowered_validity.specs.Typing.{is_work, kind_ends, matched_right, step_right, step_types, steps_right}
use Rattle.module_meanings.proofs.TypedEnds.{ends_alike}
use Rattle.lowered_validity.specs.Typing.{kind_right, kind_types, meet_right, path_right, row_right, spot_right, typing, way_right, write_right}

no : {X : Type 0} → false ≡ true → X
no e = cc

both : {a b : Bool} → a ≡ true → b ≡ true → (a && b) ≡ true
both {a} {b} h k = subst (λ c. (c && b) ≡ true) (sym h) k

left : {a : Bool} (b : Bool) → (a && b) ≡ true → a ≡ true
left {a} b h = (and_parts a b h).0

right : {b : Bool} (a : Bool) → (a && b) ≡ true → b ≡ true
right {b} a h = (and_parts a b h).1

module _ (types : Types) (kit : Kit) (number : Sized → ℕ) (callees : Callees) (tables : Tables) (g : Signs) where
  -- ---- parts of code that has its types have theirs

  abbrev AllRight : List Typing → Type 0
  AllRight ps = all_right ps ≡ true

  way_parts : (way : Way) (k : ℕ) (more : List Typing → Bool) → ((qs : List Typing) → more qs ≡ true → AllRight qs) → (ps : List Typing)
      → way_right types number callees tables g way k ps more ≡ true → AllRight ps
  way_parts (Y.Field struct i) k more so ps h = so ps (right _ h)
  way_parts Y.Item k more so (a ∷ ps) h = both (left _ h) (so ps (right _ (right _ h)))
  way_parts Y.Slice k more so (a ∷ b ∷ ps) h =
      let sliced : Bool = cases_right types number callees tables g (is_work types number callees tables g O.Slice in_order) (tables.cases k 3) in
      let q = and_parts a.right (b.right && (sliced && more ps)) h in
      let r = and_parts b.right (sliced && more ps) q.1 in
      both q.0 (both r.0 (so ps (and_parts sliced (more ps) r.1).1))
  way_parts way k more so ps h = no h

  path_parts : (ss : List Suffix) (ps : List Typing) → path_right types number callees tables g ss ps ≡ true → AllRight ps
  path_parts [] [] h = refl
  path_parts [] (a ∷ ps) h = no h
  path_parts (s ∷ ss) ps h = way_parts s.way s.number (path_right types number callees tables g ss) (λ qs k. path_parts ss qs k) ps h

  spot_parts : (spot : Spot) (ps : List Typing) → spot_right types number callees tables g spot ps ≡ true → AllRight ps
  spot_parts (one c) ps h = left _ (right _ h)
  spot_parts (several cs) ps h = left _ (right _ h)
  spot_parts (called k place n j f) ps h = left _ (right _ h)

  write_parts : (spot : Option Spot) (ps : List Typing) → write_right types number callees tables g spot ps ≡ true → AllRight ps
  write_parts None ps h = no h
  write_parts (Some spot) ps h = spot_parts spot ps h

  row_parts : (b : Bool) (row : Row) (cases : List Case) (ps : List Typing) → row_right types number callees tables g b row cases ps ≡ true → AllRight ps
  row_parts true row cases ps h = left _ (right _ h)
  row_parts false row cases ps h = left _ h

  block_parts : (ss : List Statement) (ps : List Typing) → block_right types number callees tables g ss ps ≡ true → AllRight ps
  block_parts [] [] h = refl
  block_parts [] (value ∷ []) h = both h refl
  block_parts (S.Evaluate ∷ ss) (a ∷ ps) h = both (left _ h) (block_parts ss ps (right _ h))
  block_parts (S.Define place arm ∷ ss) (a ∷ ps) h = both (left _ h) (block_parts ss ps (right _ (right _ h)))
  block_parts (S.Declare name written ∷ ss) (a ∷ ps) h = both (left _ h) (block_parts ss ps (right _ (right _ h)))
  block_parts ss ps h = no h

  arms_parts : (m : Matched) (arms : List Arm) (ps : List Typing) → arms_right types number callees tables g m arms ps ≡ true → AllRight ps
  arms_parts m [] [] h = refl
  arms_parts m (arm ∷ arms) (b ∷ bodies) h = both (left _ (right _ h)) (arms_parts m arms bodies (right _ (right _ h)))
  arms_parts m arms bodies h = no h

  three : (a b c : Typing) → (a.right && (b.right && c.right)) ≡ true → AllRight (a ∷ b ∷ c ∷ [])
  three a b c h =
      let q = and_parts a.right (b.right && c.right) h in
      let r = and_parts b.right c.right q.1 in
      both q.0 (both r.0 (both r.1 refl))

  three_met : (a b c : Typing) (d : Bool) → (a.right && (b.right && (c.right && d))) ≡ true → AllRight (a ∷ b ∷ c ∷ [])
  three_met a b c d h =
      let q = and_parts a.right (b.right && (c.right && d)) h in
      let r = and_parts b.right (c.right && d) q.1 in
      both q.0 (both r.0 (both (and_parts c.right d r.1).0 refl))

  kind_parts : (k : ℕ) (kind : Kind) (ps : List Typing) → kind_right types number callees tables g k kind ps ≡ true → AllRight ps
  kind_parts k (K.Constant literal) [] h = refl
  kind_parts k (K.Local name) [] h = refl
  kind_parts k (K.Variable name) [] h = refl
  kind_parts k (K.TopLevel i) [] h = refl
  kind_parts k (K.Register r) [] h = refl
  kind_parts k (K.Call (F.Function f)) ps h = left _ (right _ h)
  kind_parts k (K.Call (F.Row row)) ps h = row_parts (has_state row) row _ ps h
  kind_parts k (K.Call (F.Constructor u c)) ps h = left _ h
  kind_parts k K.Tuple ps h = left _ h
  kind_parts k (K.Vector shape) ps h = left _ h
  kind_parts k (K.List shape) ps h = left _ h
  kind_parts k (K.Cons shape) ps h = left _ h
  kind_parts k (K.Struct struct fields) ps h = left _ h
  kind_parts k (K.With struct (i ∷ [])) ps h = left _ h
  kind_parts k (K.With struct (i ∷ j ∷ is)) ps h = left _ h
  kind_parts k (K.Part suffixes) (a ∷ indexes) h = both (left _ h) (path_parts suffixes indexes (right _ h))
  kind_parts k K.WithItem (a ∷ b ∷ c ∷ []) h = left _ h
  kind_parts k K.WithSlice (a ∷ b ∷ c ∷ d ∷ []) h = left _ h
  kind_parts k (K.Cast written) (a ∷ []) h = both (left _ h) refl
  kind_parts k (K.SizeOf t numbers) [] h = refl
  kind_parts k (K.Constraint c numbers) [] h = refl
  kind_parts k (K.Assign (t ∷ [])) ps h = write_parts (target_spot t) ps (right _ h)
  kind_parts k (K.Block statements) ps h = block_parts statements ps h
  kind_parts k (K.Var name written) (a ∷ b ∷ []) h = both (left _ h) (both (right _ (right _ h)) refl)
  kind_parts k (K.If shape) (c ∷ a ∷ []) h = both (left _ h) (both (right _ h) refl)
  kind_parts k (K.If shape) (c ∷ a ∷ b ∷ []) h = three_met c a b (meet_right types number callees tables g (a.types ++ b.types) (tables.cases k 1)) h
  kind_parts k K.While (m ∷ c ∷ b ∷ []) h = three m c b (and_parts (not g.is_pure) (m.right && (c.right && b.right)) h).1
  kind_parts k K.Repeat (m ∷ b ∷ c ∷ []) h = three m b c (and_parts (not g.is_pure) (m.right && (b.right && c.right)) h).1
  kind_parts k (K.Foreach name way) (a ∷ b ∷ c ∷ body ∷ []) h = right _ h
  kind_parts k K.Throw (a ∷ []) h = both (left _ h) refl
  kind_parts k K.Return (a ∷ []) h = both (left _ h) refl
  kind_parts k K.Exit (a ∷ []) h = both h refl
  kind_parts k (K.Assert text) (a ∷ []) h = both h refl
  kind_parts k K.And (a ∷ b ∷ []) h = both (left _ h) (both (right _ h) refl)
  kind_parts k K.Or (a ∷ b ∷ []) h = both (left _ h) (both (right _ h) refl)
  kind_parts k K.When (a ∷ b ∷ []) h = both (left _ h) (both (right _ h) refl)
  kind_parts k (K.Let arm) (a ∷ b ∷ []) h = both (left _ h) (both (right _ (right _ h)) refl)
  kind_parts k (K.Match arms shape) (a ∷ bodies) h = both (left _ h) (arms_parts (in_hand a.ends) arms bodies (left _ (right _ h)))
  kind_parts k (K.Try arms shape) (a ∷ bodies) h =
      let ends : List End = ends_of (tables.gives k) (tables.cases k 0) in
      let sourced : Bool = cases_right types number callees tables g (is_sourced types number callees tables g (Some g.exception)) (tables.cases k 0) in
      let thrown : Bool = all_thrown types number callees tables g ends in
      let met : Bool = meet_right types number callees tables g (a.types ++ arms_types types number callees tables g bodies) (tables.cases k 1) in
      let taken : Bool = arms_right types number callees tables g (in_hand ends) arms bodies in
      let q = and_parts a.right (sourced && (thrown && (taken && met))) h in
      let r = and_parts thrown (taken && met) (and_parts sourced (thrown && (taken && met)) q.1).1 in
      both q.0 (arms_parts (in_hand ends) arms bodies (and_parts taken met r.1).0)
  kind_parts k (K.Clauses arms) bodies h = arms_parts (arguments callees.given) arms bodies h
  kind_parts k (K.Call (F.Applies d)) (a ∷ []) h = both (left _ (right _ (right _ h))) refl
  kind_parts k (K.Optional t) (a ∷ []) h = both (left _ h) refl
  kind_parts k kind ps h = no h

  -- ---- what is lowered has lowered parts

  abbrev AllOk : List Node → Type 0
  AllOk ns = all_lowered ns ≡ true

  way_ok : (way : Way) (more : List Node → Bool) → ((ns : List Node) → more ns ≡ true → AllOk ns) → (ns : List Node) → way_lowered way ns more ≡ true
      → AllOk ns
  way_ok (Y.Field struct i) more so ns h = so ns h
  way_ok Y.Item more so (n ∷ ns) h = both (left _ h) (so ns (right _ h))
  way_ok Y.Slice more so (n ∷ p ∷ ns) h = both (left _ h) (both (left _ (right _ h)) (so ns (right _ (right _ h))))
  way_ok way more so ns h = no h

  path_ok : (ss : List Suffix) (ns : List Node) → path_lowered ss ns ≡ true → AllOk ns
  path_ok [] [] h = refl
  path_ok [] (n ∷ ns) h = no h
  path_ok (s ∷ ss) ns h = way_ok s.way (path_lowered ss) (λ ps k. path_ok ss ps k) ns h

  block_ok : (ss : List Statement) (ns : List Node) → block_lowered callees tables ss ns ≡ true → AllOk ns
  block_ok [] [] h = refl
  block_ok [] (value ∷ []) h = both h refl
  block_ok (S.Evaluate ∷ ss) (a ∷ ns) h = both (left _ h) (block_ok ss ns (right _ h))
  block_ok (S.Define place arm ∷ ss) (a ∷ ns) h = both (left _ (left _ (right _ h))) (block_ok ss ns (right _ (right _ h)))
  block_ok (S.Declare name written ∷ ss) (a ∷ ns) h = both (left _ h) (block_ok ss ns (right _ h))
  block_ok ss ns h = no h

  none_ok : (ns : List Node) → no_parts ns ≡ true → AllOk ns
  none_ok [] h = refl
  none_ok (n ∷ ns) h = no h

  row_ok : (b : Bool) (cases : List Case) (ns : List Node) → row_lowered b cases ns ≡ true → AllOk ns
  row_ok true cases ns h = right _ (right _ h)
  row_ok false cases ns h = h

  two_ok : (a b : Node) → (a.ok && b.ok) ≡ true → AllOk (a ∷ b ∷ [])
  two_ok a b h = both (left _ h) (both (right _ h) refl)

  three_ok : (a b c : Node) → (a.ok && (b.ok && c.ok)) ≡ true → AllOk (a ∷ b ∷ c ∷ [])
  three_ok a b c h = both (left _ h) (two_ok b c (right _ h))

  kind_ok : (k : ℕ) (kind : Kind) (ns : List Node) → kind_lowered types callees tables k kind ns ≡ true → AllOk ns
  kind_ok k (K.Constant literal) [] h = refl
  kind_ok k (K.Local name) [] h = refl
  kind_ok k (K.Variable name) ns h = none_ok ns (left _ (right _ h))
  kind_ok k (K.TopLevel i) [] h = refl
  kind_ok k (K.Register r) [] h = refl
  kind_ok k (K.Call (F.Function f)) ns h = right _ h
  kind_ok k (K.Call (F.Row row)) ns h = row_ok (has_state row) (tables.cases k (length ns)) ns h
  kind_ok k (K.Call (F.Constructor u c)) ns h = h
  kind_ok k K.Tuple ns h = h
  kind_ok k (K.Vector shape) ns h = h
  kind_ok k (K.List shape) ns h = h
  kind_ok k (K.Cons shape) ns h = h
  kind_ok k (K.Struct struct fields) ns h = h
  kind_ok k (K.With struct (i ∷ is)) ns h = h
  kind_ok k (K.Part suffixes) (a ∷ ns) h = both (left _ h) (path_ok suffixes ns (right _ h))
  kind_ok k K.WithItem (a ∷ b ∷ c ∷ []) h = three_ok a b c h
  kind_ok k K.WithSlice (a ∷ b ∷ c ∷ d ∷ []) h = both (left _ h) (three_ok b c d (right _ h))
  kind_ok k (K.Cast written) (a ∷ []) h = both h refl
  kind_ok k (K.SizeOf t numbers) [] h = refl
  kind_ok k (K.Constraint c numbers) [] h = refl
  kind_ok k (K.Assign (t ∷ [])) ns h = right _ h
  kind_ok k (K.Block statements) ns h = block_ok statements ns h
  kind_ok k (K.Var name written) (a ∷ b ∷ []) h = two_ok a b h
  kind_ok k (K.If shape) (c ∷ a ∷ []) h = two_ok c a h
  kind_ok k (K.If shape) (c ∷ a ∷ b ∷ []) h = three_ok c a b h
  kind_ok k K.While (m ∷ c ∷ b ∷ []) h = three_ok m c b h
  kind_ok k K.Repeat (m ∷ b ∷ c ∷ []) h = three_ok m b c h
  kind_ok k (K.Foreach name way) (a ∷ b ∷ c ∷ body ∷ []) h = both (left _ (right _ h)) (three_ok b c body (right _ (right _ h)))
  kind_ok k K.Throw (a ∷ []) h = both h refl
  kind_ok k K.Return (a ∷ []) h = both h refl
  kind_ok k K.Exit (a ∷ []) h = both h refl
  kind_ok k (K.Assert text) (a ∷ []) h = both h refl
  kind_ok k K.And (a ∷ b ∷ []) h = two_ok a b h
  kind_ok k K.Or (a ∷ b ∷ []) h = two_ok a b h
  kind_ok k K.When (a ∷ b ∷ []) h = two_ok a b h
  kind_ok k (K.Let arm) (a ∷ b ∷ []) h = both (left _ (left _ (right _ h))) (both (right _ (right _ h)) refl)
  kind_ok k (K.Match arms shape) (a ∷ bodies) h =
      let fits : Bool = arms_fit callees.size callees.crosses tables.reads arms in
      let q = and_parts (is_matched a) (fits && all_lowered bodies) h in
      both {a = a.ok} {b = all_lowered bodies} (and_parts a.ok (has_ends a.piece.ends) q.0).0 (and_parts fits (all_lowered bodies) q.1).1
  kind_ok k (K.Try arms shape) (a ∷ bodies) h =
      let said : Bool = has_ends (ends_of (tables.gives k) (tables.cases k 0)) in
      let fits : Bool = arms_fit callees.size callees.crosses tables.reads arms in
      let q = and_parts a.ok (said && (fits && all_lowered bodies)) h in
      both {a = a.ok} {b = all_lowered bodies} q.0 (and_parts fits (all_lowered bodies) (and_parts said (fits && all_lowered bodies) q.1).1).1
  kind_ok k (K.Clauses arms) bodies h = right _ h
  kind_ok k (K.Call (F.Applies d)) (a ∷ []) h = both (right _ h) refl
  kind_ok k kind ns h = no h

  -- ---- a direction that is called, or asked in a pattern, is one that may be

  step_crosses : (s : Step) (ts : List Sized) → step_right types number callees tables g s ts ≡ true → step_within g.directions s ≡ true
  step_crosses (P.Sees i d) ts h = left _ (right _ h)
  step_crosses (P.Opens i head n) ts h = refl
  step_crosses (P.Names i name) ts h = refl

  steps_crosses : (ss : List Step) (ts : List Sized) → steps_right types number callees tables g ss ts ≡ true → steps_within g.directions ss ≡ true
  steps_crosses [] ts h = refl
  steps_crosses (s ∷ ss) ts h =
      both (step_crosses s ts (left _ h)) (steps_crosses ss (ts ++ step_types types number callees tables g s ts) (right _ (right _ h)))

  arm_crosses : (arm : Arm) (ts : List Sized) → arm_right types number callees tables g arm ts ≡ true → arm_within g.directions arm ≡ true
  arm_crosses (A.Nested ps) ts h = refl
  arm_crosses (A.Flat n ss) ts h = steps_crosses ss ts (right _ h)

  ends_crosses : (arm : Arm) (es : List End) → has_ends es ≡ true → ends_right types number callees tables g arm es ≡ true
      → arm_within g.directions arm ≡ true
  ends_crosses arm [] e h = no e
  ends_crosses arm (d ∷ es) e h = arm_crosses arm (d.typ ∷ []) (left _ (right _ h))

  arms_crosses : (m : Matched) → ((arm : Arm) → matched_right types number callees tables g m arm ≡ true → arm_within g.directions arm ≡ true)
      → (arms : List Arm) (ps : List Typing) → arms_right types number callees tables g m arms ps ≡ true → arms_within g.directions arms ≡ true
  arms_crosses m so [] [] h = refl
  arms_crosses m so (arm ∷ arms) (b ∷ ps) h = both (so arm (left _ h)) (arms_crosses m so arms ps (right _ (right _ h)))
  arms_crosses m so arms ps h = no h

  -- ---- trees

  abbrev at_node : Core → Typing
  at_node = typing types number callees tables g

  abbrev code_of : Core → Node
  code_of = node types kit number callees tables

  abbrev codes : List Core → List Node
  codes cs = map code_of cs

  abbrev typings : List Core → List Typing
  typings cs = map at_node cs

  -- where the types of what is matched are known
  has_typed : (c : Core) → has_ends (code_of c).piece.ends ≡ true → has_ends (at_node c).ends ≡ true
  has_typed c h = ap has_ends (sym (ends_alike types kit number callees tables g c)) ∙ h

  statements_cross : (ss : List Statement) (cs : List Core) → block_lowered callees tables ss (codes cs) ≡ true
      → block_right types number callees tables g ss (typings cs) ≡ true → statements_within g.directions ss ≡ true
  statements_cross [] cs e h = refl
  statements_cross (S.Evaluate ∷ ss) (c ∷ cs) e h = statements_cross ss cs (right _ e) (right _ h)
  statements_cross (S.Define place arm ∷ ss) (c ∷ cs) e h =
      both (ends_crosses arm (at_node c).ends (has_typed c (right _ (left _ (right _ e)))) (left _ (right _ h)))
      (statements_cross ss cs (right _ (right _ e)) (right _ (right _ h)))
  statements_cross (S.Declare name written ∷ ss) (c ∷ cs) e h = statements_cross ss cs (right _ e) (right _ (right _ h))
  statements_cross ss cs e h = no e

  kind_crosses : (k : ℕ) (kind : Kind) (cs : List Core) → kind_lowered types callees tables k kind (codes cs) ≡ true
      → kind_right types number callees tables g k kind (typings cs) ≡ true → crosses_here g.directions kind ≡ true
  kind_crosses k (K.Call (F.Applies d)) [] e h = no h
  kind_crosses k (K.Call (F.Applies d)) (a ∷ []) e h = left _ (right _ h)
  kind_crosses k (K.Call (F.Applies d)) (a ∷ b ∷ cs) e h = no h
  kind_crosses k (K.Block statements) cs e h = statements_cross statements cs e h
  kind_crosses k (K.Let arm) (a ∷ b ∷ []) e h = ends_crosses arm (at_node a).ends (has_typed a (right _ (left _ (right _ e)))) (left _ (right _ h))
  kind_crosses k (K.Let arm) [] e h = no h
  kind_crosses k (K.Let arm) (a ∷ []) e h = no h
  kind_crosses k (K.Let arm) (a ∷ b ∷ c ∷ cs) e h = no h
  kind_crosses k (K.Match arms shape) [] e h = no h
  kind_crosses k (K.Match arms shape) (a ∷ cs) e h =
      arms_crosses (in_hand (at_node a).ends) (λ arm r. ends_crosses arm (at_node a).ends (has_typed a (right _ (left _ e))) r) arms (typings cs)
      (left _ (right _ h))
  kind_crosses k (K.Try arms shape) [] e h = no h
  kind_crosses k (K.Try arms shape) (a ∷ cs) e h =
      let es : List End = ends_of (tables.gives k) (tables.cases k 0) in
      let sourced : Bool = cases_right types number callees tables g (is_sourced types number callees tables g (Some g.exception)) (tables.cases k 0) in
      let thrown : Bool = all_thrown types number callees tables g es in
      let both_types : List Sized = (at_node a).types ++ arms_types types number callees tables g (typings cs) in
      let met : Bool = meet_right types number callees tables g both_types (tables.cases k 1) in
      let taken : Bool = arms_right types number callees tables g (in_hand es) arms (typings cs) in
      let q = and_parts (at_node a).right (sourced && (thrown && (taken && met))) h in
      let r = and_parts thrown (taken && met) (and_parts sourced (thrown && (taken && met)) q.1).1 in
      arms_crosses (in_hand es) (λ arm s. ends_crosses arm es (left _ (right _ e)) s) arms (typings cs) (and_parts taken met r.1).0
  kind_crosses k (K.Clauses arms) cs e h = arms_crosses (arguments callees.given) (λ arm r. arm_crosses arm callees.given r) arms (typings cs) h
  kind_crosses k kind cs e h = refl

  Within : Core → Type 0
  Within c = (code_of c).ok ≡ true → (at_node c).right ≡ true → crosses_within g.directions c ≡ true

  abbrev Known : Type 0
  Known = (c : Core) × Within c

  abbrev cores : List Known → List Core
  cores ys = map (λ y. y.0) ys

  all_within : (ys : List Known) → AllOk (codes (cores ys)) → AllRight (typings (cores ys)) → all_so (map (crosses_within g.directions) (cores ys)) ≡ true
  unfolding Within
  all_within [] e h = refl
  all_within (y ∷ ys) e h = both (y.1 (left _ e) (left _ h)) (all_within ys (right _ e) (right _ h))

  step : (y : Core-F Known) → Within (roll-Core (map-Core Known Core (λ q. q.0) y))
  unfolding Within
  step y e h =
      let d : Core-F Core = map-Core Known Core (λ q. q.0) y in
      let cs : List Core = cores y.parts in
      let e1 : kind_lowered types callees tables y.number y.kind (codes cs) ≡ true =
      ap (λ (n : Node). n.ok) (sym (fold-roll-Core Node (λ c. record {
        piece = kind_piece types kit number callees tables c.place c.number c.kind (pieces_of c.parts);
        ok = kind_lowered types callees tables c.number c.kind c.parts;
      }) d))
      ∙ e in
      let h1 : kind_right types number callees tables g y.number y.kind (typings cs) ≡ true =
      ap (λ (t : Typing). t.right) (sym (fold-roll-Core Typing (λ c. record {
        types = kind_types types number callees tables g c.number c.kind c.parts;
        ends = kind_ends types number callees tables g c.number c.kind c.parts;
        right = kind_right types number callees tables g c.number c.kind c.parts;
      }) d))
      ∙ h in
      fold-roll-Core Bool (λ c. crosses_here g.directions c.kind && all_so c.parts) d
      ∙ both (kind_crosses y.number y.kind cs e1 h1)
      (all_within y.parts (kind_ok y.number y.kind (codes cs) e1) (kind_parts y.number y.kind (typings cs) h1))

  all_trees : (c : Core) → Within c
  all_trees = ind-Core Within (λ c y same. subst (λ d. Within (roll-Core d)) same (step y))

  pub right_crosses : (c : Core) → (code_of c).ok ≡ true → (at_node c).right ≡ true → crosses_within g.directions c ≡ true
  unfolding Within
  right_crosses c = all_trees c

  -- the one part of an option has its types where the option has
  pub part_right : (c a : Core) (t : Typ) → (out-Core c).kind ≡ K.Optional t → (out-Core c).parts ≡ a ∷ [] → (at_node c).right ≡ true
      → (at_node a).right ≡ true
  part_right c a t ek ep h =
      left _
      (subst (λ kind. kind_right types number callees tables g (out-Core c).number kind (at_node a ∷ []) ≡ true) ek
      (subst (λ ps. kind_right types number callees tables g (out-Core c).number (out-Core c).kind (map at_node ps) ≡ true) ep
      (ap (λ (q : Typing). q.right) (sym (fold_out-Core Typing (λ b. record {
        types = kind_types types number callees tables g b.number b.kind b.parts;
        ends = kind_ends types number callees tables g b.number b.kind b.parts;
        right = kind_right types number callees tables g b.number b.kind b.parts;
      }) c))
      ∙ h)))

-- ---- where more may be called or asked

module _ (p q : ℕ → Bool) (more : (d : ℕ) → p d ≡ true → q d ≡ true) where
  step_wider : (s : Step) → step_within p s ≡ true → step_within q s ≡ true
  step_wider (P.Sees i d) h = more d h
  step_wider (P.Opens i head n) h = refl
  step_wider (P.Names i name) h = refl

  steps_wider : (ss : List Step) → steps_within p ss ≡ true → steps_within q ss ≡ true
  steps_wider [] h = refl
  steps_wider (s ∷ ss) h = both (step_wider s (left _ h)) (steps_wider ss (right _ h))

  arm_wider : (arm : Arm) → arm_within p arm ≡ true → arm_within q arm ≡ true
  arm_wider (A.Nested ps) h = refl
  arm_wider (A.Flat n ss) h = steps_wider ss h

  arms_wider : (arms : List Arm) → arms_within p arms ≡ true → arms_within q arms ≡ true
  arms_wider [] h = refl
  arms_wider (arm ∷ arms) h = both (arm_wider arm (left _ h)) (arms_wider arms (right _ h))

  statements_wider : (ss : List Statement) → statements_within p ss ≡ true → statements_within q ss ≡ true
  statements_wider [] h = refl
  statements_wider (S.Evaluate ∷ ss) h = statements_wider ss h
  statements_wider (S.Define place arm ∷ ss) h = both (arm_wider arm (left _ h)) (statements_wider ss (right _ h))
  statements_wider (S.Declare name written ∷ ss) h = statements_wider ss h

  kind_wider : (kind : Kind) → crosses_here p kind ≡ true → crosses_here q kind ≡ true
  kind_wider (K.Call (F.Applies d)) h = more d h
  kind_wider (K.Block statements) h = statements_wider statements h
  kind_wider (K.Let arm) h = arm_wider arm h
  kind_wider (K.Match arms shape) h = arms_wider arms h
  kind_wider (K.Try arms shape) h = arms_wider arms h
  kind_wider (K.Clauses arms) h = arms_wider arms h
  kind_wider kind h = refl

  Wider : Core → Type 0
  Wider c = crosses_within p c ≡ true → crosses_within q c ≡ true

  abbrev Widened : Type 0
  Widened = (c : Core) × Wider c

  all_wider : (ys : List Widened) → all_so (map (crosses_within p) (map (λ y. y.0) ys)) ≡ true → all_so (map (crosses_within q) (map (λ y. y.0) ys)) ≡ true
  unfolding Wider
  all_wider [] h = refl
  all_wider (y ∷ ys) h = both (y.1 (left _ h)) (all_wider ys (right _ h))

  wider_step : (y : Core-F Widened) → Wider (roll-Core (map-Core Widened Core (λ r. r.0) y))
  unfolding Wider
  wider_step y h =
      let d : Core-F Core = map-Core Widened Core (λ r. r.0) y in
      let cs : List Core = map (λ r. r.0) y.parts in
      let h1 : (crosses_here p y.kind && all_so (map (crosses_within p) cs)) ≡ true =
      sym (fold-roll-Core Bool (λ c. crosses_here p c.kind && all_so c.parts) d) ∙ h in
      fold-roll-Core Bool (λ c. crosses_here q c.kind && all_so c.parts) d ∙ both (kind_wider y.kind (left _ h1)) (all_wider y.parts (right _ h1))

  all_wide : (c : Core) → Wider c
  all_wide = ind-Core Wider (λ c y same. subst (λ d. Wider (roll-Core d)) same (wider_step y))

  pub crosses_wider : (c : Core) → crosses_within p c ≡ true → crosses_within q c ≡ true
  unfolding Wider
  crosses_wider c = all_wide c

-- ---- the parts of a tree

pub part_within : (p : ℕ → Bool) (c a : Core) → (out-Core c).parts ≡ a ∷ [] → crosses_within p c ≡ true → crosses_within p a ≡ true
part_within p c a e h =
    let h1 : (crosses_here p (out-Core c).kind && all_so (map (crosses_within p) (out-Core c).parts)) ≡ true =
    sym (fold_out-Core Bool (λ d. crosses_here p d.kind && all_so d.parts) c) ∙ h in
    left _ (subst (λ ps. all_so (map (crosses_within p) ps) ≡ true) e (right _ h1))

pub part_stays : (c a : Core) → (out-Core c).parts ≡ a ∷ [] → returns_nothing c ≡ true → returns_nothing a ≡ true
part_stays c a e h =
    let h1 : (stays_here (out-Core c).kind && all_so (map returns_nothing (out-Core c).parts)) ≡ true =
    sym (fold_out-Core Bool (λ d. stays_here d.kind && all_so d.parts) c) ∙ h in
    left _ (subst (λ ps. all_so (map returns_nothing ps) ≡ true) e (right _ h1))
