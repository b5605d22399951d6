-- Forms by their parts: what is put for so many, and what is lowered of them.
use Rattle.std.proofs.Common.{◌≡◌, ◌∙◌, ◌≤◌, ℕ, Bool, true, false, ◌&&◌, None, List, [], ◌∷◌, length, refl, sym, ap, arith}
use Rattle.std.proofs.lemmas.Bool.{and_from, and_parts, false≢true}
use Rattle.sail_base.specs.declared.place.Place.{Place as TextPlace}
use Rattle.sail_types.specs.declared.rows.Row.{Row}
use Rattle.sail_types.specs.declared.shapes.Shape.TheVariants as S
use Rattle.sail_core.specs.declared.patterns.Arm.{Arm}
use Rattle.sail_core.specs.declared.targets.Suffix.{Suffix}
use Rattle.sail_core.specs.declared.tree.Callee.TheVariants as F
use Rattle.sail_core.specs.declared.tree.Core.{Core, out-Core}
use Rattle.sail_core.specs.declared.tree.Giver.TheVariants as G
use Rattle.sail_core.specs.declared.tree.Kind.TheVariants as K
use Rattle.sail_core.specs.declared.tree.Statement.{Statement}
use Rattle.sail_core.specs.declared.tree.Statement.TheVariants as X
use Rattle.jib.specs.declared.code.Operation.TheVariants as O
use Rattle.size_values.specs.declared.sized.Sized.{Sized}
use Rattle.sized_meanings.specs.Present.{gives_at}
use Rattle.sized_nodes.specs.declared.trees.Case.{Case}
use Rattle.lowered_pieces.specs.Arms.{arguments, arm_fits, arms_fit, fall_piece, first_piece}
use Rattle.lowered_pieces.specs.Forms.{End, Piece, ends_of, has_ends, in_fields, made_of_piece, meet_piece, nothing_piece, unit_source, work_make}
use Rattle.lowered_pieces.specs.Gathered.{is_one, only_end}
use Rattle.lowered_pieces.specs.Lowering.{applied_lowered, is_matched}
use Rattle.lowered_pieces.specs.Mapped.{operand_moved}
use Rattle.lowered_pieces.specs.Moves.{retype}
use Rattle.lowered_pieces.specs.Nodes.{cases_at}
use Rattle.lowered_pieces.specs.Places.{Naming}
use Rattle.lowered_steps.specs.declared.hands.Matched.{Matched}
use Rattle.lowered_steps.specs.Setting.{crosses_for, kit_for, nodes_in, number_for, reads_at, size_for}
use Rattle.lowered_ends.specs.Around.{callees_of, node_for}
use Rattle.lowered_nodes.specs.declared.arms.Otherwise.{Otherwise}
use Rattle.lowered_nodes.specs.declared.walk.Walk.{Walk}
use Rattle.lowered_nodes.specs.Walk.{all_lowered_for, bind_for, block_for, block_ok, bound_ok, if_for, if_ok, let_for, node_ok, path_for, piece_at, pieces_for}
use Rattle.lowered_nodes.specs.Walk.{first_for, only_number, operand_for, state_of, try_ok, ways_ok}
use Rattle.lowered_ends.proofs.Opened.{ok_with, piece_with}

module _ (walk : Walk) (name : Naming) where
  -- the rest of a block
  pub last_parts : (cs : List Core) → block_ok walk name [] cs ≡ true → length cs ≤ 1
  last_parts [] h = omega arith
  last_parts (c ∷ []) h = omega arith
  last_parts (c ∷ d ∷ cs) h = absurd (false≢true h)

  without : (k : ℕ) (x : Statement) (ss : List Statement) → nothing_piece ≡ block_for walk name k (x ∷ ss) []
  without k X.Evaluate ss = refl
  without k (X.Define place arm) ss = refl
  without k (X.Declare text written) ss = refl

  pub block_short : (k : ℕ) (ss : List Statement) (cs : List Core) (x : Statement) (ys : List Statement) → ss ≡ x ∷ ys → cs ≡ []
      → nothing_piece ≡ block_for walk name k ss cs
  block_short k ss cs x ys is none = without k x ys ∙ (λ i. block_for walk name k (sym is i) (sym none i))

  pub define_lowered : (place : TextPlace) (arm : Arm) (rest : List Statement) (first : Core) (others : List Core)
      → block_ok walk name (X.Define place arm ∷ rest) (first ∷ others) ≡ true → bound_ok walk name first rest others ≡ true
  define_lowered place arm rest first others h =
      let both = (and_parts (arm_fits (size_for walk.setting.now) (crosses_for walk.setting.now) (reads_at walk.setting.now.reads.now) arm)
      (is_matched (node_for walk.setting.now walk.around.now name first) && block_ok walk name rest others) h).1 in
      let two = and_parts (is_matched (node_for walk.setting.now walk.around.now name first)) (block_ok walk name rest others) both in
      and_from (node_ok walk name first) (block_ok walk name rest others)
      (and_parts (node_ok walk name first) (has_ends (piece_at walk name first).ends) two.0).0 two.1

  module _ (node : Core) where
    -- a direction
    pub crossing_lowered : (d : ℕ) (x : Core) → ok_with walk.setting.now walk.around.now name (K.Call (F.Applies d)) node (x ∷ []) ≡ true
        → node_ok walk name x ≡ true
    crossing_lowered d x h =
        (and_parts (applied_lowered (callees_of walk.setting.now walk.around.now) d (piece_at walk name x).ends) (node_ok walk name x) h).1

    -- a struct, by its fields
    abbrev pub struct_for : List ℕ → Piece
    struct_for is =
        made_of_piece (kit_for walk.setting.now name) (number_for walk.setting.now)
        (work_make (kit_for walk.setting.now name) (number_for walk.setting.now) O.Build (in_fields (unit_source (kit_for walk.setting.now name)) is))
        (cases_at (out-Core node).number (length (pieces_for walk name (out-Core node).parts)) (nodes_in walk.setting.now))
        (gives_at (nodes_in walk.setting.now) (G.Node (out-Core node).number)) (pieces_for walk name (out-Core node).parts)

    -- an `if`
    pub if_alone : (a b : Core) (us : List Core) → us ≡ []
        → if_for walk name a b us ≡ piece_with walk.setting.now walk.around.now name (K.If S.Unit) node (a ∷ b ∷ us)
    if_alone a b us none =
        ap (λ (vs : List Core). if_for walk name a b vs) none
        ∙ ap (λ (vs : List Core). piece_with walk.setting.now walk.around.now name (K.If S.Unit) node (a ∷ b ∷ vs)) (sym none)

    -- two branches meet
    abbrev pub met_if : Core → Core → List Core → Piece
    met_if a b us =
        meet_piece (kit_for walk.setting.now name) (number_for walk.setting.now)
        (cases_at (out-Core node).number 1 (nodes_in walk.setting.now)) (gives_at (nodes_in walk.setting.now) (G.Node (out-Core node).number))
        (if_for walk name a b us)

    pub if_both : (a b : Core) (us : List Core) → length us ≡ 1
        → met_if a b us ≡ piece_with walk.setting.now walk.around.now name (K.If S.Unit) node (a ∷ b ∷ us)
    if_both a b [] one = absurd (omega (arith, one))
    if_both a b (c ∷ []) one = refl
    if_both a b (c ∷ d ∷ us) one = absurd (omega (arith, one))

    pub if_lowered : (a b : Core) (us : List Core) → ok_with walk.setting.now walk.around.now name (K.If S.Unit) node (a ∷ b ∷ us) ≡ true
        → if_ok walk name a b us ≡ true
    if_lowered a b [] h =
        let two = and_parts (node_ok walk name a) (node_ok walk name b) h in
        and_from (node_ok walk name a) (node_ok walk name b && true) two.0 (and_from (node_ok walk name b) true two.1 refl)
    if_lowered a b (c ∷ []) h = h
    if_lowered a b (c ∷ d ∷ us) h = absurd (false≢true h)

    -- what is bound for one other part
    pub let_form : (arm : Arm) (x : Core) (ys : List Core) → length ys ≡ 1
        → let_for walk name (G.Arm (out-Core node).number 0) (out-Core node).place x arm (out-Core node).number [] ys
        ≡ piece_with walk.setting.now walk.around.now name (K.Let arm) node (x ∷ ys)
    let_form arm x [] one = absurd (omega (arith, one))
    let_form arm x (b ∷ []) one = refl
    let_form arm x (b ∷ c ∷ ys) one = absurd (omega (arith, one))

    pub let_lowered : (arm : Arm) (x : Core) (ys : List Core) → length ys ≡ 1
        → ok_with walk.setting.now walk.around.now name (K.Let arm) node (x ∷ ys) ≡ true → bound_ok walk name x [] ys ≡ true
    let_lowered arm x [] one h = absurd (omega (arith, one))
    let_lowered arm x (b ∷ []) one h = define_lowered (out-Core node).place arm [] x (b ∷ []) h
    let_lowered arm x (b ∷ c ∷ ys) one h = absurd (omega (arith, one))

    pub var_form : (text : List ℕ) (x : Core) (ys : List Core) → length ys ≡ 1
        → bind_for walk name text x (out-Core node).number [] ys ≡ piece_with walk.setting.now walk.around.now name (K.Var text None) node (x ∷ ys)
    var_form text x [] one = absurd (omega (arith, one))
    var_form text x (b ∷ []) one = refl
    var_form text x (b ∷ c ∷ ys) one = absurd (omega (arith, one))

    pub var_lowered : (text : List ℕ) (x : Core) (ys : List Core) → length ys ≡ 1
        → ok_with walk.setting.now walk.around.now name (K.Var text None) node (x ∷ ys) ≡ true → bound_ok walk name x [] ys ≡ true
    var_lowered text x [] one h = absurd (omega (arith, one))
    var_lowered text x (b ∷ []) one h = h
    var_lowered text x (b ∷ c ∷ ys) one h = absurd (omega (arith, one))

    -- arms
    module _ (arms : List Arm) (x : Core) (ys : List Core) where
      abbrev lowered_arms : Bool
      lowered_arms = arms_fit (size_for walk.setting.now) (crosses_for walk.setting.now) (reads_at walk.setting.now.reads.now) arms

      module _ (h : ok_with walk.setting.now walk.around.now name (K.Match arms S.Unit) node (x ∷ ys) ≡ true) where
        pub match_value : node_ok walk name x ≡ true
        match_value =
            (and_parts (node_ok walk name x) (has_ends (piece_at walk name x).ends)
            (and_parts (is_matched (node_for walk.setting.now walk.around.now name x)) (lowered_arms && all_lowered_for walk name ys) h).0).0

        pub match_bodies : all_lowered_for walk name ys ≡ true
        match_bodies =
            (and_parts lowered_arms (all_lowered_for walk name ys)
            (and_parts (is_matched (node_for walk.setting.now walk.around.now name x)) (lowered_arms && all_lowered_for walk name ys) h).1).1

      pub try_lowered : (bs : List Arm) → bs ≡ arms → ok_with walk.setting.now walk.around.now name (K.Try arms S.Unit) node (x ∷ ys) ≡ true
          → try_ok walk name bs x ys ≡ true
      try_lowered bs same h =
          let ends = has_ends (ends_of (gives_at (nodes_in walk.setting.now) (G.Node (out-Core node).number))
          (cases_at (out-Core node).number 0 (nodes_in walk.setting.now))) in
          let one = and_parts (node_ok walk name x) (ends && (lowered_arms && all_lowered_for walk name ys)) h in
          ap (λ (bs : List Arm). try_ok walk name bs x ys) same
          ∙ and_from (node_ok walk name x) (lowered_arms && all_lowered_for walk name ys) one.0
          (and_parts ends (lowered_arms && all_lowered_for walk name ys) one.1).1

    -- clauses, of the types that a function is called with
    abbrev pub first_of_given : List Arm → List Core → Piece
    first_of_given arms cs =
        first_piece walk.setting.now.types.now (kit_for walk.setting.now name) (λ n. gives_at (nodes_in walk.setting.now) (G.Arm (out-Core node).number n))
        (arguments walk.around.now.given.now) arms (pieces_for walk name cs) (fall_piece walk.setting.now.types.now (kit_for walk.setting.now name))

  -- no suffix, and so no index
  pub path_none : (x : Core) (ss : List Suffix) (cs : List Core) → ss ≡ [] → ways_ok walk name ss cs ≡ true → piece_at walk name x ≡ path_for walk name x ss cs
  path_none x ss cs none h = alone cs (ap (λ (us : List Suffix). ways_ok walk name us cs) (sym none) ∙ h) ∙ ap (λ
      (us : List Suffix). path_for walk name x us cs) (sym none)
    where
      alone : (ds : List Core) → ways_ok walk name [] ds ≡ true → piece_at walk name x ≡ path_for walk name x [] ds
      alone [] g = refl
      alone (d ∷ ds) g = absurd (false≢true g)

  -- no arm, but bodies
  pub no_arm : (k : ℕ) (m : Matched) (cs : List Core) (o : Otherwise) → 1 ≤ length cs → nothing_piece ≡ first_for walk name k m [] cs o
  no_arm k m [] o some = absurd (omega arith)
  no_arm k m (c ∷ cs) o some = refl

  -- operands of one type
  pub operand_one : (n : ℕ) (es : List End) (t : ℕ) → is_one es ≡ true → (u : ℕ) → u ≡ only_number walk.setting.now es
      → retype (kit_for walk.setting.now name) n u t ≡ operand_for walk name n es t
  operand_one n [] t h u is = absurd (false≢true h)
  operand_one n (e ∷ []) t h u is = ap (λ v. retype (kit_for walk.setting.now name) n v t) is
  operand_one n (e ∷ f ∷ es) t h u is = absurd (false≢true h)

  pub operand_none : (n : ℕ) (es : List End) (t : ℕ) → is_one es ≡ false → [] ≡ operand_for walk name n es t
  operand_none n [] t h = refl
  operand_none n (e ∷ []) t h = absurd (false≢true (sym h))
  operand_none n (e ∷ f ∷ es) t h = refl

  -- and as a direction takes it
  pub operand_is : (n : ℕ) (es : List End) (t : Sized)
      → operand_for walk name n es (number_for walk.setting.now t) ≡ operand_moved (kit_for walk.setting.now name) n (only_end es) t
  operand_is n [] t = refl
  operand_is n (e ∷ []) t = refl
  operand_is n (e ∷ f ∷ es) t = refl

  -- a builtin of the state at a node that hasn't one case
  pub state_none : (row : Row) (c : Core) (cs : List Case) → (length cs ≡ 1 → ⊥) → nothing_piece ≡ state_of walk name row c cs
  state_none row c [] other = refl
  state_none row c (a ∷ []) other = absurd (other refl)
  state_none row c (a ∷ b ∷ cs) other = refl
