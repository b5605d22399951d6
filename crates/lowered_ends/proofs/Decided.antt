-- Which nodes are lowered, by their kinds, as the code decides it.
use Rattle.std.proofs.Common.{◌≡◌, ◌∙◌, ◌≤◌, ◌<◌, ℕ, ℤ, nat_eq, Bool, true, false, ◌&&◌, List, [], ◌∷◌, length, suc, map, refl, sym, ap, arith}
use Rattle.std.proofs.lemmas.Bool.{ne_eqb}
use Rattle.std.specs.Prelude.{Option, Some, None, is_some}
use Rattle.sail_types.specs.declared.numbers.Con.{Con}
use Rattle.sail_types.specs.declared.numbers.Num.{Num}
use Rattle.sail_types.specs.declared.shapes.Shape.{Shape}
use Rattle.sail_types.specs.declared.shapes.Shape.TheVariants as S
use Rattle.sail_types.specs.declared.types.Typ.{Typ}
use Rattle.sail_core.specs.declared.patterns.Arm.{Arm}
use Rattle.sail_core.specs.declared.targets.Suffix.{Suffix}
use Rattle.sail_core.specs.declared.targets.Way.{Way}
use Rattle.sail_core.specs.declared.targets.Way.TheVariants as Y
use Rattle.sail_core.specs.declared.tree.Callee.TheVariants as F
use Rattle.sail_core.specs.declared.tree.Core.{Core, out-Core}
use Rattle.sail_core.specs.declared.tree.Counting.{Counting}
use Rattle.sail_core.specs.declared.tree.Kind.TheVariants as K
use Rattle.sail_core.specs.declared.tree.Statement.{Statement}
use Rattle.sail_core.specs.declared.tree.Statement.TheVariants as X
use Rattle.sail_core.specs.declared.written.Written.{Written}
use Rattle.sail_core.specs.declared.written.WrittenNumber.{WrittenNumber}
use Rattle.size_values.specs.Numbers.{known_at, known_of, truth_of}
use Rattle.lowered_pieces.specs.Arms.{arm_fits}
use Rattle.lowered_pieces.specs.Lowering.{number_lowered, path_lowered, way_lowered}
use Rattle.lowered_pieces.specs.Places.{Naming}
use Rattle.lowered_steps.specs.declared.setting.Setting.{Setting}
use Rattle.lowered_pieces.specs.Tables.{cases_among}
use Rattle.lowered_pieces.specs.Nodes.{cases_at, is_empty}
use Rattle.lowered_pieces.specs.Writes.{is_read}
use Rattle.size_values.specs.declared.sized.Sized.{Sized}
use Rattle.lowered_steps.specs.Setting.{crosses_for, nodes_in, reads_at, size_for}
use Rattle.lowered_ends.specs.Able.{all_for, block_ok, foreach_ok, matched_for, number_fits, statement_ok, suffixes_fit, variable_ok, way_fits}
use Rattle.lowered_ends.specs.Around.{node_for}
use Rattle.lowered_ends.specs.declared.around.Around.{Around}
use Rattle.lowered_ends.proofs.Opened.{ok_with}
use Rattle.lowered_ends.proofs.Sizes.{integer_has}

no_second : (b : Bool) → (b && false) ≡ false
no_second true = refl
no_second false = refl

and_true : (b : Bool) → (b && true) ≡ b
and_true true = refl
and_true false = refl

-- with another count of parts
unlike : (n m : ℕ) (x : Bool) → (n ≡ m → ⊥) → (nat_eq n m && x) ≡ false
unlike n m x other = ap (λ b. b && x) (ne_eqb n m other)

module _ (setting : Setting) (around : Around) (name : Naming) where
  abbrev is_ok : Core → Bool
  is_ok c = (node_for setting around name c).ok

  -- statements
  joined : (x y z : Bool) → ((x && y) && z) ≡ (x && (y && z))
  joined true y z = refl
  joined false y z = refl

  pub block_decided : (x : Statement) (ss : List Statement) (c : Core) (cs : List Core)
      → (statement_ok setting around name x c && block_ok setting around name ss cs) ≡ block_ok setting around name (x ∷ ss) (c ∷ cs)
  block_decided X.Evaluate ss c cs = refl
  block_decided (X.Define place arm) ss c cs =
      joined (arm_fits (size_for setting) (crosses_for setting) (reads_at setting.reads.now) arm) (matched_for setting around name c)
      (block_ok setting around name ss cs)
  block_decided (X.Declare text written) ss c cs = refl

  short_block : (x : Statement) (ss : List Statement) → false ≡ block_ok setting around name (x ∷ ss) []
  short_block X.Evaluate ss = refl
  short_block (X.Define place arm) ss = refl
  short_block (X.Declare text written) ss = refl

  pub block_refused : (ss : List Statement) (cs : List Core) (x : Statement) (ys : List Statement) → ss ≡ x ∷ ys → cs ≡ []
      → false ≡ block_ok setting around name ss cs
  block_refused ss cs x ys is none = short_block x ys ∙ (λ i. block_ok setting around name (sym is i) (sym none i))

  pub long_block : (cs : List Core) → 2 ≤ length cs → false ≡ block_ok setting around name [] cs
  long_block [] some = absurd (omega arith)
  long_block (c ∷ []) some = absurd (omega arith)
  long_block (c ∷ d ∷ cs) some = refl

  swapped : (x y z : Bool) → (x && (y && z)) ≡ (y && (x && z))
  swapped true true z = refl
  swapped true false z = refl
  swapped false true z = refl
  swapped false false z = refl

  -- suffixes take just their indexes, and these are lowered
  by_way : (way : Way) (ss : List Suffix)
      → ((cs : List Core) → (suffixes_fit ss (length cs) && all_for setting around name cs) ≡ path_lowered ss (map (node_for setting around name) cs))
      → (cs : List Core) → (way_fits way (length cs) (suffixes_fit ss) && all_for setting around name cs)
      ≡ way_lowered way (map (node_for setting around name) cs) (path_lowered ss)
  by_way (Y.Field struct i) ss more ds = more ds
  by_way Y.Item ss more [] = refl
  by_way Y.Item ss more (d ∷ ds) =
      swapped (suffixes_fit ss (length ds)) (is_ok d) (all_for setting around name ds) ∙ ap (λ x. is_ok d && x) (more ds)
  by_way Y.Slice ss more [] = refl
  by_way Y.Slice ss more (d ∷ []) = refl
  by_way Y.Slice ss more (d ∷ e ∷ ds) =
      swapped (suffixes_fit ss (length ds)) (is_ok d) (is_ok e && all_for setting around name ds)
      ∙ ap (λ x. is_ok d && x) (swapped (suffixes_fit ss (length ds)) (is_ok e) (all_for setting around name ds) ∙ ap (λ x. is_ok e && x) (more ds))

  pub path_decided : (ss : List Suffix) (cs : List Core) → (suffixes_fit ss (length cs) && all_for setting around name cs)
      ≡ path_lowered ss (map (node_for setting around name) cs)
  path_decided [] [] = refl
  path_decided [] (c ∷ cs) = refl
  path_decided (s ∷ ss) cs = by_way s.way ss (path_decided ss) cs

  module _ (node : Core) where
    pub and_decided : (cs : List Core) → (nat_eq (length cs) 2 && all_for setting around name cs)
        ≡ ok_with setting around name K.And node cs
    and_decided [] = refl
    and_decided (a ∷ []) = refl
    and_decided (a ∷ b ∷ []) = ap (λ x. is_ok a && x) (and_true (is_ok b))
    and_decided (a ∷ b ∷ c ∷ cs) = unlike (suc (suc (suc (length cs)))) 2 (all_for setting around name (a ∷ b ∷ c ∷ cs)) (λ e. omega (arith, e))

    pub or_decided : (cs : List Core) → (nat_eq (length cs) 2 && all_for setting around name cs)
        ≡ ok_with setting around name K.Or node cs
    or_decided [] = refl
    or_decided (a ∷ []) = refl
    or_decided (a ∷ b ∷ []) = ap (λ x. is_ok a && x) (and_true (is_ok b))
    or_decided (a ∷ b ∷ c ∷ cs) = unlike (suc (suc (suc (length cs)))) 2 (all_for setting around name (a ∷ b ∷ c ∷ cs)) (λ e. omega (arith, e))

    pub when_decided : (cs : List Core) → (nat_eq (length cs) 2 && all_for setting around name cs)
        ≡ ok_with setting around name K.When node cs
    when_decided [] = refl
    when_decided (a ∷ []) = refl
    when_decided (a ∷ b ∷ []) = ap (λ x. is_ok a && x) (and_true (is_ok b))
    when_decided (a ∷ b ∷ c ∷ cs) = unlike (suc (suc (suc (length cs)))) 2 (all_for setting around name (a ∷ b ∷ c ∷ cs)) (λ e. omega (arith, e))

    pub var_decided : (text : List ℕ) (w : Option Written) (cs : List Core) → (nat_eq (length cs) 2 && all_for setting around name cs)
        ≡ ok_with setting around name (K.Var text w) node cs
    var_decided text w [] = refl
    var_decided text w (a ∷ []) = refl
    var_decided text w (a ∷ b ∷ []) = ap (λ x. is_ok a && x) (and_true (is_ok b))
    var_decided text w (a ∷ b ∷ c ∷ cs) = unlike (suc (suc (suc (length cs)))) 2 (all_for setting around name (a ∷ b ∷ c ∷ cs)) (λ e. omega (arith, e))

    pub cast_decided : (w : Option Written) (cs : List Core) → (nat_eq (length cs) 1 && all_for setting around name cs)
        ≡ ok_with setting around name (K.Cast w) node cs
    cast_decided w [] = refl
    cast_decided w (a ∷ []) = and_true (is_ok a)
    cast_decided w (a ∷ b ∷ cs) = unlike (suc (suc (length cs))) 1 (all_for setting around name (a ∷ b ∷ cs)) (λ e. omega (arith, e))

    pub withitem_decided : (cs : List Core) → (nat_eq (length cs) 3 && all_for setting around name cs)
        ≡ ok_with setting around name K.WithItem node cs
    withitem_decided [] = refl
    withitem_decided (a ∷ []) = refl
    withitem_decided (a ∷ b ∷ []) = refl
    withitem_decided (a ∷ b ∷ c ∷ []) = ap (λ x. is_ok a && x) (ap (λ x. is_ok b && x) (and_true (is_ok c)))
    withitem_decided (a ∷ b ∷ c ∷ d ∷ cs) = unlike (suc (suc (suc (suc (length cs))))) 3 (all_for setting around name (a ∷ b ∷ c ∷ d ∷ cs))
        (λ e. omega (arith, e))

    pub withslice_decided : (cs : List Core) → (nat_eq (length cs) 4 && all_for setting around name cs)
        ≡ ok_with setting around name K.WithSlice node cs
    withslice_decided [] = refl
    withslice_decided (a ∷ []) = refl
    withslice_decided (a ∷ b ∷ []) = refl
    withslice_decided (a ∷ b ∷ c ∷ []) = refl
    withslice_decided (a ∷ b ∷ c ∷ d ∷ []) = ap (λ x. is_ok a && x) (ap (λ x. is_ok b && x) (ap (λ x. is_ok c && x) (and_true (is_ok d))))
    withslice_decided (a ∷ b ∷ c ∷ d ∷ e ∷ cs) = unlike (suc (suc (suc (suc (suc (length cs)))))) 4 (all_for setting around name (a ∷ b ∷ c ∷ d ∷ e ∷ cs))
        (λ x. omega (arith, x))

    pub while_decided : (cs : List Core) → (nat_eq (length cs) 3 && all_for setting around name cs)
        ≡ ok_with setting around name K.While node cs
    while_decided [] = refl
    while_decided (a ∷ []) = refl
    while_decided (a ∷ b ∷ []) = refl
    while_decided (a ∷ b ∷ c ∷ []) = ap (λ x. is_ok a && x) (ap (λ x. is_ok b && x) (and_true (is_ok c)))
    while_decided (a ∷ b ∷ c ∷ d ∷ cs) = unlike (suc (suc (suc (suc (length cs))))) 3 (all_for setting around name (a ∷ b ∷ c ∷ d ∷ cs)) (λ e. omega (arith, e))

    pub repeat_decided : (cs : List Core) → (nat_eq (length cs) 3 && all_for setting around name cs)
        ≡ ok_with setting around name K.Repeat node cs
    repeat_decided [] = refl
    repeat_decided (a ∷ []) = refl
    repeat_decided (a ∷ b ∷ []) = refl
    repeat_decided (a ∷ b ∷ c ∷ []) = ap (λ x. is_ok a && x) (ap (λ x. is_ok b && x) (and_true (is_ok c)))
    repeat_decided (a ∷ b ∷ c ∷ d ∷ cs) = unlike (suc (suc (suc (suc (length cs))))) 3 (all_for setting around name (a ∷ b ∷ c ∷ d ∷ cs))
        (λ e. omega (arith, e))

    abbrev free_of : List ℕ → Bool
    free_of text = is_empty (reads_at setting.reads.now text)

    pub foreach_decided : (text : List ℕ) (way : Counting) (cs : List Core) → foreach_ok setting around name text cs
        ≡ ok_with setting around name (K.Foreach text way) node cs
    foreach_decided text way [] = no_second (free_of text)
    foreach_decided text way (a ∷ []) = no_second (free_of text)
    foreach_decided text way (a ∷ b ∷ []) = no_second (free_of text)
    foreach_decided text way (a ∷ b ∷ c ∷ []) = no_second (free_of text)
    foreach_decided text way (a ∷ b ∷ c ∷ d ∷ []) =
        ap (λ x. free_of text && x) (ap (λ x. is_ok a && x) (ap (λ x. is_ok b && x) (ap (λ x. is_ok c && x) (and_true (is_ok d)))))
    foreach_decided text way (a ∷ b ∷ c ∷ d ∷ e ∷ cs) =
        ap (λ x. free_of text && x)
        (unlike (suc (suc (suc (suc (suc (length cs)))))) 4 (all_for setting around name (a ∷ b ∷ c ∷ d ∷ e ∷ cs)) (λ x. omega (arith, x)))
        ∙ no_second (free_of text)

    pub return_decided : (cs : List Core) → (nat_eq (length cs) 1 && all_for setting around name cs)
        ≡ ok_with setting around name K.Return node cs
    return_decided [] = refl
    return_decided (a ∷ []) = and_true (is_ok a)
    return_decided (a ∷ b ∷ cs) = unlike (suc (suc (length cs))) 1 (all_for setting around name (a ∷ b ∷ cs)) (λ e. omega (arith, e))

    pub throw_decided : (cs : List Core) → (nat_eq (length cs) 1 && all_for setting around name cs)
        ≡ ok_with setting around name K.Throw node cs
    throw_decided [] = refl
    throw_decided (a ∷ []) = and_true (is_ok a)
    throw_decided (a ∷ b ∷ cs) = unlike (suc (suc (length cs))) 1 (all_for setting around name (a ∷ b ∷ cs)) (λ e. omega (arith, e))

    pub exit_decided : (cs : List Core) → (nat_eq (length cs) 1 && all_for setting around name cs)
        ≡ ok_with setting around name K.Exit node cs
    exit_decided [] = refl
    exit_decided (a ∷ []) = and_true (is_ok a)
    exit_decided (a ∷ b ∷ cs) = unlike (suc (suc (length cs))) 1 (all_for setting around name (a ∷ b ∷ cs)) (λ e. omega (arith, e))

    pub assert_decided : (text : Option (List ℕ)) (cs : List Core) → (nat_eq (length cs) 1 && all_for setting around name cs)
        ≡ ok_with setting around name (K.Assert text) node cs
    assert_decided text [] = refl
    assert_decided text (a ∷ []) = and_true (is_ok a)
    assert_decided text (a ∷ b ∷ cs) = unlike (suc (suc (length cs))) 1 (all_for setting around name (a ∷ b ∷ cs)) (λ e. omega (arith, e))

    pub local_decided : (text : List ℕ) (cs : List Core) → nat_eq (length cs) 0 ≡ ok_with setting around name (K.Local text) node cs
    local_decided text [] = refl
    local_decided text (a ∷ cs) = ne_eqb (suc (length cs)) 0 (λ e. omega (arith, e))

    pub toplevel_decided : (i : ℕ) (cs : List Core) → nat_eq (length cs) 0 ≡ ok_with setting around name (K.TopLevel i) node cs
    toplevel_decided i [] = refl
    toplevel_decided i (a ∷ cs) = ne_eqb (suc (length cs)) 0 (λ e. omega (arith, e))

    pub register_decided : (r : ℕ) (cs : List Core) → nat_eq (length cs) 0 ≡ ok_with setting around name (K.Register r) node cs
    register_decided r [] = refl
    register_decided r (a ∷ cs) = ne_eqb (suc (length cs)) 0 (λ e. omega (arith, e))

    pub variable_decided : (text : List ℕ) (cs : List Core) → variable_ok setting text (out-Core node).number (length cs)
        ≡ ok_with setting around name (K.Variable text) node cs
    variable_decided text [] = refl
    variable_decided text (a ∷ cs) =
        let us : List Sized = reads_at setting.reads.now text in
        ap (λ b. is_read us && (b && cases_among us (cases_at (out-Core node).number 0 (nodes_in setting))))
        (ne_eqb (suc (length cs)) 0 (λ e. omega (arith, e)))

    pub optional_decided : (t : Typ) (cs : List Core) → false ≡ ok_with setting around name (K.Optional t) node cs
    optional_decided t cs = refl

    number_decided : (z : Option ℤ) → number_fits z ≡ number_lowered setting.types.now z
    number_decided None = refl
    number_decided (Some z) = sym (integer_has setting.types.now z)

    pub sizeof_decided : (t : Num) (us : List WrittenNumber) (cs : List Core) → (nat_eq (length cs) 0 && number_fits (size_for setting t))
        ≡ ok_with setting around name (K.SizeOf t us) node cs
    sizeof_decided t us [] = number_decided (size_for setting t)
    sizeof_decided t us (a ∷ cs) = unlike (suc (length cs)) 0 (number_fits (size_for setting t)) (λ e. omega (arith, e))

    pub constraint_decided : (t : Con) (us : List WrittenNumber) (cs : List Core)
        → (nat_eq (length cs) 0 && is_some (truth_of (known_at (known_of setting.numbers.now)) t)) ≡ ok_with setting around name (K.Constraint t us) node cs
    constraint_decided t us [] = refl
    constraint_decided t us (a ∷ cs) = unlike (suc (length cs)) 0 (is_some (truth_of (known_at (known_of setting.numbers.now)) t)) (λ e. omega (arith, e))

    -- a struct with other fields
    pub with_decided : (u : ℕ) (is : List ℕ) (cs : List Core) → 1 ≤ length is → all_for setting around name cs
        ≡ ok_with setting around name (K.With u is) node cs
    with_decided u [] cs some = absurd (omega arith)
    with_decided u (i ∷ is) cs some = refl

    -- an `if` has two parts or three
    pub if_decided : (shape : Shape) (cs : List Core) → 2 ≤ length cs → length cs ≤ 3 → all_for setting around name cs
        ≡ ok_with setting around name (K.If shape) node cs
    if_decided shape [] some few = absurd (omega arith)
    if_decided shape (a ∷ []) some few = absurd (omega arith)
    if_decided shape (a ∷ b ∷ []) some few = ap (λ x. is_ok a && x) (and_true (is_ok b))
    if_decided shape (a ∷ b ∷ c ∷ []) some few = ap (λ x. is_ok a && (is_ok b && x)) (and_true (is_ok c))
    if_decided shape (a ∷ b ∷ c ∷ d ∷ cs) some few = absurd (omega arith)

    pub branch_few : (cs : List Core) → length cs < 2 → false ≡ ok_with setting around name (K.If S.Unit) node cs
    branch_few [] few = refl
    branch_few (a ∷ []) few = refl
    branch_few (a ∷ b ∷ cs) few = absurd (omega (arith, few))

    pub branch_many : (cs : List Core) → 4 ≤ length cs → false ≡ ok_with setting around name (K.If S.Unit) node cs
    branch_many [] some = absurd (omega (arith, some))
    branch_many (a ∷ []) some = absurd (omega (arith, some))
    branch_many (a ∷ b ∷ []) some = absurd (omega (arith, some))
    branch_many (a ∷ b ∷ c ∷ []) some = absurd (omega (arith, some))
    branch_many (a ∷ b ∷ c ∷ d ∷ cs) some = refl

    -- a `let` has two, and a direction takes one
    pub let_refused : (arm : Arm) (cs : List Core) → (length cs ≡ 2 → ⊥) → false ≡ ok_with setting around name (K.Let arm) node cs
    let_refused arm [] other = refl
    let_refused arm (a ∷ []) other = refl
    let_refused arm (a ∷ b ∷ []) other = absurd (other refl)
    let_refused arm (a ∷ b ∷ c ∷ cs) other = refl

    pub crossing_refused : (d : ℕ) (cs : List Core) → (length cs ≡ 1 → ⊥) → false ≡ ok_with setting around name (K.Call (F.Applies d)) node cs
    crossing_refused d [] other = refl
    crossing_refused d (a ∷ []) other = absurd (other refl)
    crossing_refused d (a ∷ b ∷ cs) other = refl
