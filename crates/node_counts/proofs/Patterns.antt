-- What is kept by the steps of a walk is kept by the walk over a pattern, whatever it is matched with.
use Rattle.std.proofs.Common.{ℕ, nat_eq, ℤ, Bool, true, false, List, [], ◌∷◌, length, map, Option, Some, None, slice_get, sym, subst}
use Rattle.std.proofs.Common.{if◌then◌else◌}
use Rattle.sail_base.specs.declared.place.Place.{Place}
use Rattle.sail_types.specs.Named.{payload}
use Rattle.sail_types.specs.declared.numbers.Num.{Num}
use Rattle.sail_types.specs.declared.table.Types.{Types}
use Rattle.sail_core.specs.declared.model.Direction.{Direction}
use Rattle.sail_core.specs.declared.patterns.Arm.{Arm}
use Rattle.sail_core.specs.declared.patterns.Arm.TheVariants as A
use Rattle.sail_core.specs.declared.patterns.Form.{Form}
use Rattle.sail_core.specs.declared.patterns.Form.TheVariants as F
use Rattle.sail_core.specs.declared.patterns.Head.{Head}
use Rattle.sail_core.specs.declared.patterns.Head.TheVariants as H
use Rattle.sail_core.specs.declared.patterns.Literal.{Literal}
use Rattle.sail_core.specs.declared.patterns.Literal.TheVariants as L
use Rattle.sail_core.specs.declared.patterns.Pattern.{Pattern, Pattern-F, roll-Pattern, fold-roll-Pattern, map-Pattern, ind-Pattern}
use Rattle.sail_core.specs.declared.written.Written.{Written}
use Rattle.sail_core.specs.declared.written.WrittenNumber.{WrittenNumber}
use Rattle.value_indices.specs.declared.indices.Indices.{Indices, out-Indices}
use Rattle.value_indices.specs.declared.indices.Indices.TheOpen as W
use Rattle.value_indices.specs.declared.indices.Indices.TheOpen.{Indices-F}
use Rattle.value_indices.specs.declared.indices.Indices.TheVariants as I
use Rattle.value_indices.specs.declared.indices.Naming.{Naming}
use Rattle.value_indices.specs.declared.indices.Reading.{Reading}
use Rattle.value_indices.specs.declared.notes.Fact.{Fact}
use Rattle.value_indices.specs.Steps.{Walk, Conditions, owe, owe_under, facts_here}
use Rattle.value_indices.specs.Opening.{number_or_fresh, opened_for}
use Rattle.value_fits.specs.Fitting.{fits, owe_fit_under}
use Rattle.pattern_leaves.specs.declared.names.Bound.{Bound}
use Rattle.pattern_leaves.specs.Settings.{Around, exponents_owed, written_in}
use Rattle.pattern_leaves.specs.Literals.{no_names, wrong_pattern, integer_met, is_of, met_where, with_integer, with_bits, literal_met}
use Rattle.pattern_leaves.specs.Payloads.{payload_types, payload_readings}
use Rattle.pattern_leaves.specs.Widths.{bits_part, cut_width}
use Rattle.pattern_notes.specs.declared.matching.Matching.{Matching}
use Rattle.pattern_notes.specs.Patterns.{Look, inside, also, each_match, parts_match, taken_out, all_taken, item_met, items_met, cons_met}
use Rattle.pattern_notes.specs.Patterns.{after_inner, constructor_met, head_met, is_union, union_met}
use Rattle.pattern_notes.specs.Patterns.{each_met_never, opens_met, annotation_owed, written_owed, typed_met, direction_met, result_of, option_of, form_match}
use Rattle.pattern_notes.specs.Patterns.{look, look_form, looks, arm_match, one_match}
use Rattle.sail_types.specs.declared.numbers.Con.{Con}
use Rattle.value_indices.specs.Steps.{assume, bind, give}
use Rattle.node_counts.proofs.Openings as Opened
use Rattle.node_counts.proofs.Openings.{Keeps}

module _ (P : (A : Type 0) → Walk A → Type 0) (keeps : Keeps P) where
  abbrev Kept : {A : Type 0} → Walk A → Type 0
  Kept {A} w = P A w

  give_kept : {A : Type 0} (x : A) → Kept (give x)
  give_kept x = keeps.gives x

  bind_kept : {A B : Type 0} (w : Walk A) (k : A → Walk B) → Kept w → ((x : A) → Kept (k x)) → Kept (bind w k)
  bind_kept w k h more = keeps.binds w k h more

  assume_kept : (c : Con) → Kept (assume c)
  assume_kept c = keeps.assumes c

  owe_kept : (place : Place) (cs : Conditions) → Kept (owe place cs)
  owe_kept place cs = keeps.owes place cs

  under_kept : (earlier : List Fact) (place : Place) (cs : Conditions) → Kept (owe_under earlier place cs)
  under_kept earlier place cs = keeps.owes_under earlier place cs

  here_kept : Kept facts_here
  here_kept = keeps.here

  fit_kept : (types : Types) (earlier : List Fact) (place : Place) (i : Indices) (r : Reading) → Kept (owe_fit_under earlier place (fits types i r))
  fit_kept types earlier place i r = keeps.fits_under earlier place types i r

  -- ---- numbers that can't be said, and values of a type

  number_kept : (o : Option Num) → Kept (number_or_fresh o)
  number_kept o = Opened.number_kept P keeps o

  opened_kept : (naming : Naming) (r : Reading) → Kept (opened_for naming r)
  unfolding opened_for
  opened_kept naming r = Opened.opening_kept P keeps r false naming

  -- ---- one behind the other

  after_kept : (inner : Walk (List Bound)) (owes : List Fact → Walk (Unit {0})) → Kept inner → ((e : List Fact) → Kept (owes e))
      → Kept (after_inner inner owes)
  unfolding after_inner
  after_kept inner owes c d = bind_kept _ _ here_kept (λ e. bind_kept _ _ c (λ found. bind_kept _ _ (d e) (λ t. give_kept found)))

  also_kept : (first others : Walk (List Bound)) → Kept first → Kept others → Kept (also first others)
  unfolding also
  also_kept first others c d = bind_kept _ _ c (λ found. bind_kept _ _ d (λ more. give_kept _))

  wrong_kept : (place : Place) → Kept (wrong_pattern place)
  wrong_kept place = bind_kept _ _ (owe_kept place _) (λ t. give_kept [])

  none_kept : Kept no_names
  none_kept = give_kept []

  -- ---- literals

  integer_kept : (in_case : Bool) (z : ℤ) (t : Num) → Kept (integer_met in_case z t)
  integer_kept true z t = bind_kept _ _ (assume_kept _) (λ u. none_kept)
  integer_kept false z t = none_kept

  where_kept : (place : Place) (b : Bool) → Kept (met_where place b)
  where_kept place true = none_kept
  where_kept place false = wrong_kept place

  with_integer_kept : (place : Place) (in_case : Bool) (t : Num) (l : Literal) → Kept (with_integer place in_case t l)
  with_integer_kept place in_case t (L.Integer z) = integer_kept in_case z t
  with_integer_kept place in_case t l = wrong_kept place

  with_bits_kept : (place : Place) (t : Num) (l : Literal) → Kept (with_bits place t l)
  with_bits_kept place t (L.Bits bits) = bind_kept _ _ (owe_kept place _) (λ u. none_kept)
  with_bits_kept place t l = wrong_kept place

  literal_kept : (place : Place) (in_case : Bool) (l : Literal) (i : Indices-F Indices Reading) → Kept (literal_met place in_case l i)
  literal_kept place in_case l W.Never = none_kept
  literal_kept place in_case l (W.Integer t) = with_integer_kept place in_case t l
  literal_kept place in_case l (W.Bits t) = with_bits_kept place t l
  literal_kept place in_case l i = where_kept place (is_of l i)

  part_kept : (place : Place) (o : Option Num) → Kept (bits_part place o)
  part_kept place o = bind_kept _ _ (number_kept o) (λ n. bind_kept _ _ (keeps.sizes _ _) (λ t. give_kept _))

  width_kept : (place : Place) (rest : Option Num) (o : Option Num) → Kept (cut_width place rest o)
  width_kept place rest None = part_kept place rest
  width_kept place rest (Some t) = part_kept place (Some t)

  pub exponents_kept : (around : Around) (ns : List WrittenNumber) → Kept (exponents_owed around ns)
  exponents_kept around [] = give_kept tt
  exponents_kept around (n ∷ ns) = bind_kept _ _ (owe_kept n.place _) (λ t. exponents_kept around ns)

  -- ---- values that are taken out

  taken_kept : (place : Place) (naming : Naming) (r : Reading) → Kept (taken_out place naming r)
  taken_kept place naming r = bind_kept _ _ (keeps.sizes _ _) (λ t. opened_kept naming r)

  all_kept : (place : Place) (rs : List (Naming × Reading)) → Kept (all_taken place rs)
  all_kept place [] = give_kept []
  all_kept place (r ∷ rs) = bind_kept _ _ (taken_kept place r.0 r.1) (λ i. bind_kept _ _ (all_kept place rs) (λ is. give_kept _))

  module _ (around : Around) where
    abbrev pub LookKept : Look → Type 0
    LookKept p = (how : Matching) (i : Indices) → Kept (p.match_with around how i)

    abbrev pub AllKept : List Look → Type 0
    AllKept [] = Unit {0}
    AllKept (p ∷ ps) = LookKept p × AllKept ps

    in_order_kept : (place : Place) (how : Matching) (ps : List Look) → AllKept ps → (is : List Indices) → Kept (each_match place ps around how is)
    in_order_kept place how [] c [] = none_kept
    in_order_kept place how [] c (i ∷ is) = wrong_kept place
    in_order_kept place how (p ∷ ps) c [] = wrong_kept place
    in_order_kept place how (p ∷ ps) c (i ∷ is) = also_kept _ _ (c.0 (inside how) i) (in_order_kept place how ps c.1 is)

    parts_kept : (place : Place) (how : Matching) (ps : List Look) → AllKept ps → (is : List Indices) → Kept (parts_match place ps around how is)
    parts_kept place how ps c is = by (nat_eq (length ps) (length is))
      where
        by : (b : Bool) → Kept (if b then each_match place ps around how is else wrong_pattern place)
        by true = in_order_kept place how ps c is
        by false = wrong_kept place

    pub item_kept : (place : Place) (how : Matching) (p : Look) → LookKept p → (r : Reading) → Kept (item_met place p around how r)
    item_kept place how p c r = bind_kept _ _ (taken_kept place p.naming r) (λ i. c (inside how) i)

    items_kept : (place : Place) (how : Matching) (ps : List Look) → AllKept ps → (r : Reading) → Kept (items_met place ps around how r)
    items_kept place how [] c r = none_kept
    items_kept place how (p ∷ ps) c r = also_kept _ _ (item_kept place how p c.0 r) (items_kept place how ps c.1 r)

    cons_kept : (place : Place) (how : Matching) (ps : List Look) → AllKept ps → (r : Reading) → Kept (cons_met place ps around how r)
    cons_kept place how [] c r = wrong_kept place
    cons_kept place how (p ∷ []) c r = wrong_kept place
    cons_kept place how (p ∷ k ∷ []) c r = also_kept _ _ (item_kept place how p c.0 r) (c.1.0 (inside how) (I.List r))
    cons_kept place how (p ∷ k ∷ l ∷ ps) c r = wrong_kept place

    never_kept : (how : Matching) (ps : List Look) → AllKept ps → Kept (each_met_never ps around how)
    never_kept how [] c = none_kept
    never_kept how (p ∷ ps) c = also_kept _ _ (c.0 (inside how) I.Never) (never_kept how ps c.1)

    union_kept : (place : Place) (same_union : Bool) (walk : Walk (List Bound)) → Kept walk → Kept (union_met place same_union walk)
    union_kept place true walk c = c
    union_kept place false walk c = wrong_kept place

    head_kept : (place : Place) (head : Head) (how : Matching) (ps : List Look) → AllKept ps → (i : Indices-F Indices Reading)
        → Kept (head_met place head ps around how i)
    head_kept place (H.Is l) how ps c i = literal_kept place how.in_case l i
    head_kept place H.Tuple how ps c (W.Tuple is) = parts_kept place how ps c is
    head_kept place H.Tuple how ps c i = wrong_kept place
    head_kept place (H.Constructor u k) how ps c (W.Named v is rs) =
        union_kept place (is_union around u v rs)
        (constructor_met place ps around how (payload_readings (payload_types (length ps) (payload around.types u k)) is rs))
        (bind_kept _ _ (all_kept place _) (λ js. parts_kept place how ps c js))
    head_kept place (H.Constructor u k) how ps c i = wrong_kept place
    head_kept place H.Vector how ps c (W.Vector n r) = after_kept _ _ (items_kept place how ps c r) (λ e. under_kept e place _)
    head_kept place H.Vector how ps c i = wrong_kept place
    head_kept place H.List how ps c (W.List r) = items_kept place how ps c r
    head_kept place H.List how ps c i = wrong_kept place
    head_kept place H.Cons how ps c (W.List r) = cons_kept place how ps c r
    head_kept place H.Cons how ps c i = wrong_kept place
    head_kept place (H.Cut ws) how ps c (W.Bits w) =
        after_kept _ _ (bind_kept _ _ (Opened.each_kept P keeps _ (width_kept place _) _) (λ js. parts_kept place how ps c js)) (λ e. under_kept e place _)
    head_kept place (H.Cut ws) how ps c i = wrong_kept place

    opens_kept : (place : Place) (head : Head) (how : Matching) (ps : List Look) → AllKept ps → (i : Indices-F Indices Reading)
        → Kept (opens_met place head ps around how i)
    opens_kept place head how ps c W.Never = never_kept how ps c
    opens_kept place head how ps c i = head_kept place head how ps c i

    written_kept : (place : Place) (w : Written) (is_owed : Bool) (i : Indices) (e : List Fact) → Kept (written_owed around place w is_owed i e)
    written_kept place w is_owed i e = bind_kept _ _ (exponents_kept around w.numbers) (λ t. by is_owed)
      where
        by : (o : Bool) → Kept (annotation_owed around place o i (written_in around w) e)
        by true = give_kept tt
        by false = fit_kept around.types e place i (written_in around w)

    typed_kept : (place : Place) (w : Written) (how : Matching) (p : Look) → LookKept p → (i : Indices) → Kept (typed_met place w p around how i)
    typed_kept place w how p c i =
        bind_kept _ _ (after_kept _ _ (c (inside how) i) (λ e. written_kept place w how.is_owed i e)) (λ found. give_kept _)

    direction_kept : (place : Place) (d : ℕ) (o : Option Direction) (gives : Direction → Reading) (how : Matching) (p : Look) → LookKept p → (i : Indices)
        → Kept (direction_met place d o gives p around how i)
    direction_kept place d None gives how p c i = wrong_kept place
    direction_kept place d (Some m) gives how p c i =
        bind_kept _ _ (keeps.ways _) (λ t. after_kept _ _ (item_kept place how p c (gives m)) (λ e. fit_kept around.types e place i _))

    pub form_kept : (place : Place) (form : Form) (how : Matching) (ps : List Look) → AllKept ps → (i : Indices)
        → Kept (form_match place form ps around how i)
    form_kept place F.Any how [] c i = none_kept
    form_kept place F.Any how (p ∷ ps) c i = wrong_kept place
    form_kept place (F.Binds name) how [] c i = give_kept _
    form_kept place (F.Binds name) how (p ∷ ps) c i = wrong_kept place
    form_kept place (F.As name) how [] c i = wrong_kept place
    form_kept place (F.As name) how (p ∷ []) c i = bind_kept _ _ (c.0 how i) (λ found. give_kept _)
    form_kept place (F.As name) how (p ∷ k ∷ ps) c i = wrong_kept place
    form_kept place (F.Typed w) how [] c i = wrong_kept place
    form_kept place (F.Typed w) how (p ∷ []) c i = typed_kept place w how p c.0 i
    form_kept place (F.Typed w) how (p ∷ k ∷ ps) c i = wrong_kept place
    form_kept place (F.Opens head) how ps c i = opens_kept place head how ps c (out-Indices i)
    form_kept place (F.Maps d) how [] c i = wrong_kept place
    form_kept place (F.Maps d) how (p ∷ []) c i = direction_kept place d (slice_get around.directions d) result_of how p c.0 i
    form_kept place (F.Maps d) how (p ∷ k ∷ ps) c i = wrong_kept place
    form_kept place (F.Sees d) how [] c i = wrong_kept place
    form_kept place (F.Sees d) how (p ∷ []) c i = direction_kept place d (slice_get around.directions d) option_of how p c.0 i
    form_kept place (F.Sees d) how (p ∷ k ∷ ps) c i = wrong_kept place

    -- ---- patterns and arms

    Such : Pattern → Type 0
    Such p = LookKept (look p)

    such_parts : (ys : List ((p : Pattern) × Such p)) → AllKept (map look (map (λ p. p.0) ys))
    unfolding Such
    such_parts [] = tt
    such_parts (p ∷ ys) = (p.1, such_parts ys)

    such_form : (p : Pattern-F ((p : Pattern) × Such p)) → Such (roll-Pattern (map-Pattern ((p : Pattern) × Such p) Pattern (λ q. q.0) p))
    unfolding Such
    such_form p =
        let bare : Pattern-F Pattern = map-Pattern ((p : Pattern) × Such p) Pattern (λ q. q.0) p in
        subst LookKept (sym (fold-roll-Pattern Look look_form bare))
        (λ how i. form_kept p.place p.form how (map look (map (λ q. q.0) p.parts)) (such_parts p.parts) i)

    such : (p : Pattern) → Such p
    such = ind-Pattern Such (λ e p is. subst (λ d. Such (roll-Pattern d)) is (such_form p))

    pub look_kept : (p : Pattern) → LookKept (look p)
    unfolding Such
    look_kept p = such p

    all_looks : (ps : List Pattern) → AllKept (map look ps)
    all_looks [] = tt
    all_looks (p ∷ ps) = (look_kept p, all_looks ps)

    pub arm_kept : (place : Place) (arm : Arm) (how : Matching) (is : List Indices) → Kept (arm_match place arm around how is)
    arm_kept place (A.Nested ps) how is = parts_kept place how (map look ps) (all_looks ps) is
    arm_kept place (A.Flat count steps) how is = wrong_kept place

    pub let_kept : (place : Place) (arm : Arm) (how : Matching) (i : Indices) → Kept (one_match place (looks arm) around how i)
    let_kept place (A.Nested []) how i = wrong_kept place
    let_kept place (A.Nested (p ∷ [])) how i = look_kept p how i
    let_kept place (A.Nested (p ∷ k ∷ ps)) how i = wrong_kept place
    let_kept place (A.Flat count steps) how i = wrong_kept place
