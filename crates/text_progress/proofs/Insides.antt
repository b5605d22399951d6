-- What the tables let an expression of a text name is there in the worlds around the text's core.
use Rattle.std.proofs.Common.{◌≡◌, ℕ, zero, suc, ◌*◌, List, [], ◌∷◌, ◌++◌, length, map, sym, refl, subst, Bool, true, false, nat_eq, nat_lt}
use Rattle.std.proofs.Common.{Option, Some, None}
use Rattle.std.proofs.lemmas.Bool.{and_parts}
use Rattle.std.specs.Prelude.{slice_get}
use Rattle.std.specs.List.{list_all}
use Rattle.sail_base.specs.declared.operators.Operator.{Operator}
use Rattle.sail_base.specs.declared.operators.Operator.TheVariants as O
use Rattle.sail_base.specs.declared.place.Place.{Place}
use Rattle.sail_types.specs.Named.{fields, members}
use Rattle.sail_types.specs.Rows.{members_of, operator_rows, prefix_rows, row_members}
use Rattle.sail_types.specs.Shapes.{each_fits, fits, put, shape}
use Rattle.sail_types.specs.declared.members.Member.{Member}
use Rattle.sail_types.specs.declared.shapes.Shape.{Shape}
use Rattle.sail_types.specs.declared.shapes.Shape.TheOpen as S
use Rattle.sail_types.specs.declared.shapes.Shape.TheVariants as V
use Rattle.sail_types.specs.declared.table.Types.{Types}
use Rattle.sail_types.specs.declared.values.Value.{Value}
use Rattle.sail_types.specs.declared.values.Value.TheOpen as W
use Rattle.sail_types.specs.declared.values.Value.TheVariants as Val
use Rattle.sail_core.specs.declared.model.Direction.{Direction}
use Rattle.sail_core.specs.declared.model.Function.{Function}
use Rattle.sail_core.specs.declared.tree.Callee.TheVariants as C
use Rattle.sail_core.specs.Making.{World}
use Rattle.sail_cycles.specs.Callees.{mappings_of_global}
use Rattle.sail_names.specs.Known as Tables
use Rattle.sail_names.specs.Known.{is_any, is_construction, is_global_callee, is_global_construction, is_global_value}
use Rattle.sail_names.specs.declared.names.Global.{Global}
use Rattle.sail_names.specs.declared.names.Global.TheVariants as G
use Rattle.shape_joins.proofs.Order.{no, same_nat, two}
use Rattle.shape_rules.specs.declared.callees.Candidate.{Candidate}
use Rattle.shape_rules.specs.declared.callees.Doing.{Doing}
use Rattle.shape_rules.specs.declared.callees.Doing.TheVariants as D
use Rattle.shape_rules.specs.declared.callees.Mapping.{Mapping}
use Rattle.shape_rules.specs.declared.callees.Meant.{Meant}
use Rattle.shape_rules.specs.declared.callees.Meant.TheVariants as M
use Rattle.shape_rules.specs.declared.locals.Local.{Local}
use Rattle.shape_rules.specs.Calls.{builtin_members, member_candidate}
use Rattle.shape_rules.specs.Scopes.{Setting}
use Rattle.shape_meanings.specs.Keeping.{Fits, FitAll}
use Rattle.shape_meanings.specs.Naming.{AreKnown, MeantAs, is_constructor, is_conversion}
use Rattle.shape_meanings.specs.Whole.{Choice, all_below}
use Rattle.shape_meanings.specs.Worlds.{FieldsBelow}
use Rattle.shape_meanings.proofs.Settling.{form_has}
use Rattle.model_meanings.proofs.Constructors.{constructed_fits}
use Rattle.model_progress.specs.Shaped.{params_of}
use Rattle.shape_stands.specs.Inside.{CanBeCalled, Does, EachCalled, GoesTo, HeadDoes, Inside, MappingCalled, MappingHead, MeantCalled, MeantHead, Position}
use Rattle.text_progress.specs.Entries.{AllIn, CandidateIn, DirectionIn, DoesIn, MappingIn, MeantIn, Parts, ValueIn}
use Rattle.text_progress.specs.Positions.{Given, LetsThere}
use Rattle.text_progress.proofs.Rows.{builtins_in, rows_in}

-- ---- what a world has of a core, where it is asked

-- each function and each direction goes on, and so do those ways that can be taken
pub record Works (core : Parts) (here : Position) (can : ℕ → Type 0) (registers : List Shape) (c : Choice) (w : World Value) : Type 0 where
  pub call : (i : ℕ) (f : Function) → slice_get core.functions i ≡ Some f → (d : Choice) (place : Place) (vs : List Value)
      → FitAll here.setting.types d (params_of f.parameters) vs → GoesTo here registers c w d (shape f.result) (w.call place i None vs)
  pub enter : (i : ℕ) (g : Direction) → slice_get core.directions i ≡ Some g → (d : Choice) (v : Value) → Fits here.setting.types d (shape g.parameter) v
      → GoesTo here registers c w d (shape g.result) (w.enter i v)
  pub way : (i : ℕ) (g : Direction) → slice_get core.directions i ≡ Some g → can i → (d : Choice) (v : Value)
      → Fits here.setting.types d (shape g.parameter) v → GoesTo here registers c w d (shape g.result) (w.way i v)

-- the ways that what a name means takes as the head of a pattern
abbrev pub HeadWays : (ℕ → Type 0) → Doing → Type 0
HeadWays can (D.Calls (C.Converts n)) = can n
HeadWays can doing = Unit {0}

abbrev pub Ways : (ℕ → Type 0) → Option Meant → Type 0
Ways can (Some (M.Callee f)) = HeadWays can f.doing
Ways can (Some (M.Mapping m)) = can (2 * m.number) × can (suc (2 * m.number))
Ways can meant = Unit {0}

-- ---- values of lets

let_value : (types : Types) (c : Choice) (lets : List Local) (vs : List Value) (i : ℕ) (l : Local) → FitAll types c (map (λ (l : Local). l.shape) lets) vs
    → slice_get lets i ≡ Some l → (v : Value) × (slice_get vs i ≡ Some v) × Fits types c l.shape v
let_value types c [] vs i l fit e = none_some e
  where
    none_some : {A B : Type 0} {x : A} → None ≡ Some x → B
    none_some e = absurd (empty e)
      where
        empty : {A : Type 0} {x : A} → None ≡ Some x → ⊥
        empty e = cc
let_value types c (x ∷ lets) [] i l fit e = no fit
let_value types c (x ∷ lets) (v ∷ vs) zero l fit e = (
  v,
  refl,
  subst (λ (y : Local). Fits types c y.shape v) (the_same e)
      (and_parts (fits types v (put c x.shape)) (each_fits (map (fits types) vs) (map (put c) (map (λ (l : Local). l.shape) lets))) fit).0,
)
  where
    the_same : {A : Type 0} {x y : A} → Some x ≡ Some y → x ≡ y
    the_same e = cc
let_value types c (x ∷ lets) (v ∷ vs) (suc i) l fit e =
    let_value types c lets vs i l
    (and_parts (fits types v (put c x.shape)) (each_fits (map (fits types) vs) (map (put c) (map (λ (l : Local). l.shape) lets))) fit).1 e

member_fits : (types : Types) (c : Choice) (i k : ℕ) → nat_lt k (length (members types i)) ≡ true → Fits types c (V.Named i []) (Val.Member i k)
member_fits types c i k h =
    form_has types c (W.Member i k) (S.Named i []) (Val.Member i k) (V.Named i []) (Val.rolls-Member i k) (V.rolls-Named i [])
    (two (nat_eq i i) (nat_lt k (length (members types i))) (same_nat i) h)

-- ---- what can be called

module _ (setting : Setting) (names : Tables.Setting) (converts : ℕ → Bool) (functions : List Function) (directions : List Direction) (there : List Shape)
    (can : ℕ → Type 0) (registers : List Shape) (c : Choice) (w : World Value) where
  abbrev pub core : Parts
  core = record { types = setting.types; functions = functions; directions = directions; registers = there }

  abbrev pub here : Position
  here = record { setting = setting; names = names; converts = converts }

  -- ---- builtins and constructors, for which a world needs nothing

  members_called : (ms : List Member) → AllIn core (map member_candidate ms) → EachCalled here registers c w (map member_candidate ms)
  members_called [] h = tt
  members_called (m ∷ ms) h = (record { whole = h.0.whole; answer = h.0.answer; does = h.0.does }, members_called ms h.1)

  both_called : (xs ys : List Candidate) → EachCalled here registers c w xs → EachCalled here registers c w ys → EachCalled here registers c w (xs ++ ys)
  both_called [] ys h k = k
  both_called (x ∷ xs) ys h k = (h.0, both_called xs ys h.1 k)

  cons_called : (operator : Operator) → AllIn core (builtin_members operator) → EachCalled here registers c w (builtin_members operator)
  cons_called O.Cons h = (record { whole = h.0.whole; answer = h.0.answer; does = h.0.does }, tt)
  cons_called operator h = tt

  made : (f : Candidate) (doing : Doing) → is_constructor doing ≡ true → all_below f.variables f.params ≡ true → DoesIn core f doing
      → Does here registers c w f doing
  made f (D.Calls (C.Constructor u k)) is whole d = λ e vs fit. constructed_fits setting.types e f u k vs d.0 whole fit
  made f doing is whole d = no is

  made_called : (f : Candidate) → is_constructor f.doing ≡ true → CandidateIn core f → CanBeCalled here registers c w f
  made_called f is h = record { whole = h.whole; answer = h.answer; does = made f f.doing is h.whole h.does }

  made_head : (f : Candidate) (doing : Doing) → is_constructor doing ≡ true → DoesIn core f doing → HeadDoes here registers c w f doing
  made_head f (D.Calls (C.Constructor u k)) is d = d
  made_head f doing is d = no is

  module _ (works : Works core here can registers c w) where
    does : (f : Candidate) (doing : Doing) → all_below f.variables f.params ≡ true → DoesIn core f doing → Does here registers c w f doing
    does f (D.Calls (C.Row row)) whole d = d
    does f (D.Calls (C.Constructor u k)) whole d = λ e vs fit. constructed_fits setting.types e f u k vs d.0 whole fit
    does f (D.Calls (C.Function i)) whole d = λ e place vs fit.
        subst (λ s. GoesTo here registers c w e s (w.call place i None vs)) (sym d.3)
        (works.call i d.0 d.1 e place vs (subst (λ ps. FitAll setting.types e ps vs) d.2 fit))
    does f (D.Calls (C.Converts n)) whole d = (
      d.0,
      d.1,
      λ e v fit.
          let way : DirectionIn core n d.0 f.answer = d.2 in
          subst (λ s. GoesTo here registers c w e s (w.enter n v)) (sym way.gives)
          (works.enter n way.it way.there e v (subst (λ s. Fits setting.types e s v) way.takes fit)),
    )
    does f (D.Calls callee) whole d = absurd d
    does f D.Conses whole d = d

    called : (f : Candidate) → CandidateIn core f → CanBeCalled here registers c w f
    called f h = record { whole = h.whole; answer = h.answer; does = does f f.doing h.whole h.does }

    pub each_called : (fs : List Candidate) → AllIn core fs → EachCalled here registers c w fs
    each_called [] h = tt
    each_called (f ∷ fs) h = (called f h.0, each_called fs h.1)

    goes : (n : ℕ) (from to : Shape) → DirectionIn core n from to → (e : Choice) (v : Value) → Fits setting.types e from v
        → GoesTo here registers c w e to (w.enter n v)
    goes n from to way e v fit =
        subst (λ s. GoesTo here registers c w e s (w.enter n v)) (sym way.gives)
        (works.enter n way.it way.there e v (subst (λ s. Fits setting.types e s v) way.takes fit))

    goes_way : (n : ℕ) (from to : Shape) → DirectionIn core n from to → can n → (e : Choice) (v : Value) → Fits setting.types e from v
        → GoesTo here registers c w e to (w.way n v)
    goes_way n from to way may e v fit =
        subst (λ s. GoesTo here registers c w e s (w.way n v)) (sym way.gives)
        (works.way n way.it way.there may e v (subst (λ s. Fits setting.types e s v) way.takes fit))

    mapping_called : (m : Mapping) → MappingIn core m → MappingCalled here registers c w m
    mapping_called m h = record {
      left = h.ahead.from_closed;
      right = h.ahead.to_closed;
      ahead = goes (2 * m.number) (shape m.left) (shape m.right) h.ahead c;
      back = goes (suc (2 * m.number)) (shape m.right) (shape m.left) h.back c;
    }

    mapping_head : (m : Mapping) → MappingIn core m → can (2 * m.number) → can (suc (2 * m.number)) → MappingHead here registers c w m
    mapping_head m h ahead back = record {
      left = h.ahead.from_closed;
      right = h.ahead.to_closed;
      ahead = goes_way (2 * m.number) (shape m.left) (shape m.right) h.ahead ahead c;
      back = goes_way (suc (2 * m.number)) (shape m.right) (shape m.left) h.back back c;
    }

    meant_called : (lets : List Local) (o : Option Meant) → ValueIn core lets o → MeantCalled here registers c w o
    meant_called lets (Some (M.Callee f)) h = called f h
    meant_called lets (Some (M.Row row)) h = each_called (map member_candidate (row_members setting.types row)) h
    meant_called lets (Some (M.Overload fs)) h = each_called fs h
    meant_called lets (Some (M.Mapping m)) h = mapping_called m h
    meant_called lets (Some (M.Register r s)) h = tt
    meant_called lets (Some (M.Let i s)) h = tt
    meant_called lets (Some (M.Member i k)) h = tt
    meant_called lets None h = tt

    -- ---- heads of patterns

    abbrev is_head : Doing → Bool
    is_head (D.Calls (C.Constructor u k)) = true
    is_head (D.Calls (C.Converts n)) = true
    is_head doing = false

    head_does : (f : Candidate) (doing : Doing) → is_head doing ≡ true → DoesIn core f doing → HeadWays can doing → HeadDoes here registers c w f doing
    head_does f (D.Calls (C.Constructor u k)) is d may = d
    head_does f (D.Calls (C.Converts n)) is d may =
        let way : DirectionIn core n d.0 f.answer = d.2 in
        (d.0, d.1, way.from_closed, way.to_closed, goes_way n d.0 f.answer way may c)
    head_does f doing is d may = no is

    abbrev IsHead : Option Meant → Type 0
    IsHead (Some (M.Callee f)) = is_head f.doing ≡ true
    IsHead meant = Unit {0}

    conversion_head : (doing : Doing) → is_conversion doing ≡ true → is_head doing ≡ true
    conversion_head (D.Calls (C.Converts n)) h = refl
    conversion_head doing h = no h

    meant_head : (lets : List Local) (o : Option Meant) → ValueIn core lets o → IsHead o → Ways can o → MeantHead here registers c w o
    meant_head lets (Some (M.Callee f)) h is may = head_does f f.doing is h.does may
    meant_head lets (Some (M.Mapping m)) h is may = mapping_head m h may.0 may.1
    meant_head lets (Some (M.Row row)) h is may = tt
    meant_head lets (Some (M.Overload fs)) h is may = tt
    meant_head lets (Some (M.Register r s)) h is may = tt
    meant_head lets (Some (M.Let i s)) h is may = tt
    meant_head lets (Some (M.Member i k)) h is may = tt
    meant_head lets None h is may = tt

  -- ---- all that can be named; functions and mappings, and so their world, where this is no plain expression

  value_here : (lets : List Local) (o m : Option Meant) → ValueIn core lets o → o ≡ m → ValueIn core lets m
  value_here lets o m h e = subst (ValueIn core lets) e h

  abbrev pub Asked : Type 0
  Asked = is_any names.allowed ≡ true → Works core here can registers c w

  call_known : Asked → (lets : List Local) (o : Option Global) (meant : Option Meant) → MeantAs names o meant → is_global_callee names.allowed o ≡ true
      → ValueIn core lets meant → MeantCalled here registers c w meant
  call_known works lets (Some G.Constructor) meant means is h =
      subst (MeantCalled here registers c w) (sym means.1) (made_called means.0 means.2 (value_here lets meant (Some (M.Callee means.0)) h means.1))
  call_known works lets (Some G.Builtin) meant means is h =
      subst (MeantCalled here registers c w) (sym means.1)
      (members_called (row_members setting.types means.0) (value_here lets meant (Some (M.Row means.0)) h means.1))
  call_known works lets (Some G.StateBuiltin) meant means is h =
      subst (MeantCalled here registers c w) (sym means.1)
      (members_called (row_members setting.types means.0) (value_here lets meant (Some (M.Row means.0)) h means.1))
  call_known works lets (Some (G.Function n)) meant means is h = meant_called (works is) lets meant h
  call_known works lets (Some (G.Mapping n)) meant means is h = meant_called (works is) lets meant h
  call_known works lets (Some (G.Direction n)) meant means is h = meant_called (works is) lets meant h
  call_known works lets (Some (G.Overload ns)) meant means is h = meant_called (works is) lets meant h
  call_known works lets (Some G.Register) meant means is h = no is
  call_known works lets (Some (G.Let n)) meant means is h = no is
  call_known works lets (Some G.Member) meant means is h = no is
  call_known works lets None meant means is h = no is

  head_known : Asked → (lets : List Local) (o : Option Global) (meant : Option Meant) → MeantAs names o meant
      → is_global_construction names.allowed o ≡ true → ValueIn core lets meant → Ways can meant → MeantHead here registers c w meant
  head_known works lets (Some G.Constructor) meant means is h may =
      let it : CandidateIn core means.0 = value_here lets meant (Some (M.Callee means.0)) h means.1 in
      subst (MeantHead here registers c w) (sym means.1) (made_head means.0 means.0.doing means.2 it.does)
  head_known works lets (Some (G.Mapping q)) meant means is h may =
      let k = means is in
      subst (MeantHead here registers c w) (sym k.1)
      (meant_head (works is) lets (Some (M.Mapping k.0)) (value_here lets meant (Some (M.Mapping k.0)) h k.1) tt (subst (Ways can) k.1 may))
  head_known works lets (Some (G.Direction q)) meant means is h may =
      let k = means is in
      subst (MeantHead here registers c w) (sym k.1)
      (meant_head (works is) lets (Some (M.Callee k.0)) (value_here lets meant (Some (M.Callee k.0)) h k.1) (conversion_head (works is) k.0.doing k.2)
      (subst (Ways can) k.1 may))
  head_known works lets (Some G.Register) meant means is h may = no is
  head_known works lets (Some (G.Let n)) meant means is h may = no is
  head_known works lets (Some G.Member) meant means is h may = no is
  head_known works lets (Some (G.Function n)) meant means is h may = no is
  head_known works lets (Some (G.Overload ns)) meant means is h may = no is
  head_known works lets (Some G.Builtin) meant means is h may = no is
  head_known works lets (Some G.StateBuiltin) meant means is h may = no is
  head_known works lets None meant means is h may = no is

  -- registers that can be named are there
  abbrev pub RegistersSeen : Type 0
  RegistersSeen =
      (name : List ℕ) (r : ℕ) (s : Shape) → setting.value name ≡ Some (M.Register r s)
      → is_global_value names.allowed names.number (names.known.value name) ≡ true → slice_get registers r ≡ Some s

  -- each let has its value where all have
  pub lets_there : (lets : List Local) → ((name : List ℕ) → ValueIn core lets (setting.value name))
      → FitAll setting.types c (map (λ (l : Local). l.shape) lets) w.lets → LetsThere here c w
  lets_there lets values fit = λ name i s e may.
      let it : (l : Local) × (slice_get lets i ≡ Some l) × (l.shape ≡ s) = value_here lets (setting.value name) (Some (M.Let i s)) (values name) e in
      let v = let_value setting.types c lets w.lets i it.0 fit it.1 in
      (v.0, v.1, subst (λ t. Fits setting.types c t v.0) it.2 v.2)

  pub inside : AreKnown setting names → (lets : List Local) → ((name : List ℕ) → ValueIn core lets (setting.value name)) → Asked
      → ((operator : Operator) → EachCalled here registers c w (setting.added operator)) → RegistersSeen → all_below 0 registers ≡ true
      → LetsThere here c w → Given here w
      → ((name : List ℕ) → is_construction names name ≡ true → list_all converts (mappings_of_global (names.known.value name)) ≡ true
      → Ways can (setting.value name))
      → ((i : ℕ) → FieldsBelow setting i (fields setting.types i)) → Inside here registers c w
  inside known lets values works added seen whole has_lets given ways below = record {
    lets = has_lets;
    registers_there = seen;
    registers_closed = whole;
    members = λ name i k e.
        let it : MeantIn core (M.Member i k) = value_here lets (setting.value name) (Some (M.Member i k)) (values name) e in
        (it.0, member_fits setting.types c i k it.1);
    callees = λ name is. call_known works lets (names.known.value name) (setting.value name) (known.values name) is (values name);
    operators = λ operator.
        both_called (builtin_members operator ++ map member_candidate (members_of setting.types (operator_rows operator))) (setting.added operator)
        (both_called (builtin_members operator) (map member_candidate (members_of setting.types (operator_rows operator)))
        (cons_called operator (builtins_in core operator)) (members_called (members_of setting.types (operator_rows operator))
        (rows_in core (operator_rows operator)))) (added operator);
    prefixes = λ prefix. members_called (members_of setting.types (prefix_rows prefix)) (rows_in core (prefix_rows prefix));
    heads = λ name is may. head_known works lets (names.known.value name) (setting.value name) (known.values name) is (values name) (ways name is may);
    numbers = given.numbers;
    constraints = given.constraints;
    widths = given.widths;
    head_widths = given.head_widths;
    fields_below = below;
  }
