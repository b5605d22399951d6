-- The worlds of openings are described, where no function, mapping or overload has a name.
use Rattle.std.proofs.Common.{◌≡◌, ℕ, List, [], ◌∷◌, append-nil, ap, sym, ◌∙◌, refl, subst, Bool, true, false, Option, Some, None}
use Rattle.sail_base.specs.declared.operators.Operator.{Operator}
use Rattle.sail_base.specs.declared.place.Place.{Place}
use Rattle.sail_types.specs.declared.shapes.Shape.{Shape}
use Rattle.sail_types.specs.declared.values.Value.{Value}
use Rattle.sail_core.specs.Making as Making
use Rattle.sail_core.specs.Run.{Now, needs, ◌then◌}
use Rattle.sail_core.specs.Start as CoreStart
use Rattle.sail_meaning.specs.Calls as Source
use Rattle.sail_meaning.specs.Choice.{arguments, choice, first_fitting, operator_builtins}
use Rattle.sail_meaning.specs.Start as SourceStart
use Rattle.sail_meaning.specs.Text.{Called, Callee, Text, constructor}
use Rattle.sail_meaning.specs.World as World
use Rattle.sail_meaning.specs.World.{Bindings, apply_builtin}
use Rattle.shape_rules.specs.declared.callees.Candidate.{Candidate}
use Rattle.shape_rules.specs.declared.callees.Doing.{Doing}
use Rattle.shape_rules.specs.declared.callees.Meant.{Meant}
use Rattle.shape_rules.specs.declared.callees.Meant.TheVariants as M
use Rattle.shape_rules.specs.Calls.{operator_members}
use Rattle.shape_rules.specs.Scopes.{Setting, plainly, thrown_shape}
use Rattle.shape_rules.specs.Values.{does_convert}
use Rattle.shape_meanings.specs.Whole.{Choice}
use Rattle.shape_meanings.specs.Keeping.{AgreeApart, FitAll, Fits, RegistersFit}
use Rattle.shape_meanings.specs.Naming.{is_constructor}
use Rattle.shape_meanings.specs.Worlds.{AnswerBelow, Apply, Describes, HeadAs, NameCalled, StandForEach, StandsFor, ValueAs, call_by, doing_run}
use Rattle.shape_meanings.proofs.Plain.{plain_applied}
use Rattle.row_meanings.specs.Rows.{AppliesBuiltins, EachApart, operator_first}
use Rattle.row_meanings.proofs.Apart.{operators_distinct}
use Rattle.row_meanings.proofs.Standing.{operators_stand, prefixes_stand, rows_stand, texts_apply}
use Rattle.model_meanings.proofs.Constructors.{constructed_fits}
use Rattle.opening_meanings.specs.Plain.{callee_if, uncalled, uncalled_meant}
use Rattle.opening_meanings.specs.Worlds.{ConstructorStands, NameOpens, OpeningWorldsAreDescribed, Opens}

none_apart : (fs : List Candidate) → EachApart fs []
none_apart [] = tt
none_apart (f ∷ fs) = (tt, none_apart fs)

module _ (setting : Setting) (registers : List Shape) (text : Text) (values : List Value) (bindings : Bindings)
    (is : Opens setting registers text values bindings) where
  abbrev inner : Setting
  inner = plainly (uncalled setting)

  abbrev wc : Making.World Value
  wc = CoreStart.opening_world values

  abbrev ws : World.World
  ws = SourceStart.opening_world text bindings

  abbrev calls : Source.Calls
  calls = Source.calls_within (SourceStart.opening_setting text bindings) 0

  abbrev apply : Apply
  apply = Source.applied (SourceStart.opening_setting text bindings) calls []

  applies : AppliesBuiltins 0 apply
  applies = texts_apply (SourceStart.opening_setting text bindings) calls []

  -- ---- names of values

  value_by : (name : List ℕ) (f : Candidate) (b : Bool) → ValueAs setting registers wc ws name (Some (M.Callee f))
      → ValueAs inner registers wc ws name (callee_if b f)
  value_by name f true h = h
  value_by name f false h = h

  value_opens : (name : List ℕ) (meant : Option Meant) → ValueAs setting registers wc ws name meant
      → ValueAs inner registers wc ws name (uncalled_meant meant)
  value_opens name (Some (M.Callee f)) h = value_by name f (is_constructor f.doing) h
  value_opens name (Some (M.Mapping m)) h = h
  value_opens name (Some (M.Overload fs)) h = h
  value_opens name (Some (M.Register r s)) h = h
  value_opens name (Some (M.Let i s)) h = h
  value_opens name (Some (M.Member i k)) h = h
  value_opens name (Some (M.Row row)) h = h
  value_opens name None h = h

  -- ---- names in calls

  abbrev Kept : Candidate → Callee → Doing → Type 0
  Kept f callee doing =
      (c : Choice) (place : Place) (vs : List Value) (now : Now Value) → FitAll setting.types c f.params vs
      → RegistersFit setting.types registers now.state
      → AgreeApart setting.types registers (thrown_shape setting) (Fits setting.types c f.answer) now (doing_run wc place doing vs now)
      (apply place callee vs now)

  constructor_stands : (name : List ℕ) (f : Candidate) (st : ConstructorStands setting.types text name f)
      → StandsFor setting.types registers (thrown_shape setting) wc apply f (constructor st.union st.place f.params)
  constructor_stands name f st = record {
    params = refl;
    whole = st.whole;
    answer = st.answer;
    converts = ap does_convert (sym st.does);
    keeps = subst (Kept f (constructor st.union st.place f.params)) (sym st.does)
        (λ c place vs now fit state.
        (refl, (constructed_fits setting.types c f st.union st.place vs st.is st.whole fit, record { locals = refl; state = state })));
  }

  constructor_called : (name : List ℕ) (f : Candidate) → ConstructorStands setting.types text name f
      → NameCalled inner registers wc ws apply name (Some (M.Callee f))
  constructor_called name f st = (
    constructor st.union st.place f.params,
    st.called,
    constructor_stands name f st,
    subst (HeadAs inner registers wc ws name f (constructor st.union st.place f.params)) (sym st.does) (st.named, st.is),
  )

  callee_by : (name : List ℕ) (f : Candidate) (b : Bool) → NameOpens setting.types text name (callee_if b f)
      → NameCalled inner registers wc ws apply name (callee_if b f)
  callee_by name f true st = constructor_called name f st
  callee_by name f false st = tt

  name_opens : (name : List ℕ) (meant : Option Meant) → NameOpens setting.types text name (uncalled_meant meant)
      → NameCalled inner registers wc ws apply name (uncalled_meant meant)
  name_opens name (Some (M.Callee f)) st = callee_by name f (is_constructor f.doing) st
  name_opens name (Some (M.Row row)) st =
      let members = rows_stand setting.types registers (thrown_shape setting) wc 0 apply refl applies row in
      (st, members.0, members.1)
  name_opens name (Some (M.Mapping m)) st = tt
  name_opens name (Some (M.Overload fs)) st = tt
  name_opens name (Some (M.Register r s)) st = tt
  name_opens name (Some (M.Let i s)) st = tt
  name_opens name (Some (M.Member i k)) st = tt
  name_opens name None st = tt

  called_by : (place : Place) (o : Option Called) (vs : List Value)
      → Source.called (SourceStart.opening_setting text bindings) calls [] place o vs ≡ call_by setting.types apply place o vs
  called_by place None vs = refl
  called_by place (Some c) vs =
      ap (λ t. needs (choice t c (arguments c vs)) then λ callee. apply place callee (arguments c vs)) is.types

  -- ---- operators mean their builtins

  abbrev Standing : Operator → List Callee → Type 0
  Standing operator callees =
      StandForEach setting.types registers (thrown_shape setting) wc apply (operator_members inner operator) callees

  pub opening_described : Describes inner registers wc ws
  opening_described = record {
    types = is.types;
    within = is.within;
    numbers = refl;
    hart = refl;
    bare = refl;
    closed_registers = is.closed_registers;
    closed_thrown = is.closed_thrown;
    answer = subst AnswerBelow (sym is.no_answer) tt;
    fields_below = is.fields_below;
    structs = is.structs;
    values = λ name. value_opens name (setting.value name) (is.values name);
    apply = apply;
    names = λ name. name_opens name (setting.value name) (is.names name);
    calls = λ place name vs. called_by place (text.called name) vs;
    members = operator_builtins setting.types;
    operators = λ place operator v u i now.
        (ap (λ t. (needs (first_fitting t (operator_builtins t operator) (v ∷ u ∷ [])) then λ callee. apply_builtin 0 callee (v ∷ u ∷ [])) now) is.types
        ∙ plain_applied setting.types apply 0 place operator (v ∷ u ∷ []) now (λ callee b. applies place callee (v ∷ u ∷ []) b)) i;
    members_stand = λ operator. (
      subst (Standing operator) (append-nil (operator_builtins setting.types operator))
          (operators_stand inner registers wc 0 apply refl applies operator [] tt),
      operators_distinct inner operator tt (none_apart (operator_first setting.types operator)),
    );
    builtins_first = λ operator. ([], sym (append-nil (operator_builtins setting.types operator)));
    prefixes_stand = λ prefix. prefixes_stand inner registers wc 0 apply refl applies prefix;
    builtins_apply = applies;
  }

pub openings_described : OpeningWorldsAreDescribed
openings_described setting registers text values bindings is = opening_described setting registers text values bindings is
