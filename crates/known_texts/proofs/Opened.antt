-- Openings in text order: each over the lets before it, on both sides.
use Rattle.std.proofs.Common.{◌≡◌, ℕ, suc, List, [], ◌∷◌, ◌++◌, length, map, append-nil, ap, sym, ◌∙◌, refl, subst, true, Option, Some}
use Rattle.std.proofs.Common.{None}
use Rattle.std.specs.Prelude.{slice_get}
use Rattle.sail_base.specs.declared.place.Place.{Place}
use Rattle.sail_syntax.specs.declared.definitions.Def.{Def}
use Rattle.sail_syntax.specs.declared.definitions.Def.TheVariants as D
use Rattle.sail_syntax.specs.declared.expressions.Exp.{Exp}
use Rattle.sail_syntax.specs.declared.name.Name.{Name}
use Rattle.sail_syntax.specs.declared.patterns.Pat.{Pat}
use Rattle.sail_syntax.specs.declared.types.TyExp.{TyExp}
use Rattle.sail_types.specs.Shapes.{shape}
use Rattle.sail_types.specs.declared.shapes.Shape.{Shape}
use Rattle.sail_types.specs.declared.types.Typ.{Typ}
use Rattle.sail_types.specs.declared.values.Value.{Value}
use Rattle.model_state.specs.declared.state.Register.{Register}
use Rattle.model_state.specs.RunState.{RunState}
use Rattle.sail_core.specs.declared.model.CoreModel.{CoreModel}
use Rattle.sail_core.specs.declared.model.OpeningKind.TheVariants as Opens
use Rattle.sail_core.specs.Making.{plainly as plain_making}
use Rattle.sail_core.specs.Program.{plain as plain_sizing}
use Rattle.sail_core.specs.Run as R
use Rattle.sail_core.specs.Run.{Ended}
use Rattle.sail_core.specs.Start as CoreStart
use Rattle.sail_core.specs.Start.{begun, blank, nowhere, set_all}
use Rattle.sail_meaning.specs.Start as SourceStart
use Rattle.sail_meaning.specs.Text.{Text, let_of, register_of}
use Rattle.sail_meaning.specs.World.{Bindings}
use Rattle.shape_joins.proofs.JoinsLeast.{none}
use Rattle.shape_joins.proofs.Order.{two}
use Rattle.shape_rules.specs.declared.error.ShapeError.{ShapeError}
use Rattle.shape_rules.specs.declared.locals.Local.{Local}
use Rattle.shape_rules.specs.Scopes.{Setting}
use Rattle.shape_rules.specs.Statements.{Binding}
use Rattle.shape_rules.specs.Written.{joined, shape_in, shape_or_never}
use Rattle.shape_rules.proofs.Firsts.{none_failed}
use Rattle.shape_models.specs.Models.{Own, Tabled, overloads_faults, setting_of, within_variables}
use Rattle.shape_declarations.specs.Failures.{register_faults, types_faults}
use Rattle.shape_clauses.specs.Functions.{called_faults}
use Rattle.shape_clauses.specs.Mappings.{mapping_faults}
use Rattle.shape_meanings.specs.Keeping.{RegistersFit}
use Rattle.shape_meanings.specs.Models.{LeavesFitting, register_shapes}
use Rattle.shape_meanings.specs.Trees.{pattern_written, written}
use Rattle.shape_meanings.specs.Whole.{closed}
use Rattle.shape_meanings.proofs.Naming.{register_closed}
use Rattle.shape_meanings.proofs.Settling.{both_empty}
use Rattle.shapes.specs.Failures.{all_faults, all_lets, initial_found, let_under, lets_behind, lets_faults, lets_with, others_faults, own_in}
use Rattle.shapes.specs.Failures.{refusal, state_faults}
use Rattle.shapes.specs.Resolved.{binding_opening, in_text_order, initials_openings, lets_openings, opening, resolved}
use Rattle.model_meanings.specs.Events.{OpeningsAreAlike}
use Rattle.opening_meanings.specs.Openings.{AreBound, EndsAlike, LetAdds, RegisterAdds}
use Rattle.opening_meanings.proofs.Ends.{registers_still_fit}
use Rattle.opening_meanings.proofs.Openings.{initials_open_alike, lets_open_alike}
use Rattle.known_texts.specs.Definitions.{DefinitionsAre}
use Rattle.known_texts.specs.Known.{DefinitionsKnown}
use Rattle.known_texts.specs.Opened.{LetKnown, OpeningsKnown, OpeningsKnownFrom, PlainKnown, TextsOpenAlike, WholeTextsMeanText}
use Rattle.known_texts.specs.Texts as Texts
use Rattle.known_texts.specs.Texts.{openings_from, registers_by, text_of}
use Rattle.known_texts.specs.Values.{LetsAre, NamesAreOnce, RegistersTyped}
use Rattle.known_texts.specs.Whole.{LetsAreAlike, TypesKnown, setting_in}
use Rattle.known_texts.proofs.BuiltinNames.{one_behind, one_more}
use Rattle.known_texts.proofs.RightTexts.{texts_right}
use Rattle.known_texts.proofs.BoundLets.{bound_more, lets_go_on, lets_of_bound, lets_so_far, no_lets, once_before, text_opens}
use Rattle.known_texts.proofs.Whole.{text_means_text}

-- ---- registers by their places

shapes_behind : (before : List Register) (x : Register) (more : List Register)
    → slice_get (register_shapes (before ++ x ∷ more)) (length before) ≡ Some (shape x.typ)
shapes_behind [] x more = refl
shapes_behind (y ∷ before) x more = shapes_behind before x more

module _ (tabled : Tabled) (cycle : List ℕ → Option ℕ) (text : List Def)
    (accepted : refusal tabled text ≡ None) (known : DefinitionsKnown tabled text (setting_in tabled text))
    (types : TypesKnown (setting_in tabled text []) (register_shapes (text_of tabled cycle text).registers))
    (all_typed : RegistersTyped tabled text) (once : NamesAreOnce tabled text (all_lets tabled text)) where
  abbrev own : Own
  own = own_in tabled text

  abbrev all : List Local
  all = all_lets tabled text

  abbrev source : Text
  source = text_of tabled cycle text

  abbrev core : CoreModel
  core = resolved tabled cycle text

  abbrev regs : List Shape
  regs = register_shapes source.registers

  -- the setting under these lets
  abbrev under : List Local → Setting
  under lets = setting_of tabled own text lets []

  are : DefinitionsAre tabled text (setting_in tabled text) cycle
  are = texts_right tabled cycle text accepted known

  -- ---- how openings end on both sides

  -- the names that lets bind have values, or a stop of one cause, or no end; and registers have values of their shapes
  abbrev OpenedAlike : CoreStart.Opened → SourceStart.Opened → Type 0
  OpenedAlike (CoreStart.opened vs s) (SourceStart.opened bs t) = (s ≡ t) × RegistersFit tabled.types regs t × AreBound tabled.types all vs bs
  OpenedAlike (CoreStart.opened_to c s) (SourceStart.opened_to d t) = (c ≡ d) × (s ≡ t) × RegistersFit tabled.types regs t
  OpenedAlike CoreStart.opened_not SourceStart.opened_not = Unit {0}
  OpenedAlike o p = ⊥

  after_alike : (Q : CoreStart.Added → SourceStart.Added → Type 0) (e : Ended Value CoreStart.Added) (f : Ended Value SourceStart.Added) → EndsAlike Q e f
      → (vs : List Value) (bs : Bindings) (state : RunState) → RegistersFit tabled.types regs state
      → (kc : List Value → RunState → CoreStart.Opened) (km : Bindings → RunState → SourceStart.Opened)
      → ((a : CoreStart.Added) (b : SourceStart.Added) → Q a b
      → OpenedAlike (kc (vs ++ a.values) (a.change state)) (km (bs ++ b.names) (b.change state)))
      → OpenedAlike (CoreStart.after_opening e vs state kc) (SourceStart.after_opening f bs state km)
  after_alike Q (R.Gives a here) (R.Gives b there) h vs bs state fit kc km next = next a b h
  after_alike Q (R.Gives a here) f h vs bs state fit kc km next = absurd h
  after_alike Q (R.Stops c here) (R.Stops d there) h vs bs state fit kc km next = (h, refl, fit)
  after_alike Q (R.Stops c here) f h vs bs state fit kc km next = absurd h
  after_alike Q e (R.Gives b there) h vs bs state fit kc km next = absurd h
  after_alike Q e (R.Stops d there) h vs bs state fit kc km next = absurd h
  after_alike Q e f h vs bs state fit kc km next = tt

  -- ---- where an opening stands

  abbrev Behind : List Local → List Def → Type 0
  Behind lets more = lets_behind tabled own text lets more ≡ all

  once_here : (lets : List Local) (more : List Def) → Behind lets more → NamesAreOnce tabled text lets
  once_here lets more is =
      let later = lets_go_on tabled own text lets more in
      once_before tabled text lets later.0 (subst (NamesAreOnce tabled text) (sym is ∙ later.1) once)

  valued_here : (lets : List Local) (more : List Def) → Behind lets more → (vs : List Value) (bs : Bindings) → AreBound tabled.types lets vs bs
      → LetsAre tabled.types all vs bs
  valued_here lets more is vs bs bound =
      let later = lets_go_on tabled own text lets more in
      subst (λ (ls : List Local). LetsAre tabled.types ls vs bs) (sym later.1 ∙ is) (lets_so_far tabled.types lets later.0 vs bs bound)

  -- what openings from here on come to, over the lets so far
  abbrev core_from : ℕ → List Def → List Local → ℕ → List Value → RunState → CoreStart.Opened
  core_from i more lets r vs state =
      CoreStart.openings_from plain_sizing i (in_text_order more (lets_openings tabled own text lets more) (initials_openings (under all) r more)) vs state

  abbrev source_from : List Def → ℕ → Bindings → RunState → SourceStart.Opened
  source_from more r bs state = SourceStart.openings_of source (openings_from r more) bs state

  abbrev state_faults_in : List Def → List ShapeError
  state_faults_in more = joined (map (state_faults (under all)) more)

  abbrev OpensFrom : List Def → List Local → ℕ → Type 0
  OpensFrom more lets r =
      (i : ℕ) (before : List Register) → source.registers ≡ (before ++ joined (map (registers_by tabled) more)) → length before ≡ r
      → RegistersTyped tabled more → OpeningsKnownFrom tabled text lets more → lets_faults tabled own text lets more ≡ [] → state_faults_in more ≡ []
      → Behind lets more → (vs : List Value) (bs : Bindings) → AreBound tabled.types lets vs bs
      → (state : RunState) → RegistersFit tabled.types regs state → OpenedAlike (core_from i more lets r vs state) (source_from more r bs state)

  -- ---- one definition

  blank_fits : RegistersFit tabled.types regs blank
  blank_fits hart r v s e is = none e

  -- a let
  let_step : (place : Place) (p : Pat) (value : Exp) (more : List Def) (lets : List Local) (r : ℕ)
      → OpensFrom more (lets_with tabled own text lets (D.Let place p value)) r → OpensFrom ((D.Let place p value) ∷ more) lets r
  let_step place p value more lets r next i before there count typed openings lf sf behind vs bs bound state fit =
      let b : Binding = let_under tabled own text lets place p value in
      let f = both_empty b.faults (lets_faults tabled own text (lets_with tabled own text lets (D.Let place p value)) more) lf in
      let k : LetKnown (under lets) p value = openings.0 in
      let w = two (pattern_written p) (written value) k.as_written k.value.as_written in
      let ends = lets_open_alike (under lets) regs source vs bs
      (text_opens tabled cycle text are types all_typed lets (once_here lets ((D.Let place p value) ∷ more) behind) vs bs
      (lets_of_bound tabled.types lets vs bs bound))
      k.value.names k.value.known k.value.plain place p value w k.named k.value.named f.0 blank blank_fits in
      after_alike (LetAdds tabled.types b.binds) (CoreStart.opening_run plain_making vs (binding_opening place b) (begun 0 blank))
      (SourceStart.opening_run (SourceStart.opening_world source bs) (let_of place p value) (begun 0 blank)) ends vs bs state fit
      (λ us s. core_from (suc i) more (lets ++ b.binds) r us s) (λ cs s. source_from more r cs s)
      (λ a c adds.
      let rest = next (suc i) before there count typed openings.1 f.1 sf behind (vs ++ a.values) (bs ++ c.names)
      (bound_more tabled.types lets b.binds vs a.values bs c.names bound adds.names) state fit in
      subst (λ (s : RunState). OpenedAlike (core_from (suc i) more (lets ++ b.binds) r (vs ++ a.values) s)
      (source_from more r (bs ++ c.names) (c.change state))) (sym (adds.core_state state))
      (subst (λ (s : RunState). OpenedAlike (core_from (suc i) more (lets ++ b.binds) r (vs ++ a.values) state)
      (source_from more r (bs ++ c.names) s)) (sym (adds.source_state state)) rest))

  -- a definition that is no let binds nothing
  nothing_bound : (lets : List Local) (vs : List Value) (bs : Bindings) → AreBound tabled.types lets vs bs → AreBound tabled.types (lets ++ []) vs bs
  nothing_bound lets vs bs bound = subst (λ (ls : List Local). AreBound tabled.types ls vs bs) (sym (append-nil lets)) bound

  -- an initial value
  initial_step : (place : Place) (name : Name) (typ : TyExp) (value : Exp) (more : List Def) (lets : List Local) (r : ℕ)
      → OpensFrom more (lets ++ []) (suc r) → OpensFrom ((D.Register place name typ (Some value)) ∷ more) lets r
  initial_step place name typ value more lets r next i before there count typed openings lf sf behind vs bs bound state fit =
      let t : Typ = typed.0.0 in
      let s : Shape = shape_in (within_variables tabled []) typ in
      let x : Register = record { name = name.text; typ = t } in
      let k : PlainKnown (under all) value = openings.0 in
      let same : s ≡ shape t = ap shape_or_never typed.0.1 in
      let all_there : source.registers ≡ (before ++ x ∷ joined (map (registers_by tabled) more)) =
      there ∙ ap (λ o. before ++ (Texts.register_if name.text o ++ joined (map (registers_by tabled) more))) typed.0.1 in
      let here : slice_get regs r ≡ Some s =
      (λ j. slice_get (register_shapes (all_there j)) (sym count j)) ∙ shapes_behind before x (joined (map (registers_by tabled) more)) ∙ ap Some (sym same) in
      let whole : closed s ≡ true = register_closed regs r s types.closed_registers here in
      let sf2 = both_empty (register_faults tabled.types (within_variables tabled []) typ ++ (initial_found (under all) s value).faults)
      (state_faults_in more) sf in
      let sf3 = both_empty (register_faults tabled.types (within_variables tabled []) typ) (initial_found (under all) s value).faults sf2.0 in
      let ends = initials_open_alike (under all) regs source vs bs
      (text_opens tabled cycle text are types all_typed all once vs bs (valued_here lets ((D.Register place name typ (Some value)) ∷ more) behind vs bs bound))
      k.names k.known k.plain place r s value whole k.as_written k.named sf3.1 blank blank_fits in
      after_alike (RegisterAdds tabled.types r s)
      (CoreStart.opening_run plain_making vs (opening place (Opens.Register r) (initial_found (under all) s value).core) (begun 0 blank))
      (SourceStart.opening_run (SourceStart.opening_world source bs) (register_of r value) (begun 0 blank)) ends vs bs state fit
      (λ us s2. core_from (suc i) more (lets ++ []) (suc r) us s2) (λ cs s2. source_from more (suc r) cs s2)
      (λ a c adds.
      let after : RunState = set_all r adds.value state in
      let rest = next (suc i) (before ++ x ∷ []) (all_there ∙ one_behind before x (joined (map (registers_by tabled) more)))
      (one_more before x ∙ ap suc count) typed.1 openings.1 lf sf2.1 behind vs bs (nothing_bound lets vs bs bound) after
      (registers_still_fit tabled.types regs state r adds.value s fit here adds.fit) in
      let vs_same : vs ≡ (vs ++ a.values) = sym (append-nil vs) ∙ ap (λ us. vs ++ us) (sym adds.no_values) in
      let bs_same : bs ≡ (bs ++ c.names) = sym (append-nil bs) ∙ ap (λ cs. bs ++ cs) (sym adds.no_names) in
      let at_values = subst (λ (us : List Value). OpenedAlike (core_from (suc i) more (lets ++ []) (suc r) us after) (source_from more (suc r) bs after))
      vs_same rest in
      let at_names = subst (λ (cs : Bindings). OpenedAlike (core_from (suc i) more (lets ++ []) (suc r) (vs ++ a.values) after)
      (source_from more (suc r) cs after)) bs_same at_values in
      subst (λ (s2 : RunState). OpenedAlike (core_from (suc i) more (lets ++ []) (suc r) (vs ++ a.values) s2)
      (source_from more (suc r) (bs ++ c.names) (c.change state))) (sym (adds.core_state state))
      (subst (λ (s2 : RunState). OpenedAlike (core_from (suc i) more (lets ++ []) (suc r) (vs ++ a.values) after)
      (source_from more (suc r) (bs ++ c.names) s2)) (sym (adds.source_state state)) at_names))

  -- a register without an initial value
  register_step : (place : Place) (name : Name) (typ : TyExp) (more : List Def) (lets : List Local) (r : ℕ)
      → OpensFrom more (lets ++ []) (suc r) → OpensFrom ((D.Register place name typ None) ∷ more) lets r
  register_step place name typ more lets r next i before there count typed openings lf sf behind vs bs bound state fit =
      let t : Typ = typed.0.0 in
      let x : Register = record { name = name.text; typ = t } in
      let all_there : source.registers ≡ (before ++ x ∷ joined (map (registers_by tabled) more)) =
      there ∙ ap (λ o. before ++ (Texts.register_if name.text o ++ joined (map (registers_by tabled) more))) typed.0.1 in
      let sf2 = both_empty (register_faults tabled.types (within_variables tabled []) typ ++ []) (state_faults_in more) sf in
      next i (before ++ x ∷ []) (all_there ∙ one_behind before x (joined (map (registers_by tabled) more))) (one_more before x ∙ ap suc count) typed.1
      openings.1 lf sf2.1 behind vs bs (nothing_bound lets vs bs bound) state fit

  -- ---- all of them

  opens_from : (more : List Def) (lets : List Local) (r : ℕ) → OpensFrom more lets r
  opens_from [] lets r = λ i before there count typed openings lf sf behind vs bs bound state fit.
      (refl, fit, subst (λ (ls : List Local). AreBound tabled.types ls vs bs) behind bound)
  opens_from ((D.Let place p value) ∷ more) lets r =
      let_step place p value more lets r (opens_from more (lets_with tabled own text lets (D.Let place p value)) r)
  opens_from ((D.Register place name typ (Some value)) ∷ more) lets r =
      initial_step place name typ value more lets r (opens_from more (lets ++ []) (suc r))
  opens_from ((D.Register place name typ None) ∷ more) lets r = register_step place name typ more lets r (opens_from more (lets ++ []) (suc r))
  opens_from (d ∷ more) lets r = λ i before there count typed openings lf sf behind vs bs bound state fit.
      opens_from more (lets ++ []) r i before there count typed openings.1 lf sf behind vs bs (nothing_bound lets vs bs bound) state fit

  -- from the first one on, in whatever state
  all_open : OpeningsKnown tabled text → (state : RunState) → RegistersFit tabled.types regs state
      → OpenedAlike (CoreStart.openings_of plain_sizing core state) (SourceStart.all_openings source state)
  all_open openings state fit =
      let own_faults : List ShapeError = overloads_faults tabled.types own text in
      let called : List ShapeError = joined (map (called_faults tabled (setting_in tabled text)) text) in
      let mapped : List ShapeError = joined (map (mapping_faults tabled (under all)) text) in
      let others = both_empty (own_faults ++ lets_faults tabled own text [] text) (others_faults tabled own text all)
      (none_failed (all_faults tabled text) accepted) in
      let lets = both_empty own_faults (lets_faults tabled own text [] text) others.0 in
      let states = both_empty (types_faults tabled text ++ called ++ mapped) (state_faults_in text) others.1 in
      opens_from text [] 0 0 [] refl refl all_typed openings lets.1 states.1 refl [] [] tt state fit

  ran_alike : (o : CoreStart.Opened) (p : SourceStart.Opened) → OpenedAlike o p
      → (CoreStart.ran_from o ≡ SourceStart.ran_from p) × LeavesFitting source (SourceStart.ran_from p)
  ran_alike (CoreStart.opened vs s) (SourceStart.opened bs t) h =
      (ap (λ (x : RunState). SourceStart.ran_from (SourceStart.opened bs x)) h.0, h.1)
  ran_alike (CoreStart.opened_to c s) (SourceStart.opened_to d t) h = ((λ j. SourceStart.ran_from (SourceStart.opened_to (h.0 j) (h.1 j))), h.2)
  ran_alike CoreStart.opened_not SourceStart.opened_not h = (refl, tt)
  ran_alike o p h = absurd h

  lets_alike : (o : CoreStart.Opened) (p : SourceStart.Opened) → OpenedAlike o p → LetsAre tabled.types all (CoreStart.lets_in o) (SourceStart.lets_in p)
  lets_alike (CoreStart.opened vs s) (SourceStart.opened bs t) h = lets_of_bound tabled.types all vs bs h.2
  lets_alike (CoreStart.opened_to c s) (SourceStart.opened_to d t) h = no_lets tabled.types all
  lets_alike CoreStart.opened_not SourceStart.opened_not h = no_lets tabled.types all
  lets_alike o p h = absurd h

  nowhere_fits : RegistersFit tabled.types regs (nowhere tabled.types)
  nowhere_fits hart r v s e is = none e

  pub text_opens_alike : OpeningsKnown tabled text → OpeningsAreAlike source core × LetsAreAlike tabled cycle text
  text_opens_alike openings = (
    (λ state fit. ran_alike (CoreStart.openings_of plain_sizing core state) (SourceStart.all_openings source state) (all_open openings state fit)),
    lets_alike (CoreStart.openings_of plain_sizing core (nowhere tabled.types)) (SourceStart.all_openings source (nowhere tabled.types))
        (all_open openings (nowhere tabled.types) nowhere_fits),
  )

pub texts_open_alike : TextsOpenAlike
texts_open_alike tabled cycle text accepted known types typed once openings =
    text_opens_alike tabled cycle text accepted known types typed once openings

pub whole_text_means_text : WholeTextsMeanText
whole_text_means_text tabled cycle text accepted known types typed once openings step reset =
    let opened = text_opens_alike tabled cycle text accepted known types typed once openings in
    text_means_text tabled cycle text accepted known types typed once opened.1 step reset opened.0
