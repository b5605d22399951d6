-- Functions and mappings of a text that nothing is refused for: what the core has of them does what they do.
use Rattle.std.proofs.Common.{◌≡◌, ℕ, List, [], ◌∷◌, ◌++◌, map, sym, refl, subst, Bool, true, false, Option, Some, None, if◌then◌else◌}
use Rattle.std.specs.Option.{option_or}
use Rattle.std.specs.Str.{bytes_eq}
use Rattle.sail_base.specs.declared.place.Place.{Place}
use Rattle.sail_syntax.specs.declared.expressions.Exp.{Exp}
use Rattle.sail_syntax.specs.declared.patterns.Pat.{Pat}
use Rattle.sail_syntax.specs.declared.definitions.Def.{Def}
use Rattle.sail_syntax.specs.declared.definitions.Def.TheVariants as D
use Rattle.sail_syntax.specs.declared.definitions.FunctionClause.{FunctionClause}
use Rattle.sail_syntax.specs.declared.definitions.MappingClause.{MappingClause}
use Rattle.sail_types.specs.Shapes.{shape}
use Rattle.sail_kinds.specs.declared.scope.Variable.{Variable}
use Rattle.sail_signatures.specs.declared.signature.Signature.{Signature}
use Rattle.sail_names.specs.Known as Tables
use Rattle.shape_joins.proofs.JoinsLeast.{none, some_same}
use Rattle.shape_rules.specs.declared.error.ShapeError.{ShapeError}
use Rattle.shape_rules.specs.declared.locals.Local.{Local}
use Rattle.shape_rules.specs.Calls.{param_shapes}
use Rattle.shape_rules.specs.Scopes.{Setting}
use Rattle.shape_rules.specs.Written.{joined}
use Rattle.shape_rules.proofs.Firsts.{none_failed}
use Rattle.shape_models.specs.Models.{Own, Tabled, mapping_of, overloads_faults, setting_of, within_variables}
use Rattle.shape_declarations.specs.Failures.{sides_faults, types_faults}
use Rattle.shape_clauses.specs.Functions as Found
use Rattle.shape_clauses.specs.Functions.{called_faults, function_faults, measure_faults, measure_of}
use Rattle.shape_clauses.specs.Mappings.{directions_faults, mapping_faults}
use Rattle.shape_meanings.specs.Counted.{all_counted, counted}
use Rattle.shape_meanings.proofs.Settling.{both_empty, same_name}
use Rattle.body_meanings.specs.Standing.{MeasureIsFaultless}
use Rattle.body_meanings.proofs.Directions.{directions_right}
use Rattle.body_meanings.proofs.Standing.{functions_stand}
use Rattle.shapes.specs.Failures.{all_faults, all_lets, lets_faults, others_faults, own_in, refusal, state_faults}
use Rattle.known_texts.specs.Definitions.{DefinitionIs, DefinitionsAre, EachIs, FunctionOf, MappingOf}
use Rattle.known_texts.specs.Known.{DefinitionKnown, DefinitionsKnown, EachKnown, FunctionKnown, MappingKnown, MeasureIsNamed}
use Rattle.known_texts.specs.Texts.{function_of}

-- ---- the measure of a function

module _ (tabled : Tabled) (text : List Def) (setting : List Variable → Setting) where
  abbrev faults : List Def → List ShapeError
  faults more = joined (map (called_faults tabled setting) more)

  -- the first measure of a name has no failure
  measure_step : (name own : List ℕ) (place : Place) (parameters : List Pat) (value : Exp) (more : List Def) (m : Found.Measure) (b : Bool)
      → bytes_eq own name ≡ b → measure_faults setting (tabled.signature own) place parameters value ≡ []
      → (measure_of name more ≡ Some m → measure_faults setting (tabled.signature name) m.place m.parameters m.value ≡ [])
      → option_or (if b then Some (record { place = place; parameters = parameters; value = value }) else None) (measure_of name more) ≡ Some m
      → measure_faults setting (tabled.signature name) m.place m.parameters m.value ≡ []
  measure_step name own place parameters value more m true is e later there =
      subst (λ (x : Found.Measure). measure_faults setting (tabled.signature name) x.place x.parameters x.value ≡ [])
      (some_same (record { place = place; parameters = parameters; value = value }) m there)
      (subst (λ n. measure_faults setting (tabled.signature n) place parameters value ≡ []) (same_name own name is) e)
  measure_step name own place parameters value more m false is e later there = later there

  measure_faultless : (name : List ℕ) (more : List Def) (m : Found.Measure) → faults more ≡ [] → measure_of name more ≡ Some m
      → measure_faults setting (tabled.signature name) m.place m.parameters m.value ≡ []
  measure_faultless name [] m e there = none there
  measure_faultless name ((D.Measure place own parameters value) ∷ more) m e there =
      let b = both_empty (measure_faults setting (tabled.signature own.text) place parameters value) (faults more) e in
      measure_step name own.text place parameters value more m (bytes_eq own.text name) refl b.0 (λ h. measure_faultless name more m b.1 h) there
  measure_faultless name (d ∷ more) m e there =
      measure_faultless name more m (both_empty (called_faults tabled setting d) (faults more) e).1 there

  measure_right : (names : Tables.Setting) (name : List ℕ) (s : Signature) (o : Option Found.Measure) → tabled.signature name ≡ Some s
      → measure_of name text ≡ o → faults text ≡ [] → MeasureIsNamed names (setting s.variables) o
      → MeasureIsFaultless names (setting s.variables) (param_shapes s.from) o
  measure_right names name s None signed is e named = tt
  measure_right names name s (Some m) signed is e named =
      let found : measure_faults setting (Some s) m.place m.parameters m.value ≡ [] =
      subst (λ t. measure_faults setting t m.place m.parameters m.value ≡ []) signed (measure_faultless name text m e is) in
      (named.0, named.1, named.2, named.3, found)

  -- ---- functions

  function_right : (cycle : List ℕ → Option ℕ) (place : Place) (name : List ℕ) (clauses : List FunctionClause) (s : Signature)
      → tabled.signature name ≡ Some s → FunctionKnown tabled text setting name clauses s → function_faults setting (Some s) clauses ≡ []
      → faults text ≡ [] → (setting s.variables).types ≡ tabled.types → FunctionOf tabled text setting place name clauses s (cycle name)
  function_right cycle place name clauses s signed known e all same = record {
    no_constructor = known.no_constructor;
    whole = known.whole;
    answer = known.answer;
    is = functions_stand tabled text (setting s.variables) known.names known.measure_names place name clauses s (cycle name)
        (function_of tabled text place name clauses s (cycle name))
        (record { place = refl; clauses = refl; parameters = refl; variables = refl; measure = refl; cycle = refl }) known.known
        (subst (λ t. all_counted t (param_shapes s.from) ≡ true) (sym same) known.counts) known.named e
        (measure_right known.measure_names name s (measure_of name text) signed refl all known.measure);
  }

  -- ---- mappings

  mapping_right : (place : Place) (name : List ℕ) (cs : List MappingClause) (s : Signature) → (setting []).answer ≡ None
      → MappingKnown tabled.types (setting []) name cs s → (setting []).types ≡ tabled.types → directions_faults (setting []) name cs (Some s) ≡ []
      → MappingOf tabled.types (setting []) place name cs s
  mapping_right place name cs s none known same e =
      let right = directions_right (setting []) known.names place (mapping_of name 0 s) cs 0 none known.known
      (subst (λ t. counted t (shape s.from) ≡ true) (sym same) known.left_counts) (subst (λ t. counted t (shape s.to) ≡ true) (sym same) known.right_counts)
      known.left known.right known.named e in
      record {
        no_constructor = known.no_constructor;
        no_forwards = known.no_forwards;
        no_backwards = known.no_backwards;
        left = known.left;
        right = known.right;
        ahead = right.0;
        back = right.1;
      }

  -- ---- definitions

  abbrev SameTypes : Type 0
  SameTypes = (vs : List Variable) → (setting vs).types ≡ tabled.types

  abbrev mapped : List Def → List ShapeError
  mapped more = joined (map (mapping_faults tabled (setting [])) more)

  definition_right : (cycle : List ℕ → Option ℕ) (d : Def) → (setting []).answer ≡ None → SameTypes → faults text ≡ []
      → DefinitionKnown tabled text setting d → called_faults tabled setting d ≡ [] → mapping_faults tabled (setting []) d ≡ []
      → DefinitionIs tabled text setting cycle d
  definition_right cycle (D.Union place name variables cs) none same all known e f = known
  definition_right cycle (D.Function place extent name clauses) none same all known e f = (
    known.0,
    known.1,
    function_right cycle place name.text clauses known.0 known.1 known.2 (subst (λ o. function_faults setting o clauses ≡ []) known.1 e) all
        (same known.0.variables),
  )
  definition_right cycle (D.Mapping place name sides cs) none same all known e f = (
    known.0,
    known.1,
    mapping_right place name.text cs known.0 none known.2 (same [])
        (subst (λ o. directions_faults (setting []) name.text cs o ≡ []) known.1
        (both_empty (sides_faults (within_variables tabled []) sides) (directions_faults (setting []) name.text cs (tabled.signature name.text)) f).1),
  )
  definition_right cycle d none same all known e f = tt

  pub each_right : (cycle : List ℕ → Option ℕ) (more : List Def) → (setting []).answer ≡ None → SameTypes → faults text ≡ []
      → EachKnown tabled text setting more → faults more ≡ [] → mapped more ≡ [] → EachIs tabled text setting cycle more
  each_right cycle [] none same all known e f = tt
  each_right cycle (d ∷ more) none same all known e f =
      let e2 = both_empty (called_faults tabled setting d) (faults more) e in
      let f2 = both_empty (mapping_faults tabled (setting []) d) (mapped more) f in
      (definition_right cycle d none same all known.0 e2.0 f2.0, each_right cycle more none same all known.1 e2.1 f2.1)

pub texts_right : (tabled : Tabled) (cycle : List ℕ → Option ℕ) (text : List Def) → refusal tabled text ≡ None
    → DefinitionsKnown tabled text (setting_of tabled (own_in tabled text) text (all_lets tabled text))
    → DefinitionsAre tabled text (setting_of tabled (own_in tabled text) text (all_lets tabled text)) cycle
texts_right tabled cycle text accepted known =
    let own : Own = own_in tabled text in
    let lets : List Local = all_lets tabled text in
    let setting : List Variable → Setting = setting_of tabled own text lets in
    let called : List ShapeError = joined (map (called_faults tabled setting) text) in
    let mapped_all : List ShapeError = joined (map (mapping_faults tabled (setting [])) text) in
    let states : List ShapeError = joined (map (state_faults (setting [])) text) in
    let types : List ShapeError = types_faults tabled text in
    let all = both_empty (overloads_faults tabled.types own text ++ lets_faults tabled own text [] text) (others_faults tabled own text lets)
    (none_failed (all_faults tabled text) accepted) in
    let others = both_empty (types ++ called ++ mapped_all) states all.1 in
    let maps = both_empty (types ++ called) mapped_all others.0 in
    let calls = both_empty types called maps.0 in
    (known.0, each_right tabled text setting cycle text refl (λ vs. refl) calls.1 known.1 calls.1 maps.1)

pub no_overload_fails : (tabled : Tabled) (text : List Def) → refusal tabled text ≡ None → overloads_faults tabled.types (own_in tabled text) text ≡ []
no_overload_fails tabled text accepted =
    (both_empty (overloads_faults tabled.types (own_in tabled text) text) (lets_faults tabled (own_in tabled text) text [] text)
    (both_empty (overloads_faults tabled.types (own_in tabled text) text ++ lets_faults tabled (own_in tabled text) text [] text)
    (others_faults tabled (own_in tabled text) text (all_lets tabled text)) (none_failed (all_faults tabled text) accepted)).0).0
