-- Bodies and measures of the functions of an accepted text pass the tests of their nodes.
use Rattle.std.proofs.Common.{◌≡◌, ℕ, zero, suc, ◌+◌, List, [], ◌∷◌, ◌++◌, map, ap, sym, refl, subst, Bool, true, false, ◌&&◌, Option, Some, None}
use Rattle.std.proofs.Common.{if◌then◌else◌}
use Rattle.std.proofs.lemmas.Bool.{and_parts}
use Rattle.std.specs.Prelude.{slice_get}
use Rattle.std.specs.List.{list_all}
use Rattle.std.specs.Option.{option_or}
use Rattle.std.specs.Str.{bytes_eq}
use Rattle.sail_base.specs.declared.place.Place.{Place}
use Rattle.sail_types.specs.Shapes.{shape}
use Rattle.sail_types.specs.declared.numbers.Index.{Index}
use Rattle.sail_types.specs.declared.shapes.Shape.{Shape}
use Rattle.sail_syntax.specs.declared.definitions.Def.{Def}
use Rattle.sail_syntax.specs.declared.definitions.Def.TheVariants as D
use Rattle.sail_syntax.specs.declared.definitions.FunctionClause.{FunctionClause}
use Rattle.sail_syntax.specs.declared.expressions.Exp.{Exp}
use Rattle.sail_syntax.specs.declared.patterns.Pat.{Pat}
use Rattle.sail_kinds.specs.declared.scope.Variable.{Variable}
use Rattle.sail_core.specs.declared.model.Function.{Function}
use Rattle.sail_core.specs.declared.patterns.Pattern.{Pattern}
use Rattle.sail_core.specs.declared.tree.Core.{Core, out-Core}
use Rattle.core_numbers.specs.Numbers.{numbered}
use Rattle.sail_names.specs.Clauses.{function_clause_failures}
use Rattle.sail_names.specs.Known as Tables
use Rattle.sail_names.specs.Known.{in_measure}
use Rattle.sail_names.specs.declared.around.Allowed.TheVariants.{Any}
use Rattle.sail_signatures.specs.Signatures.{variables_in}
use Rattle.sail_signatures.specs.declared.signature.Signature.{Signature}
use Rattle.sail_bodies.specs.Bodies.{body_failures, body_failures_from, clauses_failures, setting as names_setting}
use Rattle.sail_tables.specs.Refused.{signature_in}
use Rattle.type_definitions.specs.Defined.{types_of}
use Rattle.known_names.specs.Meanings.{known_in}
use Rattle.pattern_leaves.specs.Settings.{Around}
use Rattle.call_fits.specs.Calls.{own_variables}
use Rattle.shape_joins.proofs.JoinsLeast.{none, some_same}
use Rattle.shape_joins.proofs.Order.{two}
use Rattle.shape_rules.specs.declared.error.ShapeError.{ShapeError}
use Rattle.shape_rules.specs.Calls.{param_shapes}
use Rattle.shape_rules.specs.Scopes.{Setting, answering, plainly}
use Rattle.shape_rules.specs.Written.{joined}
use Rattle.shape_models.specs.Models.{Tabled, type_variables, within_variables}
use Rattle.shape_declarations.specs.Signatures.{number_parameters}
use Rattle.shape_clauses.specs.Clauses.{clauses_core}
use Rattle.shape_clauses.specs.Functions.{Measure, called_faults, function_faults, functions_if, functions_of, measure_core, measure_faults}
use Rattle.shape_clauses.specs.Functions.{measure_of, measure_tree, signed_clauses}
use Rattle.shape_meanings.proofs.Settling.{both_empty, same_name}
use Rattle.shape_meanings.specs.Naming.{AreKnown}
use Rattle.shape_meanings.specs.Whole.{all_of, below}
use Rattle.shapes.specs.Failures.{all_lets, own_in}
use Rattle.shapes.specs.Tabled.{tabled_of}
use Rattle.known_texts.specs.Accepted.{NothingFails}
use Rattle.known_texts.specs.Known.{DefinitionsKnown}
use Rattle.known_texts.specs.Signed.{EachSigned, IsSigned}
use Rattle.known_texts.specs.Values.{RegistersTyped}
use Rattle.known_texts.specs.Whole.{setting_in}
use Rattle.shape_meanings.specs.Trees.{pattern_written, written}
use Rattle.known_texts.specs.Written.{IsWritten, clause_types_written, clause_written, definition_written, has_clauses}
use Rattle.known_texts.proofs.Assembled.{definitions_known, known_here, known_plainly}
use Rattle.known_texts.proofs.Failures.{apart, nothing_fails}
use Rattle.known_texts.proofs.Formed.{signature_whole}
use Rattle.known_texts.proofs.Named.{MeasureNamed, measure_found, plain_at}
use Rattle.known_texts.proofs.Parts.{tuples_have_parts}
use Rattle.known_texts.proofs.Registers.{registers_typed}
use Rattle.known_texts.proofs.Signed.{each_signed, variables_are}
use Rattle.known_texts.proofs.Tuples.{TuplesHaveParts}
use Rattle.known_texts.proofs.Types.{types_known}
use Rattle.known_texts.proofs.Vals.{vals_signed}
use Rattle.standing_models.specs.Tests.{Fits, PatternsFitBy, passes, unit_pattern}
use Rattle.standing_models.proofs.Converting.{any_convert, any_mapping}
use Rattle.standing_models.proofs.CorePasses.{AllPass as EachPasses}
use Rattle.standing_models.proofs.PassingClauses.{ClausesPass, EachNamed, body_clauses, measure_clauses}
use Rattle.text_progress.proofs.Entries.{all_in}
use Rattle.text_progress.proofs.Meant.{operator_in}
use Rattle.text_progress.proofs.Stand.{unfailed}
use Rattle.text_progress.proofs.TextInsides as Insides
use Rattle.text_progress.specs.Entries.{MaybeIn, Parts}
use Rattle.standing_texts.specs.Bodies.{BodyPasses, FunctionPasses, FunctionsPass, PatternsPass, TextPatterns}
use Rattle.standing_texts.proofs.NamesFit.{all_fit, value_fits}
use Rattle.standing_texts.proofs.OwnSizes.{sizes_own, truths_own}

each_named : (names : Tables.Setting) (cs : List FunctionClause) → clauses_failures names cs ≡ [] → EachNamed names cs
each_named names [] u = tt
each_named names (c ∷ cs) u = let h = apart (function_clause_failures names c) (clauses_failures names cs) u in (h.0, each_named names cs h.1)

-- ---- functions in a list

abbrev AllPass : Around → (List Index → Pattern → Bool) → List Function → Type 0
AllPass around fits [] = Unit {0}
AllPass around fits (f ∷ fs) = FunctionPasses around fits f × AllPass around fits fs

all_join : (around : Around) (fits : List Index → Pattern → Bool) (fs gs : List Function) → AllPass around fits fs → AllPass around fits gs
    → AllPass around fits (fs ++ gs)
all_join around fits [] gs h k = k
all_join around fits (f ∷ fs) gs h k = (h.0, all_join around fits fs gs h.1 k)

pass_at : (around : Around) (fits : List Index → Pattern → Bool) (fs : List Function) → AllPass around fits fs → (i : ℕ) (f : Function)
    → slice_get fs i ≡ Some f
    → FunctionPasses around fits f
pass_at around fits [] h i f e = none e
pass_at around fits (x ∷ fs) h zero f e = subst (FunctionPasses around fits) (some_same x f e) h.0
pass_at around fits (x ∷ fs) h (suc i) f e = pass_at around fits fs h.1 i f e

-- ---- what is around a body, under a test of patterns that convert by such mappings

module _ (text : List Def) (cycle : List ℕ → Option ℕ) (known : DefinitionsKnown (tabled_of text) text (setting_in (tabled_of text) text))
    (typed : RegistersTyped (tabled_of text) text) (around : Around) (types : around.types ≡ (Insides.parts text cycle known typed).types)
    (functions : around.functions ≡ (Insides.parts text cycle known typed).functions) where
  pub each_own : (name : List ℕ) → MaybeIn (Insides.parts text cycle known typed) (own_in (tabled_of text) text name)
  each_own = all_in (tabled_of text) cycle text (all_lets (tabled_of text) text) known typed

  unfoldable pub fits_by : (converts : ℕ → Bool) (tests : Pattern → Bool) (variables : List Variable) (answer : Option Shape) (names : Tables.Setting)
      → AreKnown (answering answer (setting_in (tabled_of text) text variables)) names
      → PatternsFitBy converts tests (answering answer (setting_in (tabled_of text) text variables)) names
      → PatternsFitBy converts tests (plainly (answering answer (setting_in (tabled_of text) text variables))) (in_measure names)
      → ((place : Place) → tests (unit_pattern place) ≡ true)
      → Fits around (own_variables 0 (number_parameters variables)) tests (answering answer (setting_in (tabled_of text) text variables)) names
  fits_by converts tests variables answer names are patterns measures unit = record {
    types = sym types;
    known = are;
    values = λ name.
        value_fits around (Insides.parts text cycle known typed) types functions (all_lets (tabled_of text) text)
        ((setting_in (tabled_of text) text variables).value name)
        (Insides.values text cycle known typed (all_lets (tabled_of text) text) variables name);
    added = λ operator.
        all_fit around (Insides.parts text cycle known typed) types functions ((setting_in (tabled_of text) text variables).added operator)
        (operator_in (Insides.parts text cycle known typed) (own_in (tabled_of text) text) each_own text operator);
    sizes = λ typ n u e. sizes_own variables (within_variables (tabled_of text) variables) refl typ n e;
    truths = λ typ c u e. truths_own variables (within_variables (tabled_of text) variables) refl typ c e;
    converts = converts;
    patterns = patterns;
    measures = measures;
    unit = unit;
  }

-- clauses that pass
each_passes_it : (around : Around) (numbers : List Index) (fits : Pattern → Bool) (cs : List Core) → EachPasses around numbers fits cs
    → list_all (λ b. b) (map (passes around numbers fits) cs) ≡ true
each_passes_it around numbers fits [] h = refl
each_passes_it around numbers fits (c ∷ cs) h =
    two (passes around numbers fits c) (list_all (λ b. b) (map (passes around numbers fits) cs)) h.0 (each_passes_it around numbers fits cs h.1)

pub clauses_are : (around : Around) (numbers : List Index) (fits : Pattern → Bool) (body : Core) → ClausesPass around numbers fits body
    → BodyPasses around numbers fits body
clauses_are around numbers fits body h = record {
  arms = h.arms;
  kind = h.kind;
  stand = h.stand;
  bodies = each_passes_it around numbers fits (out-Core body).parts h.bodies;
}

-- ---- the functions of a text

module _ (text : List Def) (cycle : List ℕ → Option ℕ) (known : DefinitionsKnown (tabled_of text) text (setting_in (tabled_of text) text))
    (typed : RegistersTyped (tabled_of text) text) (clear : NothingFails text) (is_written : IsWritten text) (tuples : TuplesHaveParts text)
    (fits : List Index → Pattern → Bool) (patterns : TextPatterns text fits) (around : Around)
    (types : around.types ≡ (Insides.parts text cycle known typed).types)
    (functions : around.functions ≡ (Insides.parts text cycle known typed).functions) where
  abbrev tabled : Tabled
  tabled = tabled_of text

  abbrev core : Parts
  core = Insides.parts text cycle known typed

  abbrev within : List Variable → Setting
  within = setting_in (tabled_of text) text

  abbrev names_at : ℕ → List ℕ → Tables.Setting
  names_at at name = names_setting (known_in text) (types_of text) Any (variables_in text name) at

  abbrev own : List Variable → List Index
  own variables = own_variables 0 (number_parameters variables)

  under_signature : (name : List ℕ) (s : Signature) → signature_in text name ≡ Some s → (names_at 0 name).types ≡ within_variables tabled s.variables
  under_signature name s e = ap (within_variables tabled) (sym (variables_are (types_of text).named text name s e))

  -- ---- what is around a body or a measure

  pub body_fits : (variables : List Variable) (answer : Option Shape) (names : Tables.Setting) → AreKnown (answering answer (within variables)) names
      → PatternsPass (fits (own variables)) (answering answer (within variables)) names
      → Fits around (own variables) (fits (own variables)) (answering answer (within variables)) names
  body_fits variables answer names are pass =
      fits_by text cycle known typed around types functions any_mapping (fits (own variables)) variables answer names are
      (λ p subject u written any e. pass.0 p subject u written e) (λ p subject u written any e. pass.1 p subject u written e) (patterns.unit (own variables))

  plain_fits : (variables : List Variable) (names : Tables.Setting) → AreKnown (plainly (within variables)) names
      → PatternsPass (fits (own variables)) (plainly (within variables)) names
      → Fits around (own variables) (fits (own variables)) (plainly (within variables)) names
  plain_fits variables names are pass = record {
    types = sym types;
    known = are;
    values = λ name.
        value_fits around core types functions (all_lets (tabled_of text) text) ((within variables).value name)
        (Insides.values text cycle known typed (all_lets (tabled_of text) text) variables name);
    added = λ operator. refl;
    sizes = λ typ n u e. sizes_own variables (within_variables tabled variables) refl typ n e;
    truths = λ typ c u e. truths_own variables (within_variables tabled variables) refl typ c e;
    converts = any_mapping;
    patterns = λ p subject u written any e. pass.0 p subject u written e;
    measures = λ p subject u written any e. pass.1 p subject u written e;
    unit = λ place. patterns.unit (own variables) place;
  }

  -- ---- one function

  body_passes : (name : List ℕ) (s : Signature) → signature_in text name ≡ Some s → (at : ℕ) (place : Place) (cs : List FunctionClause)
      → all_of (map clause_written cs) ≡ true → clauses_failures (names_at at name) cs ≡ [] → function_faults within (Some s) cs ≡ []
      → BodyPasses around (own s.variables) (fits (own s.variables)) (numbered (clauses_core place (signed_clauses (within s.variables) s cs)) 0).it
  unfolding body_fits fits_by
  body_passes name s signed at place cs q u f =
      let are : AreKnown (answering (Some (shape s.to)) (within s.variables)) (names_at at name) =
      known_here text clear is_written tuples s.variables (Some (shape s.to)) (names_at at name) refl (under_signature name s signed)
      (λ a h. (
        type_variables s.variables,
        subst (λ x. below (type_variables s.variables) x ≡ true) (some_same (shape s.to) a h) (signature_whole text name s signed).gives,
      )) in
      clauses_are around (own s.variables) (fits (own s.variables)) (numbered (clauses_core place (signed_clauses (within s.variables) s cs)) 0).it
      (body_clauses around (own s.variables) (fits (own s.variables)) (within s.variables) (param_shapes s.from) (shape s.to) (names_at at name)
      (body_fits s.variables (Some (shape s.to)) (names_at at name) are (patterns.bodies name s signed at)) (any_convert (names_at at name)) place cs 0 q
      (each_named (names_at at name) cs u) f)

  measure_passes : (name : List ℕ) (s : Signature) → signature_in text name ≡ Some s → (x : Measure) (at n : ℕ)
      → MeasureNamed (plain_at text at name) x → (all_of (map pattern_written x.parameters) && written x.value) ≡ true
      → measure_faults within (Some s) x.place x.parameters x.value ≡ []
      → BodyPasses around (own s.variables) (fits (own s.variables)) (numbered (measure_tree (within s.variables) (param_shapes s.from) x) n).it
  unfolding plain_fits
  measure_passes name s signed x at n it q f =
      let k = and_parts (all_of (map pattern_written x.parameters)) (written x.value) q in
      let are : AreKnown (plainly (within s.variables)) (plain_at text at name) =
      known_plainly text clear is_written tuples s.variables (plain_at text at name) refl (under_signature name s signed) in
      clauses_are around (own s.variables) (fits (own s.variables)) (numbered (measure_tree (within s.variables) (param_shapes s.from) x) n).it
      (measure_clauses around (own s.variables) (fits (own s.variables)) (within s.variables) (param_shapes s.from) (plain_at text at name)
      (plain_fits s.variables (plain_at text at name) are (patterns.measures name s signed at)) (any_convert (plain_at text at name))
      x n k.0 k.1 it.parameters it.value f)

  -- ---- what the text says of its measure

  abbrev faults : List Def → List ShapeError
  faults more = joined (map (called_faults tabled within) more)

  abbrev Fine : List ℕ → Measure → Type 0
  Fine name x = (measure_faults within (tabled.signature name) x.place x.parameters x.value ≡ [])
      × ((all_of (map pattern_written x.parameters) && written x.value) ≡ true)

  measure_fine : (name own : List ℕ) (place : Place) (parameters : List Pat) (value : Exp) (more : Option Measure) (x : Measure) (b : Bool)
      → bytes_eq own name ≡ b → measure_faults within (tabled.signature own) place parameters value ≡ []
      → (all_of (map pattern_written parameters) && written value) ≡ true → (more ≡ Some x → Fine name x)
      → option_or (if b then Some (record { place = place; parameters = parameters; value = value }) else None) more ≡ Some x → Fine name x
  measure_fine name own place parameters value more x true is e q later there =
      subst (Fine name) (some_same (record { place = place; parameters = parameters; value = value }) x there)
      (subst (λ n. measure_faults within (tabled.signature n) place parameters value ≡ []) (same_name own name is) e, q)
  measure_fine name own place parameters value more x false is e q later there = later there

  measures_fine : (name : List ℕ) (more : List Def) (x : Measure) → faults more ≡ [] → all_of (map definition_written more) ≡ true
      → measure_of name more ≡ Some x → Fine name x
  measures_fine name [] x e q there = none there
  measures_fine name ((D.Measure place own parameters value) ∷ more) x e q there =
      let b = both_empty (measure_faults within (tabled.signature own.text) place parameters value) (faults more) e in
      let k = and_parts (all_of (map pattern_written parameters) && written value) (all_of (map definition_written more)) q in
      measure_fine name own.text place parameters value (measure_of name more) x (bytes_eq own.text name) refl b.0 k.0
      (λ h. measures_fine name more x b.1 k.1 h) there
  measures_fine name (d ∷ more) x e q there =
      measures_fine name more x (both_empty (called_faults tabled within d) (faults more) e).1
      (and_parts (definition_written d) (all_of (map definition_written more)) q).1 there

  -- ---- the text

  module _ (fine : faults text ≡ []) where
    measured : (name : List ℕ) (s : Signature) → signature_in text name ≡ Some s → (o : Option Measure) → measure_of name text ≡ o → (n : ℕ) (y : Core)
        → (measure_core (within s.variables) (param_shapes s.from) o n).it ≡ Some y → BodyPasses around (own s.variables) (fits (own s.variables)) y
    measured name s signed None is n y e = none e
    measured name s signed (Some x) is n y e =
        let found = measure_found text clear.bodies is_written name x is in
        let k = measures_fine name text x fine is_written is in
        let faultless : measure_faults within (Some s) x.place x.parameters x.value ≡ [] =
        subst (λ t. measure_faults within t x.place x.parameters x.value ≡ []) signed k.0 in
        subst (BodyPasses around (own s.variables) (fits (own s.variables)))
        (some_same (numbered (measure_tree (within s.variables) (param_shapes s.from) x) n).it y e)
        (measure_passes name s signed x found.0 n found.1 k.1 faultless)

    def_passes : (at : ℕ) (d : Def) → body_failures text (known_in text) (types_of text) at d ≡ [] → IsSigned text d → definition_written d ≡ true
        → called_faults tabled within d ≡ [] → AllPass around fits (functions_of tabled text within cycle d)
    def_passes at (D.Function place extent name cs) u sig q f =
        subst (λ o. AllPass around fits (functions_if tabled text within place name.text cs o (cycle name.text))) (sym sig.1) (
          (
            body_passes name.text sig.0 sig.1 at place cs
                (and_parts (has_clauses extent cs && all_of (map clause_types_written cs)) (all_of (map clause_written cs)) q).1 u
                (subst (λ o. function_faults within o cs ≡ []) sig.1 f),
            λ y e.
                measured name.text sig.0 sig.1 (measure_of name.text text) refl
                (numbered (clauses_core place (signed_clauses (within sig.0.variables) sig.0 cs)) 0).next y e,
          ),
          tt,
        )
    def_passes at d u sig q f = tt

    each_passes : (at : ℕ) (rest : List Def) → body_failures_from text (known_in text) (types_of text) at rest ≡ [] → EachSigned text rest
        → all_of (map definition_written rest) ≡ true → faults rest ≡ [] → AllPass around fits (joined (map (functions_of tabled text within cycle) rest))
    each_passes at [] u sigs q f = tt
    each_passes at (d ∷ rest) u sigs q f =
        let u2 = apart (body_failures text (known_in text) (types_of text) at d) (body_failures_from text (known_in text) (types_of text) (at + 1) rest) u in
        let q2 = and_parts (definition_written d) (all_of (map definition_written rest)) q in
        let f2 = both_empty (called_faults tabled within d) (faults rest) f in
        all_join around fits (functions_of tabled text within cycle d) (joined (map (functions_of tabled text within cycle) rest))
        (def_passes at d u2.0 sigs.0 q2.0 f2.0) (each_passes (at + 1) rest u2.1 sigs.1 q2.1 f2.1)

    pub functions_pass : EachSigned text text → (i : ℕ) (f : Function) → slice_get (joined (map (functions_of tabled text within cycle) text)) i ≡ Some f
        → FunctionPasses around fits f
    functions_pass sigs i f e =
        pass_at around fits (joined (map (functions_of tabled text within cycle) text)) (each_passes 0 text clear.bodies sigs is_written fine) i f e

pub text_functions : FunctionsPass
text_functions text end cycle accepted kept is_written fits patterns around types functions i f there =
    let clear : NothingFails text = nothing_fails text end accepted in
    let tuples : TuplesHaveParts text = tuples_have_parts text is_written in
    let known : DefinitionsKnown (tabled_of text) text (setting_in (tabled_of text) text) = definitions_known text clear is_written tuples kept in
    let typed : RegistersTyped (tabled_of text) text = registers_typed text (types_known text clear.types) 0 text clear.bodies in
    functions_pass text cycle known typed clear is_written tuples fits patterns around types functions (unfailed text kept).called
    (each_signed text clear (types_known text clear.types) (vals_signed text (types_known text clear.types) 0 text clear.bodies) is_written) i f there
