-- Each function of the core of a text that nothing is refused for stands by the rules of shapes: its body, and its measure.
use Rattle.std.proofs.Common.{◌≡◌, inl, inr, ℕ, zero, suc, ◌+◌, ◌<◌, List, [], ◌∷◌, ◌++◌, length, map, ap, sym, refl, subst, Bool, true, false, ◌&&◌}
use Rattle.std.proofs.Common.{Option, Some, None, if◌then◌else◌}
use Rattle.std.proofs.lemmas.Bool.{and_parts}
use Rattle.std.specs.Prelude.{slice_get}
use Rattle.std.specs.List.{list_all, list_any}
use Rattle.std.specs.Option.{option_or}
use Rattle.std.specs.Str.{bytes_eq}
use Rattle.sail_base.specs.declared.place.Place.{Place}
use Rattle.sail_syntax.specs.declared.definitions.Def.{Def}
use Rattle.sail_syntax.specs.declared.definitions.Def.TheVariants as D
use Rattle.sail_syntax.specs.declared.definitions.FunctionClause.{FunctionClause}
use Rattle.sail_syntax.specs.declared.expressions.Exp.{Exp}
use Rattle.sail_syntax.specs.declared.patterns.Pat.{Pat}
use Rattle.sail_types.specs.Named.{fields}
use Rattle.sail_types.specs.Shapes.{shape}
use Rattle.sail_types.specs.declared.shapes.Shape.{Shape}
use Rattle.sail_types.specs.declared.shapes.Shape.TheOpen as S
use Rattle.sail_types.specs.declared.shapes.Shape.TheVariants as V
use Rattle.sail_types.specs.declared.values.Value.{Value}
use Rattle.sail_kinds.specs.declared.scope.Variable.{Variable}
use Rattle.sail_core.specs.declared.model.CoreModel.{CoreModel}
use Rattle.sail_core.specs.declared.model.Function.{Function}
use Rattle.sail_core.specs.declared.tree.Core.{Core}
use Rattle.sail_core.specs.Making.{World}
use Rattle.sail_core.specs.Numbers.{givens_of}
use Rattle.core_numbers.specs.Numbers.{numbered}
use Rattle.sail_cycles.specs.declared.expressions.Which.TheVariants.{Patterns}
use Rattle.sail_cycles.specs.Callees.{expression_callees, pattern_callees}
use Rattle.sail_names.specs.declared.around.Allowed.TheVariants.{Any}
use Rattle.sail_names.specs.Clauses.{behind_parameters, function_clause_failures}
use Rattle.sail_names.specs.Known as Tables
use Rattle.sail_names.specs.Patterns.{parameters_failures}
use Rattle.sail_names.specs.Uses.{expression_failures, maybe_type}
use Rattle.type_definitions.specs.Defined.{types_of}
use Rattle.sail_signatures.specs.declared.signature.Signature.{Signature}
use Rattle.sail_signatures.specs.Signatures.{variables_in}
use Rattle.known_names.specs.Meanings.{known_in}
use Rattle.sail_bodies.specs.Bodies.{body_failures, body_failures_from, clauses_failures, setting as names_setting}
use Rattle.sail_tables.specs.Refused.{signature_in}
use Rattle.shape_joins.proofs.JoinsLeast.{none, some_same}
use Rattle.shape_joins.proofs.Order.{no}
use Rattle.shape_rules.specs.declared.error.ShapeError.{ShapeError}
use Rattle.shape_rules.specs.declared.locals.Local.{Local}
use Rattle.shape_rules.specs.Calls.{param_shapes, parameters_of}
use Rattle.shape_rules.specs.Scopes.{Setting, answering, plainly}
use Rattle.shape_rules.specs.Written.{joined, tells_number}
use Rattle.shape_models.specs.Models.{Tabled, type_variables, within_variables}
use Rattle.shape_declarations.specs.Signatures.{number_parameters}
use Rattle.shape_clauses.specs.Clauses.{clauses_core, clauses_faults}
use Rattle.shape_clauses.specs.Functions.{Measure, called_faults, function_clause, function_faults, function_in, functions_if, functions_of}
use Rattle.shape_clauses.specs.Functions.{measure_clause, measure_core, measure_faults, measure_of, measure_tree, signed_clauses}
use Rattle.shape_meanings.specs.Keeping.{FitAll, reach_of}
use Rattle.shape_meanings.specs.Naming.{AreKnown}
use Rattle.shape_meanings.specs.Trees as Trees
use Rattle.shape_meanings.specs.Trees.{pattern_written}
use Rattle.shape_meanings.specs.Whole.{Choice, all_below, all_of, below}
use Rattle.shape_meanings.specs.Worlds.{FieldsBelow}
use Rattle.shape_meanings.proofs.Matching.{leaf_below}
use Rattle.shape_meanings.proofs.Settling.{both_empty, same_name}
use Rattle.shapes.specs.Failures.{all_lets}
use Rattle.shapes.specs.Resolved.{resolved}
use Rattle.shapes.specs.Tabled.{tabled_of}
use Rattle.known_texts.specs.Known.{DefinitionsKnown}
use Rattle.known_texts.specs.Values.{RegistersTyped}
use Rattle.known_texts.specs.Whole.{setting_in}
use Rattle.known_texts.specs.Accepted.{NothingFails}
use Rattle.known_texts.proofs.Failures.{apart}
use Rattle.known_texts.proofs.TableFormed.{RowsFormed, all_so_far, fields_below}
use Rattle.known_texts.specs.KnownTexts.{IsWhole}
use Rattle.known_texts.specs.Signed.{EachSigned, IsSigned}
use Rattle.known_texts.specs.Written.{IsWritten, clause_types_written, clause_written, definition_written, has_clauses}
use Rattle.known_texts.proofs.Assembled.{known_here, known_plainly}
use Rattle.known_texts.proofs.Formed.{signature_whole}
use Rattle.known_texts.proofs.Named.{MeasureNamed, measure_found, plain_at}
use Rattle.known_texts.proofs.Signed.{variables_are}
use Rattle.known_texts.proofs.Tuples.{TuplesHaveParts}
use Rattle.model_progress.specs.Shaped as Shaped
use Rattle.model_progress.specs.Shaped.{Around, Common, FunctionHas, IsCalled, common_of, reach_in}
use Rattle.shape_stands.specs.Inside.{Inside, Position}
use Rattle.shape_stands.specs.Manner.{manner}
use Rattle.shape_stands.specs.Stands.{Converting, HasShape}
use Rattle.text_progress.specs.Manners.{HasManners, clauses_full, definition_manner, is_full, is_quiet}
use Rattle.text_progress.specs.Positions.{Given, NamesAre, in_body, in_plain}
use Rattle.text_progress.proofs.Clauses.{AllConverting, ClauseStands, ClausesStand, clauses_shaped, one_stands}
use Rattle.text_progress.proofs.Insides.{Ways}
use Rattle.text_progress.proofs.Numbered.{shaped_numbered}
use Rattle.text_progress.proofs.TextInsides.{body_inside, lets_seen, measured_inside, same_reach}

-- ---- nothing is asked of conversions in a function, where a pattern can convert by any mapping

all_true : (xs : List ℕ) → list_all (λ q. true) xs ≡ true
all_true [] = refl
all_true (x ∷ xs) = all_true xs

each_converts : (here : Position) → ((xs : List ℕ) → Converting here xs) → (ps : List Pat) → AllConverting here ps
each_converts here all [] = tt
each_converts here all (p ∷ ps) = (all (pattern_callees here.names.known p), each_converts here all ps)

-- ---- functions

abbrev pub AllHave : Common → CoreModel → (ℕ → ℕ) → List Function → Type 0
AllHave common m rank [] = Unit {0}
AllHave common m rank (f ∷ fs) = FunctionHas common m rank f × AllHave common m rank fs

all_have_join : (common : Common) (m : CoreModel) (rank : ℕ → ℕ) (fs gs : List Function) → AllHave common m rank fs → AllHave common m rank gs
    → AllHave common m rank (fs ++ gs)
all_have_join common m rank [] gs h k = k
all_have_join common m rank (f ∷ fs) gs h k = (h.0, all_have_join common m rank fs gs h.1 k)

pub has_at : (common : Common) (m : CoreModel) (rank : ℕ → ℕ) (fs : List Function) → AllHave common m rank fs → (i : ℕ) (f : Function)
    → slice_get fs i ≡ Some f → FunctionHas common m rank f
has_at common m rank [] h i f e = none e
has_at common m rank (x ∷ fs) h zero f e = subst (FunctionHas common m rank) (some_same x f e) h.0
has_at common m rank (x ∷ fs) h (suc i) f e = has_at common m rank fs h.1 i f e

module _ (text : List Def) (cycle : List ℕ → Option ℕ) (known : DefinitionsKnown (tabled_of text) text (setting_in (tabled_of text) text))
    (typed : RegistersTyped (tabled_of text) text) (clear : NothingFails text) (is_written : IsWritten text) (parts : TuplesHaveParts text)
    (rank : ℕ → ℕ) where
  abbrev tabled : Tabled
  tabled = tabled_of text

  abbrev m : CoreModel
  m = resolved (tabled_of text) cycle text

  abbrev shapes : List Shape
  shapes = map (λ (l : Local). l.shape) (all_lets (tabled_of text) text)

  abbrev common : Common
  common = common_of m shapes

  abbrev within : List Variable → Setting
  within = setting_in (tabled_of text) text

  abbrev names_at : ℕ → List ℕ → Tables.Setting
  names_at at name = names_setting (known_in text) (types_of text) Any (variables_in text name) at

  under_signature : (name : List ℕ) (s : Signature) → signature_in text name ≡ Some s → (names_at 0 name).types ≡ within_variables tabled s.variables
  under_signature name s e = ap (within_variables tabled) (sym (variables_are (types_of text).named text name s e))

  below_fields : (setting : Setting) → setting.types ≡ tabled.types → (i : ℕ) → FieldsBelow setting i (fields setting.types i)
  below_fields setting same = fields_below setting (subst (λ t. RowsFormed t t.definitions) (sym same) (all_so_far text).rows)

  -- type variables have the numbers that the arguments told
  module _ (told : (name : List ℕ) (s : Signature) → signature_in text name ≡ Some s → (j : ℕ) → j < length (number_parameters s.variables)
      → list_any (tells_number j) (parameters_of s.from) ≡ true)
      (body_given : (name : List ℕ) (s : Signature) → signature_in text name ≡ Some s → (names : Tables.Setting) → NamesAre text s.variables names
      → (w : World Value) → givens_of (length (number_parameters s.variables)) (parameters_of s.from) w.arguments ≡ Some w.numbers
      → Given (in_body text s.variables (Some (shape s.to)) names (λ q. true)) w × Given (in_plain text s.variables names) w)
      (closed : all_below 0 common.registers ≡ true)
      (all_ways : (variables : List Variable) (name : List ℕ) → Ways (λ n. rank n < length m.directions) ((within variables).value name)) where
    -- the body

    module _ (name : List ℕ) (s : Signature) (signed : signature_in text name ≡ Some s) (at : ℕ) where
      abbrev whole : IsWhole tabled.types s
      whole = signature_whole text name s signed

      abbrev names : Tables.Setting
      names = names_at at name

      abbrev body_here : Position
      body_here = in_body text s.variables (Some (shape s.to)) (names_at at name) (λ q. true)

      body_known : AreKnown (in_body text s.variables (Some (shape s.to)) (names_at at name) (λ q. true)).setting (names_at at name)
      body_known =
          known_here text clear is_written parts s.variables (Some (shape s.to)) (names_at at name) refl (under_signature name s signed)
          (λ a h. (
            type_variables s.variables,
            subst (λ x. below (type_variables s.variables) x ≡ true) (some_same (shape s.to) a h)
                (signature_whole text name s signed).gives,
          ))

      clause_has : (c : FunctionClause) → clause_written c ≡ true → is_full c.body ≡ true → function_clause_failures (names_at at name) c ≡ []
          → (function_clause (within s.variables) (param_shapes s.from) (shape s.to) c).faults ≡ []
          → ClauseStands body_here (param_shapes s.from) (shape s.to)
          (function_clause (within s.variables) (param_shapes s.from) (shape s.to) c).arm
          (function_clause (within s.variables) (param_shapes s.from) (shape s.to) c).body
      clause_has c w full u f =
          let a = apart (parameters_failures (names_at at name) c.parameters ++ maybe_type c.result (names_at at name))
          (expression_failures c.body (names_at at name) (behind_parameters (names_at at name) c.parameters [])) u in
          let b = apart (parameters_failures (names_at at name) c.parameters) (maybe_type c.result (names_at at name)) a.0 in
          one_stands body_here body_known c.place (param_shapes s.from) (signature_whole text name s signed).counts (shape s.to) (type_variables s.variables)
          (signature_whole text name s signed).gives c.parameters b.0 (each_converts body_here (λ xs any. all_true xs) c.parameters) c.result b.1 c.body
          (and_parts (all_of (map pattern_written c.parameters)) (Trees.written c.body) w).1 a.1 (inl refl, full)
          (λ any. all_true (expression_callees Patterns (names_at at name).known c.body)) f

      clauses_have : (cs : List FunctionClause) → all_of (map clause_written cs) ≡ true → clauses_full cs ≡ true
          → clauses_failures (names_at at name) cs ≡ [] → clauses_faults (signed_clauses (within s.variables) s cs) ≡ []
          → ClausesStand body_here (param_shapes s.from) (shape s.to) (signed_clauses (within s.variables) s cs)
      clauses_have [] w full u f = tt
      clauses_have (c ∷ cs) w full u f =
          let w2 = and_parts (clause_written c) (all_of (map clause_written cs)) w in
          let g2 = and_parts (is_full c.body) (clauses_full cs) full in
          let u2 = apart (function_clause_failures (names_at at name) c) (clauses_failures (names_at at name) cs) u in
          let f2 = both_empty (function_clause (within s.variables) (param_shapes s.from) (shape s.to) c).faults
          (clauses_faults (signed_clauses (within s.variables) s cs)) f in
          (clause_has c w2.0 g2.0 u2.0 f2.0, clauses_have cs w2.1 g2.1 u2.1 f2.1)

      body_has : (place : Place) (cs : List FunctionClause) → ClausesStand body_here (param_shapes s.from) (shape s.to) (signed_clauses (within s.variables) s cs)
          → (w : World Value) → Around common m rank (length m.directions) w → (c : Choice)
          → IsCalled common (function_in tabled text (within s.variables) place name cs s (cycle name)) c w
          → Shaped.HasShape (reach_in common (Some (shape s.to)) c []) w (shape s.to)
          (numbered (clauses_core place (signed_clauses (within s.variables) s cs)) 0).it
      body_has place cs stand w around c called =
          let inside : Inside body_here common.registers c w =
          body_inside text cycle known typed rank (length m.directions) c w around s.variables (Some (shape s.to)) (names_at at name) (λ q. true) body_known
          closed (body_given name s signed (names_at at name) (record { known = refl; within = under_signature name s signed }) w called.1).0
          (λ nm is may. all_ways s.variables nm) (below_fields (answering (Some (shape s.to)) (within s.variables)) refl) in
          let has : HasShape w (reach_of body_here.setting common.registers c []) (shape s.to) (clauses_core place (signed_clauses (within s.variables) s cs)) =
          clauses_shaped body_here (param_shapes s.from) (shape s.to) place (signed_clauses (within s.variables) s cs) stand common.registers c w inside
          called.0 in
          let back : HasShape w (reach_in common (Some (shape s.to)) c []) (shape s.to) (clauses_core place (signed_clauses (within s.variables) s cs)) =
          subst (λ r. HasShape w r (shape s.to) (clauses_core place (signed_clauses (within s.variables) s cs)))
          (sym (same_reach text cycle known typed s.variables (Some (shape s.to)) c [])) has in (
            back.0,
            shaped_numbered back.0 w (reach_in common (Some (shape s.to)) c []) (shape s.to)
                (clauses_core place (signed_clauses (within s.variables) s cs)) 0 back.1,
          )

    -- the measure

    module _ (name : List ℕ) (s : Signature) (signed : signature_in text name ≡ Some s) (x : Measure) (at : ℕ)
        (it : MeasureNamed (plain_at text at name) x) (quiet : is_quiet x.value ≡ true)
        (f : (measure_clause (within s.variables) x.place (param_shapes s.from) x.parameters x.value).faults ≡ []) where
      abbrev plain_names : Tables.Setting
      plain_names = plain_at text at name

      abbrev plain_here : Position
      plain_here = in_plain text s.variables (plain_at text at name)

      plain_known : AreKnown (in_plain text s.variables (plain_at text at name)).setting (plain_at text at name)
      plain_known = known_plainly text clear is_written parts s.variables (plain_at text at name) refl (under_signature name s signed)

      measure_stands : ClauseStands plain_here (param_shapes s.from) V.Int
          (measure_clause (within s.variables) x.place (param_shapes s.from) x.parameters x.value).arm
          (measure_clause (within s.variables) x.place (param_shapes s.from) x.parameters x.value).body
      measure_stands =
          let q = and_parts (manner x.value).is_plain (manner x.value).is_full quiet in
          one_stands plain_here plain_known x.place (param_shapes s.from) (signature_whole text name s signed).counts V.Int 0 (leaf_below 0 S.Int V.Int V.rolls-Int refl) x.parameters it.parameters
          (each_converts plain_here (λ xs any. no any) x.parameters) None refl x.value
          (and_parts (all_of (map pattern_written x.parameters)) (Trees.written x.value) it.is_written).1 it.value (inr q.0, q.1) (λ any. no any) f

      measure_has : (n : ℕ) (w : World Value) → Around common m rank (length m.directions) w → (c : Choice)
          → FitAll tabled.types c (param_shapes s.from) w.arguments
          → givens_of (length (number_parameters s.variables)) (parameters_of s.from) w.arguments ≡ Some w.numbers
          → Shaped.HasShape (reach_in common None c []) w V.Int
          (numbered (measure_tree (within s.variables) (param_shapes s.from) x) n).it
      measure_has n w around c fit gave =
          let given = (body_given name s signed (plain_at text at name) (record { known = refl; within = under_signature name s signed }) w gave).1 in
          let inside : Inside plain_here common.registers c w =
          measured_inside text cycle known typed s.variables (plain_at text at name) common.registers c w plain_known refl closed
          (lets_seen text cycle known typed s.variables (plain_at text at name) c w (around.lets c)) given
          (below_fields (plainly (within s.variables)) refl) in
          let tree : Core = measure_tree (within s.variables) (param_shapes s.from) x in
          let has : HasShape w (reach_of plain_here.setting common.registers c []) V.Int tree =
          clauses_shaped plain_here (param_shapes s.from) V.Int x.place
          (measure_clause (within s.variables) x.place (param_shapes s.from) x.parameters x.value ∷ []) (measure_stands, tt) common.registers c w inside fit in
          let back : HasShape w (reach_in common None c []) V.Int tree =
          subst (λ r. HasShape w r V.Int tree) (sym (same_reach text cycle known typed s.variables None c [])) has in
          (back.0, shaped_numbered back.0 w (reach_in common None c []) V.Int tree n back.1)

    -- what the text says of its measure

    abbrev faults : List Def → List ShapeError
    faults more = joined (map (called_faults tabled within) more)

    measure_fine : (name own : List ℕ) (place : Place) (parameters : List Pat) (value : Exp) (more : Option Measure) (x : Measure) (b : Bool)
        → bytes_eq own name ≡ b → measure_faults within (tabled.signature own) place parameters value ≡ [] → is_quiet value ≡ true
        → (more ≡ Some x → (measure_faults within (tabled.signature name) x.place x.parameters x.value ≡ []) × (is_quiet x.value ≡ true))
        → option_or (if b then Some (record { place = place; parameters = parameters; value = value }) else None) more ≡ Some x
        → (measure_faults within (tabled.signature name) x.place x.parameters x.value ≡ []) × (is_quiet x.value ≡ true)
    measure_fine name own place parameters value more x true is e q later there =
        subst (λ (y : Measure). (measure_faults within (tabled.signature name) y.place y.parameters y.value ≡ []) × (is_quiet y.value ≡ true))
        (some_same (record { place = place; parameters = parameters; value = value }) x there)
        (subst (λ n. measure_faults within (tabled.signature n) place parameters value ≡ []) (same_name own name is) e, q)
    measure_fine name own place parameters value more x false is e q later there = later there

    measures_fine : (name : List ℕ) (more : List Def) (x : Measure) → faults more ≡ [] → all_of (map definition_manner more) ≡ true
        → measure_of name more ≡ Some x → (measure_faults within (tabled.signature name) x.place x.parameters x.value ≡ []) × (is_quiet x.value ≡ true)
    measures_fine name [] x e q there = none there
    measures_fine name ((D.Measure place own parameters value) ∷ more) x e q there =
        let b = both_empty (measure_faults within (tabled.signature own.text) place parameters value) (faults more) e in
        let k = and_parts (is_quiet value) (all_of (map definition_manner more)) q in
        measure_fine name own.text place parameters value (measure_of name more) x (bytes_eq own.text name) refl b.0 k.0
        (λ h. measures_fine name more x b.1 k.1 h) there
    measures_fine name (d ∷ more) x e q there =
        measures_fine name more x (both_empty (called_faults tabled within d) (faults more) e).1
        (and_parts (definition_manner d) (all_of (map definition_manner more)) q).1 there

    module _ (fine : faults text ≡ []) (manners : HasManners text) where
      measured : (name : List ℕ) (s : Signature) → signature_in text name ≡ Some s → (o : Option Measure) → measure_of name text ≡ o → (n : ℕ) (y : Core)
          → (measure_core (within s.variables) (param_shapes s.from) o n).it ≡ Some y → (w : World Value) → Around common m rank (length m.directions) w
          → (c : Choice) → FitAll tabled.types c (param_shapes s.from) w.arguments
          → givens_of (length (number_parameters s.variables)) (parameters_of s.from) w.arguments ≡ Some w.numbers
          → Shaped.HasShape (reach_in common None c []) w V.Int y
      measured name s signed None is n y e w around c fit gave = none e
      measured name s signed (Some x) is n y e w around c fit gave =
          let found = measure_found text clear.bodies is_written name x is in
          let k = measures_fine name text x fine manners is in
          let faultless : measure_faults within (Some s) x.place x.parameters x.value ≡ [] =
          subst (λ t. measure_faults within t x.place x.parameters x.value ≡ []) signed k.0 in
          subst (Shaped.HasShape (reach_in common None c []) w V.Int)
          (some_same (numbered (measure_tree (within s.variables) (param_shapes s.from) x) n).it y e)
          (measure_has name s signed x found.0 found.1 k.1 faultless n w around c fit gave)

      function_has : (at : ℕ) (place : Place) (name : List ℕ) (cs : List FunctionClause) (s : Signature) → signature_in text name ≡ Some s
          → all_of (map clause_written cs) ≡ true → clauses_full cs ≡ true → clauses_failures (names_at at name) cs ≡ []
          → function_faults within (Some s) cs ≡ []
          → FunctionHas common m rank (function_in tabled text (within s.variables) place name cs s (cycle name))
      function_has at place name cs s signed w full u f = record {
        numbers = told name s signed;
        measure = λ y e v around c called.
            measured name s signed (measure_of name text) refl (numbered (clauses_core place (signed_clauses (within s.variables) s cs)) 0).next y e v around c
            called.0 called.1;
        body = λ v around c called. body_has name s signed at place cs (clauses_have name s signed at cs w full u f) v around c called;
      }

      def_has : (at : ℕ) (d : Def) → body_failures text (known_in text) (types_of text) at d ≡ [] → IsSigned text d → definition_written d ≡ true
          → definition_manner d ≡ true → called_faults tabled within d ≡ [] → AllHave common m rank (functions_of tabled text within cycle d)
      def_has at (D.Function place extent name cs) u sig w q f =
          let k = and_parts (has_clauses extent cs && all_of (map clause_types_written cs)) (all_of (map clause_written cs)) w in
          subst (λ o. AllHave common m rank (functions_if tabled text within place name.text cs o (cycle name.text))) (sym sig.1)
          (function_has at place name.text cs sig.0 sig.1 k.1 q u (subst (λ o. function_faults within o cs ≡ []) sig.1 f), tt)
      def_has at d u sig w q f = tt

      each_has : (at : ℕ) (rest : List Def) → body_failures_from text (known_in text) (types_of text) at rest ≡ [] → EachSigned text rest
          → all_of (map definition_written rest) ≡ true → all_of (map definition_manner rest) ≡ true → faults rest ≡ []
          → AllHave common m rank (joined (map (functions_of tabled text within cycle) rest))
      each_has at [] u sigs w q f = tt
      each_has at (d ∷ rest) u sigs w q f =
          let u2 = apart (body_failures text (known_in text) (types_of text) at d) (body_failures_from text (known_in text) (types_of text) (at + 1) rest) u in
          let w2 = and_parts (definition_written d) (all_of (map definition_written rest)) w in
          let q2 = and_parts (definition_manner d) (all_of (map definition_manner rest)) q in
          let f2 = both_empty (called_faults tabled within d) (faults rest) f in
          all_have_join common m rank (functions_of tabled text within cycle d) (joined (map (functions_of tabled text within cycle) rest))
          (def_has at d u2.0 sigs.0 w2.0 q2.0 f2.0) (each_has (at + 1) rest u2.1 sigs.1 w2.1 q2.1 f2.1)

      pub functions_have : EachSigned text text → (i : ℕ) (f : Function) → slice_get m.functions i ≡ Some f → FunctionHas common m rank f
      functions_have sigs i f e = has_at common m rank m.functions (each_has 0 text clear.bodies sigs is_written manners fine) i f e
