-- The core of a text that nothing is refused for: its functions, directions and openings.
use Rattle.std.proofs.Common.{◌≡◌, ℕ, Bool, true, false, if◌then◌else◌, List, [], ◌∷◌, ◌++◌, map, take, drop, ap, ◌∙◌, refl, subst}
use Rattle.std.proofs.Common.{Option, Some, None}
use Rattle.std.proofs.lemmas.Bool.{and_parts}
use Rattle.std.specs.Option.{option_or}
use Rattle.std.specs.Str.{bytes_eq}
use Rattle.sail_base.specs.declared.place.Place.{Place}
use Rattle.sail_types.specs.Shapes.{shape}
use Rattle.sail_syntax.specs.declared.definitions.Def.{Def}
use Rattle.sail_syntax.specs.declared.definitions.Def.TheVariants as D
use Rattle.sail_syntax.specs.declared.definitions.FunctionClause.{FunctionClause}
use Rattle.sail_syntax.specs.declared.definitions.MappingClause.{MappingClause}
use Rattle.sail_syntax.specs.declared.expressions.Exp.{Exp}
use Rattle.sail_syntax.specs.declared.types.TyExp.{TyExp}
use Rattle.sail_kinds.specs.Scopes.{Within}
use Rattle.sail_kinds.specs.declared.scope.Variable.{Variable}
use Rattle.sail_signatures.specs.declared.signature.Signature.{Signature}
use Rattle.sail_core.specs.declared.model.Direction.{Direction}
use Rattle.sail_core.specs.declared.model.Function.{Function}
use Rattle.sail_core.specs.declared.model.Opening.{Opening}
use Rattle.sail_core.specs.declared.tree.Core.{Core}
use Rattle.core_numbers.specs.Numbers.{numbered}
use Rattle.shape_joins.proofs.JoinsLeast.{none, some_same}
use Rattle.shape_rules.specs.declared.error.ShapeError.{ShapeError}
use Rattle.shape_rules.specs.declared.locals.Local.{Local}
use Rattle.shape_rules.specs.Calls.{param_shapes}
use Rattle.shape_rules.specs.Scopes.{Setting, plainly}
use Rattle.shape_rules.specs.Written.{joined, shape_in}
use Rattle.shape_rules.proofs.Firsts.{none_failed}
use Rattle.shape_meanings.proofs.Settling.{both_empty, same_name}
use Rattle.shape_models.specs.Models.{Own, Tabled, mapping_of, overloads_faults, setting_of, within_variables}
use Rattle.shape_declarations.specs.Failures.{types_faults}
use Rattle.shape_clauses.specs.Clauses.{clauses_core}
use Rattle.shape_clauses.specs.Functions as Found
use Rattle.shape_clauses.specs.Functions.{called_faults, function_faults, function_in, functions_if, functions_of, measure_core, measure_faults, measure_of}
use Rattle.shape_clauses.specs.Functions.{signed_clauses}
use Rattle.shape_clauses.specs.Mappings.{directions_if, directions_of, mapping_faults}
use Rattle.shapes.specs.Failures.{all_faults, all_lets, lets_faults, lets_with, others_faults, own_in, state_faults}
use Rattle.shapes.specs.Resolved.{all_openings, in_text_order, initial_openings, initials_left, initials_openings, let_openings, lets_left, lets_openings}
use Rattle.shapes.specs.Resolved.{register_openings, registers_with, took}
use Rattle.soundness_forms.specs.Standing.{is_bound}
use Rattle.standing_cores.specs.Places.{places}
use Rattle.standing_cores.specs.Types.{types_read}
use Rattle.standing_cores.proofs.Forms.{bound_of, cast_bound}
use Rattle.standing_cores.proofs.Found.{found_stand}
use Rattle.standing_models.specs.Laws.{AllDirections, AllFunctions, AllOpenings, ClausesPlaced, FunctionPlaced, ModelsStand}
use Rattle.standing_models.specs.Reads.{called_reads, crossings_read, definition_reads, expression_reads, measure_reads, text_reads}
use Rattle.standing_models.proofs.Clauses.{backwards_placed, forwards_placed, function_placed, measure_placed}
use Rattle.standing_models.proofs.Numbered.{places_numbered}

all_functions : (fs gs : List Function) → AllFunctions fs → AllFunctions gs → AllFunctions (fs ++ gs)
all_functions [] gs h k = k
all_functions (f ∷ fs) gs h k = (h.0, all_functions fs gs h.1 k)

all_directions : (ds es : List Direction) → AllDirections ds → AllDirections es → AllDirections (ds ++ es)
all_directions [] es h k = k
all_directions (d ∷ ds) es h k = (h.0, all_directions ds es h.1 k)

both_openings : (os ps : List Opening) → AllOpenings os → AllOpenings ps → AllOpenings (os ++ ps)
both_openings [] ps h k = k
both_openings (o ∷ os) ps h k = (h.0, both_openings os ps h.1 k)

module _ (tabled : Tabled) (text : List Def) (own : Own) (lets : List Local) where
  abbrev setting : List Variable → Setting
  setting = setting_of tabled own text lets

  abbrev faults : List Def → List ShapeError
  faults more = joined (map (called_faults tabled setting) more)

  -- ---- the measure of a function

  abbrev IsGood : Option Signature → Found.Measure → Type 0
  IsGood s m = (measure_faults setting s m.place m.parameters m.value ≡ []) × (measure_reads tabled s m.value ≡ true)

  measure_step : (name named : List ℕ) (x : Found.Measure) (more : List Def) (m : Found.Measure) (b : Bool) → bytes_eq named name ≡ b
      → IsGood (tabled.signature named) x → (measure_of name more ≡ Some m → IsGood (tabled.signature name) m)
      → option_or (if b then Some x else None) (measure_of name more) ≡ Some m → IsGood (tabled.signature name) m
  measure_step name named x more m true is good later there =
      subst (λ (y : Found.Measure). IsGood (tabled.signature name) y) (some_same x m there)
      (subst (λ n. IsGood (tabled.signature n) x) (same_name named name is) good)
  measure_step name named x more m false is good later there = later there

  measure_good : (name : List ℕ) (more : List Def) (m : Found.Measure) → faults more ≡ [] → text_reads tabled more ≡ true → measure_of name more ≡ Some m
      → IsGood (tabled.signature name) m
  measure_good name [] m e r there = none there
  measure_good name ((D.Measure place named parameters value) ∷ more) m e r there =
      let b = both_empty (measure_faults setting (tabled.signature named.text) place parameters value) (faults more) e in
      let c = and_parts (measure_reads tabled (tabled.signature named.text) value) (text_reads tabled more) r in
      measure_step name named.text (record { place = place; parameters = parameters; value = value }) more m (bytes_eq named.text name) refl (b.0, c.0)
      (λ h. measure_good name more m b.1 c.1 h) there
  measure_good name (d ∷ more) m e r there =
      measure_good name more m (both_empty (called_faults tabled setting d) (faults more) e).1
      (and_parts (definition_reads tabled d) (text_reads tabled more) r).1 there

  measures_placed : (name : List ℕ) (s : Signature) (n : ℕ) → tabled.signature name ≡ Some s → (o : Option Found.Measure) → measure_of name text ≡ o
      → faults text ≡ [] → text_reads tabled text ≡ true → (core : Core) → (measure_core (setting s.variables) (param_shapes s.from) o n).it ≡ Some core
      → ClausesPlaced core
  measures_placed name s n signed None is e r core there = none there
  measures_placed name s n signed (Some m) is e r core there =
      let good = subst (λ (t : Option Signature). IsGood t m) signed (measure_good name text m e r is) in
      subst ClausesPlaced (some_same (numbered (Found.measure_tree (setting s.variables) (param_shapes s.from) m) n).it core there)
      (measure_placed (setting s.variables) (param_shapes s.from) m n good.1 good.0)

  -- ---- functions

  function_stands : (place : Place) (name : List ℕ) (clauses : List FunctionClause) (s : Signature) (cycle : Option ℕ) → tabled.signature name ≡ Some s
      → function_faults setting (Some s) clauses ≡ [] → called_reads tabled (Some s) clauses ≡ true → faults text ≡ [] → text_reads tabled text ≡ true
      → FunctionPlaced (function_in tabled text (setting s.variables) place name clauses s cycle)
  function_stands place name clauses s cycle signed e h all r = record {
    body = function_placed (setting s.variables) (param_shapes s.from) (shape s.to) place clauses 0 h e;
    measure = λ core is. measures_placed name s (numbered (clauses_core place (signed_clauses (setting s.variables) s clauses)) 0).next signed
        (measure_of name text) refl all r core is;
  }

  functions_signed : (place : Place) (name : List ℕ) (clauses : List FunctionClause) (cycle : Option ℕ) (o : Option Signature) → tabled.signature name ≡ o
      → function_faults setting o clauses ≡ [] → called_reads tabled o clauses ≡ true → faults text ≡ [] → text_reads tabled text ≡ true
      → AllFunctions (functions_if tabled text setting place name clauses o cycle)
  functions_signed place name clauses cycle None signed e h all r = tt
  functions_signed place name clauses cycle (Some s) signed e h all r = (function_stands place name clauses s cycle signed e h all r, tt)

  functions_stand : (cycle : List ℕ → Option ℕ) (more : List Def) → faults more ≡ [] → text_reads tabled more ≡ true → faults text ≡ []
      → text_reads tabled text ≡ true → AllFunctions (joined (map (functions_of tabled text setting cycle) more))
  functions_stand cycle [] e h all r = tt
  functions_stand cycle ((D.Function place extent name clauses) ∷ more) e h all r =
      let b = both_empty (function_faults setting (tabled.signature name.text) clauses) (faults more) e in
      let c = and_parts (called_reads tabled (tabled.signature name.text) clauses) (text_reads tabled more) h in
      all_functions (functions_if tabled text setting place name.text clauses (tabled.signature name.text) (cycle name.text)) _
      (functions_signed place name.text clauses (cycle name.text) (tabled.signature name.text) refl b.0 c.0 all r)
      (functions_stand cycle more b.1 c.1 all r)
  functions_stand cycle (d ∷ more) e h all r =
      functions_stand cycle more (both_empty (called_faults tabled setting d) (faults more) e).1
      (and_parts (definition_reads tabled d) (text_reads tabled more) h).1 all r

  -- ---- mappings

  directions_signed : (place : Place) (name : List ℕ) (cs : List MappingClause) (o : Option Signature)
      → crossings_read (within_variables tabled []) cs ≡ true → AllDirections (directions_if (setting []) place name cs o)
  directions_signed place name cs None h = tt
  directions_signed place name cs (Some s) h =
      (forwards_placed (setting []) place (mapping_of name 0 s) cs h, (backwards_placed (setting []) place (mapping_of name 0 s) cs h, tt))

  directions_stand : (more : List Def) → text_reads tabled more ≡ true → AllDirections (joined (map (directions_of tabled (setting [])) more))
  directions_stand [] h = tt
  directions_stand ((D.Mapping place name sides cs) ∷ more) h =
      let c = and_parts (crossings_read (within_variables tabled []) cs) (text_reads tabled more) h in
      all_directions (directions_if (setting []) place name.text cs (tabled.signature name.text)) _
      (directions_signed place name.text cs (tabled.signature name.text) c.0) (directions_stand more c.1)
  directions_stand (d ∷ more) h = directions_stand more (and_parts (definition_reads tabled d) (text_reads tabled more) h).1

-- ---- top-level lets and initial values

bound_numbered : (core : Core) → is_bound (places core) ≡ true → is_bound (places (numbered core 0).it) ≡ true
bound_numbered core h = ap is_bound (places_numbered core 0) ∙ h

module _ (tabled : Tabled) (own : Own) (text : List Def) where
  abbrev within : Within
  within = within_variables tabled []

  lets_stand : (lets : List Local) (more : List Def) → text_reads tabled more ≡ true → AllOpenings (lets_openings tabled own text lets more)
  lets_stand lets [] h = tt
  lets_stand lets ((D.Let place p value) ∷ more) h =
      let c = and_parts (types_read within value) (text_reads tabled more) h in
      both_openings (let_openings tabled own text lets (D.Let place p value)) _
      (bound_numbered _ (cast_bound _ _ (found_stand within value c.0 (plainly (setting_of tabled own text lets [])) refl [] _)), tt)
      (lets_stand (lets_with tabled own text lets (D.Let place p value)) more c.1)
  lets_stand lets (d ∷ more) h =
      lets_stand (lets_with tabled own text lets d) more (and_parts (definition_reads tabled d) (text_reads tabled more) h).1

  module _ (lets : List Local) where
    abbrev around : Setting
    around = setting_of tabled own text lets []

    register_stands : (r : ℕ) (place : Place) (typ : TyExp) (initial : Option Exp) → expression_reads within initial ≡ true
        → AllOpenings (register_openings around r place typ initial)
    register_stands r place typ None h = tt
    register_stands r place typ (Some value) h =
        (bound_numbered _ (bound_of _ (found_stand within value h (plainly around) refl [] (shape_in within typ))), tt)

    initials_stand : (r : ℕ) (more : List Def) → text_reads tabled more ≡ true → AllOpenings (initials_openings around r more)
    initials_stand r [] h = tt
    initials_stand r ((D.Register place name typ initial) ∷ more) h =
        let c = and_parts (expression_reads within initial) (text_reads tabled more) h in
        both_openings (initial_openings around r (D.Register place name typ initial)) _ (register_stands r place typ initial c.0)
        (initials_stand (registers_with r (D.Register place name typ initial)) more c.1)
    initials_stand r (d ∷ more) h = initials_stand (registers_with r d) more (and_parts (definition_reads tabled d) (text_reads tabled more) h).1

  -- those that are left or taken are among them
  first_taken : (os : List Opening) → AllOpenings os → AllOpenings (take 1 os)
  first_taken [] h = tt
  first_taken (o ∷ os) h = (h.0, tt)

  others_left : (os : List Opening) → AllOpenings os → AllOpenings (drop 1 os)
  others_left [] h = tt
  others_left (o ∷ os) h = h.1

  took_stand : (d : Def) (os ps : List Opening) → AllOpenings os → AllOpenings ps → AllOpenings (took d os ps)
  took_stand (D.Let place p value) os ps h k = first_taken os h
  took_stand (D.Register place name typ (Some value)) os ps h k = first_taken ps k
  took_stand (D.Register place name typ None) os ps h k = tt
  took_stand d os ps h k = tt

  lets_left_stand : (d : Def) (os : List Opening) → AllOpenings os → AllOpenings (lets_left d os)
  lets_left_stand (D.Let place p value) os h = others_left os h
  lets_left_stand d os h = h

  initials_left_stand : (d : Def) (ps : List Opening) → AllOpenings ps → AllOpenings (initials_left d ps)
  initials_left_stand (D.Register place name typ (Some value)) ps h = others_left ps h
  initials_left_stand (D.Register place name typ None) ps h = h
  initials_left_stand d ps h = h

  order_stands : (more : List Def) (os ps : List Opening) → AllOpenings os → AllOpenings ps → AllOpenings (in_text_order more os ps)
  order_stands [] os ps h k = tt
  order_stands (d ∷ more) os ps h k =
      both_openings (took d os ps) (in_text_order more (lets_left d os) (initials_left d ps)) (took_stand d os ps h k)
      (order_stands more (lets_left d os) (initials_left d ps) (lets_left_stand d os h) (initials_left_stand d ps k))

  openings_stand : (lets : List Local) → text_reads tabled text ≡ true → AllOpenings (all_openings tabled own text lets)
  openings_stand lets h =
      order_stands text (lets_openings tabled own text [] text) (initials_openings (setting_of tabled own text lets []) 0 text) (lets_stand [] text h)
      (initials_stand lets 0 text h)

pub models_placed : ModelsStand
models_placed tabled cycle text accepted reads =
    let own : Own = own_in tabled text in
    let lets : List Local = all_lets tabled text in
    let setting : List Variable → Setting = setting_of tabled own text lets in
    let called : List ShapeError = joined (map (called_faults tabled setting) text) in
    let mapped : List ShapeError = joined (map (mapping_faults tabled (setting [])) text) in
    let states : List ShapeError = joined (map (state_faults (setting [])) text) in
    let types : List ShapeError = types_faults tabled text in
    let all = both_empty (overloads_faults tabled.types own text ++ lets_faults tabled own text [] text) (others_faults tabled own text lets)
    (none_failed (all_faults tabled text) accepted) in
    let others = both_empty (types ++ called ++ mapped) states all.1 in
    let maps = both_empty (types ++ called) mapped others.0 in
    let calls = both_empty types called maps.0 in (
      functions_stand tabled text own lets cycle text calls.1 reads calls.1 reads,
      directions_stand tabled text own lets text reads,
      openings_stand tabled own text lets reads,
    )
