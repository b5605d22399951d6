-- The core of an accepted text passes the test of models.
use Rattle.std.proofs.Common.{◌≡◌, ℕ, suc, List, [], ◌∷◌, ◌++◌, map, length, ap, sym, ◌∙◌, refl, subst, Bool, true, false, ◌&&◌, Option, Some, None}
use Rattle.std.specs.Prelude.{slice_get}
use Rattle.std.specs.List.{list_all}
use Rattle.std.proofs.lemmas.Bool.{and_parts}
use Rattle.sail_types.specs.declared.numbers.Index.{Index}
use Rattle.sail_types.specs.declared.table.Types.{Types}
use Rattle.sail_core.specs.declared.model.CoreModel.{CoreModel}
use Rattle.sail_core.specs.declared.model.Direction.{Direction}
use Rattle.sail_core.specs.declared.model.Function.{Function}
use Rattle.sail_core.specs.declared.model.Opening.{Opening}
use Rattle.sail_core.specs.declared.patterns.Arm.{Arm}
use Rattle.sail_core.specs.declared.patterns.Arm.TheVariants as A
use Rattle.sail_core.specs.declared.patterns.Form.{Form}
use Rattle.sail_core.specs.declared.patterns.Form.TheVariants as F
use Rattle.sail_core.specs.declared.patterns.Pattern.{Pattern, Pattern-F, fold-roll-Pattern, ind-Pattern, map-Pattern, roll-Pattern}
use Rattle.sail_core.specs.declared.tree.Core.{Core, Core-F, fold-roll-Core, ind-Core, map-Core, out-Core, roll-Core}
use Rattle.sail_core.specs.declared.tree.Kind.{Kind}
use Rattle.sail_core.specs.declared.tree.Kind.TheVariants as K
use Rattle.sail_core.specs.declared.tree.Statement.{Statement}
use Rattle.sail_core.specs.declared.tree.Statement.TheVariants as S
use Rattle.pattern_leaves.specs.Settings.{Around}
use Rattle.pattern_leaves.specs.declared.names.TopLevel.{TopLevel}
use Rattle.constraint_gen.specs.Models.{around_of, around_with, lets_behind, names_of}
use Rattle.call_fits.specs.Calls as Fits
use Rattle.function_notes.specs.Functions.{arm_of, bare_form, bare_of, bare_pattern, is_typed, only}
use Rattle.pattern_laws.specs.Standing.{arm_stands, each_stands, form_stands, stands}
use Rattle.shape_joins.proofs.Order.{two}
use Rattle.shapes.specs.Tabled.{tabled_of}
use Rattle.soundness_binding.specs.Patterned.{arms_stand, lets_stand, patterns_stand}
use Rattle.soundness_forms.specs.Standing.{is_body, kind_stands, standing}
use Rattle.soundness_sizes.specs.Kinds.{sizes_stand}
use Rattle.sail_soundness.specs.Whole.{core_fits, kind_asks, node_fits}
use Rattle.standing_cores.proofs.Standing.{stands_as}
use Rattle.standing_models.specs.Laws.{AllDirections, AllFunctions, AreBodies, ClausesPlaced, FunctionPlaced}
use Rattle.standing_models.specs.Tests.{arm_tested, arms_tested, kind_fits, lets_tested, node_passes, passes, patterns_tested}
use Rattle.standing_models.proofs.Models.{models_placed}
use Rattle.standing_models.proofs.PassingNumbered.{passes_kinds}
use Rattle.standing_texts.specs.Bodies.{BodyPasses, DirectionPasses, FunctionPasses, TextPatterns}
use Rattle.standing_texts.proofs.BodiesPass.{text_functions}
use Rattle.standing_texts.proofs.MappingsPass.{text_directions}
use Rattle.standing_texts.proofs.TextsRead.{text_types}
use Rattle.text_progress.specs.Laws.{core_of}
use Rattle.safe_models.specs.Accepted.{AcceptedTextsFit}
use Rattle.safe_models.proofs.PatternsPass.{patterns_pass}
use Rattle.safe_models.specs.CoreTests.{are_clauses, arms_fit, bodies_fit, clauses_fit, direction_fits}
use Rattle.safe_models.specs.ModelTests.{function_fits, measure_fits}

-- ---- what is around all nodes

pub types_kept : (m : CoreModel) (lets : List TopLevel) (os : List Opening) → (lets_behind (around_with m lets) os).types ≡ m.types
types_kept m lets [] = refl
types_kept m lets (o ∷ os) = types_kept m (lets ++ names_of (around_with m lets) o o.kind) os

pub functions_kept : (m : CoreModel) (lets : List TopLevel) (os : List Opening) → (lets_behind (around_with m lets) os).functions ≡ m.functions
functions_kept m lets [] = refl
functions_kept m lets (o ∷ os) = functions_kept m (lets ++ names_of (around_with m lets) o o.kind) os

module _ (around : Around) (numbers : List Index) where
  abbrev test : Pattern → Bool
  test = stands around.types numbers

  -- ---- patterns in nodes

  pub arm_same : (arm : Arm) → arm_tested (stands around.types numbers) arm ≡ arm_stands around.types numbers arm
  arm_same (A.Nested ps) = refl
  arm_same (A.Flat count steps) = refl

  arms_same : (arms : List Arm) → arms_tested (stands around.types numbers) arms ≡ arms_stand around.types numbers arms
  arms_same [] = refl
  arms_same (arm ∷ arms) = λ i. arm_same arm i && arms_same arms i

  lets_same : (ss : List Statement) → lets_tested (stands around.types numbers) ss ≡ lets_stand around.types numbers ss
  lets_same [] = refl
  lets_same (S.Evaluate ∷ ss) = lets_same ss
  lets_same (S.Define at arm ∷ ss) = λ i. arm_same arm i && lets_same ss i
  lets_same (S.Declare name written ∷ ss) = lets_same ss

  patterns_same : (kind : Kind) → patterns_tested (stands around.types numbers) kind ≡ patterns_stand around.types numbers kind
  patterns_same (K.Let arm) = arm_same arm
  patterns_same (K.Block ss) = lets_same ss
  patterns_same (K.Match arms shape) = arms_same arms
  patterns_same (K.Try arms shape) = arms_same arms
  patterns_same (K.Clauses arms) = arms_same arms
  patterns_same kind = refl

  -- ---- an expression

  abbrev Fit : Core → Type 0
  Fit c = passes around numbers (stands around.types numbers) c ≡ true → core_fits around.types numbers c ≡ true

  abbrev Such : Type 0
  Such = (c : Core) × Fit c

  abbrev bare : List Such → List Core
  bare ys = map (λ (y : Such). y.0) ys

  parts_fit : (ys : List Such) → list_all (λ b. b) (map (passes around numbers (stands around.types numbers)) (bare ys)) ≡ true
      → list_all (λ b. b) (map (core_fits around.types numbers) (bare ys)) ≡ true
  parts_fit [] h = refl
  parts_fit (y ∷ ys) h =
      let b = and_parts (passes around numbers (stands around.types numbers) y.0)
      (list_all (λ b. b) (map (passes around numbers (stands around.types numbers)) (bare ys))) h in
      two (core_fits around.types numbers y.0) (list_all (λ b. b) (map (core_fits around.types numbers) (bare ys))) (y.1 b.0) (parts_fit ys b.1)

  node_fit : (y : Core-F Such) → Fit (roll-Core (map-Core Such Core (λ q. q.0) y))
  node_fit y h =
      let d : Core-F Core = map-Core Such Core (λ q. q.0) y in
      let bs : List Bool = map (passes around numbers (stands around.types numbers)) d.parts in
      let b = and_parts (kind_fits around numbers (stands around.types numbers) d.kind (length bs)) (list_all (λ b. b) bs)
      (sym (fold-roll-Core Bool (node_passes around numbers (stands around.types numbers)) d) ∙ h) in
      let p = and_parts (kind_stands around d.kind (length bs)) (patterns_tested (stands around.types numbers) d.kind && sizes_stand numbers d.kind) b.0 in
      let s = and_parts (patterns_tested (stands around.types numbers) d.kind) (sizes_stand numbers d.kind) p.1 in
      fold-roll-Core Bool (node_fits around.types numbers) d
      ∙ two (kind_asks around.types numbers d.kind) (list_all (λ b. b) (map (core_fits around.types numbers) d.parts))
      (two (patterns_stand around.types numbers d.kind) (sizes_stand numbers d.kind) (sym (patterns_same d.kind) ∙ s.0) s.1) (parts_fit y.parts b.1)

  pub core_fit : (c : Core) → Fit c
  core_fit = ind-Core Fit (λ c y e. subst (λ d. Fit (roll-Core d)) e (node_fit y))

  bodies_are : (cs : List Core) → list_all (λ b. b) (map (passes around numbers (stands around.types numbers)) cs) ≡ true
      → AreBodies cs → bodies_fit around numbers cs ≡ true
  bodies_are [] h bs = refl
  bodies_are (c ∷ cs) h bs =
      let b = and_parts (passes around numbers (stands around.types numbers) c)
      (list_all (λ b. b) (map (passes around numbers (stands around.types numbers)) cs)) h in
      two (is_body (standing around c) && core_fits around.types numbers c) (bodies_fit around numbers cs)
      (two (is_body (standing around c)) (core_fits around.types numbers c)
      (ap is_body (stands_as around c (passes_kinds around numbers (stands around.types numbers) c b.0)) ∙ bs.0) (core_fit c b.0))
      (bodies_are cs b.1 bs.1)

  -- ---- patterns without the types that are written in them

  abbrev Same : Pattern → Type 0
  Same p = stands around.types numbers (bare_pattern p) ≡ stands around.types numbers p

  abbrev SuchP : Type 0
  SuchP = (p : Pattern) × Same p

  abbrev plain : List SuchP → List Pattern
  plain ys = map (λ (y : SuchP). y.0) ys

  each_same : (ys : List SuchP) → map (stands around.types numbers) (map bare_pattern (plain ys)) ≡ map (stands around.types numbers) (plain ys)
  each_same [] = refl
  each_same (y ∷ ys) = λ i. y.1 i ∷ each_same ys i

  rolls : (d : Pattern-F Pattern) → stands around.types numbers (roll-Pattern d)
      ≡ form_stands around.types numbers d.form (map (stands around.types numbers) d.parts)
  rolls d = fold-roll-Pattern Bool (λ p. form_stands around.types numbers p.form p.parts) d

  abbrev Bare : Pattern-F SuchP → Form → List SuchP → Type 0
  Bare y form ys =
      stands around.types numbers
      (bare_of (record { place = y.place; form = form; parts = map bare_pattern (plain ys) }) (only (is_typed form) (map bare_pattern (plain ys))))
      ≡ form_stands around.types numbers form (map (stands around.types numbers) (plain ys))

  bare_by : (y : Pattern-F SuchP) (form : Form) (ys : List SuchP) → Bare y form ys
  bare_by y (F.Typed written) [] = rolls (record { place = y.place; form = F.Typed written; parts = [] })
  bare_by y (F.Typed written) (q ∷ []) = q.1
  bare_by y (F.Typed written) (q ∷ r ∷ ys) =
      rolls (record { place = y.place; form = F.Typed written; parts = map bare_pattern (plain (q ∷ r ∷ ys)) })
  bare_by y form ys =
      rolls (record { place = y.place; form = form; parts = map bare_pattern (plain ys) })
      ∙ ap (form_stands around.types numbers form) (each_same ys)

  pattern_step : (y : Pattern-F SuchP) → Same (roll-Pattern (map-Pattern SuchP Pattern (λ q. q.0) y))
  pattern_step y =
      let d : Pattern-F Pattern = map-Pattern SuchP Pattern (λ q. q.0) y in
      ap (stands around.types numbers) (fold-roll-Pattern Pattern bare_form d) ∙ bare_by y y.form y.parts ∙ sym (rolls d)

  bare_same : (p : Pattern) → Same p
  bare_same = ind-Pattern Same (λ p y e. subst (λ d. Same (roll-Pattern d)) e (pattern_step y))

  all_bare : (ps : List Pattern) → map (stands around.types numbers) (map bare_pattern ps) ≡ map (stands around.types numbers) ps
  all_bare [] = refl
  all_bare (p ∷ ps) = λ i. bare_same p i ∷ all_bare ps i

  one_arm : (declared : Bool) (arm : Arm) → arm_stands around.types numbers (arm_of declared arm) ≡ arm_stands around.types numbers arm
  one_arm true arm = refl
  one_arm false (A.Nested ps) = ap each_stands (all_bare ps)
  one_arm false (A.Flat count steps) = refl

  each_arm : (declared : Bool) (arms : List Arm) → arms_stand around.types numbers (map (arm_of declared) arms) ≡ arms_stand around.types numbers arms
  each_arm declared [] = refl
  each_arm declared (arm ∷ arms) = λ i. one_arm declared arm i && each_arm declared arms i

  -- ---- clauses

  clauses_are : (declared : Bool) (core : Core) → BodyPasses around numbers (stands around.types numbers) core → ClausesPlaced core
      → clauses_fit around numbers declared core ≡ true
  clauses_are declared core p s =
      let tested : patterns_tested (stands around.types numbers) (out-Core core).kind ≡ true =
      ap (patterns_tested (stands around.types numbers)) p.kind ∙ p.stand in
      let stand : arms_stand around.types numbers s.arms ≡ true =
      sym (arms_same s.arms) ∙ sym (ap (patterns_tested (stands around.types numbers)) s.kind) ∙ tested in
      two (arms_fit around numbers declared (out-Core core).kind) (bodies_fit around numbers (out-Core core).parts)
      (ap (arms_fit around numbers declared) s.kind ∙ each_arm declared s.arms ∙ stand)
      (bodies_are (out-Core core).parts p.bodies s.bodies)

  direction_is : (d : Direction) → BodyPasses around numbers (stands around.types numbers) d.body → ClausesPlaced d.body
      → direction_fits around numbers d ≡ true
  direction_is d p s =
      two (are_clauses around numbers (out-Core d.body).kind) (bodies_fit around numbers (out-Core d.body).parts)
      (ap (are_clauses around numbers) p.kind ∙ sym (arms_same p.arms) ∙ p.stand) (bodies_are (out-Core d.body).parts p.bodies s.bodies)

-- ---- a model

module _ (around : Around) where
  function_is : (f : Function) → FunctionPasses around (stands around.types) f → FunctionPlaced f → function_fits around f ≡ true
  function_is f p s =
      let own : List Index = Fits.own_variables 0 f.variables in
      two (clauses_fit around own f.is_declared f.body) (measure_fits around own f.measure)
      (clauses_are around own f.is_declared f.body p.0 s.body)
      (by own f.measure p.1 (λ core e. s.measure core e))
    where
      by : (is : List Index) (o : Option Core) → ((core : Core) → o ≡ Some core → BodyPasses around is (stands around.types is) core)
          → ((core : Core) → o ≡ Some core → ClausesPlaced core) → measure_fits around is o ≡ true
      by is None h g = refl
      by is (Some core) h g = clauses_are around is true core (h core refl) (g core refl)

  functions_are : (fs : List Function)
      → ((i : ℕ) (f : Function) → slice_get fs i ≡ Some f → FunctionPasses around (stands around.types) f) → AllFunctions fs
      → list_all (function_fits around) fs ≡ true
  functions_are [] p s = refl
  functions_are (f ∷ fs) p s =
      two (function_fits around f) (list_all (function_fits around) fs) (function_is f (p 0 f refl) s.0) (functions_are fs (λ i g e. p (suc i) g e) s.1)

  directions_are : (ds : List Direction)
      → ((i : ℕ) (d : Direction) → slice_get ds i ≡ Some d → DirectionPasses around (stands around.types) d) → AllDirections ds
      → list_all (direction_fits around []) ds ≡ true
  directions_are [] p s = refl
  directions_are (d ∷ ds) p s =
      two (direction_fits around [] d) (list_all (direction_fits around []) ds) (direction_is around [] d (p 0 d refl) s.0)
      (directions_are ds (λ i g e. p (suc i) g e) s.1)

pub accepted : AcceptedTextsFit
accepted text end cycle is_accepted kept is_written =
    let m : CoreModel = core_of text cycle in
    let around : Around = around_of m in
    let types : around.types ≡ m.types = types_kept m [] m.openings in
    let functions : around.functions ≡ m.functions = functions_kept m [] m.openings in
    let here : TextPatterns text (stands around.types) = subst (λ (t : Types). TextPatterns text (stands t)) (sym types)
    (patterns_pass text end cycle is_accepted kept is_written) in
    let placed = models_placed (tabled_of text) cycle text kept (text_types text end is_accepted kept is_written) in
    two (list_all (function_fits around) m.functions) (list_all (direction_fits around []) m.directions)
    (functions_are around m.functions
    (λ i f e. text_functions text end cycle is_accepted kept is_written (stands around.types) here around types functions i f e) placed.0)
    (directions_are around m.directions
    (λ i d e. text_directions text end cycle is_accepted kept is_written (stands around.types) here around types functions i d e) placed.1)
