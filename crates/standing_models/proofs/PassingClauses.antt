-- Clauses of functions, of measures and of mappings: their patterns stand and their bodies pass the tests of nodes.
use Rattle.std.proofs.Common.{◌≡◌, ◌&&◌, ℕ, suc, nat_eq, Bool, true, false, if◌then◌else◌, List, [], ◌∷◌, ◌++◌, map, length, ap, ◌∙◌, refl, sym, subst}
use Rattle.std.proofs.Common.{Option, Some, None, option_map}
use Rattle.std.proofs.lemmas.Bool.{and_parts}
use Rattle.sail_base.specs.declared.place.Place.{Place}
use Rattle.sail_types.specs.Shapes.{shape}
use Rattle.sail_types.specs.declared.numbers.Index.{Index}
use Rattle.sail_types.specs.declared.shapes.Shape.{Shape}
use Rattle.sail_types.specs.declared.shapes.Shape.TheVariants as V
use Rattle.sail_types.specs.declared.types.Typ.{Typ}
use Rattle.sail_kinds.specs.declared.error.TableError.{TableError}
use Rattle.sail_syntax.specs.declared.definitions.FunctionClause.{FunctionClause}
use Rattle.sail_syntax.specs.declared.definitions.MappingClause.{MappingClause}
use Rattle.sail_syntax.specs.declared.definitions.Side.{Side}
use Rattle.sail_syntax.specs.declared.expressions.Exp.{Exp}
use Rattle.sail_syntax.specs.declared.patterns.Pat.{Pat}
use Rattle.sail_syntax.specs.declared.types.TyExp.{TyExp}
use Rattle.sail_core.specs.declared.patterns.Arm.{Arm}
use Rattle.sail_core.specs.declared.patterns.Pattern.{Pattern}
use Rattle.sail_core.specs.declared.tree.Core.{Core, Core-F, fold-roll-Core, out-Core}
use Rattle.sail_core.specs.declared.tree.Core.TheViews.{out-roll-Core}
use Rattle.sail_core.specs.declared.tree.Kind.TheVariants as K
use Rattle.sail_cycles.specs.declared.expressions.Which.TheVariants.{Patterns}
use Rattle.sail_cycles.specs.Callees.{pattern_callees}
use Rattle.sail_cycles.specs.Cycles.{mapping_clause_callees, maybe_callees, side_callees}
use Rattle.sail_names.specs.Clauses.{behind_parameters, function_clause_failures, mapping_clause_failures, side_failures, values_failures}
use Rattle.sail_names.specs.Known as Tables
use Rattle.sail_names.specs.Locals as Bound
use Rattle.sail_names.specs.Locals.{behind}
use Rattle.sail_names.specs.Patterns.{binds, clashes, parameters_failures, pattern_failures, uses_failures}
use Rattle.sail_names.specs.Patterns.{joined as all_failures}
use Rattle.sail_names.specs.Uses.{expression_failures, maybe as maybe_failures, maybe_type}
use Rattle.sail_syntax.specs.Bound.{names as names_of}
use Rattle.core_numbers.specs.Numbers.{Numbering, core_with, each_numbered, kind_numbered, numbered}
use Rattle.pattern_leaves.specs.Settings.{Around}
use Rattle.pattern_laws.specs.Standing.{each_stands}
use Rattle.shape_joins.proofs.Order.{two}
use Rattle.shape_rules.specs.declared.callees.Mapping.{Mapping}
use Rattle.shape_rules.specs.declared.error.ShapeError.{ShapeError}
use Rattle.shape_rules.specs.Calls.{Elaborate}
use Rattle.shape_rules.specs.Expressions.{part}
use Rattle.shape_rules.specs.Findings.{Found, cast}
use Rattle.shape_rules.specs.Patterns.{Looked, Piece, each_looked, look, no_widths, piece, unit_piece}
use Rattle.shape_rules.specs.Scopes.{Locals, Setting, answering, plainly, under}
use Rattle.shape_rules.specs.Sides.{gives, read_side, width_given}
use Rattle.shape_rules.specs.Statements.{guard_faults}
use Rattle.shape_meanings.proofs.Settling.{both_empty}
use Rattle.shape_clauses.specs.Clauses.{Claused, body_part, clause_of, clause_under, clauses_arms, clauses_bodies, clauses_core, clauses_faults, core_of}
use Rattle.shape_clauses.specs.Clauses.{is_one_unit, miscounted, parameter_pieces}
use Rattle.shape_clauses.specs.Functions.{Measure, function_clause, function_clauses, measure_clause, measure_tree}
use Rattle.shape_clauses.specs.Mappings.{backwards_clauses, direction_clause, forwards_clauses, guard_part}
use Rattle.shape_meanings.specs.Whole.{all_of}
use Rattle.shape_meanings.specs.Trees.{pattern_written, side_written, written}
use Rattle.form_stands.proofs.Folds.{in_exp}
use Rattle.body_meanings.specs.Directions.{both_ways_written, guard_written}
use Rattle.standing_models.specs.Tests.{arm_tested, arms_tested}
use Rattle.standing_models.specs.Tests.{Converts, Fits, Tested}
use Rattle.standing_models.proofs.Converting.{halves}
use Rattle.standing_models.proofs.CorePasses.{AllPass, Passes, cast_passes}
use Rattle.standing_models.proofs.Passing.{MaybeIs, not_empty, typed_passes}
use Rattle.standing_models.proofs.PassingFound.{found_passes}
use Rattle.standing_models.proofs.PassingNumbered.{passes_numbered}
use Rattle.standing_models.proofs.PassingSides.{side_passes}
use Rattle.standing_models.proofs.PassingSteps.{guarded_passes}

-- each clause of a function, in whose names no failure is found
abbrev pub EachNamed : Tables.Setting → List FunctionClause → Type 0
EachNamed names [] = Unit {0}
EachNamed names (c ∷ cs) = (function_clause_failures names c ≡ []) × EachNamed names cs

-- of a mapping
abbrev pub EachCrossed : Tables.Setting → List MappingClause → Type 0
EachCrossed names [] = Unit {0}
EachCrossed names (c ∷ cs) = (mapping_clause_failures names c ≡ []) × EachCrossed names cs

-- whose patterns convert by these mappings
abbrev pub EachConverts : (ℕ → Bool) → Tables.Setting → List MappingClause → Type 0
EachConverts converts names [] = Unit {0}
EachConverts converts names (c ∷ cs) = Converts converts names (mapping_clause_callees Patterns names.known c) × EachConverts converts names cs

-- a clause as the grammar has it, and one of a mapping
abbrev pub clause_written : FunctionClause → Bool
clause_written c = all_of (map pattern_written c.parameters) && written c.body

abbrev pub crossing_written : MappingClause → Bool
crossing_written c = both_ways_written c.left && both_ways_written c.right

module _ (around : Around) (numbers : List Index) (fits : Pattern → Bool) where
  abbrev Stands : Pattern → Type 0
  Stands p = fits p ≡ true

  -- ---- what clauses are: a clause's patterns stand, and its body passes

  pub record ClausePasses (c : Claused) : Type 0 where
    pub arm : arm_tested fits c.arm ≡ true
    pub body : Passes around numbers fits c.body

  pub record ClausesPass (core : Core) : Type 0 where
    pub arms : List Arm
    pub kind : (out-Core core).kind ≡ K.Clauses arms
    pub stand : arms_tested fits arms ≡ true
    pub bodies : AllPass around numbers fits (out-Core core).parts

  abbrev EachClause : List Claused → Type 0
  EachClause [] = Unit {0}
  EachClause (c ∷ cs) = ClausePasses c × EachClause cs

  arms_pass : (cs : List Claused) → EachClause cs → arms_tested fits (clauses_arms cs) ≡ true
  arms_pass [] h = refl
  arms_pass (c ∷ cs) h = two (arm_tested fits c.arm) (arms_tested fits (clauses_arms cs)) h.0.arm (arms_pass cs h.1)

  bodies_pass : (cs : List Claused) (n : ℕ) → EachClause cs → AllPass around numbers fits (each_numbered (map numbered (clauses_bodies cs)) n).it
  bodies_pass [] n h = tt
  bodies_pass (c ∷ cs) n h = (passes_numbered around numbers fits c.body n ∙ h.0.body, bodies_pass cs (numbered c.body n).next h.1)

  out_clauses : (place : Place) (arms : List Arm) (bodies : List Core) (n : ℕ) → out-Core (numbered (core_of place arms bodies) n).it
      ≡ record { place = place; number = n; kind = K.Clauses arms; parts = (each_numbered (map numbered bodies) (suc n)).it }
  out_clauses place arms bodies n =
      ap (λ (f : Numbering Core). out-Core (f n).it)
      (fold-roll-Core (Numbering Core) (λ c n. core_with c n (kind_numbered c.kind (suc n)))
      (record { place = place; number = 0; kind = K.Clauses arms; parts = bodies }))
      ∙ out-roll-Core (record { place = place; number = n; kind = K.Clauses arms; parts = (each_numbered (map numbered bodies) (suc n)).it })

  clauses_pass : (place : Place) (cs : List Claused) (n : ℕ) → EachClause cs → ClausesPass (numbered (clauses_core place cs) n).it
  clauses_pass place cs n h = record {
    arms = clauses_arms cs;
    kind = ap (λ (c : Core-F Core). c.kind) (out_clauses place (clauses_arms cs) (clauses_bodies cs) n);
    stand = arms_pass cs h;
    bodies = subst (λ (c : Core-F Core). AllPass around numbers fits c.parts) (sym (out_clauses place (clauses_arms cs) (clauses_bodies cs) n))
        (bodies_pass cs (suc n) h);
  }

  -- ---- parameters

  abbrev PieceIs : Setting → Piece → Type 0
  PieceIs setting p = (subject : Shape) → (p.look setting no_widths subject).faults ≡ [] → Stands (p.look setting no_widths subject).pattern

  abbrev PiecesAre : Setting → List Piece → Type 0
  PiecesAre setting [] = Unit {0}
  PiecesAre setting (p ∷ ps) = PieceIs setting p × PiecesAre setting ps

  each_piece : (setting : Setting) (ps : List Piece) → PiecesAre setting ps → (ss : List Shape) → (each_looked ps setting no_widths ss).faults ≡ []
      → each_stands (map fits (each_looked ps setting no_widths ss).patterns) ≡ true
  each_piece setting [] h ss e = refl
  each_piece setting (p ∷ ps) h [] e =
      let one : Looked = p.look setting no_widths V.Never in
      let f = both_empty one.faults (each_looked ps setting no_widths []).faults e in
      two (fits one.pattern) _ (h.0 V.Never f.0) (each_piece setting ps h.1 [] f.1)
  each_piece setting (p ∷ ps) h (s ∷ ss) e =
      let one : Looked = p.look setting no_widths s in
      let f = both_empty one.faults (each_looked ps setting no_widths ss).faults e in
      two (fits one.pattern) _ (h.0 s f.0) (each_piece setting ps h.1 ss f.1)

  module _ (setting : Setting) (names : Tables.Setting) (fit : Fits around numbers fits setting names)
      (every : (xs : List ℕ) → Converts fit.converts names xs) where
    parameters_are : (ps : List Pat) → all_of (map pattern_written ps) ≡ true → all_failures (map (uses_failures names) ps) ≡ []
        → PiecesAre setting (map piece ps)
    parameters_are [] q u = tt
    parameters_are (p ∷ ps) q u =
        let k = and_parts (pattern_written p) (all_of (map pattern_written ps)) q in
        let h = both_empty (uses_failures names p) (all_failures (map (uses_failures names) ps)) u in
        (λ subject e. fit.patterns p subject h.0 k.0 (every (pattern_callees names.known p)) e, parameters_are ps k.1 h.1)

    pieces_are : (place : Place) (params : List Shape) (ps : List Pat) → all_of (map pattern_written ps) ≡ true → parameters_failures names ps ≡ []
        → PiecesAre setting (parameter_pieces place params ps)
    pieces_are place params ps q u = by (is_one_unit params ps)
      where
        by : (b : Bool) → PiecesAre setting (if b then unit_piece place ∷ [] else map piece ps)
        by true = ((λ subject e. fit.unit place), tt)
        by false = parameters_are ps q (both_empty (all_failures (map (uses_failures names) ps)) _ u).0

    -- ---- one clause

    clause_passes : (e : Elaborate) → Tested around numbers fits setting e → (place : Place) (params : List Shape) (pieces : List Piece)
        → PiecesAre setting pieces
        → (at_body : Place) (want : Shape) → (clause_of setting place params pieces at_body e want).faults ≡ []
        → ClausePasses (clause_of setting place params pieces at_body e want)
    clause_passes e h place params pieces are at_body want = by (nat_eq (length params) (length pieces))
      where
        by : (b : Bool) → (if b then clause_under setting at_body e want (each_looked pieces setting no_widths params)
            else miscounted place (length params) (length pieces)).faults ≡ []
            → ClausePasses (if b then clause_under setting at_body e want (each_looked pieces setting no_widths params)
            else miscounted place (length params) (length pieces))
        by true f =
            let ps = each_looked pieces setting no_widths params in
            let inner : Locals = under ps.binds [] in
            let body : Found = e setting inner want in
            let g = both_empty ps.faults body.faults f in
            record { arm = each_piece setting pieces are params g.0; body = cast_passes around numbers fits body.core at_body (h inner want g.1) }
        by false f = not_empty f

    body_passes : (typ : Option TyExp) (e : Exp) → written e ≡ true → (bound : Bound.Locals) → expression_failures e names bound ≡ []
        → Tested around numbers fits setting (body_part typ (part e))
    body_passes None e q bound u = found_passes around numbers fits e q names bound u setting fit (every (in_exp e names.known))
    body_passes (Some typ) e q bound u =
        typed_passes around numbers fits setting names fit (part e).place (part e) typ
        (found_passes around numbers fits e q names bound u setting fit (every (in_exp e names.known)))

  -- ---- functions

  module _ (setting : Setting) (params : List Shape) (answer : Shape) (names : Tables.Setting)
      (fit : Fits around numbers fits (answering (Some answer) setting) names) (every : (xs : List ℕ) → Converts fit.converts names xs) where
    function_passes : (c : FunctionClause) → clause_written c ≡ true → function_clause_failures names c ≡ []
        → (function_clause setting params answer c).faults ≡ [] → ClausePasses (function_clause setting params answer c)
    function_passes c q u f =
        let k = and_parts (all_of (map pattern_written c.parameters)) (written c.body) q in
        let bound = behind_parameters names c.parameters [] in
        let h = both_empty (parameters_failures names c.parameters ++ maybe_type c.result names) (expression_failures c.body names bound) u in
        let h2 = both_empty (parameters_failures names c.parameters) (maybe_type c.result names) h.0 in
        clause_passes (answering (Some answer) setting) names fit every (body_part c.result (part c.body))
        (body_passes (answering (Some answer) setting) names fit every c.result c.body k.1 bound h.1) c.place params
        (parameter_pieces c.place params c.parameters)
        (pieces_are (answering (Some answer) setting) names fit every c.place params c.parameters k.0 h2.0) (part c.body).place answer f

    functions_pass : (cs : List FunctionClause) → all_of (map clause_written cs) ≡ true → EachNamed names cs
        → clauses_faults (function_clauses setting params answer cs) ≡ [] → EachClause (function_clauses setting params answer cs)
    functions_pass [] q u f = tt
    functions_pass (c ∷ cs) q u f =
        let k = and_parts (clause_written c) (all_of (map clause_written cs)) q in
        let g = both_empty (function_clause setting params answer c).faults (clauses_faults (function_clauses setting params answer cs)) f in
        (function_passes c k.0 u.0 g.0, functions_pass cs k.1 u.1 g.1)

    pub body_clauses : (place : Place) (cs : List FunctionClause) (n : ℕ) → all_of (map clause_written cs) ≡ true → EachNamed names cs
        → clauses_faults (function_clauses setting params answer cs) ≡ []
        → ClausesPass (numbered (clauses_core place (function_clauses setting params answer cs)) n).it
    body_clauses place cs n q u f = clauses_pass place (function_clauses setting params answer cs) n (functions_pass cs q u f)

  pub measure_clauses : (setting : Setting) (params : List Shape) (names : Tables.Setting) (fit : Fits around numbers fits (plainly setting) names)
      → ((xs : List ℕ) → Converts fit.converts names xs)
      → (m : Measure) (n : ℕ) → all_of (map pattern_written m.parameters) ≡ true → written m.value ≡ true → parameters_failures names m.parameters ≡ []
      → expression_failures m.value names (behind_parameters names m.parameters []) ≡ []
      → (measure_clause setting m.place params m.parameters m.value).faults ≡ [] → ClausesPass (numbered (measure_tree setting params m) n).it
  measure_clauses setting params names fit every m n q k u v f =
      clauses_pass m.place (measure_clause setting m.place params m.parameters m.value ∷ []) n (
        clause_passes (plainly setting) names fit every (body_part None (part m.value))
            (body_passes (plainly setting) names fit every None m.value k (behind_parameters names m.parameters []) v) m.place params
            (parameter_pieces m.place params m.parameters) (pieces_are (plainly setting) names fit every m.place params m.parameters q u) (part m.value).place
            V.Int f,
        tt,
      )

  -- ---- mappings: the patterns of their sides stand, whatever widths the other side gives

  module _ (setting : Setting) (names : Tables.Setting) (fit : Fits around numbers fits (answering None setting) names)
      (right : Typ → Bool)
      (sides : (from to : Pat) (from_typ to_typ : Typ) → right to_typ ≡ true → uses_failures names from ≡ [] → uses_failures names to ≡ []
      → pattern_written from ≡ true → pattern_written to ≡ true → Converts fit.converts names (pattern_callees names.known from)
      → (look from setting (width_given (gives to setting (Some to_typ))) (shape from_typ)).faults ≡ []
      → Stands (look from setting (width_given (gives to setting (Some to_typ))) (shape from_typ)).pattern) where
    guard_is : (guard : Option Exp) → guard_written guard ≡ true → (bound : Bound.Locals)
        → maybe_failures (option_map expression_failures guard) names bound ≡ [] → Converts fit.converts names (maybe_callees Patterns names.known guard)
        → MaybeIs around numbers fits (answering None setting) names fit (guard_part guard)
    guard_is None q bound u v = tt
    guard_is (Some e) q bound u v = found_passes around numbers fits e q names bound u (answering None setting) fit v

    direction_passes : (from to : Side) (from_typ to_typ : Typ) → right to_typ ≡ true → both_ways_written from ≡ true → both_ways_written to ≡ true
        → side_failures names from ≡ []
        → side_failures names to ≡ [] → Converts fit.converts names (side_callees Patterns names.known from)
        → (direction_clause setting from from_typ to to_typ).faults ≡ []
        → ClausePasses (direction_clause setting from from_typ to to_typ)
    direction_passes from to from_typ to_typ of_typ q k u v c f =
        let p : Looked = look from.pattern setting (width_given (gives to.pattern setting (Some to_typ))) (shape from_typ) in
        let s : Setting = answering None setting in
        let locals : Locals = under p.binds [] in
        let own : List ShapeError = guard_faults (guard_part from.guard) s locals in
        let given : Found = (read_side to.pattern).elaborate s locals (shape to_typ) in
        let f1 = both_empty (p.faults ++ own) given.faults f in
        let f2 = both_empty p.faults own f1.0 in
        let q0 = and_parts (pattern_written from.pattern && guard_written from.guard) (side_written from.pattern) q in
        let q1 = and_parts (pattern_written from.pattern) (guard_written from.guard) q0.0 in
        let k0 = and_parts (pattern_written to.pattern && guard_written to.guard) (side_written to.pattern) k in
        let k1 = and_parts (pattern_written to.pattern) (guard_written to.guard) k0.0 in
        let n = halves fit.converts names (pattern_callees names.known from.pattern) (maybe_callees Patterns names.known from.guard) c in
        let bound = behind (binds names.known from.pattern) [] in
        let u1 = both_empty (pattern_failures names from.pattern) (maybe_failures (option_map expression_failures from.guard) names bound) u in
        let u2 = both_empty (uses_failures names from.pattern) (clashes (binds names.known from.pattern)) u1.0 in
        let v1 = both_empty (pattern_failures names to.pattern) _ v in
        let v2 = both_empty (uses_failures names to.pattern) (clashes (binds names.known to.pattern)) v1.0 in
        record {
          arm = two (fits p.pattern) true (sides from.pattern to.pattern from_typ to_typ of_typ u2.0 v2.0 q1.0 k1.0 n.0 f2.0) refl;
          body = guarded_passes around numbers fits s names fit (guard_part from.guard) (cast given.core (read_side to.pattern).place)
              (guard_is from.guard q1.1 bound u1.1 n.1) locals f2.1
              (cast_passes around numbers fits given.core (read_side to.pattern).place
              (side_passes around numbers fits s names fit to.pattern k1.0 locals (shape to_typ) f1.1));
        }

    sides_convert : (c : MappingClause) → Converts fit.converts names (mapping_clause_callees Patterns names.known c)
        → Converts fit.converts names (side_callees Patterns names.known c.left) × Converts fit.converts names (side_callees Patterns names.known c.right)
    sides_convert c v = halves fit.converts names (side_callees Patterns names.known c.left) (side_callees Patterns names.known c.right) v

    -- sides of a clause in whose names no failure is found
    both_sides : (c : MappingClause) → mapping_clause_failures names c ≡ [] → (side_failures names c.left ≡ []) × (side_failures names c.right ≡ [])
    both_sides c u =
        let one : List TableError = values_failures names (behind (binds names.known c.left.pattern) []) (names_of c.right.pattern) in
        let other : List TableError = values_failures names (behind (binds names.known c.right.pattern) []) (names_of c.left.pattern) in
        let a = both_empty ((side_failures names c.left ++ one) ++ side_failures names c.right) other u in
        let b = both_empty (side_failures names c.left ++ one) (side_failures names c.right) a.0 in
        ((both_empty (side_failures names c.left) one b.0).0, b.1)

    forwards_pass : (m : Mapping) (cs : List MappingClause) → right m.right ≡ true → all_of (map crossing_written cs) ≡ true → EachCrossed names cs
        → EachConverts fit.converts names cs → clauses_faults (forwards_clauses setting m cs) ≡ [] → EachClause (forwards_clauses setting m cs)
    forwards_pass m [] of_typ q u v f = tt
    forwards_pass m (c ∷ cs) of_typ q u v f =
        let k = and_parts (crossing_written c) (all_of (map crossing_written cs)) q in
        let l = and_parts (both_ways_written c.left) (both_ways_written c.right) k.0 in
        let g = both_empty (direction_clause setting c.left m.left c.right m.right).faults (clauses_faults (forwards_clauses setting m cs)) f in
        let s = both_sides c u.0 in
        (direction_passes c.left c.right m.left m.right of_typ l.0 l.1 s.0 s.1 (sides_convert c v.0).0 g.0, forwards_pass m cs of_typ k.1 u.1 v.1 g.1)

    backwards_pass : (m : Mapping) (cs : List MappingClause) → right m.left ≡ true → all_of (map crossing_written cs) ≡ true → EachCrossed names cs
        → EachConverts fit.converts names cs → clauses_faults (backwards_clauses setting m cs) ≡ [] → EachClause (backwards_clauses setting m cs)
    backwards_pass m [] of_typ q u v f = tt
    backwards_pass m (c ∷ cs) of_typ q u v f =
        let k = and_parts (crossing_written c) (all_of (map crossing_written cs)) q in
        let l = and_parts (both_ways_written c.left) (both_ways_written c.right) k.0 in
        let g = both_empty (direction_clause setting c.right m.right c.left m.left).faults (clauses_faults (backwards_clauses setting m cs)) f in
        let s = both_sides c u.0 in
        (direction_passes c.right c.left m.right m.left of_typ l.1 l.0 s.1 s.0 (sides_convert c v.0).1 g.0, backwards_pass m cs of_typ k.1 u.1 v.1 g.1)

    pub ahead_clauses : (place : Place) (m : Mapping) (cs : List MappingClause) (n : ℕ) → right m.right ≡ true → all_of (map crossing_written cs) ≡ true
        → EachCrossed names cs → EachConverts fit.converts names cs
        → clauses_faults (forwards_clauses setting m cs) ≡ [] → ClausesPass (numbered (clauses_core place (forwards_clauses setting m cs)) n).it
    ahead_clauses place m cs n of_typ q u v f = clauses_pass place (forwards_clauses setting m cs) n (forwards_pass m cs of_typ q u v f)

    pub back_clauses : (place : Place) (m : Mapping) (cs : List MappingClause) (n : ℕ) → right m.left ≡ true → all_of (map crossing_written cs) ≡ true
        → EachCrossed names cs → EachConverts fit.converts names cs
        → clauses_faults (backwards_clauses setting m cs) ≡ [] → ClausesPass (numbered (clauses_core place (backwards_clauses setting m cs)) n).it
    back_clauses place m cs n of_typ q u v f = clauses_pass place (backwards_clauses setting m cs) n (backwards_pass m cs of_typ q u v f)
