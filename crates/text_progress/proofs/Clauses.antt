-- Clauses, tried in order over the arguments of a call, stand by the rules of shapes.
use Rattle.std.proofs.Common.{◌≡◌, ℕ, Bool, true, false, List, [], ◌∷◌, ◌++◌, map, length, ap, sym, ◌∙◌, refl, subst}
use Rattle.std.proofs.Common.{Option, Some, None, nat_eq, arith, if◌then◌else◌}
use Rattle.sail_base.specs.declared.place.Place.{Place}
use Rattle.sail_types.specs.declared.shapes.Shape.{Shape}
use Rattle.sail_types.specs.declared.types.Typ.{Typ}
use Rattle.sail_types.specs.declared.values.Value.{Value}
use Rattle.sail_types.specs.Shapes.{shape}
use Rattle.sail_syntax.specs.declared.expressions.Exp.{Exp}
use Rattle.sail_syntax.specs.declared.patterns.Pat.{Pat}
use Rattle.sail_syntax.specs.declared.types.TyExp.{TyExp}
use Rattle.sail_core.specs.declared.patterns.Arm.{Arm}
use Rattle.sail_core.specs.declared.tree.Kind.TheVariants as K
use Rattle.sail_core.specs.declared.tree.Core.{Core}
use Rattle.sail_core.specs.Making.{World}
use Rattle.sail_cycles.specs.declared.expressions.Which.TheVariants.{Patterns}
use Rattle.sail_cycles.specs.Callees.{expression_callees, pattern_callees}
use Rattle.sail_names.specs.Clauses.{behind_parameters}
use Rattle.sail_names.specs.Known as Tables
use Rattle.sail_names.specs.Locals as Bound
use Rattle.sail_names.specs.Patterns.{binds, clashes, joined, parameters_failures, uses_failures}
use Rattle.sail_names.specs.Uses.{expression_failures, maybe_type}
use Rattle.shape_joins.proofs.Order.{fills_itself, no}
use Rattle.shape_rules.specs.declared.locals.Local.{Local}
use Rattle.shape_rules.specs.Calls.{Elaborate}
use Rattle.shape_rules.specs.Expressions.{part}
use Rattle.shape_rules.specs.Findings.{Found, over}
use Rattle.shape_rules.specs.Patterns.{LookedAll, Piece, each_looked, no_widths, piece, unit_piece}
use Rattle.shape_rules.specs.Scopes.{Locals, Setting, under}
use Rattle.shape_rules.specs.Targets.{Part}
use Rattle.shape_rules.specs.Values.{typed_found}
use Rattle.shape_rules.specs.Written.{shape_in, shape_or_never, typ_in, written, written_faults}
use Rattle.shape_clauses.specs.Clauses.{Claused, body_part, clause_of, clause_under, clauses_arms, clauses_bodies, clauses_core}
use Rattle.shape_clauses.specs.Clauses.{is_one_unit, miscounted, parameter_pieces}
use Rattle.shape_meanings.specs.Counted.{all_counted}
use Rattle.shape_meanings.specs.Keeping.{FitAll, Reach, reach_of}
use Rattle.shape_meanings.specs.Naming.{AreKnown}
use Rattle.shape_meanings.specs.Parts.{EitherWay}
use Rattle.shape_meanings.specs.Trees as Trees
use Rattle.shape_meanings.specs.Whole.{Choice, below}
use Rattle.shape_meanings.proofs.Apart.{names_either}
use Rattle.shape_meanings.proofs.Binds.{EachBinds, as_bound, more_bind, pat_binds}
use Rattle.shape_meanings.proofs.Lets.{seen_under}
use Rattle.shape_meanings.proofs.Orders.{exact}
use Rattle.shape_meanings.proofs.PatternCounts.{EachCounts, more_count, pat_counts}
use Rattle.shape_meanings.proofs.PatternNames.{bound_names, bound_texts}
use Rattle.shape_meanings.proofs.Ready.{Ready, with_names}
use Rattle.shape_meanings.proofs.Bases.{not_none}
use Rattle.shape_progress.specs.Going as Going
use Rattle.shape_progress.specs.PatternRules.{ArmBinds}
use Rattle.shape_progress.specs.Rules.{ArmsHave}
use Rattle.shape_stands.specs.Inside.{Inside, Position}
use Rattle.shape_stands.specs.Manner.{Quiet, manner}
use Rattle.shape_stands.specs.Stands.{Converting, HasShape, PiecesStand, StandsAt}
use Rattle.shape_stands.proofs.Standing.{both_empty, cast_has, node_has, settled_above, settled_node}
use Rattle.pattern_stands.proofs.Binding.{parts_bind}
use Rattle.pattern_stands.proofs.Forms.{unit_stands}
use Rattle.pattern_stands.proofs.Patterns.{patterns_stand}
use Rattle.form_stands.proofs.Expressions.{expressions_stand}
use Rattle.body_meanings.proofs.Clauses.{nothing_ready}

-- ---- parameters

-- pieces of parameters stand, bind the names that the tables find, and their names have shapes with all arguments
record ParametersStand (here : Position) (ps : List Pat) (pieces : List Piece) : Type 0 where
  stand : PiecesStand here no_widths pieces
  bound : EachBinds here.setting pieces (joined (map (binds here.names.known) ps))
  counts : EachCounts here.setting pieces

-- the mappings by which parameters convert are among those by which they can
abbrev pub AllConverting : Position → List Pat → Type 0
AllConverting here [] = Unit {0}
AllConverting here (p ∷ ps) = Converting here (pattern_callees here.names.known p) × AllConverting here ps

pieces_stand : (here : Position) → AreKnown here.setting here.names → (ps : List Pat) → joined (map (uses_failures here.names) ps) ≡ []
    → AllConverting here ps → PiecesStand here no_widths (map piece ps)
pieces_stand here known [] u converts = tt
pieces_stand here known (p ∷ ps) u converts =
    let h = both_empty (uses_failures here.names p) (joined (map (uses_failures here.names) ps)) u in
    (λ subject e. patterns_stand p here known h.0 converts.0 no_widths subject e, pieces_stand here known ps h.1 converts.1)

pieces_bind : (setting : Setting) (names : Tables.Setting) → AreKnown setting names → (ps : List Pat) → joined (map (uses_failures names) ps) ≡ []
    → EachBinds setting (map piece ps) (joined (map (binds names.known) ps))
pieces_bind setting names known [] u = λ widths ss. refl
pieces_bind setting names known (p ∷ ps) u =
    let h = both_empty (uses_failures names p) (joined (map (uses_failures names) ps)) u in
    more_bind setting (piece p) (map piece ps) (binds names.known p) (joined (map (binds names.known) ps)) (pat_binds p setting names known h.0)
    (pieces_bind setting names known ps h.1)

pieces_count : (setting : Setting) (names : Tables.Setting) → AreKnown setting names → (ps : List Pat) → joined (map (uses_failures names) ps) ≡ []
    → EachCounts setting (map piece ps)
pieces_count setting names known [] u = λ widths ss h. tt
pieces_count setting names known (p ∷ ps) u =
    let h = both_empty (uses_failures names p) (joined (map (uses_failures names) ps)) u in
    more_count setting (piece p) (map piece ps) (pat_counts p setting names known h.0).1 (pieces_count setting names known ps h.1)

parameters_stand : (here : Position) → AreKnown here.setting here.names → (place : Place) (params : List Shape) (ps : List Pat)
    → joined (map (uses_failures here.names) ps) ≡ [] → AllConverting here ps → ParametersStand here ps (parameter_pieces place params ps)
parameters_stand here known place params ps u converts = by_unit ps (is_one_unit params ps) refl u converts
  where
    unit_binds : EachBinds here.setting (unit_piece place ∷ []) []
    unit_binds widths [] = refl
    unit_binds widths (s ∷ ss) = refl

    unit_counts : EachCounts here.setting (unit_piece place ∷ [])
    unit_counts widths [] h = tt
    unit_counts widths (s ∷ ss) h = tt

    by_unit : (ps : List Pat) (b : Bool) → is_one_unit params ps ≡ b → joined (map (uses_failures here.names) ps) ≡ [] → AllConverting here ps
        → ParametersStand here ps (if b then unit_piece place ∷ [] else map piece ps)
    by_unit [] true is u converts =
        record { stand = (λ subject e. unit_stands here no_widths subject place e, tt); bound = unit_binds; counts = unit_counts }
    by_unit (p ∷ ps) true is u converts = no is
    by_unit ps false is u converts = record {
      stand = pieces_stand here known ps u converts;
      bound = pieces_bind here.setting here.names known ps u;
      counts = pieces_count here.setting here.names known ps u;
    }

-- ---- one clause

-- an arm over arguments of these shapes binds names under which the body has a shape, in each world
abbrev pub ClauseStands : Position → List Shape → Shape → Arm → Core → Type 0
ClauseStands here params answer arm body =
    (registers : List Shape) (c : Choice) (w : World Value) → Inside here registers c w
    → (n : ℕ) × (new : List Local) × ArmBinds n (reach_of here.setting registers c []) w params new arm
    × HasShape w (Going.under (reach_of here.setting registers c []) new) answer body

clause_stands : (here : Position) → AreKnown here.setting here.names → (place : Place) (params : List Shape)
    → all_counted here.setting.types params ≡ true → (ps : List Pat) → parameters_failures here.names ps ≡ [] → AllConverting here ps
    → (at_body : Place) (el : Elaborate) (answer : Shape) (n : ℕ) → below n answer ≡ true
    → ((locals : Locals) → Ready here.setting here.names locals (behind_parameters here.names ps []) → StandsAt here locals el)
    → (clause_of here.setting place params (parameter_pieces place params ps) at_body el answer).faults ≡ []
    → ClauseStands here params answer (clause_of here.setting place params (parameter_pieces place params ps) at_body el answer).arm
    (clause_of here.setting place params (parameter_pieces place params ps) at_body el answer).body
clause_stands here known place params counts ps u converts at_body el answer n whole stands e =
    by_count (nat_eq (length params) (length pieces)) refl e
  where
    setting : Setting
    setting = here.setting

    names : Tables.Setting
    names = here.names

    pieces : List Piece
    pieces = parameter_pieces place params ps

    looks : LookedAll
    looks = each_looked pieces setting no_widths params

    k : (joined (map (uses_failures names) ps) ≡ []) × (clashes (joined (map (binds names.known) ps)) ≡ [])
    k = both_empty (joined (map (uses_failures names) ps)) (clashes (joined (map (binds names.known) ps))) u

    are : ParametersStand here ps pieces
    are = parameters_stand here known place params ps k.0 converts

    same : map as_bound looks.binds ≡ map Bound.constant (joined (map (binds names.known) ps))
    same = are.bound no_widths params

    either : EitherWay looks.binds
    either =
        names_either looks.binds (joined (map (binds names.known) ps))
        (sym (bound_names looks.binds) ∙ ap (map (λ (b : Bound.Local). b.name)) same ∙ bound_texts (joined (map (binds names.known) ps))) k.1

    equal : (i j : ℕ) → nat_eq i j ≡ true → j ≡ i
    equal i j h = grind (arith, h)

    inner : Locals
    inner = under looks.binds []

    found : Found
    found = el setting inner answer

    by_count : (b : Bool) → nat_eq (length params) (length pieces) ≡ b
        → (if b then clause_under setting at_body el answer looks else miscounted place (length params) (length pieces)).faults ≡ []
        → ClauseStands here params answer
        (if b then clause_under setting at_body el answer looks else miscounted place (length params) (length pieces)).arm
        (if b then clause_under setting at_body el answer looks else miscounted place (length params) (length pieces)).body
    by_count false many e = not_none e
    by_count true many e = λ registers c w inside.
        let h = both_empty looks.faults found.faults e in
        let ready = with_names looks.binds (joined (map (binds names.known) ps)) setting names [] [] (nothing_ready setting names known) same
        (are.counts no_widths params counts) in
        let body = stands inner ready answer h.1 in
        let reach : Reach = reach_of setting registers c [] in
        let arm = parts_bind here no_widths pieces params are.stand (equal (length params) (length pieces) many) h.0 registers c w inside (λ name m is.
        no_width is) [] in
        let has = body.1 registers c w inside (looks.binds ++ []) (seen_under looks.binds [] [] either (λ name. refl)) in (
          arm.0,
          looks.binds,
          arm.1,
          cast_has w (Going.under reach looks.binds) answer found.core at_body
              (subst (λ s. HasShape w (Going.under reach looks.binds) s found.core) (exact answer found.shape n body.0 whole) has),
        )
      where
        no_width : {A B : Type 0} {x : A} → None ≡ Some x → B
        no_width e = absurd (empty e)
          where
            empty : {A : Type 0} {x : A} → None ≡ Some x → ⊥
            empty e = cc

-- ---- clauses in order

abbrev pub ClausesStand : Position → List Shape → Shape → List Claused → Type 0
ClausesStand here params answer [] = Unit {0}
ClausesStand here params answer (k ∷ ks) = ClauseStands here params answer k.arm k.body × ClausesStand here params answer ks

arms_have : (here : Position) (params : List Shape) (answer : Shape) (ks : List Claused) → ClausesStand here params answer ks
    → (registers : List Shape) (c : Choice) (w : World Value) → Inside here registers c w
    → ArmsHave (HasShape w) w (reach_of here.setting registers c []) params answer (clauses_arms ks) (clauses_bodies ks)
arms_have here params answer [] are registers c w inside = tt
arms_have here params answer (k ∷ ks) are registers c w inside = (are.0 registers c w inside, arms_have here params answer ks are.1 registers c w inside)

-- over arguments of these shapes their core has the shape of the answer
pub clauses_shaped : (here : Position) (params : List Shape) (answer : Shape) (place : Place) (ks : List Claused) → ClausesStand here params answer ks
    → (registers : List Shape) (c : Choice) (w : World Value) → Inside here registers c w → FitAll here.setting.types c params w.arguments
    → HasShape w (reach_of here.setting registers c []) answer (clauses_core place ks)
clauses_shaped here params answer place ks are registers c w inside fit =
    node_has w (reach_of here.setting registers c []) answer answer place (K.Clauses (clauses_arms ks)) (clauses_bodies ks) (fills_itself answer)
    (params, fit, arms_have here params answer ks are registers c w inside)

-- ---- bodies

-- `-> T` makes the body one of an annotated expression
pub typed_stands : (here : Position) (locals : Locals) (place : Place) (a : Part) (typ : TyExp) (t : Typ) (n : ℕ) → typ_in here.setting.within typ ≡ Some t
    → below n (shape t) ≡ true → StandsAt here locals a.elaborate → StandsAt here locals (typed_found place a typ)
typed_stands here locals place a typ t n is whole stands want e =
    let s : Shape = shape_in here.setting.within typ in
    let found : Found = a.elaborate here.setting locals s in
    let h = both_empty (found.faults ++ written_faults here.setting.within typ) _ e in
    let h2 = both_empty found.faults (written_faults here.setting.within typ) h.0 in
    let r = stands s h2.0 in
    let same : found.shape ≡ s = exact s found.shape n r.0 (ap (below n) (ap shape_or_never is) ∙ whole) in (
      settled_above place want s (λ x. over place (K.Cast (written here.setting.within typ)) (found.core ∷ [])) h.1,
      settled_node here locals place place want s (λ x. K.Cast (written here.setting.within typ)) (found.core ∷ []) h.1
          (λ x registers c w inside slots seen.
          subst (λ u. HasShape w (reach_of here.setting registers c slots) u found.core) same (r.1 registers c w inside slots seen)),
    )

body_stands : (here : Position) (locals : Locals) (bound : Bound.Locals) → Ready here.setting here.names locals bound → (typ : Option TyExp)
    → maybe_type typ here.names ≡ [] → (e : Exp) → Trees.written e ≡ true → expression_failures e here.names bound ≡ []
    → Quiet here (manner e) → Converting here (expression_callees Patterns here.names.known e) → StandsAt here locals (body_part typ (part e))
body_stands here locals bound r None t e w u quiet converts =
    expressions_stand e w here r.known locals bound r.are r.settled r.counted quiet u converts
body_stands here locals bound r (Some typ) t e w u quiet converts =
    let k = r.known.typs typ t in
    typed_stands here locals (part e).place (part e) typ k.0 k.2.0 k.1 k.2.1
    (expressions_stand e w here r.known locals bound r.are r.settled r.counted quiet u converts)

-- a clause of a function or a measure: its parameters, and its body, which may be annotated
pub one_stands : (here : Position) → AreKnown here.setting here.names → (place : Place) (params : List Shape)
    → all_counted here.setting.types params ≡ true → (answer : Shape) (n : ℕ) → below n answer ≡ true → (ps : List Pat)
    → parameters_failures here.names ps ≡ [] → AllConverting here ps → (typ : Option TyExp) → maybe_type typ here.names ≡ []
    → (e : Exp) → Trees.written e ≡ true → expression_failures e here.names (behind_parameters here.names ps []) ≡ []
    → Quiet here (manner e) → Converting here (expression_callees Patterns here.names.known e)
    → (clause_of here.setting place params (parameter_pieces place params ps) (part e).place (body_part typ (part e)) answer).faults ≡ []
    → ClauseStands here params answer
    (clause_of here.setting place params (parameter_pieces place params ps) (part e).place (body_part typ (part e)) answer).arm
    (clause_of here.setting place params (parameter_pieces place params ps) (part e).place (body_part typ (part e)) answer).body
one_stands here known place params counts answer n whole ps u converts typ t e w v quiet inner f =
    clause_stands here known place params counts ps u converts (part e).place (body_part typ (part e)) answer n whole
    (λ locals r. body_stands here locals (behind_parameters here.names ps []) r typ t e w v quiet inner) f
