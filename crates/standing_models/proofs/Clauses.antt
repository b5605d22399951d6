-- Bodies of clauses: each is a cast of what is found of it, where it has as many parameters as are wanted.
use Rattle.std.proofs.Common.{◌≡◌, ℕ, nat_eq, Bool, true, false, if◌then◌else◌, List, [], ◌∷◌, length, refl, Option, Some, None}
use Rattle.std.proofs.lemmas.Bool.{and_parts}
use Rattle.sail_base.specs.declared.place.Place.{Place}
use Rattle.sail_types.specs.Shapes.{shape}
use Rattle.sail_types.specs.declared.shapes.Shape.{Shape}
use Rattle.sail_types.specs.declared.shapes.Shape.TheVariants as V
use Rattle.sail_types.specs.declared.types.Typ.{Typ}
use Rattle.sail_syntax.specs.declared.definitions.FunctionClause.{FunctionClause}
use Rattle.sail_syntax.specs.declared.definitions.MappingClause.{MappingClause}
use Rattle.sail_syntax.specs.declared.definitions.Side.{Side}
use Rattle.sail_syntax.specs.declared.expressions.Exp.{Exp}
use Rattle.sail_syntax.specs.declared.types.TyExp.{TyExp}
use Rattle.sail_kinds.specs.Scopes.{Within}
use Rattle.core_numbers.specs.Numbers.{numbered}
use Rattle.shape_rules.specs.Calls.{Elaborate}
use Rattle.shape_rules.specs.Expressions.{part}
use Rattle.shape_rules.specs.Patterns.{Piece, each_looked, look, no_widths}
use Rattle.shape_rules.specs.Scopes.{Locals, Setting, answering, plainly, under}
use Rattle.shape_rules.specs.Sides.{gives, read_side, width_given}
use Rattle.shape_rules.specs.declared.callees.Mapping.{Mapping}
use Rattle.shape_meanings.proofs.Settling.{both_empty}
use Rattle.shape_clauses.specs.Clauses.{body_part, clause_of, clause_under, clauses_arms, clauses_bodies, clauses_core, clauses_faults, miscounted}
use Rattle.shape_clauses.specs.Clauses.{parameter_pieces}
use Rattle.shape_clauses.specs.Functions.{Measure, function_clause, function_clauses, measure_clause, measure_tree}
use Rattle.shape_clauses.specs.Mappings.{backwards_clauses, backwards_core, behind_forwards, direction_clause, forwards_clauses, forwards_core, guard_part}
use Rattle.soundness_forms.specs.Standing.{is_body}
use Rattle.standing_cores.specs.Places.{Reads, StandsRight, places}
use Rattle.standing_cores.specs.Types.{types_read}
use Rattle.standing_cores.proofs.Forms.{MaybeFine, cast_body, typed_fine}
use Rattle.standing_cores.proofs.Found.{found_stand}
use Rattle.standing_cores.proofs.Steps.{guarded_body}
use Rattle.standing_models.specs.Laws.{AreBodies, ClausesPlaced}
use Rattle.standing_models.specs.Reads.{clause_reads, crossing_reads, crossings_read, each_clause_reads, expression_reads, pair_reads}
use Rattle.standing_models.specs.Reads.{result_reads, side_reads}
use Rattle.standing_models.proofs.Numbered.{clauses_placed}
use Rattle.standing_models.proofs.Sides.{sides_stand}

not_empty : {A : Type 0} (x : A) (xs : List A) → (x ∷ xs) ≡ [] → ⊥
not_empty x xs h = cc

-- ---- one clause

clause_body : (within : Within) (e : Elaborate) → StandsRight within e → (setting : Setting) → Reads within setting → (place : Place)
    (params : List Shape) (pieces : List Piece) (at_body : Place) (want : Shape) → (clause_of setting place params pieces at_body e want).faults ≡ []
    → is_body (places (clause_of setting place params pieces at_body e want).body) ≡ true
clause_body within e h setting ok place params pieces at_body want = by (nat_eq (length params) (length pieces))
  where
    by : (b : Bool) → (if b then clause_under setting at_body e want (each_looked pieces setting no_widths params)
        else miscounted place (length params) (length pieces)).faults ≡ []
        → is_body (places (if b then clause_under setting at_body e want (each_looked pieces setting no_widths params)
        else miscounted place (length params) (length pieces)).body) ≡ true
    by true f = cast_body _ at_body (h setting ok (under (each_looked pieces setting no_widths params).binds []) want)
    by false f = absurd (not_empty _ [] f)

body_stands : (within : Within) (typ : Option TyExp) (e : Exp) → types_read within e ≡ true → result_reads within typ ≡ true
    → StandsRight within (body_part typ (part e))
body_stands within None e h k = found_stand within e h
body_stands within (Some typ) e h k = typed_fine within (part e).place (part e) typ k (found_stand within e h)

-- ---- functions

function_bodies : (setting : Setting) (params : List Shape) (answer : Shape) (cs : List FunctionClause) → each_clause_reads setting.within cs ≡ true
    → clauses_faults (function_clauses setting params answer cs) ≡ [] → AreBodies (clauses_bodies (function_clauses setting params answer cs))
function_bodies setting params answer [] h f = tt
function_bodies setting params answer (c ∷ cs) h f =
    let b = and_parts (clause_reads setting.within c) (each_clause_reads setting.within cs) h in
    let r = and_parts (types_read setting.within c.body) (result_reads setting.within c.result) b.0 in
    let e = both_empty (function_clause setting params answer c).faults (clauses_faults (function_clauses setting params answer cs)) f in (
      clause_body setting.within (body_part c.result (part c.body)) (body_stands setting.within c.result c.body r.0 r.1) (answering (Some answer) setting)
          refl c.place params (parameter_pieces c.place params c.parameters) (part c.body).place answer e.0,
      function_bodies setting params answer cs b.1 e.1,
    )

pub function_placed : (setting : Setting) (params : List Shape) (answer : Shape) (place : Place) (cs : List FunctionClause) (n : ℕ)
    → each_clause_reads setting.within cs ≡ true → clauses_faults (function_clauses setting params answer cs) ≡ []
    → ClausesPlaced (numbered (clauses_core place (function_clauses setting params answer cs)) n).it
function_placed setting params answer place cs n h f =
    clauses_placed place (clauses_arms (function_clauses setting params answer cs)) (clauses_bodies (function_clauses setting params answer cs)) n
    (function_bodies setting params answer cs h f)

pub measure_placed : (setting : Setting) (params : List Shape) (m : Measure) (n : ℕ) → types_read setting.within m.value ≡ true
    → (measure_clause setting m.place params m.parameters m.value).faults ≡ [] → ClausesPlaced (numbered (measure_tree setting params m) n).it
measure_placed setting params m n h f =
    clauses_placed m.place ((measure_clause setting m.place params m.parameters m.value).arm ∷ [])
    (clauses_bodies (measure_clause setting m.place params m.parameters m.value ∷ [])) n (
      clause_body setting.within (body_part None (part m.value)) (body_stands setting.within None m.value h refl) (plainly setting) refl m.place params
          (parameter_pieces m.place params m.parameters) (part m.value).place V.Int f,
      tt,
    )

-- ---- mappings

guard_stands : (within : Within) (guard : Option Exp) → expression_reads within guard ≡ true → MaybeFine within (guard_part guard)
guard_stands within None h = tt
guard_stands within (Some e) h = found_stand within e h

direction_body : (setting : Setting) (from : Side) (from_typ : Typ) (to : Side) (to_typ : Typ) → pair_reads setting.within from ≡ true
    → pair_reads setting.within to ≡ true → is_body (places (direction_clause setting from from_typ to to_typ).body) ≡ true
direction_body setting from from_typ to to_typ h k =
    let guard = (and_parts (side_reads setting.within from.pattern) (expression_reads setting.within from.guard) h).1 in
    let given = (and_parts (side_reads setting.within to.pattern) (expression_reads setting.within to.guard) k).0 in
    let s : Setting = answering None setting in
    let locals : Locals =
    under (look from.pattern setting (width_given (gives to.pattern setting (Some to_typ))) (shape from_typ)).binds [] in
    guarded_body setting.within (guard_part from.guard) ((read_side to.pattern).elaborate s locals (shape to_typ)).core (read_side to.pattern).place
    (guard_stands setting.within from.guard guard) (sides_stand setting.within to.pattern given s refl locals (shape to_typ)) s refl locals

forwards_bodies : (setting : Setting) (m : Mapping) (cs : List MappingClause) → crossings_read setting.within cs ≡ true
    → AreBodies (clauses_bodies (forwards_clauses setting m cs))
forwards_bodies setting m [] h = tt
forwards_bodies setting m (c ∷ cs) h =
    let b = and_parts (crossing_reads setting.within c) (crossings_read setting.within cs) h in
    let r = and_parts (pair_reads setting.within c.left) (pair_reads setting.within c.right) b.0 in
    (direction_body setting c.left m.left c.right m.right r.0 r.1, forwards_bodies setting m cs b.1)

backwards_bodies : (setting : Setting) (m : Mapping) (cs : List MappingClause) → crossings_read setting.within cs ≡ true
    → AreBodies (clauses_bodies (backwards_clauses setting m cs))
backwards_bodies setting m [] h = tt
backwards_bodies setting m (c ∷ cs) h =
    let b = and_parts (crossing_reads setting.within c) (crossings_read setting.within cs) h in
    let r = and_parts (pair_reads setting.within c.left) (pair_reads setting.within c.right) b.0 in
    (direction_body setting c.right m.right c.left m.left r.1 r.0, backwards_bodies setting m cs b.1)

pub forwards_placed : (setting : Setting) (place : Place) (m : Mapping) (cs : List MappingClause) → crossings_read setting.within cs ≡ true
    → ClausesPlaced (forwards_core setting place m cs).body
forwards_placed setting place m cs h =
    clauses_placed place (clauses_arms (forwards_clauses setting m cs)) (clauses_bodies (forwards_clauses setting m cs)) 0 (forwards_bodies setting m cs h)

pub backwards_placed : (setting : Setting) (place : Place) (m : Mapping) (cs : List MappingClause) → crossings_read setting.within cs ≡ true
    → ClausesPlaced (backwards_core setting place m cs).body
backwards_placed setting place m cs h =
    clauses_placed place (clauses_arms (backwards_clauses setting m cs)) (clauses_bodies (backwards_clauses setting m cs))
    (behind_forwards setting place m cs) (backwards_bodies setting m cs h)
