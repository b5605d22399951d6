-- Clauses, tried in order over the arguments of a call.
use Rattle.std.proofs.Common.{◌≡◌, ℕ, zero, suc, Bool, true, false, ◌&&◌, List, [], ◌∷◌, ◌++◌, append-nil, map, length, ap, sym, ◌∙◌, refl, subst}
use Rattle.std.proofs.Common.{Option, Some, None, nat_eq, arith, if◌then◌else◌}
use Rattle.std.proofs.lemmas.Bool.{and_parts}
use Rattle.std.proofs.lemmas.Cmp.{nat_eq_equiv}
use Rattle.sail_base.specs.declared.place.Place.{Place}
use Rattle.sail_types.specs.declared.shapes.Shape.{Shape}
use Rattle.sail_types.specs.declared.shapes.Shape.TheOpen as S
use Rattle.sail_types.specs.declared.shapes.Shape.TheVariants as V
use Rattle.sail_types.specs.declared.values.Value.{Value, out-Value}
use Rattle.sail_syntax.specs.declared.expressions.Exp.{Exp}
use Rattle.sail_syntax.specs.declared.patterns.Pat.{Pat}
use Rattle.sail_syntax.specs.declared.definitions.FunctionClause.{FunctionClause}
use Rattle.sail_syntax.specs.declared.types.TyExp.{TyExp}
use Rattle.sail_core.specs.declared.patterns.Arm.{Arm}
use Rattle.sail_core.specs.declared.patterns.Arm.TheVariants as A
use Rattle.sail_core.specs.declared.tree.Kind.TheVariants as K
use Rattle.sail_core.specs.declared.tree.Core.{Core}
use Rattle.sail_core.specs.Run as R
use Rattle.sail_core.specs.Run.{Now, Ended, Run, gives, falls, stuck, goes_on, within, ◌then◌}
use Rattle.sail_core.specs.Making as Core
use Rattle.sail_core.specs.Making.{plainly}
use Rattle.sail_core.specs.Patterns as Steps
use Rattle.sail_core.specs.declared.tree.Giver.TheVariants as Gives
use Rattle.sail_core.specs.Meaning.{arm_taken, core_meaning, first_of}
use Rattle.shape_joins.proofs.Order.{no}
use Rattle.sail_meaning.specs.Text.{Function, Measure}
use Rattle.sail_meaning.specs.World as Source
use Rattle.sail_meaning.specs.World.{Bindings, Piece, plain}
use Rattle.sail_meaning.specs.Patterns as Written
use Rattle.sail_meaning.specs.Patterns.{Matcher, arguments_match, matcher, unit_matches}
use Rattle.sail_meaning.specs.Expressions.{meaning}
use Rattle.sail_meaning.specs.Calls.{clause_taken, first_clause}
use Rattle.sail_names.specs.Known as Tables
use Rattle.sail_names.specs.Locals as Bound
use Rattle.sail_names.specs.Clauses.{behind_parameters, function_clause_failures}
use Rattle.sail_names.specs.Patterns.{binds, clashes, joined, parameters_failures, uses_failures}
use Rattle.sail_names.specs.Uses.{expression_failures, maybe_type}
use Rattle.shape_rules.specs.declared.locals.Local.{Local}
use Rattle.shape_rules.specs.Findings.{Found, cast}
use Rattle.shape_rules.specs.Scopes.{Setting, Locals, answering, plainly as plain_setting, under}
use Rattle.shape_rules.specs.Calls.{Elaborate}
use Rattle.shape_rules.specs.Patterns.{LookedAll, Piece as Looking, each_looked, no_widths, piece, unit_piece}
use Rattle.shape_rules.specs.Expressions.{part}
use Rattle.shape_clauses.specs.Clauses.{Claused, body_part, clause_of, clause_under, clauses_arms, clauses_bodies, clauses_core, clauses_faults}
use Rattle.shape_clauses.specs.Clauses.{is_one_unit}
use Rattle.shape_clauses.specs.Clauses.{miscounted, parameter_pieces}
use Rattle.shape_clauses.specs.Functions.{function_clause, function_clauses, measure_clause}
use Rattle.shape_meanings.specs.Whole.{Choice, all_of, below}
use Rattle.shape_meanings.specs.Trees.{pattern_written, written}
use Rattle.shape_meanings.specs.Counted.{all_counted}
use Rattle.shape_meanings.specs.Keeping.{Fits, FitAll, Suits, SeenAs, Reach, Good, reach_of, Keeps, Agree}
use Rattle.shape_meanings.specs.Worlds.{Describes}
use Rattle.shape_meanings.specs.Naming.{AreKnown}
use Rattle.shape_meanings.specs.Matching.{PiecesAre}
use Rattle.shape_meanings.specs.Parts.{EitherWay, IsRight}
use Rattle.shape_meanings.specs.Models.{BodyIs, FunctionIs}
use Rattle.shape_meanings.proofs.Orders.{belows, exact}
use Rattle.shape_meanings.proofs.Runs.{or_agree, then_agree, within_agrees}
use Rattle.shape_meanings.proofs.Settling.{both_empty, unrolled}
use Rattle.shape_meanings.proofs.Branches.{cast_means}
use Rattle.shape_meanings.proofs.Lets.{no_widths_there, seen_under}
use Rattle.shape_meanings.proofs.Leaving.{typed_right}
use Rattle.shape_meanings.proofs.Patterns.{parts_agree}
use Rattle.shape_meanings.proofs.PatternsSound.{patterns_sound}
use Rattle.shape_meanings.proofs.Tested.{unit_pattern_right}
use Rattle.shape_meanings.proofs.Plain.{plain_described}
use Rattle.shape_meanings.proofs.Apart.{names_either}
use Rattle.shape_meanings.proofs.Binds.{EachBinds, as_bound, more_bind, pat_binds}
use Rattle.shape_meanings.proofs.PatternCounts.{EachCounts, more_count, pat_counts}
use Rattle.shape_meanings.proofs.PatternNames.{bound_names, bound_texts}
use Rattle.shape_meanings.proofs.Ready.{Ready, with_names}
use Rattle.shape_meanings.proofs.Expressions.{expressions_right}
use Rattle.shape_meanings.proofs.CallAims.{fit_length}
use Rattle.shape_meanings.proofs.Bases.{not_none}
use Rattle.body_meanings.specs.Bodies.{ClausesAreNamed, MeasureIs}
use Rattle.body_meanings.proofs.PlainPatterns.{plain_arguments}

-- ---- what parameters do

-- pieces and matchers of parameters are right, bind the names that the tables find, and match the arguments that there are as many of
pub record ParametersAre (setting : Setting) (names : Tables.Setting) (ps : List Pat) (pieces : List Looking) (ms : List Matcher) : Type 0 where
  pub right : PiecesAre setting no_widths pieces ms
  pub bound : EachBinds setting pieces (joined (map (binds names.known) ps))
  pub counts : EachCounts setting pieces
  pub matched : (ws : Source.World) (vs : List Value) (now : Now Value) → length vs ≡ length pieces
      → arguments_match ws ps vs now ≡ Written.parts_match ms ws vs now

pieces_right : (ps : List Pat) (setting : Setting) (names : Tables.Setting) → AreKnown setting names → all_of (map pattern_written ps) ≡ true
    → joined (map (uses_failures names) ps) ≡ [] → PiecesAre setting no_widths (map piece ps) (map matcher ps)
pieces_right [] setting names known w u = tt
pieces_right (p ∷ ps) setting names known w u =
    let k = and_parts (pattern_written p) (all_of (map pattern_written ps)) w in
    let h = both_empty (uses_failures names p) (joined (map (uses_failures names) ps)) u in
    (λ subject e. patterns_sound p k.0 setting names known no_widths subject h.0 e, pieces_right ps setting names known k.1 h.1)

pieces_bind : (ps : List Pat) (setting : Setting) (names : Tables.Setting) → AreKnown setting names → joined (map (uses_failures names) ps) ≡ []
    → EachBinds setting (map piece ps) (joined (map (binds names.known) ps))
pieces_bind [] setting names known u = λ widths ss. refl
pieces_bind (p ∷ ps) setting names known u =
    let h = both_empty (uses_failures names p) (joined (map (uses_failures names) ps)) u in
    more_bind setting (piece p) (map piece ps) (binds names.known p) (joined (map (binds names.known) ps)) (pat_binds p setting names known h.0)
    (pieces_bind ps setting names known h.1)

pieces_count : (ps : List Pat) (setting : Setting) (names : Tables.Setting) → AreKnown setting names → joined (map (uses_failures names) ps) ≡ []
    → EachCounts setting (map piece ps)
pieces_count [] setting names known u = λ widths ss h. tt
pieces_count (p ∷ ps) setting names known u =
    let h = both_empty (uses_failures names p) (joined (map (uses_failures names) ps)) u in
    more_count setting (piece p) (map piece ps) (pat_counts p setting names known h.0).1 (pieces_count ps setting names known h.1)

mapped_length : {A B : Type 0} (f : A → B) (xs : List A) → length (map f xs) ≡ length xs
mapped_length f [] = refl
mapped_length f (x ∷ xs) = ap suc (mapped_length f xs)

not_zero : {A : Type 0} (n : ℕ) → suc n ≡ zero → A
not_zero n h = absurd (different n h)
  where
    different : (n : ℕ) → suc n ≡ zero → ⊥
    different n h = grind (arith, h)

patterns_match : (ps : List Pat) (ws : Source.World) (vs : List Value) (now : Now Value) → length vs ≡ length (map piece ps)
    → arguments_match ws ps vs now ≡ Written.parts_match (map matcher ps) ws vs now
patterns_match [] ws [] now many = refl
patterns_match [] ws (v ∷ vs) now many = not_zero (length vs) many
patterns_match (p ∷ ps) ws vs now many =
    ap (λ b. (if b then Written.parts_match (map matcher (p ∷ ps)) ws vs else stuck) now)
    (ap (λ n. nat_eq (length (map matcher (p ∷ ps))) n) (many ∙ mapped_length piece (p ∷ ps) ∙ sym (mapped_length matcher (p ∷ ps)))
    ∙ nat_eq_equiv.refl (length (map matcher (p ∷ ps))))

-- `()`
abbrev unit_matcher : Matcher
unit_matcher = record { width = λ w. None; matches = λ w v. unit_matches (out-Value v) }

one_match : (ws : Source.World) (e : Ended Value Bindings)
    → e ≡ goes_on e (λ found. Written.parts_match [] ws [] then λ others. gives (found ++ others))
one_match ws (R.Gives found now) = ap (λ f. R.Gives f now) (sym (append-nil found))
one_match ws (R.No now) = refl
one_match ws (R.Returns v now) = refl
one_match ws (R.Throws v now) = refl
one_match ws (R.Stops cause now) = refl
one_match ws R.Stuck = refl

unit_match : (ws : Source.World) (vs : List Value) (now : Now Value) → length vs ≡ suc zero
    → arguments_match ws [] vs now ≡ Written.parts_match (unit_matcher ∷ []) ws vs now
unit_match ws [] now many = not_zero zero (sym many)
unit_match ws (v ∷ []) now many = one_match ws (unit_matches (out-Value v) now)
unit_match ws (v ∷ u ∷ vs) now many = not_zero (length vs) (less many)
  where
    less : suc (suc (length vs)) ≡ suc zero → suc (length vs) ≡ zero
    less h = grind (arith, h)

parameters_are : (place : Place) (params : List Shape) (ps : List Pat) (setting : Setting) (names : Tables.Setting) → AreKnown setting names
    → all_of (map pattern_written ps) ≡ true → joined (map (uses_failures names) ps) ≡ []
    → (ms : List Matcher) × ParametersAre setting names ps (parameter_pieces place params ps) ms
parameters_are place params ps setting names known w u = by_unit ps (is_one_unit params ps) refl w u
  where
    by_unit : (ps : List Pat) (b : Bool) → is_one_unit params ps ≡ b → all_of (map pattern_written ps) ≡ true → joined (map (uses_failures names) ps) ≡ []
        → (ms : List Matcher) × ParametersAre setting names ps (if b then unit_piece place ∷ [] else map piece ps) ms
    by_unit [] true is w u = (
      unit_matcher ∷ [],
      record {
        right = (λ subject e. unit_pattern_right setting no_widths subject place e, tt);
        bound = unit_binds;
        counts = unit_counts;
        matched = unit_match;
      },
    )
      where
        unit_binds : EachBinds setting (unit_piece place ∷ []) []
        unit_binds widths [] = refl
        unit_binds widths (s ∷ ss) = refl

        unit_counts : EachCounts setting (unit_piece place ∷ [])
        unit_counts widths [] h = tt
        unit_counts widths (s ∷ ss) h = tt
    by_unit (p ∷ ps) true is w u = no is
    by_unit ps false is w u = (
      map matcher ps,
      record {
        right = pieces_right ps setting names known w u;
        bound = pieces_bind ps setting names known u;
        counts = pieces_count ps setting names known u;
        matched = patterns_match ps;
      },
    )

-- ---- one clause

-- an arm over arguments of these shapes does what a clause does, and gives values of a shape
abbrev ClauseRuns : Setting → List Shape → Shape → Arm → Core → (Source.World → List Value → Piece Value) → Type 0
ClauseRuns setting params answer arm body taken =
    (registers : List Shape) (c : Choice) (wc : Core.World Value) (ws : Source.World) → Describes setting registers wc ws
    → (vs : List Value) → FitAll setting.types c params vs → (now : Now Value) → Good (reach_of setting registers c []) now
    → Agree (reach_of setting registers c []) (Fits setting.types c answer) (arm_taken plainly wc (Gives.Node 0) arm (core_meaning wc body) vs now)
    (taken ws vs now)

looked_length : (ps : List Looking) (setting : Setting) (ss : List Shape) → length (each_looked ps setting no_widths ss).patterns ≡ length ps
looked_length [] setting ss = refl
looked_length (p ∷ ps) setting [] = ap suc (looked_length ps setting [])
looked_length (p ∷ ps) setting (s ∷ ss) = ap suc (looked_length ps setting ss)

-- the same for the source's side in another world, as that of a measure's value is
arm_runs : (setting : Setting) (names : Tables.Setting) (params : List Shape) (answer : Shape) (ps : List Pat) (pieces : List Looking) (ms : List Matcher)
    (body : Core) (mb : Source.Meaning)
    → ParametersAre setting names ps pieces ms → length pieces ≡ length params → (each_looked pieces setting no_widths params).faults ≡ []
    → EitherWay (each_looked pieces setting no_widths params).binds
    → ((registers : List Shape) (c : Choice) (wc : Core.World Value) (ws : Source.World) → Describes setting registers wc ws
    → (more : List Local) → SeenAs more (under (each_looked pieces setting no_widths params).binds []) → (here : Now Value)
    → Good (reach_of setting registers c more) here
    → Agree (reach_of setting registers c more) (Fits setting.types c answer) (core_meaning wc body here) (mb ws here))
    → ClauseRuns setting params answer (A.Nested (each_looked pieces setting no_widths params).patterns) body
    (λ ws vs. arguments_match ws ps vs then λ found. within found (mb ws))
arm_runs setting names params answer ps pieces ms body mb are count e either runs registers c wc ws d vs fit now good =
    let reach : Reach = reach_of setting registers c [] in
    let Q : Value → Type 0 = Fits setting.types c answer in
    let looks : LookedAll = each_looked pieces setting no_widths params in
    let core : Run Value (List (R.Local Value)) = Steps.parts_match (map (Steps.matcher plainly wc) looks.patterns) vs in
    let r = then_agree reach (Suits setting.types c looks.binds) Q (core now) (Written.parts_match ms ws vs now)
    (λ found. within found (core_meaning wc body)) (λ found. within found (mb ws))
    (subst (λ u. Agree reach (Suits setting.types c looks.binds) (core now) (Written.parts_match ms u vs now)) (no_widths_there setting registers wc ws d)
    (parts_agree pieces ms params vs setting no_widths are.right count e registers c wc ws d [] fit now good))
    (λ found later suits good2. within_agrees reach Q looks.binds found (core_meaning wc body) (mb ws) later good2 suits
    (λ here good3. runs registers c wc ws d (looks.binds ++ []) (seen_under looks.binds [] [] either (λ name. refl)) here good3)) in
    let many : length vs ≡ length pieces = fit_length setting.types c params vs fit ∙ sym count in
    let same : nat_eq (length vs) (length looks.patterns) ≡ true =
    ap (λ n. nat_eq n (length looks.patterns)) (many ∙ sym (looked_length pieces setting params)) ∙ nat_eq_equiv.refl (length looks.patterns) in
    let source = ap (λ e. goes_on e (λ found. within found (mb ws))) (are.matched ws vs now many) in (
      ap (λ b. goes_on ((if b then core else stuck) now) (λ found. within found (core_meaning wc body))) same ∙ r.0 ∙ sym source,
      subst (Keeps reach Q) (sym source) r.1,
    )

pub nothing_ready : (setting : Setting) (names : Tables.Setting) → AreKnown setting names → Ready setting names [] []
nothing_ready setting names known = record {
  known = known;
  are = λ name. tt;
  settled = λ name l is var. none_some is;
  counted = tt;
}
  where
    none_some : {A B : Type 0} {x : A} → None ≡ Some x → B
    none_some e = absurd (empty e)
      where
        empty : {A : Type 0} {x : A} → None ≡ Some x → ⊥
        empty e = cc

-- a clause whose body is right under the names of its parameters
clause_runs : (setting : Setting) (names : Tables.Setting) → AreKnown setting names → (place : Place) (params : List Shape)
    → all_counted setting.types params ≡ true → (ps : List Pat) → all_of (map pattern_written ps) ≡ true → parameters_failures names ps ≡ []
    → (at_body : Place) (el : Elaborate) (mb : Source.Meaning) (answer : Shape) (n : ℕ) → below n answer ≡ true
    → ((locals : Locals) → Ready setting names locals (behind_parameters names ps []) → (el setting locals answer).faults ≡ []
    → (registers : List Shape) (c : Choice) (wc : Core.World Value) (ws : Source.World) → Describes setting registers wc ws
    → (more : List Local) → SeenAs more locals → (here : Now Value) → Good (reach_of setting registers c more) here
    → Agree (reach_of setting registers c more) (Fits setting.types c answer) (core_meaning wc (el setting locals answer).core here) (mb ws here))
    → (clause_of setting place params (parameter_pieces place params ps) at_body el answer).faults ≡ []
    → ClauseRuns setting params answer (clause_of setting place params (parameter_pieces place params ps) at_body el answer).arm
    (clause_of setting place params (parameter_pieces place params ps) at_body el answer).body
    (λ ws vs. arguments_match ws ps vs then λ found. within found (mb ws))
clause_runs setting names known place params counts ps w u at_body el mb answer n whole runs e =
    by_count (nat_eq (length params) (length pieces)) refl e
  where
    pieces : List Looking
    pieces = parameter_pieces place params ps

    looks : LookedAll
    looks = each_looked pieces setting no_widths params

    k : (joined (map (uses_failures names) ps) ≡ []) × (clashes (joined (map (binds names.known) ps)) ≡ [])
    k = both_empty (joined (map (uses_failures names) ps)) (clashes (joined (map (binds names.known) ps))) u

    are : (ms : List Matcher) × ParametersAre setting names ps pieces ms
    are = parameters_are place params ps setting names known w k.0

    same : map as_bound looks.binds ≡ map Bound.constant (joined (map (binds names.known) ps))
    same = are.1.bound no_widths params

    equal : (i j : ℕ) → nat_eq i j ≡ true → j ≡ i
    equal i j h = grind (arith, h)

    by_count : (b : Bool) → nat_eq (length params) (length pieces) ≡ b
        → (if b then clause_under setting at_body el answer looks else miscounted place (length params) (length pieces)).faults ≡ []
        → ClauseRuns setting params answer (if b then clause_under setting at_body el answer looks else miscounted place (length params) (length pieces)).arm
        (if b then clause_under setting at_body el answer looks else miscounted place (length params) (length pieces)).body
        (λ ws vs. arguments_match ws ps vs then λ found. within found (mb ws))
    by_count false many e = not_none e
    by_count true many e =
        let inner : Locals = under looks.binds [] in
        let found : Found = el setting inner answer in
        let h = both_empty looks.faults found.faults e in
        let ready = with_names looks.binds (joined (map (binds names.known) ps)) setting names [] [] (nothing_ready setting names known) same
        (are.1.counts no_widths params counts) in
        let body = runs inner ready h.1 in
        arm_runs setting names params answer ps pieces are.0 (cast found.core at_body) mb are.1 (equal (length params) (length pieces) many) h.0
        (names_either looks.binds (joined (map (binds names.known) ps))
        (sym (bound_names looks.binds) ∙ ap (map (λ (b : Bound.Local). b.name)) same ∙ bound_texts (joined (map (binds names.known) ps))) k.1)
        (λ registers c wc ws d more seen here good.
        let r = body registers c wc ws d more seen here good in
        (ap (λ (q : Run Value Value). q here) (cast_means wc found.core at_body) ∙ r.0, r.1))

-- ---- clauses in order

-- what is said of each clause
abbrev ClausesRun : Setting → List Shape → Shape → List Claused → List FunctionClause → Type 0
ClausesRun setting params answer [] [] = Unit {0}
ClausesRun setting params answer (k ∷ ks) (c ∷ cs) =
    ClauseRuns setting params answer k.arm k.body (λ ws vs. clause_taken ws c vs) × ClausesRun setting params answer ks cs
ClausesRun setting params answer ks cs = ⊥

first_agrees : (setting : Setting) (params : List Shape) (answer : Shape) (ks : List Claused) (cs : List FunctionClause)
    → ClausesRun setting params answer ks cs
    → (registers : List Shape) (c : Choice) (wc : Core.World Value) (ws : Source.World) → Describes setting registers wc ws
    → (vs : List Value) → FitAll setting.types c params vs → (now : Now Value) → Good (reach_of setting registers c []) now
    → Agree (reach_of setting registers c []) (Fits setting.types c answer)
    (first_of plainly wc 0 (clauses_arms ks) (map (core_meaning wc) (clauses_bodies ks)) falls vs now) (first_clause ws cs vs now)
first_agrees setting params answer [] [] are registers c wc ws d vs fit now good = (refl, good)
first_agrees setting params answer [] (x ∷ xs) are registers c wc ws d vs fit now good = absurd are
first_agrees setting params answer (k ∷ ks) [] are registers c wc ws d vs fit now good = absurd are
first_agrees setting params answer (k ∷ ks) (x ∷ xs) are registers c wc ws d vs fit now good =
    or_agree (reach_of setting registers c []) (Fits setting.types c answer) (arm_taken plainly wc (Gives.Node 0) k.arm (core_meaning wc k.body) vs now)
    (clause_taken ws x vs now) (first_of plainly wc 0 (clauses_arms ks) (map (core_meaning wc) (clauses_bodies ks)) falls vs) (first_clause ws xs vs)
    (are.0 registers c wc ws d vs fit now good)
    (λ later good2. first_agrees setting params answer ks xs are.1 registers c wc ws d vs fit later good2)

body_is : (setting : Setting) (params : List Shape) (answer : Shape) (place : Place) (ks : List Claused) (cs : List FunctionClause)
    → ClausesRun setting params answer ks cs → BodyIs setting params answer (clauses_core place ks) (λ ws. first_clause ws cs)
body_is setting params answer place ks cs are registers c wc ws d vs arguments fit now good =
    let a = first_agrees setting params answer ks cs are registers c wc ws d vs fit now good in (
      ap (λ (q : Run Value Value). q now) (unrolled wc place 0 (K.Clauses (clauses_arms ks)) (clauses_bodies ks))
          ∙ ap (λ xs. first_of plainly wc 0 (clauses_arms ks) (map (core_meaning wc) (clauses_bodies ks)) falls xs now) arguments ∙ a.0,
      a.1,
    )

-- ---- functions

-- a body, of which `-> T` makes an annotated expression
body_right : (setting : Setting) (names : Tables.Setting) (locals : Locals) (bound : Bound.Locals) → Ready setting names locals bound
    → (typ : Option TyExp) → maybe_type typ names ≡ [] → (e : Exp) → written e ≡ true → expression_failures e names bound ≡ []
    → IsRight setting locals (body_part typ (part e)) (meaning e)
body_right setting names locals bound r None t e w u = λ want f.
    expressions_right e w setting names r.known locals bound r.are r.settled r.counted want u f
body_right setting names locals bound r (Some typ) t e w u =
    let k = r.known.typs typ t in
    typed_right setting locals (part e).place (part e) typ k.0 k.2.0 (meaning e) k.1 k.2.1
    (λ want f. expressions_right e w setting names r.known locals bound r.are r.settled r.counted want u f)

function_clause_runs : (setting : Setting) (names : Tables.Setting) → AreKnown setting names → (params : List Shape)
    → all_counted setting.types params ≡ true → (answer : Shape) (n : ℕ) → below n answer ≡ true → (c : FunctionClause)
    → (all_of (map pattern_written c.parameters) && written c.body) ≡ true → function_clause_failures names c ≡ []
    → (clause_of setting c.place params (parameter_pieces c.place params c.parameters) (part c.body).place (body_part c.result (part c.body))
    answer).faults ≡ []
    → ClauseRuns setting params answer
    (clause_of setting c.place params (parameter_pieces c.place params c.parameters) (part c.body).place (body_part c.result (part c.body)) answer).arm
    (clause_of setting c.place params (parameter_pieces c.place params c.parameters) (part c.body).place (body_part c.result (part c.body)) answer).body
    (λ ws vs. clause_taken ws c vs)
function_clause_runs setting names known params counts answer n whole c w u e =
    let k = and_parts (all_of (map pattern_written c.parameters)) (written c.body) w in
    let h = both_empty (parameters_failures names c.parameters ++ maybe_type c.result names)
    (expression_failures c.body names (behind_parameters names c.parameters [])) u in
    let h2 = both_empty (parameters_failures names c.parameters) (maybe_type c.result names) h.0 in
    clause_runs setting names known c.place params counts c.parameters k.0 h2.0 (part c.body).place (body_part c.result (part c.body)) (meaning c.body) answer n
    whole
    (λ locals r f registers ch wc ws d more seen here good.
    let right = body_right setting names locals (behind_parameters names c.parameters []) r c.result h2.1 c.body k.1 h.1 answer f in
    subst (λ s. Agree (reach_of setting registers ch more) (Fits setting.types ch s)
    (core_meaning wc (body_part c.result (part c.body) setting locals answer).core here) (meaning c.body ws here))
    (exact answer (body_part c.result (part c.body) setting locals answer).shape n right.above whole)
    (right.runs registers ch wc ws d more seen here good)) e

clauses_run : (cs : List FunctionClause) (setting : Setting) (names : Tables.Setting) (params : List Shape) (answer : Shape) (n : ℕ)
    → AreKnown (answering (Some answer) setting) names → all_counted setting.types params ≡ true → below n answer ≡ true → ClausesAreNamed names cs
    → clauses_faults (function_clauses setting params answer cs) ≡ []
    → ClausesRun (answering (Some answer) setting) params answer (function_clauses setting params answer cs) cs
clauses_run [] setting names params answer n known counts whole named e = tt
clauses_run (c ∷ cs) setting names params answer n known counts whole named e =
    let h = both_empty (function_clause setting params answer c).faults (clauses_faults (function_clauses setting params answer cs)) e in (
      function_clause_runs (answering (Some answer) setting) names known params counts answer n whole c named.0 named.1 h.0,
      clauses_run cs setting names params answer n known counts whole named.2 h.1,
    )

pub functions_right : (setting : Setting) (names : Tables.Setting) (params : List Shape) (answer : Shape) (place : Place) (f : Function)
    → AreKnown (answering (Some answer) setting) names → all_counted setting.types params ≡ true → ClausesAreNamed names f.clauses
    → clauses_faults (function_clauses setting params answer f.clauses) ≡ []
    → FunctionIs setting params answer (clauses_core place (function_clauses setting params answer f.clauses)) f
functions_right setting names params answer place f known counts named e =
    let n = known.answer answer refl in
    body_is (answering (Some answer) setting) params answer place (function_clauses setting params answer f.clauses) f.clauses
    (clauses_run f.clauses setting names params answer n.0 known counts n.1 named e)

-- ---- measures

-- one clause, and where it isn't taken none
or_none : (e : Ended Value Value) → R.or_so e falls ≡ e
or_none (R.Gives v now) = refl
or_none (R.No now) = refl
or_none (R.Returns v now) = refl
or_none (R.Throws v now) = refl
or_none (R.Stops cause now) = refl
or_none R.Stuck = refl

int_below : below 0 V.Int ≡ true
int_below = ap (below 0) (sym V.rolls-Int) ∙ belows 0 S.Int

pub measures_right : (setting : Setting) (names : Tables.Setting) (params : List Shape) (place : Place) (m : Measure)
    → AreKnown (plain_setting setting) names → all_counted setting.types params ≡ true
    → (all_of (map pattern_written m.parameters) && written m.value) ≡ true → parameters_failures names m.parameters ≡ []
    → expression_failures m.value names (behind_parameters names m.parameters []) ≡ []
    → (measure_clause setting place params m.parameters m.value).faults ≡ []
    → MeasureIs setting params (Some (clauses_core place (measure_clause setting place params m.parameters m.value ∷ []))) (Some m)
measures_right setting names params place m known counts w u v e registers c wc ws d vs arguments fit now good =
    let plain_one : Setting = plain_setting setting in
    let k = and_parts (all_of (map pattern_written m.parameters)) (written m.value) w in
    let one : Claused = measure_clause setting place params m.parameters m.value in
    let a = clause_runs plain_one names known place params counts m.parameters k.0 u (part m.value).place (part m.value).elaborate (meaning m.value)
    V.Int 0 int_below
    (λ locals r f registers ch wc ws d more seen here good.
    let right = expressions_right m.value k.1 plain_one names known locals (behind_parameters names m.parameters []) r.are r.settled r.counted V.Int v f in
    subst (λ s. Agree (reach_of plain_one registers ch more) (Fits plain_one.types ch s)
    (core_meaning wc ((part m.value).elaborate plain_one locals V.Int).core here) (meaning m.value ws here))
    (exact V.Int ((part m.value).elaborate plain_one locals V.Int).shape 0 right.above int_below) (right.runs registers ch wc ws d more seen here good))
    e registers c wc (plain ws) (plain_described setting registers wc ws d) vs fit now good in
    let source = ap (λ e. goes_on e (λ found. within found (meaning m.value (plain ws)))) (plain_arguments m.parameters ws vs now) in (
      ap (λ (q : Run Value Value). q now) (unrolled wc place 0 (K.Clauses (one.arm ∷ [])) (one.body ∷ []))
          ∙ ap (λ xs. first_of plainly wc 0 (one.arm ∷ []) (core_meaning wc one.body ∷ []) falls xs now) arguments
          ∙ or_none (arm_taken plainly wc (Gives.Node 0) one.arm (core_meaning wc one.body) vs now) ∙ a.0 ∙ source,
      subst (Keeps (reach_of plain_one registers c []) (Fits setting.types c V.Int)) source a.1,
    )
