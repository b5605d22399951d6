-- The core of each expression means what it means: by induction on the expression.
use Rattle.std.proofs.Common.{◌≡◌, ℕ, Bool, true, false, ◌&&◌, List, [], ◌∷◌, ◌++◌, map, ap, sym, ◌∙◌, refl, subst, Option, Some, None, is_some, inl}
use Rattle.std.proofs.Common.{inr}
use Rattle.std.proofs.Common.{if◌then◌else◌}
use Rattle.std.proofs.lemmas.Bool.{and_parts}
use Rattle.sail_base.specs.declared.kind.Kind.TheVariants as Sort
use Rattle.sail_base.specs.declared.operators.Operator.{Operator}
use Rattle.sail_base.specs.declared.operators.Operator.TheVariants as O
use Rattle.sail_base.specs.declared.place.Place.{Place}
use Rattle.sail_types.specs.declared.shapes.Shape.{Shape, out-Shape}
use Rattle.sail_types.specs.declared.shapes.Shape.TheOpen as S
use Rattle.sail_types.specs.declared.shapes.Shape.TheViews.{out-roll-Shape}
use Rattle.sail_types.specs.declared.shapes.Shape.TheVariants as V
use Rattle.sail_types.specs.declared.values.Value.{out-Value}
use Rattle.sail_types.specs.Sums.{and_then}
use Rattle.sail_syntax.specs.declared.name.Name.{Name}
use Rattle.sail_syntax.specs.declared.types.TyExp.{TyExp}
use Rattle.sail_syntax.specs.declared.patterns.Pat.{Pat}
use Rattle.sail_syntax.specs.declared.words.Asking.TheVariants.{Sizeof, Constraint}
use Rattle.sail_syntax.specs.declared.words.Brackets.TheVariants as B
use Rattle.sail_syntax.specs.declared.words.Choosing.TheVariants.{Match, Try}
use Rattle.sail_syntax.specs.declared.words.Leaving.TheVariants as Leave
use Rattle.sail_syntax.specs.declared.words.Looping.TheVariants.{While, Repeat}
use Rattle.sail_syntax.specs.declared.expressions.Exp.{Exp, Exp-F, roll-Exp}
use Rattle.sail_syntax.specs.declared.expressions.Exp.TheOpen as E
use Rattle.sail_syntax.specs.declared.expressions.Exp.TheOpen.{FieldValue-F, LExp-F, Stmt-F, Suffix-F, Target-F}
use Rattle.sail_syntax.specs.declared.expressions.Exp.TheFolds.{ind-Exp}
use Rattle.sail_syntax.specs.declared.expressions.Stmt.{Stmt, roll-Stmt}
use Rattle.sail_syntax.specs.declared.expressions.Suffix.{Suffix as SuffixTree, roll-Suffix}
use Rattle.sail_syntax.specs.declared.expressions.Case.{Case as CaseTree, roll-Case}
use Rattle.sail_syntax.specs.declared.expressions.Index.{Index, roll-Index}
use Rattle.sail_syntax.specs.declared.expressions.Range.{Range, roll-Range}
use Rattle.sail_syntax.specs.declared.expressions.LExp.{LExp, roll-LExp}
use Rattle.sail_syntax.specs.declared.expressions.FieldValue.{FieldValue, roll-FieldValue}
use Rattle.sail_syntax.specs.declared.expressions.Target.{Target as TargetTree, roll-Target}
use Rattle.sail_meaning.specs.World as Source
use Rattle.sail_meaning.specs.Loops as Turns
use Rattle.sail_meaning.specs.World.{integer}
use Rattle.sail_meaning.specs.Expressions.{Field, Span, fields_of, infix_of, leave, name_of, names_of, struct_made, values_of}
use Rattle.sail_meaning.specs.Targets.{Target, name_spot, part_spot, spots_of, tuple_spot, ways_of}
use Rattle.sail_meaning.specs.Named.{struct_with}
use Rattle.sail_core.specs.Run.{gives, needs, ◌then◌}
use Rattle.shape_joins.proofs.Order.{no}
use Rattle.sail_names.specs.Known as Tables
use Rattle.sail_names.specs.Known.{in_measure, is_assigned, is_callee}
use Rattle.sail_names.specs.Locals as Bound
use Rattle.sail_names.specs.Locals.{behind}
use Rattle.sail_names.specs.Patterns.{binds, clashes, pattern_failures, type_failures, unless, uses_failures}
use Rattle.sail_names.specs.Uses as Uses
use Rattle.shape_rules.specs.Findings.{given_on, ill_shaped}
use Rattle.shape_rules.specs.Scopes.{Setting, Locals, constant, local_of, under, plainly, thrown_shape}
use Rattle.shape_rules.specs.Written.{shape_or_never}
use Rattle.shape_rules.specs.Patterns.{look, no_widths, wanted_by, written_shape}
use Rattle.shape_rules.specs.Targets.{Aimed, Part, SuffixPart, TargetPart, call_aim, each_aimed, elaborations, leaves_open, name_aimed, read_aimed}
use Rattle.shape_rules.specs.Targets.{tuple_aimed, walked}
use Rattle.shape_rules.specs.Values.{FieldPart, call_named, infix_found, last_place, leave_found, return_found, struct_at, struct_found, struct_place}
use Rattle.shape_rules.specs.Statements.{blocked, bound, chained_faults, declared_shape, declaring, foreach_found, hole_faults, typ_faults, RangePart}
use Rattle.shape_rules.specs.Expressions as Rules
use Rattle.shape_meanings.specs.Whole.{IsSettled, all_of, below}
use Rattle.shape_meanings.specs.Trees.{is_part, pattern_written}
use Rattle.shape_meanings.specs.Aims.{AimIs, AimsAre, FurtherAre}
use Rattle.shape_meanings.specs.Naming.{AreKnown}
use Rattle.shape_meanings.specs.Parts.{IsRight, AreRight, CasesAre, FieldsAre, NamesApart, StatementsAre, SuffixesAre, TypIs}
use Rattle.shape_meanings.specs.Counted.{LocalsCounted, counted}
use Rattle.shape_meanings.specs.Sound.{ElaborationIsSound, Right}
use Rattle.shape_meanings.proofs.Aims.{as_part, tuple_aim}
use Rattle.shape_meanings.proofs.Assigns.{assign_right}
use Rattle.shape_meanings.proofs.Bases.{BaseHolds, as_aim, as_tuple_part, call_aims, call_base, chained_known, name_base, part_holds, not_none}
use Rattle.shape_meanings.proofs.Binds.{pat_binds}
use Rattle.shape_meanings.proofs.Blocks.{block_right, unit_block_right, define_is, evaluate_is}
use Rattle.shape_meanings.proofs.Branches.{if_right}
use Rattle.shape_meanings.proofs.CallAims.{call_meant}
use Rattle.shape_meanings.proofs.CallCounts.{ElsCount}
use Rattle.shape_meanings.proofs.CallTargets.{call_target_right}
use Rattle.shape_meanings.proofs.Callings.{called_right}
use Rattle.shape_meanings.proofs.Cases.{match_right}
use Rattle.shape_meanings.proofs.Counting.{int_counted, never_counted}
use Rattle.shape_meanings.proofs.Declaring.{declare_is, let_right, var_right}
use Rattle.shape_meanings.proofs.FormCounts.{thrown_counted}
use Rattle.shape_meanings.proofs.Folds.{SuchExp, SuchLExp, SuchStmt, SuchSuffix, SuchCase, SuchFieldValue, SuchIndex, SuchRange, SuchTarget}
use Rattle.shape_meanings.proofs.Folds.{first_Exp, first_Stmt, first_Suffix, first_Case, first_Index, first_Range}
use Rattle.shape_meanings.proofs.Folds.{ExpForm, StmtForm, SuffixForm, CaseForm, IndexForm, RangeForm, LExpForm, FieldValueForm, TargetForm}
use Rattle.shape_meanings.proofs.Folds.{first_LExp, first_FieldValue, first_Target, rolled_LExp, rolled_FieldValue, rolled_Target}
use Rattle.shape_meanings.proofs.Folds.{found_lexp, meant_lexp, failed_lexp, written_lexp, found_field, meant_field, failed_field, written_field}
use Rattle.shape_meanings.proofs.Folds.{found_target, meant_target, failed_target, written_target, LExpHolds, FieldHolds, FurtherHolds, Known}
use Rattle.shape_meanings.proofs.Folds.{rolled_Exp, rolled_Stmt, rolled_Suffix, rolled_Case, rolled_Index, rolled_Range}
use Rattle.shape_meanings.proofs.Folds.{found_exp, meant_exp, failed_exp, written_exp, found_stmt, meant_stmt, failed_stmt, written_stmt}
use Rattle.shape_meanings.proofs.Folds.{found_suffix, meant_suffix, failed_suffix, written_suffix, found_case, meant_case, failed_case, written_case}
use Rattle.shape_meanings.proofs.Folds.{found_index, meant_index, failed_index, written_index, found_range, meant_range, failed_range, written_range}
use Rattle.shape_meanings.proofs.Folds.{ExpHolds, StmtHolds, SuffixHolds, CaseHolds, IndexHolds, RangeHolds, RangeIs}
use Rattle.shape_meanings.proofs.Groups.{empty_tuple_right, list_right, tuple_right}
use Rattle.shape_meanings.proofs.Leaving.{exit_right, return_right, throw_right, typed_right}
use Rattle.shape_meanings.proofs.Looping.{foreach_right, repeat_right, while_right}
use Rattle.shape_meanings.proofs.Naming.{name_right, unless_true}
use Rattle.shape_meanings.proofs.Openness.{is_tuple_form, settles}
use Rattle.shape_meanings.proofs.Operators.{infix_right, prefix_right}
use Rattle.shape_meanings.proofs.PatternCounts.{pat_counts}
use Rattle.shape_meanings.proofs.PatternNames.{pattern_is}
use Rattle.shape_meanings.proofs.Ready.{Ready, plain_ready, with_constant, with_names, with_variable}
use Rattle.shape_meanings.proofs.StructLiterals.{struct_right}
use Rattle.shape_meanings.proofs.Selecting.{and_right, or_right}
use Rattle.shape_meanings.proofs.Settling.{both_empty, constant_right}
use Rattle.shape_meanings.proofs.Tests.{assert_right, constraint_right, short_if_right, sizeof_right}
use Rattle.shape_meanings.proofs.TargetCounts.{call_base_counts}
use Rattle.shape_meanings.proofs.TreeCounts.{declared_counted, exp_counts, pattern_counts, wanted_counted}
use Rattle.shape_meanings.proofs.TargetNames.{name_aim, names_apart, struct_known}
use Rattle.shape_meanings.proofs.Trying.{try_right}
use Rattle.shape_meanings.proofs.Updates.{update_right}
use Rattle.shape_meanings.proofs.Vectors.{vector_right}
use Rattle.shape_meanings.proofs.Walks.{part_right}
use Rattle.shape_meanings.proofs.Withs.{with_right}

-- ---- parts in a list

abbrev exps : List SuchExp → List Exp
exps ys = map (λ (p : SuchExp). p.0) ys

each_right : (ys : List SuchExp) (setting : Setting) (names : Tables.Setting) (locals : Locals) (bound : Bound.Locals)
    → all_of (map written_exp (exps ys)) ≡ true → Ready setting names locals bound → Uses.each (map failed_exp (exps ys)) names bound ≡ []
    → AreRight setting locals (elaborations (map found_exp (exps ys))) (map meant_exp (exps ys))
each_right [] setting names locals bound b r u = tt
each_right (y ∷ ys) setting names locals bound b r u =
    let k = and_parts (written_exp y.0) (all_of (map written_exp (exps ys))) b in
    let h = both_empty (failed_exp y.0 names bound) (Uses.each (map failed_exp (exps ys)) names bound) u in
    (y.1 k.0 setting names locals bound r h.0, each_right ys setting names locals bound k.1 r h.1)

abbrev suffixes : List SuchSuffix → List SuffixTree
suffixes ys = map (λ (p : SuchSuffix). p.0) ys

suffixes_right : (ys : List SuchSuffix) (setting : Setting) (names : Tables.Setting) (locals : Locals) (bound : Bound.Locals)
    → all_of (map written_suffix (suffixes ys)) ≡ true → Ready setting names locals bound → Uses.each (map failed_suffix (suffixes ys)) names bound ≡ []
    → SuffixesAre setting locals (map found_suffix (suffixes ys)) (map meant_suffix (suffixes ys))
suffixes_right [] setting names locals bound b r u = tt
suffixes_right (y ∷ ys) setting names locals bound b r u =
    let k = and_parts (written_suffix y.0) (all_of (map written_suffix (suffixes ys))) b in
    let h = both_empty (failed_suffix y.0 names bound) (Uses.each (map failed_suffix (suffixes ys)) names bound) u in
    (y.1 k.0 setting names locals bound r h.0, suffixes_right ys setting names locals bound k.1 r h.1)

abbrev casetrees : List SuchCase → List CaseTree
casetrees ys = map (λ (p : SuchCase). p.0) ys

cases_right : (ys : List SuchCase) (setting : Setting) (names : Tables.Setting) (locals : Locals) (bound : Bound.Locals) (subject : Shape)
    → counted setting.types subject ≡ true → all_of (map written_case (casetrees ys)) ≡ true → Ready setting names locals bound
    → Uses.each (map failed_case (casetrees ys)) names bound ≡ []
    → CasesAre setting locals subject (map found_case (casetrees ys)) (map meant_case (casetrees ys))
cases_right [] setting names locals bound subject c b r u = tt
cases_right (y ∷ ys) setting names locals bound subject c b r u =
    let k = and_parts (written_case y.0) (all_of (map written_case (casetrees ys))) b in
    let h = both_empty (failed_case y.0 names bound) (Uses.each (map failed_case (casetrees ys)) names bound) u in
    (y.1 k.0 setting names locals bound r h.0 subject c, cases_right ys setting names locals bound subject c k.1 r h.1)

counts_of : (ys : List SuchExp) (setting : Setting) (names : Tables.Setting) → AreKnown setting names → (locals : Locals) (bound : Bound.Locals)
    → LocalsCounted setting.types locals → Uses.each (map failed_exp (exps ys)) names bound ≡ []
    → ElsCount setting locals (elaborations (map found_exp (exps ys)))
counts_of [] setting names known locals bound l u = tt
counts_of (y ∷ ys) setting names known locals bound l u =
    let h = both_empty (failed_exp y.0 names bound) (Uses.each (map failed_exp (exps ys)) names bound) u in
    (exp_counts y.0 setting names known locals bound l h.0, counts_of ys setting names known locals bound l h.1)

abbrev fieldvalues : List SuchFieldValue → List FieldValue
fieldvalues ys = map (λ (p : SuchFieldValue). p.0) ys

fields_right : (ys : List SuchFieldValue) (setting : Setting) (names : Tables.Setting) (locals : Locals) (bound : Bound.Locals)
    → all_of (map written_field (fieldvalues ys)) ≡ true → Ready setting names locals bound
    → Uses.fields_failures (map failed_field (fieldvalues ys)) names bound ≡ []
    → FieldsAre setting locals (map found_field (fieldvalues ys)) (map meant_field (fieldvalues ys))
fields_right [] setting names locals bound b r u = tt
fields_right (y ∷ ys) setting names locals bound b r u =
    let k = and_parts (written_field y.0) (all_of (map written_field (fieldvalues ys))) b in
    let field = failed_field y.0 in
    let h = both_empty (Uses.field_failures names field.name ++ field.value names bound) (Uses.fields_failures
    (map failed_field (fieldvalues ys)) names bound) u in
    let h2 = both_empty (Uses.field_failures names field.name) (field.value names bound) h.0 in
    let one = y.1.1 k.0 setting names locals bound r h2.1 in
    (one.0, one.1, fields_right ys setting names locals bound k.1 r h.1)

same_names : (ys : List SuchFieldValue) → map (λ (f : FieldPart). f.name) (map found_field (fieldvalues ys)) ≡ Uses.named (map failed_field (fieldvalues ys))
same_names [] = refl
same_names (y ∷ ys) = λ i. y.1.0 i ∷ same_names ys i

-- ---- targets

abbrev lexps : List SuchLExp → List LExp
lexps ys = map (λ (p : SuchLExp). p.0) ys

aims_right : (ys : List SuchLExp) (setting : Setting) (names : Tables.Setting) (locals : Locals) (bound : Bound.Locals)
    → all_of (map written_lexp (lexps ys)) ≡ true → Ready setting names locals bound → Uses.each (map failed_lexp (lexps ys)) names bound ≡ []
    → AimsAre setting locals (map found_lexp (lexps ys)) (map meant_lexp (lexps ys))
aims_right [] setting names locals bound b r u = tt
aims_right (y ∷ ys) setting names locals bound b r u =
    let k = and_parts (written_lexp y.0) (all_of (map written_lexp (lexps ys))) b in
    let h = both_empty (failed_lexp y.0 names bound) (Uses.each (map failed_lexp (lexps ys)) names bound) u in
    ((y.1 k.0 setting names locals bound r h.0).2, aims_right ys setting names locals bound k.1 r h.1)

abbrev targets : List SuchTarget → List TargetTree
targets ys = map (λ (p : SuchTarget). p.0) ys

further_right : (ys : List SuchTarget) (setting : Setting) (names : Tables.Setting) (locals : Locals) (bound : Bound.Locals)
    → all_of (map written_target (targets ys)) ≡ true → Ready setting names locals bound → Uses.each (map failed_target (targets ys)) names bound ≡ []
    → FurtherAre setting locals (map found_target (targets ys)) (map meant_target (targets ys))
further_right [] setting names locals bound b r u = tt
further_right (y ∷ ys) setting names locals bound b r u =
    let k = and_parts (written_target y.0) (all_of (map written_target (targets ys))) b in
    let h = both_empty (failed_target y.0 names bound) (Uses.each (map failed_target (targets ys)) names bound) u in
    (y.1 k.0 setting names locals bound r h.0, further_right ys setting names locals bound k.1 r h.1)

-- one argument more
one_more : (es : List Part) (ms : List Source.Meaning) (a : Part) (m : Source.Meaning) (setting : Setting) (locals : Locals)
    → AreRight setting locals (elaborations es) ms → IsRight setting locals a.elaborate m
    → AreRight setting locals (elaborations (es ++ a ∷ [])) (ms ++ m ∷ [])
one_more [] [] a m setting locals are right = (right, tt)
one_more [] (n ∷ ms) a m setting locals are right = absurd are
one_more (e ∷ es) [] a m setting locals are right = absurd are
one_more (e ∷ es) (n ∷ ms) a m setting locals are right = (are.0, one_more es ms a m setting locals are.1 right)

-- ---- statements, and the names in scope behind them

steps_right : (ys : List SuchStmt) (setting : Setting) (names : Tables.Setting) (locals : Locals) (bound : Bound.Locals)
    → all_of (map written_stmt (map (λ (p : SuchStmt). p.0) ys)) ≡ true → Ready setting names locals bound
    → (Uses.steps (map failed_stmt (map (λ (p : SuchStmt). p.0) ys)) names bound).failures ≡ []
    → StatementsAre setting locals (map found_stmt (map (λ (p : SuchStmt). p.0) ys)) (map meant_stmt (map (λ (p : SuchStmt). p.0) ys))
    × ((blocked (map found_stmt (map (λ (p : SuchStmt). p.0) ys)) setting locals).faults ≡ []
    → Ready setting names (blocked (map found_stmt (map (λ (p : SuchStmt). p.0) ys)) setting locals).locals
    (Uses.steps (map failed_stmt (map (λ (p : SuchStmt). p.0) ys)) names bound).locals)
steps_right [] setting names locals bound b r u = (tt, λ e. r)
steps_right (y ∷ ys) setting names locals bound b r u =
    let k = and_parts (written_stmt y.0) (all_of (map written_stmt (map (λ (p : SuchStmt). p.0) ys))) b in
    let step = failed_stmt y.0 names bound in
    let h = both_empty step.failures (Uses.steps (map failed_stmt (map (λ (p : SuchStmt). p.0) ys)) names step.locals).failures u in
    let one = y.1 k.0 setting names locals bound r h.0 in
    let stated = found_stmt y.0 setting locals in (
      (one.0, λ e. (steps_right ys setting names stated.locals step.locals k.1 (one.1 e) h.1).0),
      λ e.
          let f = both_empty stated.faults (blocked (map found_stmt (map (λ (p : SuchStmt). p.0) ys)) setting stated.locals).faults e in
          (steps_right ys setting names stated.locals step.locals k.1 (one.1 f.0) h.1).1 f.1,
    )

-- ---- types that are written

typ_is : (typ : Option TyExp) (setting : Setting) (names : Tables.Setting) → AreKnown setting names → Uses.maybe_type typ names ≡ [] → TypIs setting typ
typ_is None setting names known u = tt
typ_is (Some typ) setting names known u = known.typs typ u

not_open : (place : Place) (b : Bool) → (if b then ill_shaped place ∷ [] else []) ≡ [] → b ≡ false
not_open place true e = not_none e
not_open place false e = refl

-- what a `var` begins with leaves nothing open
settled_by : (setting : Setting) (place : Place) (typ : Option TyExp) (s : Shape) → TypIs setting typ → hole_faults place (is_some typ) s ≡ []
    → IsSettled setting.types (declared_shape setting typ s)
settled_by setting place None s is e = settles setting.types s (not_open place (leaves_open s) e)
settled_by setting place (Some typ) s is e = inl (is.2.0, ap (below is.2.0) (ap shape_or_never is.1) ∙ is.2.1)

declared_settled : (setting : Setting) (locals : Locals) (place : Place) (name : Name) (typ : Option TyExp) (a : Part) → TypIs setting typ
    → (declaring place name typ a setting locals).faults ≡ [] → IsSettled setting.types (declaring place name typ a setting locals).local.shape
declared_settled setting locals place name typ a is e =
    settled_by setting place typ _ is (both_empty (typ_faults setting typ ++ _) (hole_faults place (is_some typ) _) e).1

-- ---- patterns

-- what is in scope behind a pattern that fails in nothing of its names
pattern_ready : (setting : Setting) (names : Tables.Setting) (locals : Locals) (bound : Bound.Locals) (p : Pat) (subject : Shape)
    → Ready setting names locals bound → pattern_failures names p ≡ [] → counted setting.types subject ≡ true
    → Ready setting names (under (look p setting no_widths subject).binds locals) (behind (binds names.known p) bound)
pattern_ready setting names locals bound p subject r u fine =
    let uses = (both_empty (uses_failures names p) (clashes (binds names.known p)) u).0 in
    with_names (look p setting no_widths subject).binds (binds names.known p) setting names locals bound r
    (pat_binds p setting names r.known uses no_widths subject) ((pat_counts p setting names r.known uses).1 no_widths subject fine)

-- the shape of what a pattern is bound to, and of what a `var` begins with
bound_counted : (setting : Setting) (names : Tables.Setting) (locals : Locals) (bound : Bound.Locals) (p : Pat) (a : Exp) → Ready setting names locals bound
    → failed_exp a names bound ≡ [] → pattern_failures names p ≡ []
    → counted setting.types ((found_exp a).elaborate setting locals (wanted_by setting p)).shape ≡ true
bound_counted setting names locals bound p a r u v =
    exp_counts a setting names r.known locals bound r.counted u (wanted_by setting p) (pattern_counts setting names r.known p v locals r.counted).0

begun_counted : (setting : Setting) (names : Tables.Setting) (locals : Locals) (bound : Bound.Locals) (typ : Option TyExp) (a : Exp)
    → Ready setting names locals bound → failed_exp a names bound ≡ [] → Uses.maybe_type typ names ≡ []
    → counted setting.types (declared_shape setting typ ((found_exp a).elaborate setting locals (written_shape setting typ)).shape) ≡ true
begun_counted setting names locals bound typ a r u v =
    declared_counted setting names r.known typ ((found_exp a).elaborate setting locals (written_shape setting typ)).shape v
    (exp_counts a setting names r.known locals bound r.counted u (written_shape setting typ) (wanted_counted setting names r.known typ v))

-- ---- some forms

return_sound : (setting : Setting) (names : Tables.Setting) (locals : Locals) (want : Shape) (place : Place) (a : Part) (m : Source.Meaning) (o : Option Shape)
    → AreKnown setting names → setting.answer ≡ o → IsRight setting locals a.elaborate m → (return_found place a o setting locals want).faults ≡ []
    → (leave_found place Leave.Return a setting locals want).faults ≡ []
    → Right setting locals want (leave_found place Leave.Return a setting locals want) (λ w. m w then leave place Leave.Return)
return_sound setting names locals want place a m None known is right e f = not_none e
return_sound setting names locals want place a m (Some s) known is right e f =
    let n = known.answer s is in
    return_right setting locals place a s n.0 m is n.1 right want f

thrown : (b : Bool) (place : Place) → Uses.throw_failures b place ≡ [] → b ≡ true
thrown true place u = refl
thrown false place u = not_none u

operator_right : (operator : Operator) (setting : Setting) (locals : Locals) (place : Place) (a b : Part) (ma mb : Source.Meaning)
    → IsRight setting locals a.elaborate ma → IsRight setting locals b.elaborate mb
    → IsRight setting locals (infix_found place operator a b) (λ w. ma w then λ v. infix_of w place operator v (out-Value v) (mb w))
operator_right O.And setting locals place a b ma mb ra rb = and_right setting locals place a b ma mb ra rb
operator_right O.Or setting locals place a b ma mb ra rb = or_right setting locals place a b ma mb ra rb
operator_right operator setting locals place a b ma mb ra rb = infix_right setting locals place operator a b ma mb refl ra rb

-- `foreach`, whatever its range means
abbrev foreach_meant : Name → Span → Source.Meaning → Source.Meaning
foreach_meant name span m w =
    span.from w then λ u. integer u then λ from. span.to w then λ v. integer v then λ to. span.by w then λ x. integer x then λ by.
    Turns.foreach name.text span.direction from to by (m w)

foreach_sound : (setting : Setting) (locals : Locals) (place : Place) (name : Name) (range : RangePart) (span : Span) (body : Part) (m : Source.Meaning)
    → RangeIs setting locals range span → IsRight setting (constant name.text V.Int ∷ locals) body.elaborate m
    → IsRight setting locals (foreach_found place name range body) (foreach_meant name span m)
foreach_sound setting locals place name range span body m is right =
    subst (λ s. IsRight setting locals (foreach_found place name range body) (foreach_meant name s m)) (sym is.3)
    (foreach_right setting locals place name range body is.0 is.1 m is.2 is.4 is.5 is.6 right)

-- a struct of fields of different names
struct_sound : (setting : Setting) (names : Tables.Setting) (locals : Locals) (want : Shape) (place : Place) (name : Option Name) (fs : List FieldPart)
    (ms : List Field) (o : Option ℕ)
    → AreKnown setting names → Uses.struct_failures names name ≡ [] → struct_place setting name fs ≡ o → NamesApart fs → FieldsAre setting locals fs ms
    → (struct_at place fs o setting locals want).faults ≡ [] → (struct_found place name fs setting locals want).faults ≡ []
    → Right setting locals want (struct_found place name fs setting locals want)
    (λ w. fields_of ms w then λ found. needs (and_then (struct_with w.text.types (name_of name) (names_of ms))
    (struct_made w (names_of ms) (values_of found))))
struct_sound setting names locals want place name fs ms None known u is apart are e f = not_none e
struct_sound setting names locals want place name fs ms (Some i) known u is apart are e f =
    let fl = struct_known setting names known name fs i u is in
    struct_right setting locals place name fs ms i fl.0 is fl.1 apart are want f

-- ---- the forms

again : (y : Exp-F SuchExp SuchLExp SuchStmt SuchSuffix SuchCase SuchFieldValue SuchIndex SuchRange SuchTarget) → ExpForm (first_Exp y)
again (E.Constant place literal) b setting names locals bound r u = λ want e. constant_right setting locals want place literal e
again (E.Variable name) b setting names locals bound r u = λ want e. name_right setting names r.known locals bound r.are want name u e
again (E.Call name args) b setting names locals bound r u = λ want e.
    let h = both_empty (unless (is_callee names name.text) name) (Uses.each (map failed_exp (exps args)) names bound) u in
    called_right setting names locals want name (map found_exp (exps args)) (map meant_exp (exps args)) (r.known.values name.text)
    (unless_true (is_callee names name.text) name h.0) (each_right args setting names locals bound b r h.1) e
again (E.Prefixed place prefix a) b setting names locals bound r u =
    prefix_right setting locals place prefix (found_exp a.0) (meant_exp a.0) (a.1 b setting names locals bound r u)
again (E.Infix place operator a c) b setting names locals bound r u =
    let k = and_parts (written_exp a.0) (written_exp c.0) b in
    let h = both_empty (failed_exp a.0 names bound) (failed_exp c.0 names bound) u in
    operator_right operator setting locals place (found_exp a.0) (found_exp c.0) (meant_exp a.0) (meant_exp c.0)
    (a.1 k.0 setting names locals bound r h.0) (c.1 k.1 setting names locals bound r h.1)
again (E.Leave place Leave.Return a) b setting names locals bound r u = λ want e.
    return_sound setting names locals want place (found_exp a.0) (meant_exp a.0) setting.answer r.known refl (a.1 b setting names locals bound r u) e e
again (E.Leave place Leave.Throw a) b setting names locals bound r u =
    let h = both_empty (Uses.throw_failures names.known.has_exception place) (failed_exp a.0 names bound) u in
    let i = r.known.exception (thrown names.known.has_exception place h.0) in
    throw_right setting locals place (found_exp a.0) i.0 (meant_exp a.0) i.1 (a.1 b setting names locals bound r h.1)
again (E.Leave place Leave.Exit a) b setting names locals bound r u =
    exit_right setting locals place (found_exp a.0) (meant_exp a.0) (a.1 b setting names locals bound r u)
again (E.Group place B.Tuple []) b setting names locals bound r u = empty_tuple_right setting locals place
again (E.Group place B.Tuple (x ∷ [])) b setting names locals bound r u = no b
again (E.Group place B.Tuple (x ∷ y ∷ ys)) b setting names locals bound r u =
    tuple_right setting locals place (found_exp x.0).elaborate (found_exp y.0).elaborate (elaborations (map found_exp (exps ys)))
    (map meant_exp (exps (x ∷ y ∷ ys))) (each_right (x ∷ y ∷ ys) setting names locals bound b r u)
again (E.Group place B.Vector ys) b setting names locals bound r u =
    vector_right setting locals place (elaborations (map found_exp (exps ys))) (map meant_exp (exps ys)) (each_right ys setting names locals bound b r u)
again (E.Group place B.List ys) b setting names locals bound r u =
    list_right setting locals place (elaborations (map found_exp (exps ys))) (map meant_exp (exps ys)) (each_right ys setting names locals bound b r u)
again (E.Part place a ys) b setting names locals bound r u =
    let k = and_parts (written_exp a.0) (all_of (map written_suffix (suffixes ys))) b in
    let h = both_empty (failed_exp a.0 names bound) (Uses.each (map failed_suffix (suffixes ys)) names bound) u in
    part_right setting locals place (found_exp a.0) (map found_suffix (suffixes ys)) (meant_exp a.0) (map meant_suffix (suffixes ys))
    (a.1 k.0 setting names locals bound r h.0) (suffixes_right ys setting names locals bound k.1 r h.1)
again (E.Typed place a typ) b setting names locals bound r u =
    let h = both_empty (failed_exp a.0 names bound) (type_failures Sort.Type typ names) u in
    let t = r.known.typs typ h.1 in
    typed_right setting locals place (found_exp a.0) typ t.0 t.2.0 (meant_exp a.0) t.1 t.2.1 (a.1 b setting names locals bound r h.0)
again (E.Assign place target [] a) b setting names locals bound r u =
    let k = and_parts (written_lexp target.0 && true) (written_exp a.0) b in
    let k2 = and_parts (written_lexp target.0) true k.0 in
    let h = both_empty (failed_lexp target.0 names bound ++ []) (failed_exp a.0 names bound) u in
    let h2 = both_empty (failed_lexp target.0 names bound) [] h.0 in
    (target.1 k2.0 setting names locals bound r h2.0).0 place (found_exp a.0) (meant_exp a.0) (a.1 k.1 setting names locals bound r h.1)
again (E.Assign place target (x ∷ xs) a) b setting names locals bound r u =
    let k = and_parts (written_lexp target.0 && all_of (map written_target (targets (x ∷ xs)))) (written_exp a.0) b in
    let k2 = and_parts (written_lexp target.0) (all_of (map written_target (targets (x ∷ xs)))) k.0 in
    let h = both_empty (failed_lexp target.0 names bound ++ Uses.each (map failed_target (targets (x ∷ xs))) names bound) (failed_exp a.0 names bound) u in
    let h2 = both_empty (failed_lexp target.0 names bound) (Uses.each (map failed_target (targets (x ∷ xs))) names bound) h.0 in
    assign_right setting locals place ((found_lexp target.0).aim setting locals) (map found_target (targets (x ∷ xs))) (found_exp a.0)
    (meant_lexp target.0) (map meant_target (targets (x ∷ xs))) (meant_exp a.0) ((target.1 k2.0 setting names locals bound r h2.0).1 place)
    (further_right (x ∷ xs) setting names locals bound k2.1 r h2.1) (a.1 k.1 setting names locals bound r h.1)
again (E.Block place ys None) b setting names locals bound r u =
    let k = and_parts (all_of (map written_stmt (map (λ (p : SuchStmt). p.0) ys))) true b in
    let h = both_empty (Uses.steps (map failed_stmt (map (λ (p : SuchStmt). p.0) ys)) names bound).failures [] u in
    unit_block_right setting locals place (map found_stmt (map (λ (p : SuchStmt). p.0) ys)) (map meant_stmt (map (λ (p : SuchStmt). p.0) ys))
    (steps_right ys setting names locals bound k.0 r h.0).0
again (E.Block place ys (Some a)) b setting names locals bound r u =
    let k = and_parts (all_of (map written_stmt (map (λ (p : SuchStmt). p.0) ys))) (written_exp a.0) b in
    let steps = Uses.steps (map failed_stmt (map (λ (p : SuchStmt). p.0) ys)) names bound in
    let h = both_empty steps.failures (failed_exp a.0 names steps.locals) u in
    let are = steps_right ys setting names locals bound k.0 r h.0 in
    block_right setting locals place (map found_stmt (map (λ (p : SuchStmt). p.0) ys)) (found_exp a.0) (map meant_stmt (map (λ (p : SuchStmt). p.0) ys))
    (meant_exp a.0) are.0
    (λ e. a.1 k.1 setting names (blocked (map found_stmt (map (λ (p : SuchStmt). p.0) ys)) setting locals).locals steps.locals (are.1 e) h.1)
again (E.Let place pattern a c) b setting names locals bound r u =
    let k = and_parts (pattern_written pattern && written_exp a.0) (written_exp c.0) b in
    let k2 = and_parts (pattern_written pattern) (written_exp a.0) k.0 in
    let h = both_empty (failed_exp a.0 names bound ++ pattern_failures names pattern) (failed_exp c.0 names (behind (binds names.known pattern) bound)) u in
    let h2 = both_empty (failed_exp a.0 names bound) (pattern_failures names pattern) h.0 in
    let_right setting locals place pattern (found_exp a.0) (found_exp c.0) (meant_exp a.0) (meant_exp c.0) (a.1 k2.1 setting names locals bound r h2.0)
    (pattern_is pattern k2.0 setting names r.known h2.1)
    (c.1 k.1 setting names _ (behind (binds names.known pattern) bound) (pattern_ready setting names locals bound pattern _ r h2.1
    (bound_counted setting names locals bound pattern a.0 r h2.0 h2.1)) h.1)
again (E.Var place name typ a c) b setting names locals bound r u =
    let k = and_parts (written_exp a.0) (written_exp c.0) b in
    let h = both_empty (Uses.maybe_type typ names ++ failed_exp a.0 names bound) (failed_exp c.0 names (Bound.variable name ∷ bound)) u in
    let h2 = both_empty (Uses.maybe_type typ names) (failed_exp a.0 names bound) h.0 in
    let is = typ_is typ setting names r.known h2.0 in
    var_right setting locals place name typ (found_exp a.0) (found_exp c.0) (meant_exp a.0) (meant_exp c.0) is (a.1 k.0 setting names locals bound r h2.1)
    (λ e. c.1 k.1 setting names _ (Bound.variable name ∷ bound)
    (with_variable setting names locals bound name _ r (declared_settled setting locals place name typ (found_exp a.0) is e)
    (begun_counted setting names locals bound typ a.0 r h2.1 h2.0)) h.1)
again (E.If place a c None) b setting names locals bound r u =
    let k = and_parts (written_exp a.0 && written_exp c.0) true b in
    let k2 = and_parts (written_exp a.0) (written_exp c.0) k.0 in
    let h = both_empty (failed_exp a.0 names bound ++ failed_exp c.0 names bound) [] u in
    let h2 = both_empty (failed_exp a.0 names bound) (failed_exp c.0 names bound) h.0 in
    short_if_right setting locals place (found_exp a.0) (found_exp c.0) (meant_exp a.0) (meant_exp c.0) (a.1 k2.0 setting names locals bound r h2.0)
    (c.1 k2.1 setting names locals bound r h2.1)
again (E.If place a c (Some d)) b setting names locals bound r u = λ want e.
    let k = and_parts (written_exp a.0 && written_exp c.0) (written_exp d.0) b in
    let k2 = and_parts (written_exp a.0) (written_exp c.0) k.0 in
    let h = both_empty (failed_exp a.0 names bound ++ failed_exp c.0 names bound) (failed_exp d.0 names bound) u in
    let h2 = both_empty (failed_exp a.0 names bound) (failed_exp c.0 names bound) h.0 in
    let x = (found_exp a.0).elaborate setting locals V.Bool in
    let y = (found_exp c.0).elaborate setting locals want in
    let z = (found_exp d.0).elaborate setting locals (given_on want y.shape) in
    let f = both_empty (x.faults ++ y.faults) z.faults e in
    let f2 = both_empty x.faults y.faults f.0 in
    if_right setting locals want place x y z (found_exp c.0) (found_exp d.0) (meant_exp a.0) (meant_exp c.0) (meant_exp d.0)
    (a.1 k2.0 setting names locals bound r h2.0 V.Bool f2.0) (c.1 k2.1 setting names locals bound r h2.1 want f2.1)
    (d.1 k.1 setting names locals bound r h.1 (given_on want y.shape) f.1)
again (E.Choose place Match a ys) b setting names locals bound r u =
    let k = and_parts (written_exp a.0) (all_of (map written_case (casetrees ys))) b in
    let h = both_empty (failed_exp a.0 names bound) (Uses.each (map failed_case (casetrees ys)) names bound) u in
    match_right setting locals place (found_exp a.0) (map found_case (casetrees ys)) (meant_exp a.0) (map meant_case (casetrees ys))
    (a.1 k.0 setting names locals bound r h.0)
    (cases_right ys setting names locals bound ((found_exp a.0).elaborate setting locals V.Never).shape
    (exp_counts a.0 setting names r.known locals bound r.counted h.0 V.Never (never_counted setting.types)) k.1 r h.1)
again (E.Choose place Try a ys) b setting names locals bound r u =
    let k = and_parts (written_exp a.0) (all_of (map written_case (casetrees ys))) b in
    let h = both_empty (failed_exp a.0 names bound) (Uses.each (map failed_case (casetrees ys)) names bound) u in
    try_right setting locals place (found_exp a.0) (map found_case (casetrees ys)) (meant_exp a.0) (map meant_case (casetrees ys))
    (a.1 k.0 setting names locals bound r h.0)
    (cases_right ys setting names locals bound (thrown_shape setting)
    (thrown_counted setting.types setting.exception r.known.counts.exception) k.1 r h.1)
again (E.Foreach place name range a) b setting names locals bound r u =
    let k = and_parts (written_range range.0) (written_exp a.0) b in
    let h = both_empty (failed_range range.0 names bound) (failed_exp a.0 names (Bound.constant name ∷ bound)) u in
    foreach_sound setting locals place name (found_range range.0) (meant_range range.0) (found_exp a.0) (meant_exp a.0)
    (range.1 k.0 setting names locals bound r h.0)
    (a.1 k.1 setting names (constant name.text V.Int ∷ locals) (Bound.constant name ∷ bound)
    (with_constant setting names locals bound name V.Int r (int_counted setting.types)) h.1)
again (E.Loop place looping None a c) b setting names locals bound r u = not_none u
again (E.Loop place While (Some measure) a c) b setting names locals bound r u =
    let k = and_parts (written_exp measure.0 && written_exp a.0) (written_exp c.0) b in
    let k2 = and_parts (written_exp measure.0) (written_exp a.0) k.0 in
    let h = both_empty (failed_exp measure.0 (in_measure names) bound ++ failed_exp a.0 names bound) (failed_exp c.0 names bound) u in
    let h2 = both_empty (failed_exp measure.0 (in_measure names) bound) (failed_exp a.0 names bound) h.0 in
    while_right setting locals place (found_exp measure.0) (found_exp a.0) (found_exp c.0) (meant_exp measure.0) (meant_exp a.0) (meant_exp c.0)
    (measure.1 k2.0 (plainly setting) (in_measure names) locals bound (plain_ready setting names locals bound r) h2.0)
    (a.1 k2.1 setting names locals bound r h2.1) (c.1 k.1 setting names locals bound r h.1)
again (E.Loop place Repeat (Some measure) a c) b setting names locals bound r u =
    let k = and_parts (written_exp measure.0 && written_exp a.0) (written_exp c.0) b in
    let k2 = and_parts (written_exp measure.0) (written_exp a.0) k.0 in
    let h = both_empty (failed_exp measure.0 (in_measure names) bound ++ failed_exp a.0 names bound) (failed_exp c.0 names bound) u in
    let h2 = both_empty (failed_exp measure.0 (in_measure names) bound) (failed_exp a.0 names bound) h.0 in
    repeat_right setting locals place (found_exp measure.0) (found_exp a.0) (found_exp c.0) (meant_exp measure.0) (meant_exp a.0) (meant_exp c.0)
    (measure.1 k2.0 (plainly setting) (in_measure names) locals bound (plain_ready setting names locals bound r) h2.0)
    (a.1 k2.1 setting names locals bound r h2.1) (c.1 k.1 setting names locals bound r h.1)
again (E.Update place a i c) b setting names locals bound r u =
    let k = and_parts (written_exp a.0 && written_index i.0) (written_exp c.0) b in
    let k2 = and_parts (written_exp a.0) (written_index i.0) k.0 in
    let h = both_empty (failed_exp a.0 names bound ++ failed_index i.0 names bound) (failed_exp c.0 names bound) u in
    let h2 = both_empty (failed_exp a.0 names bound) (failed_index i.0 names bound) h.0 in
    update_right setting locals place (found_exp a.0) (found_index i.0) (found_exp c.0) (meant_exp a.0) (meant_index i.0) (meant_exp c.0)
    (a.1 k2.0 setting names locals bound r h2.0) (i.1 k2.1 setting names locals bound r h2.1) (c.1 k.1 setting names locals bound r h.1)
again (E.Struct place name ys) b setting names locals bound r u = λ want e.
    let failed = map failed_field (fieldvalues ys) in
    let fs : List FieldPart = map found_field (fieldvalues ys) in
    let h = both_empty (Uses.struct_failures names name ++ clashes (Uses.named failed)) (Uses.fields_failures failed names bound) u in
    let h2 = both_empty (Uses.struct_failures names name) (clashes (Uses.named failed)) h.0 in
    struct_sound setting names locals want place name fs (map meant_field (fieldvalues ys)) (struct_place setting name fs) r.known h2.0 refl
    (names_apart fs (Uses.named failed) (same_names ys) h2.1) (fields_right ys setting names locals bound b r h.1) e e
again (E.With place a ys) b setting names locals bound r u =
    let failed = map failed_field (fieldvalues ys) in
    let k = and_parts (written_exp a.0) (all_of (map written_field (fieldvalues ys))) b in
    let h = both_empty (failed_exp a.0 names bound ++ clashes (Uses.named failed)) (Uses.fields_failures failed names bound) u in
    let h2 = both_empty (failed_exp a.0 names bound) (clashes (Uses.named failed)) h.0 in
    with_right setting locals place (found_exp a.0) (map found_field (fieldvalues ys)) (meant_exp a.0) (map meant_field (fieldvalues ys))
    (a.1 k.0 setting names locals bound r h2.0) (fields_right ys setting names locals bound k.1 r h.1)
again (E.OfType place Sizeof typ) b setting names locals bound r u =
    let t = r.known.numbers typ u in
    sizeof_right setting locals place typ t.0 t.1
again (E.OfType place Constraint typ) b setting names locals bound r u =
    let t = r.known.constraints typ u in
    constraint_right setting locals place typ t.0 t.1
again (E.Assert place a text) b setting names locals bound r u =
    assert_right setting locals place (found_exp a.0) text (meant_exp a.0) (a.1 b setting names locals bound r u)

-- ---- targets

-- a target that fails in nothing and gives what is known of it
aim_of : (setting : Setting) (locals : Locals) (place : Place) (a : Aimed) → chained_faults place a ≡ [] → a.faults ≡ []
aim_of setting locals place a e = (chained_known setting.types place a e).0

abbrev part_of : Setting → Locals → Place → SuchLExp → List SuchSuffix → Aimed
part_of setting locals first base ys = (Rules.target_form (E.ToPart first (found_lexp base.0) (map found_suffix (suffixes ys)))).aim setting locals

abbrev part_meant : SuchLExp → List SuchSuffix → Target
part_meant base ys w = meant_lexp base.0 w then λ spot. ways_of (map meant_suffix (suffixes ys)) w then λ ways. gives (part_spot spot ways)

-- a part of a target, as a target and as a base
part_sound : (first : Place) (base : SuchLExp) (ys : List SuchSuffix)
    → Known (written_lexp base.0 && all_of (map written_suffix (suffixes ys)) && is_part (map written_suffix (suffixes ys)))
    (λ setting names locals bound.
    (failed_lexp base.0 names bound ++ Uses.each (map failed_suffix (suffixes ys)) names bound) ≡ [] → (part_of setting locals first base ys).faults ≡ []
    → AimIs setting locals (part_of setting locals first base ys) (part_meant base ys)
    × BaseHolds setting locals (part_of setting locals first base ys) (part_meant base ys))
part_sound first base [] b setting names locals bound r u f = no (and_parts (written_lexp base.0 && true) false b).1
part_sound first base (y ∷ ys) b setting names locals bound r u f =
    let all = map written_suffix (suffixes (y ∷ ys)) in
    let k = and_parts (written_lexp base.0 && all_of all) true b in
    let k2 = and_parts (written_lexp base.0) (all_of all) k.0 in
    let h = both_empty (failed_lexp base.0 names bound) (Uses.each (map failed_suffix (suffixes (y ∷ ys))) names bound) u in
    let xs : List SuffixPart = map found_suffix (suffixes (y ∷ ys)) in
    let t : TargetPart = found_lexp base.0 in
    let a : Aimed = read_aimed t.call setting locals (t.aim setting locals) in
    let g = both_empty a.faults (walked xs setting locals first t.place a.shape).faults f in
    part_holds setting locals r.known.counts (last_place first xs) first t.place a (found_suffix y.0) (map found_suffix (suffixes ys)) (meant_lexp base.0)
    (map meant_suffix (suffixes (y ∷ ys))) ((base.1 k2.0 setting names locals bound r h.0).3 g.0)
    (suffixes_right (y ∷ ys) setting names locals bound k2.1 r h.1) g.1

lexp_again : (y : LExp-F SuchExp SuchLExp SuchStmt SuchSuffix SuchCase SuchFieldValue SuchIndex SuchRange SuchTarget) → LExpForm (first_LExp y)
lexp_again (E.ToName name) b setting names locals bound r u =
    let assigned = unless_true (is_assigned names bound name.text) name u in
    let aim = name_aim setting names locals bound r.known r.are r.settled name assigned in
    let a : Aimed = name_aimed name (local_of name.text locals) (setting.value name.text) in (
      λ place value mv right. assign_right setting locals place a [] value (λ w. gives (name_spot w name.text)) [] mv (λ f. aim) tt right,
      λ place f. aim,
      λ f. as_part setting locals a (λ w. gives (name_spot w name.text)) aim,
      λ f. name_base setting names locals bound r.known r.are r.settled r.counted name assigned,
    )
lexp_again (E.ToCall name args) b setting names locals bound r u =
    let h = both_empty (unless (is_callee names name.text) name) (Uses.each (map failed_exp (exps args)) names bound) u in
    let es : List Part = map found_exp (exps args) in
    let ms : List Source.Meaning = map meant_exp (exps args) in
    let right = each_right args setting names locals bound b r h.1 in
    let called = r.known.called name.text in
    let a : Aimed = call_aim name es setting locals in
    let counts = counts_of args setting names r.known locals bound r.counted h.1 in (
      λ place value mv one.
          call_target_right setting locals name (λ setting locals want. call_named name (es ++ value ∷ []) setting locals want) ms mv
          (λ want e. called_right setting names locals want name (es ++ value ∷ []) (ms ++ mv ∷ []) (r.known.values name.text)
          (unless_true (is_callee names name.text) name h.0) (one_more es ms value mv setting locals right one) e),
      λ place f.
          let k = chained_known setting.types place a f in
          as_aim setting locals a (call_meant name ms) k.1.0 k.1.1 (call_aims setting locals name es ms right k.1.0 called k.0),
      λ f. as_tuple_part setting locals a (call_meant name ms) 0 (call_aims setting locals name es ms right 0 called f),
      λ f. call_base setting locals name es ms right called (call_base_counts setting locals name es counts (r.known.counts.values name.text)).0 f,
    )
lexp_again (E.ToTuple place ys) b setting names locals bound r u =
    let ts : List TargetPart = map found_lexp (lexps ys) in
    let ms : List Target = map meant_lexp (lexps ys) in
    let m : Target = λ w. spots_of ms w then λ spots. gives (tuple_spot spots) in
    let a : Aimed = tuple_aimed place (each_aimed ts setting locals) in
    let aim : a.faults ≡ [] → AimIs setting locals a m = λ f. tuple_aim setting locals place ts ms (aims_right ys setting names locals bound b r u) f in (
      λ at value mv right. assign_right setting locals at a [] value m [] mv (λ f. aim (aim_of setting locals at a f)) tt right,
      λ at f. aim (aim_of setting locals at a f),
      λ f. as_part setting locals a m (aim f),
      λ f. inr (tuple_is (each_aimed ts setting locals).shapes),
    )
  where
    tuple_is : (ss : List Shape) → is_tuple_form (out-Shape (V.Tuple ss)) ≡ true
    tuple_is ss = ap is_tuple_form (ap out-Shape (sym (V.rolls-Tuple ss)) ∙ out-roll-Shape (S.Tuple ss))
lexp_again (E.ToPart place base ys) b setting names locals bound r u =
    let a : Aimed = part_of setting locals place base ys in
    let both : a.faults ≡ [] → AimIs setting locals a (part_meant base ys) × BaseHolds setting locals a (part_meant base ys) =
    λ f. part_sound place base ys b setting names locals bound r u f in (
      λ at value mv right.
          assign_right setting locals at a [] value (part_meant base ys) [] mv (λ f. (both (aim_of setting locals at a f)).0) tt right,
      λ at f. (both (aim_of setting locals at a f)).0,
      λ f. as_part setting locals a (part_meant base ys) (both f).0,
      λ f. (both f).1,
    )

field_again : (y : FieldValue-F SuchExp SuchLExp SuchStmt SuchSuffix SuchCase SuchFieldValue SuchIndex SuchRange SuchTarget) → FieldValueForm
    (first_FieldValue y)
field_again y = (refl, λ b setting names locals bound r u. (refl, y.value.1 b setting names locals bound r u))

further_again : (y : Target-F SuchExp SuchLExp SuchStmt SuchSuffix SuchCase SuchFieldValue SuchIndex SuchRange SuchTarget) → TargetForm (first_Target y)
further_again y b setting names locals bound r u f = (y.to.1 b setting names locals bound r u).1 y.place f

stmt_again : (y : Stmt-F SuchExp SuchLExp SuchStmt SuchSuffix SuchCase SuchFieldValue SuchIndex SuchRange SuchTarget) → StmtForm (first_Stmt y)
stmt_again (E.Evaluate a) b setting names locals bound r u =
    (evaluate_is setting locals (found_exp a.0) (meant_exp a.0) (a.1 b setting names locals bound r u), λ e. r)
stmt_again (E.Define place pattern a) b setting names locals bound r u =
    let k = and_parts (pattern_written pattern) (written_exp a.0) b in
    let h = both_empty (failed_exp a.0 names bound) (pattern_failures names pattern) u in (
      define_is setting locals place pattern (found_exp a.0) (meant_exp a.0) (a.1 k.1 setting names locals bound r h.0)
          (pattern_is pattern k.0 setting names r.known h.1),
      λ e. pattern_ready setting names locals bound pattern _ r h.1 (bound_counted setting names locals bound pattern a.0 r h.0 h.1),
    )
stmt_again (E.Declare place name typ a) b setting names locals bound r u =
    let h = both_empty (Uses.maybe_type typ names) (failed_exp a.0 names bound) u in
    let is = typ_is typ setting names r.known h.0 in (
      declare_is setting locals place name typ (found_exp a.0) (meant_exp a.0) is (a.1 b setting names locals bound r h.1),
      λ e. with_variable setting names locals bound name _ r (declared_settled setting locals place name typ (found_exp a.0) is e)
          (begun_counted setting names locals bound typ a.0 r h.1 h.0),
    )

suffix_again : (y : Suffix-F SuchExp SuchLExp SuchStmt SuchSuffix SuchCase SuchFieldValue SuchIndex SuchRange SuchTarget) → SuffixForm (first_Suffix y)
suffix_again (E.Field name) b setting names locals bound r u = refl
suffix_again (E.At place i) b setting names locals bound r u = i.1 b setting names locals bound r u

case_by : (p : Pat) (guard : Option SuchExp) (body : SuchExp) → CaseForm (first_Case (record { pattern = p; guard = guard; body = body }))
case_by p None body b setting names locals bound r u subject fine =
    let k = and_parts (pattern_written p && true) (written_exp body.0) b in
    let k2 = and_parts (pattern_written p) true k.0 in
    let inner = behind (binds names.known p) bound in
    let h = both_empty (pattern_failures names p ++ []) (failed_exp body.0 names inner) u in
    let h2 = both_empty (pattern_failures names p) [] h.0 in (
      refl,
      λ e.
          let is = pattern_is p k2.0 setting names r.known h2.0 subject e in
          let ready = pattern_ready setting names locals bound p subject r h2.0 fine in
          (is.0, is.1, tt, body.1 k.1 setting names _ inner ready h.1),
    )
case_by p (Some guard) body b setting names locals bound r u subject fine =
    let k = and_parts (pattern_written p && written_exp guard.0) (written_exp body.0) b in
    let k2 = and_parts (pattern_written p) (written_exp guard.0) k.0 in
    let inner = behind (binds names.known p) bound in
    let h = both_empty (pattern_failures names p ++ failed_exp guard.0 names inner) (failed_exp body.0 names inner) u in
    let h2 = both_empty (pattern_failures names p) (failed_exp guard.0 names inner) h.0 in (
      refl,
      λ e.
          let is = pattern_is p k2.0 setting names r.known h2.0 subject e in
          let ready = pattern_ready setting names locals bound p subject r h2.0 fine in
          (is.0, is.1, guard.1 k2.1 setting names _ inner ready h2.1, body.1 k.1 setting names _ inner ready h.1),
    )

index_by : (first : SuchExp) (last : Option SuchExp) → IndexForm (first_Index (record { first = first; last = last }))
index_by first None b setting names locals bound r u =
    let k = and_parts (written_exp first.0) true b in
    let h = both_empty (failed_exp first.0 names bound) [] u in
    (meant_exp first.0, None, refl, first.1 k.0 setting names locals bound r h.0, tt)
index_by first (Some last) b setting names locals bound r u =
    let k = and_parts (written_exp first.0) (written_exp last.0) b in
    let h = both_empty (failed_exp first.0 names bound) (failed_exp last.0 names bound) u in
    (meant_exp first.0, Some (meant_exp last.0), refl, first.1 k.0 setting names locals bound r h.0, last.1 k.1 setting names locals bound r h.1)

range_by : (from to : SuchExp) (by : Option SuchExp) (direction : _) → RangeForm (first_Range (record { from = from; to = to; by = by; direction = direction }))
range_by from to None direction b setting names locals bound r u =
    let k = and_parts (written_exp from.0 && written_exp to.0) true b in
    let k2 = and_parts (written_exp from.0) (written_exp to.0) k.0 in
    let h = both_empty (failed_exp from.0 names bound ++ failed_exp to.0 names bound) [] u in
    let h2 = both_empty (failed_exp from.0 names bound) (failed_exp to.0 names bound) h.0 in (
      meant_exp from.0,
      meant_exp to.0,
      None,
      refl,
      from.1 k2.0 setting names locals bound r h2.0,
      to.1 k2.1 setting names locals bound r h2.1,
      tt,
    )
range_by from to (Some by) direction b setting names locals bound r u =
    let k = and_parts (written_exp from.0 && written_exp to.0) (written_exp by.0) b in
    let k2 = and_parts (written_exp from.0) (written_exp to.0) k.0 in
    let h = both_empty (failed_exp from.0 names bound ++ failed_exp to.0 names bound) (failed_exp by.0 names bound) u in
    let h2 = both_empty (failed_exp from.0 names bound) (failed_exp to.0 names bound) h.0 in (
      meant_exp from.0,
      meant_exp to.0,
      Some (meant_exp by.0),
      refl,
      from.1 k2.0 setting names locals bound r h2.0,
      to.1 k2.1 setting names locals bound r h2.1,
      by.1 k.1 setting names locals bound r h.1,
    )

-- ---- the trees

abbrev OfExp : Exp → Type 0
OfExp x = ExpHolds (found_exp x) (meant_exp x) (failed_exp x) (written_exp x)

abbrev OfLExp : LExp → Type 0
OfLExp x = LExpHolds (found_lexp x) (meant_lexp x) (failed_lexp x) (written_lexp x)

abbrev OfStmt : Stmt → Type 0
OfStmt x = StmtHolds (found_stmt x) (meant_stmt x) (failed_stmt x) (written_stmt x)

abbrev OfSuffix : SuffixTree → Type 0
OfSuffix x = SuffixHolds (found_suffix x) (meant_suffix x) (failed_suffix x) (written_suffix x)

abbrev OfCase : CaseTree → Type 0
OfCase x = CaseHolds (found_case x) (meant_case x) (failed_case x) (written_case x)

abbrev OfFieldValue : FieldValue → Type 0
OfFieldValue x = FieldHolds (found_field x) (meant_field x) (failed_field x) (written_field x)

abbrev OfIndex : Index → Type 0
OfIndex x = IndexHolds (found_index x) (meant_index x) (failed_index x) (written_index x)

abbrev OfRange : Range → Type 0
OfRange x = RangeHolds (found_range x) (meant_range x) (failed_range x) (written_range x)

abbrev OfTarget : TargetTree → Type 0
OfTarget x = FurtherHolds (found_target x) (meant_target x) (failed_target x) (written_target x)

pub holds : (e : Exp) → OfExp e
holds = ind-Exp OfExp OfLExp OfStmt OfSuffix OfCase OfFieldValue OfIndex OfRange OfTarget
    (λ e y is. subst (λ d. OfExp (roll-Exp d)) is (rolled_Exp (first_Exp y) (again y)))
    (λ e y is. subst (λ d. OfLExp (roll-LExp d)) is (rolled_LExp (first_LExp y) (lexp_again y)))
    (λ e y is. subst (λ d. OfStmt (roll-Stmt d)) is (rolled_Stmt (first_Stmt y) (stmt_again y)))
    (λ e y is. subst (λ d. OfSuffix (roll-Suffix d)) is (rolled_Suffix (first_Suffix y) (suffix_again y)))
    (λ e y is. subst (λ d. OfCase (roll-Case d)) is (rolled_Case (first_Case y) (case_by y.pattern y.guard y.body)))
    (λ e y is. subst (λ d. OfFieldValue (roll-FieldValue d)) is (rolled_FieldValue (first_FieldValue y) (field_again y)))
    (λ e y is. subst (λ d. OfIndex (roll-Index d)) is (rolled_Index (first_Index y) (index_by y.first y.last)))
    (λ e y is. subst (λ d. OfRange (roll-Range d)) is (rolled_Range (first_Range y) (range_by y.from y.to y.by y.direction)))
    (λ e y is. subst (λ d. OfTarget (roll-Target d)) is (rolled_Target (first_Target y) (further_again y)))

pub expressions_right : ElaborationIsSound
expressions_right e b setting names known locals bound are settled fine want u f =
    holds e b setting names locals bound (record { known = known; are = are; settled = settled; counted = fine }) u want f
