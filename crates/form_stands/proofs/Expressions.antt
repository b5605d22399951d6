-- What is found of each expression stands: by induction on the expression.
use Rattle.std.proofs.Common.{◌≡◌, inl, inr, Bool, true, false, ◌&&◌, List, [], ◌∷◌, ◌++◌, map, ap, sym, ◌∙◌, refl, subst, Option, Some, None}
use Rattle.std.proofs.lemmas.Bool.{and_parts}
use Rattle.sail_base.specs.declared.kind.Kind.TheVariants as Sort
use Rattle.sail_base.specs.declared.operators.Operator.{Operator}
use Rattle.sail_base.specs.declared.operators.Operator.TheVariants as O
use Rattle.sail_base.specs.declared.place.Place.{Place}
use Rattle.sail_types.specs.declared.shapes.Shape.{Shape, out-Shape}
use Rattle.sail_types.specs.declared.shapes.Shape.TheOpen as S
use Rattle.sail_types.specs.declared.shapes.Shape.TheViews.{out-roll-Shape}
use Rattle.sail_types.specs.declared.shapes.Shape.TheVariants as V
use Rattle.sail_syntax.specs.declared.name.Name.{Name}
use Rattle.sail_syntax.specs.declared.patterns.Pat.{Pat}
use Rattle.sail_syntax.specs.declared.words.Asking.TheVariants.{Sizeof, Constraint}
use Rattle.sail_syntax.specs.declared.words.Brackets.TheVariants as B
use Rattle.sail_syntax.specs.declared.words.Choosing.TheVariants.{Match, Try}
use Rattle.sail_syntax.specs.declared.words.Leaving.TheVariants as Leave
use Rattle.sail_syntax.specs.declared.words.Looping.TheVariants.{While, Repeat}
use Rattle.sail_syntax.specs.declared.expressions.Exp.{Exp, Exp-F, roll-Exp}
use Rattle.sail_syntax.specs.declared.expressions.Exp.TheOpen as E
use Rattle.sail_syntax.specs.declared.expressions.Exp.TheOpen.{FieldValue-F, LExp-F, Stmt-F, Suffix-F, Target-F}
use Rattle.sail_syntax.specs.declared.expressions.Exp.TheFolds.{ind-Exp}
use Rattle.sail_syntax.specs.declared.expressions.Stmt.{Stmt, roll-Stmt}
use Rattle.sail_syntax.specs.declared.expressions.Suffix.{Suffix as SuffixTree, roll-Suffix}
use Rattle.sail_syntax.specs.declared.expressions.Case.{Case as CaseTree, roll-Case}
use Rattle.sail_syntax.specs.declared.expressions.Index.{Index, roll-Index}
use Rattle.sail_syntax.specs.declared.expressions.Range.{Range, roll-Range}
use Rattle.sail_syntax.specs.declared.expressions.LExp.{LExp, roll-LExp}
use Rattle.sail_syntax.specs.declared.expressions.FieldValue.{FieldValue, roll-FieldValue}
use Rattle.sail_syntax.specs.declared.expressions.Target.{Target as TargetTree, roll-Target}
use Rattle.sail_cycles.specs.Callees.{pattern_callees}
use Rattle.sail_names.specs.Known.{in_measure, is_assigned, is_callee, is_register_seen}
use Rattle.sail_names.specs.Locals as Bound
use Rattle.sail_names.specs.Locals.{behind}
use Rattle.sail_names.specs.Patterns.{binds, clashes, joined, pattern_failures, type_failures, unless}
use Rattle.sail_names.specs.Uses as Uses
use Rattle.shape_joins.proofs.Order.{no}
use Rattle.shape_rules.specs.Scopes.{Locals, constant, local_of, thrown_shape}
use Rattle.shape_rules.specs.Targets.{Aimed, Part, SuffixPart, TargetPart, each_aimed, elaborations, name_aimed, read_aimed, tuple_aimed, walked}
use Rattle.shape_rules.specs.Values.{FieldPart, infix_found, last_place, leave_found, return_found, struct_at, struct_found, struct_place}
use Rattle.shape_rules.specs.Statements.{blocked, chained_faults}
use Rattle.shape_rules.specs.Expressions as Rules
use Rattle.shape_meanings.specs.Counted.{counted}
use Rattle.shape_meanings.specs.Parts.{NamesApart}
use Rattle.shape_meanings.specs.Trees.{is_part, pattern_written}
use Rattle.shape_meanings.specs.Whole.{all_of}
use Rattle.shape_meanings.proofs.Bases.{chained_known}
use Rattle.shape_meanings.proofs.Counting.{int_counted, never_counted}
use Rattle.shape_meanings.proofs.Expressions.{expressions_right}
use Rattle.shape_meanings.proofs.Folds.{failed_case, failed_exp, failed_field, failed_index, failed_lexp, failed_range, failed_stmt, failed_suffix}
use Rattle.shape_meanings.proofs.Folds.{failed_target, found_case, found_exp, found_field, found_index, found_lexp, found_range, found_stmt, found_suffix}
use Rattle.shape_meanings.proofs.Folds.{found_target, written_case, written_exp, written_field, written_index, written_lexp, written_range, written_stmt}
use Rattle.shape_meanings.proofs.Folds.{written_suffix, written_target}
use Rattle.shape_meanings.proofs.FormCounts.{thrown_counted}
use Rattle.shape_meanings.proofs.Naming.{unless_true}
use Rattle.shape_meanings.proofs.Openness.{is_tuple_form}
use Rattle.shape_meanings.proofs.Ready.{Ready, plain_ready, with_constant, with_variable}
use Rattle.shape_meanings.proofs.TargetNames.{names_apart, struct_known}
use Rattle.shape_meanings.proofs.CallCounts.{ElsCount}
use Rattle.shape_meanings.proofs.TargetCounts.{call_base_counts}
use Rattle.shape_meanings.proofs.TreeCounts.{exp_counts}
use Rattle.shape_stands.specs.Inside.{Position, measuring}
use Rattle.shape_stands.specs.Manner.{Manner, Quiet, aside, both, every, fields_form, leaf}
use Rattle.shape_stands.specs.Stands.{AimsStand, AimStands, AllStandAt, CasesStand, Converting, FieldsStand, FoundShaped, FurtherStand, IsShapedAt}
use Rattle.shape_stands.specs.Stands.{PartAimStands, StandsAt, StatementsStand, SuffixesStand}
use Rattle.shape_stands.proofs.Standing.{both_empty}
use Rattle.form_stands.specs.Laws.{ExpressionsStand}
use Rattle.form_stands.proofs.Aims.{name_aim_stands, part_aim_stands, tuple_aim_stands}
use Rattle.form_stands.proofs.Assigns.{assign_shaped}
use Rattle.form_stands.proofs.Bases.{BaseHolds}
use Rattle.form_stands.proofs.CallBases.{call_base_has}
use Rattle.form_stands.proofs.Behind.{begun_counted, bound_counted, declared_settled, halves, none_in_measure, pattern_ready, pattern_shaped, typ_is}
use Rattle.form_stands.proofs.Blocks.{block_shaped, declare_stands, define_stands, evaluate_stands, unit_block_shaped}
use Rattle.form_stands.proofs.Branches.{assert_shaped, if_shaped, short_if_shaped}
use Rattle.form_stands.proofs.Calls.{call_shaped, infix_shaped, prefix_shaped}
use Rattle.form_stands.proofs.CallTargets.{call_aim_stands, call_part_stands}
use Rattle.form_stands.proofs.Cases.{match_shaped, try_shaped}
use Rattle.form_stands.proofs.Casts.{typed_shaped}
use Rattle.form_stands.proofs.Folds.{CaseForm, ExpForm, FieldValueForm, IndexForm, LExpForm, RangeForm, StmtForm, SuchCase, SuchExp}
use Rattle.form_stands.proofs.Folds.{SuchFieldValue, SuchIndex, SuchLExp, SuchRange, SuchStmt, SuchSuffix, SuchTarget, SuffixForm, TargetForm}
use Rattle.form_stands.proofs.Folds.{ExpStands, StmtStands, SuffixTreeStands, CaseTreeStands, IndexTreeStands, RangeTreeStands, LExpStands, FurtherTreeStands}
use Rattle.form_stands.proofs.Folds.{FieldStands, first_Case, first_Exp, first_FieldValue, first_Index, first_LExp, first_Range, first_Stmt, first_Suffix}
use Rattle.form_stands.proofs.Folds.{first_Target, in_case, in_exp, in_field, in_index, in_lexp, in_range, in_stmt, in_suffix, in_target}
use Rattle.form_stands.proofs.Folds.{rolled_Case, rolled_Exp, rolled_FieldValue, rolled_Index, rolled_LExp, rolled_Range, rolled_Stmt, rolled_Suffix}
use Rattle.form_stands.proofs.Folds.{rolled_Target, manner_case, manner_exp, manner_field, manner_index, manner_lexp, manner_range, manner_stmt, manner_suffix, manner_target}
use Rattle.form_stands.proofs.Groups.{empty_tuple_shaped, list_shaped, tuple_shaped, vector_shaped}
use Rattle.form_stands.proofs.Leaves.{constant_shaped, constraint_shaped, name_shaped, sizeof_shaped}
use Rattle.form_stands.proofs.Leaving.{exit_shaped, return_shaped, throw_shaped}
use Rattle.form_stands.proofs.Lets.{let_shaped, var_shaped}
use Rattle.form_stands.proofs.Logical.{and_shaped, or_shaped}
use Rattle.form_stands.proofs.Loops.{foreach_shaped, repeat_shaped, while_shaped}
use Rattle.form_stands.proofs.Structs.{struct_shaped, with_shaped}
use Rattle.form_stands.proofs.Suffixes.{part_shaped}
use Rattle.form_stands.proofs.Updates.{update_shaped}

not_none : {A B : Type 0} {x : A} {xs : List A} → (x ∷ xs) ≡ [] → B
not_none e = absurd (empty e)
  where
    empty : {A : Type 0} {x : A} {xs : List A} → (x ∷ xs) ≡ [] → ⊥
    empty e = cc

-- ---- what the grammar has

quiet_parts : (here : Position) (a b : Manner) → Quiet here (both a b) → Quiet here a × Quiet here b
quiet_parts here a b (inl seen, full) =
    let k = and_parts a.is_full b.is_full full in
    ((inl seen, k.0), (inl seen, k.1))
quiet_parts here a b (inr plain, full) =
    let h = and_parts a.is_plain b.is_plain plain in
    let k = and_parts a.is_full b.is_full full in
    ((inr h.0, k.0), (inr h.1, k.1))

-- where what isn't plain stands, registers can be named
seen : (here : Position) (m : Manner) → Quiet here (aside m) → is_register_seen here.names.allowed ≡ true
seen here m (inl h, full) = h
seen here m (inr h, full) = no h

loud : (here : Position) (m : Manner) → Quiet here (aside m) → Quiet here m
loud here m q = (inl (seen here m q), q.1)

-- an expression that has its shape stands: what is wanted of it comes from what it means
stands : (a : SuchExp) (here : Position) (locals : Locals) (bound : Bound.Locals) → written_exp a.0 ≡ true → Ready here.setting here.names locals bound
    → Quiet here (manner_exp a.0)
    → Converting here (in_exp a.0 here.names.known) → failed_exp a.0 here.names bound ≡ [] → StandsAt here locals (found_exp a.0).elaborate
stands a here locals bound b r q k u want e = (
  (expressions_right a.0 b here.setting here.names r.known locals bound r.are r.settled r.counted want u e).above,
  a.1 b here locals bound r q k u want e,
)

-- ---- parts in a list

abbrev exps : List SuchExp → List Exp
exps ys = map (λ (p : SuchExp). p.0) ys

each_stands : (ys : List SuchExp) (here : Position) (locals : Locals) (bound : Bound.Locals) → all_of (map written_exp (exps ys)) ≡ true
    → Ready here.setting here.names locals bound → Quiet here (every (map manner_exp (exps ys)))
    → Converting here (joined (map (λ x. in_exp x here.names.known) (exps ys)))
    → Uses.each (map failed_exp (exps ys)) here.names bound ≡ [] → AllStandAt here locals (elaborations (map found_exp (exps ys)))
each_stands [] here locals bound b r q c u = tt
each_stands (y ∷ ys) here locals bound b r q c u =
    let p = quiet_parts here (manner_exp y.0) (every (map manner_exp (exps ys))) q in
    let k = and_parts (written_exp y.0) (all_of (map written_exp (exps ys))) b in
    let n = halves here (in_exp y.0 here.names.known) (joined (map (λ x. in_exp x here.names.known) (exps ys))) c in
    let h = both_empty (failed_exp y.0 here.names bound) (Uses.each (map failed_exp (exps ys)) here.names bound) u in
    (stands y here locals bound k.0 r p.0 n.0 h.0, each_stands ys here locals bound k.1 r p.1 n.1 h.1)

counts_of : (ys : List SuchExp) (here : Position) (locals : Locals) (bound : Bound.Locals) → Ready here.setting here.names locals bound
    → Uses.each (map failed_exp (exps ys)) here.names bound ≡ [] → ElsCount here.setting locals (elaborations (map found_exp (exps ys)))
counts_of [] here locals bound r u = tt
counts_of (y ∷ ys) here locals bound r u =
    let h = both_empty (failed_exp y.0 here.names bound) (Uses.each (map failed_exp (exps ys)) here.names bound) u in
    (exp_counts y.0 here.setting here.names r.known locals bound r.counted h.0, counts_of ys here locals bound r h.1)

abbrev suffixes : List SuchSuffix → List SuffixTree
suffixes ys = map (λ (p : SuchSuffix). p.0) ys

suffixes_stand : (ys : List SuchSuffix) (here : Position) (locals : Locals) (bound : Bound.Locals) → all_of (map written_suffix (suffixes ys)) ≡ true
    → Ready here.setting here.names locals bound → Quiet here (every (map manner_suffix (suffixes ys)))
    → Converting here (joined (map (λ x. in_suffix x here.names.known) (suffixes ys)))
    → Uses.each (map failed_suffix (suffixes ys)) here.names bound ≡ [] → SuffixesStand here locals (map found_suffix (suffixes ys))
suffixes_stand [] here locals bound b r q c u = tt
suffixes_stand (y ∷ ys) here locals bound b r q c u =
    let p = quiet_parts here (manner_suffix y.0) (every (map manner_suffix (suffixes ys))) q in
    let k = and_parts (written_suffix y.0) (all_of (map written_suffix (suffixes ys))) b in
    let n = halves here (in_suffix y.0 here.names.known) (joined (map (λ x. in_suffix x here.names.known) (suffixes ys))) c in
    let h = both_empty (failed_suffix y.0 here.names bound) (Uses.each (map failed_suffix (suffixes ys)) here.names bound) u in
    (y.1 k.0 here locals bound r p.0 n.0 h.0, suffixes_stand ys here locals bound k.1 r p.1 n.1 h.1)

abbrev casetrees : List SuchCase → List CaseTree
casetrees ys = map (λ (p : SuchCase). p.0) ys

cases_stand : (ys : List SuchCase) (here : Position) (locals : Locals) (bound : Bound.Locals) (subject : Shape)
    → counted here.setting.types subject ≡ true → all_of (map written_case (casetrees ys)) ≡ true → Ready here.setting here.names locals bound
    → Quiet here (every (map manner_case (casetrees ys)))
    → Converting here (joined (map (λ x. in_case x here.names.known) (casetrees ys)))
    → Uses.each (map failed_case (casetrees ys)) here.names bound ≡ [] → CasesStand here locals subject (map found_case (casetrees ys))
cases_stand [] here locals bound subject f b r q c u = tt
cases_stand (y ∷ ys) here locals bound subject f b r q c u =
    let p = quiet_parts here (manner_case y.0) (every (map manner_case (casetrees ys))) q in
    let k = and_parts (written_case y.0) (all_of (map written_case (casetrees ys))) b in
    let n = halves here (in_case y.0 here.names.known) (joined (map (λ x. in_case x here.names.known) (casetrees ys))) c in
    let h = both_empty (failed_case y.0 here.names bound) (Uses.each (map failed_case (casetrees ys)) here.names bound) u in
    (y.1 k.0 here locals bound r p.0 n.0 h.0 subject f, cases_stand ys here locals bound subject f k.1 r p.1 n.1 h.1)

abbrev fieldvalues : List SuchFieldValue → List FieldValue
fieldvalues ys = map (λ (p : SuchFieldValue). p.0) ys

fields_stand : (ys : List SuchFieldValue) (here : Position) (locals : Locals) (bound : Bound.Locals) → all_of (map written_field (fieldvalues ys)) ≡ true
    → Ready here.setting here.names locals bound → Quiet here (every (map manner_field (fieldvalues ys)))
    → Converting here (joined (map (λ x. in_field x here.names.known) (fieldvalues ys)))
    → Uses.fields_failures (map failed_field (fieldvalues ys)) here.names bound ≡ [] → FieldsStand here locals (map found_field (fieldvalues ys))
fields_stand [] here locals bound b r q c u = tt
fields_stand (y ∷ ys) here locals bound b r q c u =
    let p = quiet_parts here (manner_field y.0) (every (map manner_field (fieldvalues ys))) q in
    let k = and_parts (written_field y.0) (all_of (map written_field (fieldvalues ys))) b in
    let n = halves here (in_field y.0 here.names.known) (joined (map (λ x. in_field x here.names.known) (fieldvalues ys))) c in
    let field = failed_field y.0 in
    let h = both_empty (Uses.field_failures here.names field.name ++ field.value here.names bound) (Uses.fields_failures
    (map failed_field (fieldvalues ys)) here.names bound) u in
    let h2 = both_empty (Uses.field_failures here.names field.name) (field.value here.names bound) h.0 in
    (y.1.1 k.0 here locals bound r p.0 n.0 h2.1, fields_stand ys here locals bound k.1 r p.1 n.1 h.1)

same_names : (ys : List SuchFieldValue) → map (λ (f : FieldPart). f.name) (map found_field (fieldvalues ys)) ≡ Uses.named (map failed_field (fieldvalues ys))
same_names [] = refl
same_names (y ∷ ys) = λ i. y.1.0 i ∷ same_names ys i

abbrev lexps : List SuchLExp → List LExp
lexps ys = map (λ (p : SuchLExp). p.0) ys

aims_stand : (ys : List SuchLExp) (here : Position) (locals : Locals) (bound : Bound.Locals) → all_of (map written_lexp (lexps ys)) ≡ true
    → Ready here.setting here.names locals bound → Quiet here (every (map manner_lexp (lexps ys)))
    → Converting here (joined (map (λ x. in_lexp x here.names.known) (lexps ys)))
    → Uses.each (map failed_lexp (lexps ys)) here.names bound ≡ [] → AimsStand here locals (map found_lexp (lexps ys))
aims_stand [] here locals bound b r q c u = tt
aims_stand (y ∷ ys) here locals bound b r q c u =
    let p = quiet_parts here (manner_lexp y.0) (every (map manner_lexp (lexps ys))) q in
    let k = and_parts (written_lexp y.0) (all_of (map written_lexp (lexps ys))) b in
    let n = halves here (in_lexp y.0 here.names.known) (joined (map (λ x. in_lexp x here.names.known) (lexps ys))) c in
    let h = both_empty (failed_lexp y.0 here.names bound) (Uses.each (map failed_lexp (lexps ys)) here.names bound) u in
    ((y.1 k.0 here locals bound r p.0 n.0 h.0).2, aims_stand ys here locals bound k.1 r p.1 n.1 h.1)

abbrev targets : List SuchTarget → List TargetTree
targets ys = map (λ (p : SuchTarget). p.0) ys

further_stand : (ys : List SuchTarget) (here : Position) (locals : Locals) (bound : Bound.Locals) → all_of (map written_target (targets ys)) ≡ true
    → Ready here.setting here.names locals bound → Quiet here (every (map manner_target (targets ys)))
    → Converting here (joined (map (λ x. in_target x here.names.known) (targets ys)))
    → Uses.each (map failed_target (targets ys)) here.names bound ≡ [] → FurtherStand here locals (map found_target (targets ys))
further_stand [] here locals bound b r q c u = tt
further_stand (y ∷ ys) here locals bound b r q c u =
    let p = quiet_parts here (manner_target y.0) (every (map manner_target (targets ys))) q in
    let k = and_parts (written_target y.0) (all_of (map written_target (targets ys))) b in
    let n = halves here (in_target y.0 here.names.known) (joined (map (λ x. in_target x here.names.known) (targets ys))) c in
    let h = both_empty (failed_target y.0 here.names bound) (Uses.each (map failed_target (targets ys)) here.names bound) u in
    (y.1 k.0 here locals bound r p.0 n.0 h.0, further_stand ys here locals bound k.1 r p.1 n.1 h.1)

-- one argument more
one_more : (es : List Part) (a : Part) (here : Position) (locals : Locals) → AllStandAt here locals (elaborations es) → StandsAt here locals a.elaborate
    → AllStandAt here locals (elaborations (es ++ a ∷ []))
one_more [] a here locals stand one = (one, tt)
one_more (e ∷ es) a here locals stand one = (stand.0, one_more es a here locals stand.1 one)

-- ---- statements, and the names in scope behind them

abbrev stmts : List SuchStmt → List Stmt
stmts ys = map (λ (p : SuchStmt). p.0) ys

steps_stand : (ys : List SuchStmt) (here : Position) (locals : Locals) (bound : Bound.Locals) → all_of (map written_stmt (stmts ys)) ≡ true
    → Ready here.setting here.names locals bound → Quiet here (every (map manner_stmt (stmts ys)))
    → Converting here (joined (map (λ x. in_stmt x here.names.known) (stmts ys)))
    → (Uses.steps (map failed_stmt (stmts ys)) here.names bound).failures ≡ []
    → StatementsStand here locals (map found_stmt (stmts ys))
    × ((blocked (map found_stmt (stmts ys)) here.setting locals).faults ≡ []
    → Ready here.setting here.names (blocked (map found_stmt (stmts ys)) here.setting locals).locals
    (Uses.steps (map failed_stmt (stmts ys)) here.names bound).locals)
steps_stand [] here locals bound b r q c u = (tt, λ e. r)
steps_stand (y ∷ ys) here locals bound b r q c u =
    let p = quiet_parts here (manner_stmt y.0) (every (map manner_stmt (stmts ys))) q in
    let k = and_parts (written_stmt y.0) (all_of (map written_stmt (stmts ys))) b in
    let n = halves here (in_stmt y.0 here.names.known) (joined (map (λ x. in_stmt x here.names.known) (stmts ys))) c in
    let step = failed_stmt y.0 here.names bound in
    let h = both_empty step.failures (Uses.steps (map failed_stmt (stmts ys)) here.names step.locals).failures u in
    let one = y.1 k.0 here locals bound r p.0 n.0 h.0 in
    let stated = found_stmt y.0 here.setting locals in (
      (one.0, λ e. (steps_stand ys here stated.locals step.locals k.1 (one.1 e) p.1 n.1 h.1).0),
      λ e.
          let f = both_empty stated.faults (blocked (map found_stmt (stmts ys)) here.setting stated.locals).faults e in
          (steps_stand ys here stated.locals step.locals k.1 (one.1 f.0) p.1 n.1 h.1).1 f.1,
    )

-- ---- some forms

return_stands : (here : Position) (locals : Locals) (bound : Bound.Locals) (place : Place) (a : Part) (o : Option Shape)
    → Ready here.setting here.names locals bound → here.setting.answer ≡ o → StandsAt here locals a.elaborate → (want : Shape)
    → (return_found place a o here.setting locals want).faults ≡ [] → FoundShaped here locals (leave_found place Leave.Return a here.setting locals want)
return_stands here locals bound place a None r is one want e = not_none e
return_stands here locals bound place a (Some s) r is one want e =
    let n = r.known.answer s is in
    return_shaped here locals place a s n.0 is n.1 one want

thrown : (b : Bool) (place : Place) → Uses.throw_failures b place ≡ [] → b ≡ true
thrown true place u = refl
thrown false place u = not_none u

operator_shaped : (operator : Operator) (here : Position) (locals : Locals) (place : Place) (a b : Part) → StandsAt here locals a.elaborate
    → StandsAt here locals b.elaborate → IsShapedAt here locals (infix_found place operator a b)
operator_shaped O.And here locals place a b one two = and_shaped here locals place a b one two
operator_shaped O.Or here locals place a b one two = or_shaped here locals place a b one two
operator_shaped operator here locals place a b one two = infix_shaped here locals place operator a b refl one two

-- a struct of fields of different names
struct_by : (here : Position) (locals : Locals) (bound : Bound.Locals) (place : Place) (name : Option Name) (fs : List FieldPart) (o : Option _)
    → Ready here.setting here.names locals bound → Uses.struct_failures here.names name ≡ [] → struct_place here.setting name fs ≡ o → NamesApart fs
    → FieldsStand here locals fs → (want : Shape) → (struct_at place fs o here.setting locals want).faults ≡ []
    → FoundShaped here locals (struct_found place name fs here.setting locals want)
struct_by here locals bound place name fs None r u is apart stand want e = not_none e
struct_by here locals bound place name fs (Some i) r u is apart stand want e =
    let fl = struct_known here.setting here.names r.known name fs i u is in
    struct_shaped here locals place name fs i fl.0 is fl.1 apart stand want

-- ---- the forms

again : (y : Exp-F SuchExp SuchLExp SuchStmt SuchSuffix SuchCase SuchFieldValue SuchIndex SuchRange SuchTarget) → ExpForm (first_Exp y)
again (E.Constant place literal) b here locals bound r q c u = λ want. constant_shaped here locals place literal want
again (E.Variable name) b here locals bound r q c u = name_shaped here r.known locals bound r.are name u
again (E.Call name args) b here locals bound r q c u =
    let h = both_empty (unless (is_callee here.names name.text) name) (Uses.each (map failed_exp (exps args)) here.names bound) u in
    call_shaped here r.known locals name (map found_exp (exps args)) (unless_true (is_callee here.names name.text) name h.0)
    (each_stands args here locals bound b r q c h.1)
again (E.Prefixed place prefix a) b here locals bound r q c u =
    prefix_shaped here locals place prefix (found_exp a.0) (stands a here locals bound b r q c u)
again (E.Infix place operator a d) b here locals bound r q c u =
    let p = quiet_parts here (manner_exp a.0) (manner_exp d.0) q in
    let k = and_parts (written_exp a.0) (written_exp d.0) b in
    let n = halves here (in_exp a.0 here.names.known ++ in_exp d.0 here.names.known) [] c in
    let n2 = halves here (in_exp a.0 here.names.known) (in_exp d.0 here.names.known) n.0 in
    let h = both_empty (failed_exp a.0 here.names bound) (failed_exp d.0 here.names bound) u in
    operator_shaped operator here locals place (found_exp a.0) (found_exp d.0) (stands a here locals bound k.0 r p.0 n2.0 h.0)
    (stands d here locals bound k.1 r p.1 n2.1 h.1)
again (E.Leave place Leave.Return a) b here locals bound r q c u = λ want e.
    return_stands here locals bound place (found_exp a.0) here.setting.answer r refl (stands a here locals bound b r (loud here
    (manner_exp a.0) q) c u) want e e
again (E.Leave place Leave.Throw a) b here locals bound r q c u =
    let h = both_empty (Uses.throw_failures here.names.known.has_exception place) (failed_exp a.0 here.names bound) u in
    let i = r.known.exception (thrown here.names.known.has_exception place h.0) in
    throw_shaped here locals place (found_exp a.0) i.0 i.1 (stands a here locals bound b r (loud here (manner_exp a.0) q) c h.1)
again (E.Leave place Leave.Exit a) b here locals bound r q c u =
    exit_shaped here locals place (found_exp a.0) (stands a here locals bound b r (loud here (manner_exp a.0) q) c u)
again (E.Group place B.Tuple []) b here locals bound r q c u = empty_tuple_shaped here locals place
again (E.Group place B.Tuple (x ∷ [])) b here locals bound r q c u = no b
again (E.Group place B.Tuple (x ∷ y ∷ ys)) b here locals bound r q c u =
    tuple_shaped here locals place (found_exp x.0).elaborate (found_exp y.0).elaborate (elaborations (map found_exp (exps ys)))
    (each_stands (x ∷ y ∷ ys) here locals bound b r q c u)
again (E.Group place B.Vector ys) b here locals bound r q c u =
    vector_shaped here locals place (elaborations (map found_exp (exps ys))) (each_stands ys here locals bound b r q c u)
again (E.Group place B.List ys) b here locals bound r q c u =
    list_shaped here locals place (elaborations (map found_exp (exps ys))) (each_stands ys here locals bound b r q c u)
again (E.Part place a ys) b here locals bound r q c u =
    let p = quiet_parts here (manner_exp a.0) (every (map manner_suffix (suffixes ys))) q in
    let k = and_parts (written_exp a.0) (all_of (map written_suffix (suffixes ys))) b in
    let n = halves here (in_exp a.0 here.names.known) (joined (map (λ x. in_suffix x here.names.known) (suffixes ys))) c in
    let h = both_empty (failed_exp a.0 here.names bound) (Uses.each (map failed_suffix (suffixes ys)) here.names bound) u in
    part_shaped here locals place (found_exp a.0) (map found_suffix (suffixes ys)) (stands a here locals bound k.0 r p.0 n.0 h.0)
    (suffixes_stand ys here locals bound k.1 r p.1 n.1 h.1)
again (E.Typed place a typ) b here locals bound r q c u =
    let h = both_empty (failed_exp a.0 here.names bound) (type_failures Sort.Type typ here.names) u in
    let t = r.known.typs typ h.1 in
    typed_shaped here locals place (found_exp a.0) typ t.0 t.2.0 t.1 t.2.1 (stands a here locals bound b r q c h.0)
again (E.Assign place target [] a) b here locals bound r q c u =
    let all = both (manner_lexp target.0) leaf in
    let p = quiet_parts here all (manner_exp a.0) (loud here (both all (manner_exp a.0)) q) in
    let p2 = quiet_parts here (manner_lexp target.0) leaf p.0 in
    let k = and_parts (written_lexp target.0 && true) (written_exp a.0) b in
    let k2 = and_parts (written_lexp target.0) true k.0 in
    let n = halves here (in_lexp target.0 here.names.known ++ []) (in_exp a.0 here.names.known) c in
    let n2 = halves here (in_lexp target.0 here.names.known) [] n.0 in
    let h = both_empty (failed_lexp target.0 here.names bound ++ []) (failed_exp a.0 here.names bound) u in
    let h2 = both_empty (failed_lexp target.0 here.names bound) [] h.0 in
    (target.1 k2.0 here locals bound r p2.0 n2.0 h2.0).0 place (found_exp a.0) (stands a here locals bound k.1 r p.1 n.1 h.1)
again (E.Assign place target (x ∷ xs) a) b here locals bound r q c u =
    let ts = targets (x ∷ xs) in
    let all = both (manner_lexp target.0) (every (map manner_target ts)) in
    let p = quiet_parts here all (manner_exp a.0) (loud here (both all (manner_exp a.0)) q) in
    let p2 = quiet_parts here (manner_lexp target.0) (every (map manner_target ts)) p.0 in
    let k = and_parts (written_lexp target.0 && all_of (map written_target ts)) (written_exp a.0) b in
    let k2 = and_parts (written_lexp target.0) (all_of (map written_target ts)) k.0 in
    let more = joined (map (λ x. in_target x here.names.known) ts) in
    let n = halves here (in_lexp target.0 here.names.known ++ more) (in_exp a.0 here.names.known) c in
    let n2 = halves here (in_lexp target.0 here.names.known) more n.0 in
    let h = both_empty (failed_lexp target.0 here.names bound ++ Uses.each (map failed_target ts) here.names bound) (failed_exp a.0 here.names bound) u in
    let h2 = both_empty (failed_lexp target.0 here.names bound) (Uses.each (map failed_target ts) here.names bound) h.0 in
    assign_shaped here locals place ((found_lexp target.0).aim here.setting locals) (map found_target ts) (found_exp a.0)
    ((target.1 k2.0 here locals bound r p2.0 n2.0 h2.0).1 place) (further_stand (x ∷ xs) here locals bound k2.1 r p2.1 n2.1 h2.1)
    (stands a here locals bound k.1 r p.1 n.1 h.1)
again (E.Block place ys None) b here locals bound r q c u =
    let p = quiet_parts here (every (map manner_stmt (stmts ys))) leaf (loud here (both (every (map manner_stmt (stmts ys))) leaf) q) in
    let k = and_parts (all_of (map written_stmt (stmts ys))) true b in
    let n = halves here (joined (map (λ x. in_stmt x here.names.known) (stmts ys))) [] c in
    let h = both_empty (Uses.steps (map failed_stmt (stmts ys)) here.names bound).failures [] u in
    unit_block_shaped here locals place (map found_stmt (stmts ys)) (steps_stand ys here locals bound k.0 r p.0 n.0 h.0).0
again (E.Block place ys (Some a)) b here locals bound r q c u =
    let all = every (map manner_stmt (stmts ys)) in
    let p = quiet_parts here all (manner_exp a.0) (loud here (both all (manner_exp a.0)) q) in
    let k = and_parts (all_of (map written_stmt (stmts ys))) (written_exp a.0) b in
    let n = halves here (joined (map (λ x. in_stmt x here.names.known) (stmts ys))) (in_exp a.0 here.names.known) c in
    let steps = Uses.steps (map failed_stmt (stmts ys)) here.names bound in
    let h = both_empty steps.failures (failed_exp a.0 here.names steps.locals) u in
    let are = steps_stand ys here locals bound k.0 r p.0 n.0 h.0 in
    block_shaped here locals place (map found_stmt (stmts ys)) (found_exp a.0) are.0
    (λ e. stands a here (blocked (map found_stmt (stmts ys)) here.setting locals).locals steps.locals k.1 (are.1 e) p.1 n.1 h.1)
again (E.Let place pattern a d) b here locals bound r q c u =
    let p = quiet_parts here (manner_exp a.0) (manner_exp d.0) q in
    let k = and_parts (pattern_written pattern && written_exp a.0) (written_exp d.0) b in
    let k2 = and_parts (pattern_written pattern) (written_exp a.0) k.0 in
    let n = halves here (in_exp a.0 here.names.known ++ pattern_callees here.names.known pattern) (in_exp d.0 here.names.known) c in
    let n2 = halves here (in_exp a.0 here.names.known) (pattern_callees here.names.known pattern) n.0 in
    let inner = behind (binds here.names.known pattern) bound in
    let h = both_empty (failed_exp a.0 here.names bound ++ pattern_failures here.names pattern) (failed_exp d.0 here.names inner) u in
    let h2 = both_empty (failed_exp a.0 here.names bound) (pattern_failures here.names pattern) h.0 in
    let_shaped here locals place pattern (found_exp a.0) (found_exp d.0) (stands a here locals bound k2.1 r p.0 n2.0 h2.0)
    (pattern_shaped here locals bound pattern r k2.0 h2.1 n2.1)
    (stands d here _ inner k.1 (pattern_ready here locals bound pattern _ r h2.1 (bound_counted here locals bound pattern a.0 r h2.0 h2.1)) p.1 n.1 h.1)
again (E.Var place name typ a d) b here locals bound r q c u =
    let p = quiet_parts here (manner_exp a.0) (manner_exp d.0) q in
    let k = and_parts (written_exp a.0) (written_exp d.0) b in
    let n = halves here (in_exp a.0 here.names.known) (in_exp d.0 here.names.known) c in
    let h = both_empty (Uses.maybe_type typ here.names ++ failed_exp a.0 here.names bound) (failed_exp d.0 here.names (Bound.variable name ∷ bound)) u in
    let h2 = both_empty (Uses.maybe_type typ here.names) (failed_exp a.0 here.names bound) h.0 in
    let is = typ_is here locals bound typ r h2.0 in
    var_shaped here locals place name typ (found_exp a.0) (found_exp d.0) is (stands a here locals bound k.0 r p.0 n.0 h2.1)
    (λ e. stands d here _ (Bound.variable name ∷ bound) k.1
    (with_variable here.setting here.names locals bound name _ r (declared_settled here locals place name typ (found_exp a.0) is e)
    (begun_counted here locals bound typ a.0 r h2.1 h2.0)) p.1 n.1 h.1)
again (E.If place a d None) b here locals bound r q c u =
    let p = quiet_parts here (both (manner_exp a.0) (manner_exp d.0)) leaf q in
    let p2 = quiet_parts here (manner_exp a.0) (manner_exp d.0) p.0 in
    let k = and_parts (written_exp a.0 && written_exp d.0) true b in
    let k2 = and_parts (written_exp a.0) (written_exp d.0) k.0 in
    let n = halves here (in_exp a.0 here.names.known ++ in_exp d.0 here.names.known) [] c in
    let n2 = halves here (in_exp a.0 here.names.known) (in_exp d.0 here.names.known) n.0 in
    let h = both_empty (failed_exp a.0 here.names bound ++ failed_exp d.0 here.names bound) [] u in
    let h2 = both_empty (failed_exp a.0 here.names bound) (failed_exp d.0 here.names bound) h.0 in
    short_if_shaped here locals place (found_exp a.0) (found_exp d.0) (stands a here locals bound k2.0 r p2.0 n2.0 h2.0)
    (stands d here locals bound k2.1 r p2.1 n2.1 h2.1)
again (E.If place a d (Some f)) b here locals bound r q c u =
    let p = quiet_parts here (both (manner_exp a.0) (manner_exp d.0)) (manner_exp f.0) q in
    let p2 = quiet_parts here (manner_exp a.0) (manner_exp d.0) p.0 in
    let k = and_parts (written_exp a.0 && written_exp d.0) (written_exp f.0) b in
    let k2 = and_parts (written_exp a.0) (written_exp d.0) k.0 in
    let n = halves here (in_exp a.0 here.names.known ++ in_exp d.0 here.names.known) (in_exp f.0 here.names.known) c in
    let n2 = halves here (in_exp a.0 here.names.known) (in_exp d.0 here.names.known) n.0 in
    let h = both_empty (failed_exp a.0 here.names bound ++ failed_exp d.0 here.names bound) (failed_exp f.0 here.names bound) u in
    let h2 = both_empty (failed_exp a.0 here.names bound) (failed_exp d.0 here.names bound) h.0 in
    if_shaped here locals place (found_exp a.0) (found_exp d.0) (found_exp f.0) (stands a here locals bound k2.0 r p2.0 n2.0 h2.0)
    (stands d here locals bound k2.1 r p2.1 n2.1 h2.1) (stands f here locals bound k.1 r p.1 n.1 h.1)
again (E.Choose place Match a ys) b here locals bound r q c u =
    let p = quiet_parts here (manner_exp a.0) (every (map manner_case (casetrees ys))) q in
    let k = and_parts (written_exp a.0) (all_of (map written_case (casetrees ys))) b in
    let n = halves here (in_exp a.0 here.names.known) (joined (map (λ x. in_case x here.names.known) (casetrees ys))) c in
    let h = both_empty (failed_exp a.0 here.names bound) (Uses.each (map failed_case (casetrees ys)) here.names bound) u in
    match_shaped here locals place (found_exp a.0) (map found_case (casetrees ys)) (stands a here locals bound k.0 r p.0 n.0 h.0)
    (cases_stand ys here locals bound ((found_exp a.0).elaborate here.setting locals V.Never).shape
    (exp_counts a.0 here.setting here.names r.known locals bound r.counted h.0 V.Never (never_counted here.setting.types)) k.1 r p.1 n.1 h.1)
again (E.Choose place Try a ys) b here locals bound r q c u =
    let all = every (map manner_case (casetrees ys)) in
    let p = quiet_parts here (manner_exp a.0) all (loud here (both (manner_exp a.0) all) q) in
    let k = and_parts (written_exp a.0) (all_of (map written_case (casetrees ys))) b in
    let n = halves here (in_exp a.0 here.names.known) (joined (map (λ x. in_case x here.names.known) (casetrees ys))) c in
    let h = both_empty (failed_exp a.0 here.names bound) (Uses.each (map failed_case (casetrees ys)) here.names bound) u in
    try_shaped here locals place (found_exp a.0) (map found_case (casetrees ys)) (stands a here locals bound k.0 r p.0 n.0 h.0)
    (cases_stand ys here locals bound (thrown_shape here.setting)
    (thrown_counted here.setting.types here.setting.exception r.known.counts.exception) k.1 r p.1 n.1 h.1)
again (E.Foreach place name range a) b here locals bound r q c u =
    let p = quiet_parts here (manner_range range.0) (manner_exp a.0) (loud here (both (manner_range range.0) (manner_exp a.0)) q) in
    let k = and_parts (written_range range.0) (written_exp a.0) b in
    let n = halves here (in_range range.0 here.names.known) (in_exp a.0 here.names.known) c in
    let h = both_empty (failed_range range.0 here.names bound) (failed_exp a.0 here.names (Bound.constant name ∷ bound)) u in
    foreach_shaped here locals place name (found_range range.0) (found_exp a.0) (range.1 k.0 here locals bound r p.0 n.0 h.0)
    (stands a here (constant name.text V.Int ∷ locals) (Bound.constant name ∷ bound) k.1
    (with_constant here.setting here.names locals bound name V.Int r (int_counted here.setting.types)) p.1 n.1 h.1)
again (E.Loop place looping None a d) b here locals bound r q c u = not_none u
again (E.Loop place While (Some measure) a d) b here locals bound r q c u =
    let all = both (both (manner_exp measure.0) (manner_exp a.0)) (manner_exp d.0) in
    let p = quiet_parts here (both (manner_exp measure.0) (manner_exp a.0)) (manner_exp d.0) (loud here all q) in
    let p2 = quiet_parts here (manner_exp measure.0) (manner_exp a.0) p.0 in
    let k = and_parts (written_exp measure.0 && written_exp a.0) (written_exp d.0) b in
    let k2 = and_parts (written_exp measure.0) (written_exp a.0) k.0 in
    let n = halves here (in_exp a.0 here.names.known) (in_exp d.0 here.names.known) c in
    let h = both_empty (failed_exp measure.0 (in_measure here.names) bound ++ failed_exp a.0 here.names bound) (failed_exp d.0 here.names bound) u in
    let h2 = both_empty (failed_exp measure.0 (in_measure here.names) bound) (failed_exp a.0 here.names bound) h.0 in
    while_shaped here locals place (found_exp measure.0) (found_exp a.0) (found_exp d.0) (seen here all q)
    (stands measure (measuring here) locals bound k2.0 (plain_ready here.setting here.names locals bound r) (inl refl, p2.0.1)
    (none_in_measure here (in_exp measure.0 here.names.known)) h2.0)
    (stands a here locals bound k2.1 r p2.1 n.0 h2.1) (stands d here locals bound k.1 r p.1 n.1 h.1)
again (E.Loop place Repeat (Some measure) a d) b here locals bound r q c u =
    let all = both (both (manner_exp measure.0) (manner_exp a.0)) (manner_exp d.0) in
    let p = quiet_parts here (both (manner_exp measure.0) (manner_exp a.0)) (manner_exp d.0) (loud here all q) in
    let p2 = quiet_parts here (manner_exp measure.0) (manner_exp a.0) p.0 in
    let k = and_parts (written_exp measure.0 && written_exp a.0) (written_exp d.0) b in
    let k2 = and_parts (written_exp measure.0) (written_exp a.0) k.0 in
    let n = halves here (in_exp a.0 here.names.known) (in_exp d.0 here.names.known) c in
    let h = both_empty (failed_exp measure.0 (in_measure here.names) bound ++ failed_exp a.0 here.names bound) (failed_exp d.0 here.names bound) u in
    let h2 = both_empty (failed_exp measure.0 (in_measure here.names) bound) (failed_exp a.0 here.names bound) h.0 in
    repeat_shaped here locals place (found_exp measure.0) (found_exp a.0) (found_exp d.0) (seen here all q)
    (stands measure (measuring here) locals bound k2.0 (plain_ready here.setting here.names locals bound r) (inl refl, p2.0.1)
    (none_in_measure here (in_exp measure.0 here.names.known)) h2.0)
    (stands a here locals bound k2.1 r p2.1 n.0 h2.1) (stands d here locals bound k.1 r p.1 n.1 h.1)
again (E.Update place a i d) b here locals bound r q c u =
    let p = quiet_parts here (both (manner_exp a.0) (manner_index i.0)) (manner_exp d.0) q in
    let p2 = quiet_parts here (manner_exp a.0) (manner_index i.0) p.0 in
    let k = and_parts (written_exp a.0 && written_index i.0) (written_exp d.0) b in
    let k2 = and_parts (written_exp a.0) (written_index i.0) k.0 in
    let n = halves here (in_exp a.0 here.names.known ++ in_index i.0 here.names.known) (in_exp d.0 here.names.known) c in
    let n2 = halves here (in_exp a.0 here.names.known) (in_index i.0 here.names.known) n.0 in
    let h = both_empty (failed_exp a.0 here.names bound ++ failed_index i.0 here.names bound) (failed_exp d.0 here.names bound) u in
    let h2 = both_empty (failed_exp a.0 here.names bound) (failed_index i.0 here.names bound) h.0 in
    update_shaped here locals place (found_exp a.0) (found_index i.0) (found_exp d.0) (stands a here locals bound k2.0 r p2.0 n2.0 h2.0)
    (i.1 k2.1 here locals bound r p2.1 n2.1 h2.1) (stands d here locals bound k.1 r p.1 n.1 h.1)
again (E.Struct place name ys) b here locals bound r q c u = λ want e.
    let failed = map failed_field (fieldvalues ys) in
    let fs : List FieldPart = map found_field (fieldvalues ys) in
    let h = both_empty (Uses.struct_failures here.names name ++ clashes (Uses.named failed)) (Uses.fields_failures failed here.names bound) u in
    let h2 = both_empty (Uses.struct_failures here.names name) (clashes (Uses.named failed)) h.0 in
    struct_by here locals bound place name fs (struct_place here.setting name fs) r h2.0 refl (names_apart fs (Uses.named failed) (same_names ys) h2.1)
    (fields_stand ys here locals bound b r q c h.1) want e e
again (E.With place a []) b here locals bound r q c u = no (quiet_parts here (manner_exp a.0) (fields_form []) q).1.1
again (E.With place a (y ∷ ys)) b here locals bound r q c u =
    let all : List SuchFieldValue = y ∷ ys in
    let p = quiet_parts here (manner_exp a.0) (every (map manner_field (fieldvalues all))) q in
    let failed = map failed_field (fieldvalues all) in
    let k = and_parts (written_exp a.0) (all_of (map written_field (fieldvalues all))) b in
    let n = halves here (in_exp a.0 here.names.known) (joined (map (λ x. in_field x here.names.known) (fieldvalues all))) c in
    let h = both_empty (failed_exp a.0 here.names bound ++ clashes (Uses.named failed)) (Uses.fields_failures failed here.names bound) u in
    let h2 = both_empty (failed_exp a.0 here.names bound) (clashes (Uses.named failed)) h.0 in
    with_shaped here locals place (found_exp a.0) (found_field y.0) (map found_field (fieldvalues ys)) (stands a here locals bound k.0 r p.0 n.0 h2.0)
    (fields_stand all here locals bound k.1 r p.1 n.1 h.1)
again (E.OfType place Sizeof typ) b here locals bound r q c u =
    let t = r.known.numbers typ u in
    sizeof_shaped here locals place typ t.0 u t.1
again (E.OfType place Constraint typ) b here locals bound r q c u =
    let t = r.known.constraints typ u in
    constraint_shaped here locals place typ t.0 u t.1
again (E.Assert place a text) b here locals bound r q c u =
    assert_shaped here locals place (found_exp a.0) text (stands a here locals bound b r (loud here (manner_exp a.0) q) c u)

-- ---- targets

-- a target that fails in nothing and gives what is known of it
aim_of : (here : Position) (place : Place) (a : Aimed) → chained_faults place a ≡ [] → a.faults ≡ []
aim_of here place a e = (chained_known here.setting.types place a e).0

abbrev part_of : Position → Locals → Place → SuchLExp → List SuchSuffix → Aimed
part_of here locals first base ys = (Rules.target_form (E.ToPart first (found_lexp base.0) (map found_suffix (suffixes ys)))).aim here.setting locals

-- a part of a target, as a target, in a tuple and as a base
part_stands : (first : Place) (base : SuchLExp) (ys : List SuchSuffix) (here : Position) (locals : Locals) (bound : Bound.Locals)
    → (written_lexp base.0 && all_of (map written_suffix (suffixes ys)) && is_part (map written_suffix (suffixes ys))) ≡ true
    → Ready here.setting here.names locals bound → Quiet here (both (manner_lexp base.0) (every (map manner_suffix (suffixes ys))))
    → Converting here (in_lexp base.0 here.names.known ++ joined (map (λ x. in_suffix x here.names.known) (suffixes ys)))
    → (failed_lexp base.0 here.names bound ++ Uses.each (map failed_suffix (suffixes ys)) here.names bound) ≡ []
    → (part_of here locals first base ys).faults ≡ []
    → AimStands here locals (part_of here locals first base ys) × PartAimStands here locals (part_of here locals first base ys)
    × BaseHolds here locals (part_of here locals first base ys)
part_stands first base [] here locals bound b r q c u f = no (and_parts (written_lexp base.0 && true) false b).1
part_stands first base (y ∷ ys) here locals bound b r q c u f =
    let p = quiet_parts here (manner_lexp base.0) (every (map manner_suffix (suffixes (y ∷ ys)))) q in
    let all = map written_suffix (suffixes (y ∷ ys)) in
    let k = and_parts (written_lexp base.0 && all_of all) true b in
    let k2 = and_parts (written_lexp base.0) (all_of all) k.0 in
    let n = halves here (in_lexp base.0 here.names.known) (joined (map (λ x. in_suffix x here.names.known) (suffixes (y ∷ ys)))) c in
    let h = both_empty (failed_lexp base.0 here.names bound) (Uses.each (map failed_suffix (suffixes (y ∷ ys))) here.names bound) u in
    let xs : List SuffixPart = map found_suffix (suffixes (y ∷ ys)) in
    let t : TargetPart = found_lexp base.0 in
    let a : Aimed = read_aimed t.call here.setting locals (t.aim here.setting locals) in
    let g = both_empty a.faults (walked xs here.setting locals first t.place a.shape).faults f in
    part_aim_stands here locals r.known.counts (last_place first xs) first t.place a (found_suffix y.0) (map found_suffix (suffixes ys))
    (suffixes_stand (y ∷ ys) here locals bound k2.1 r p.1 n.1 h.1) g.1 ((base.1 k2.0 here locals bound r p.0 n.0 h.0).3 g.0)

lexp_again : (y : LExp-F SuchExp SuchLExp SuchStmt SuchSuffix SuchCase SuchFieldValue SuchIndex SuchRange SuchTarget) → LExpForm (first_LExp y)
lexp_again (E.ToName name) b here locals bound r q c u =
    let assigned = unless_true (is_assigned here.names bound name.text) name u in
    let a : Aimed = name_aimed name (local_of name.text locals) (here.setting.value name.text) in
    let is = name_aim_stands here locals bound r.known r.are r.settled r.counted name assigned (seen here leaf q) in (
      λ place value one. assign_shaped here locals place a [] value (λ f. is.0) tt one,
      λ place f. is.0,
      λ f. is.1,
      λ f. inl is.2,
    )
lexp_again (E.ToCall name args) b here locals bound r q c u =
    let h = both_empty (unless (is_callee here.names name.text) name) (Uses.each (map failed_exp (exps args)) here.names bound) u in
    let es : List Part = map found_exp (exps args) in
    let stand = each_stands args here locals bound b r q c h.1 in
    let known = unless_true (is_callee here.names name.text) name h.0 in
    let are = r.known.called name.text in (
      λ place value one. call_shaped here r.known locals name (es ++ value ∷ []) known (one_more es value here locals stand one),
      λ place f. call_aim_stands here locals name es stand known are place f,
      λ f. call_part_stands here locals name es stand known are f,
      λ f. call_base_has here locals name es stand known are
          (call_base_counts here.setting locals name es (counts_of args here locals bound r h.1) (r.known.counts.values name.text)).0 f,
    )
lexp_again (E.ToTuple place ys) b here locals bound r q c u =
    let ts : List TargetPart = map found_lexp (lexps ys) in
    let a : Aimed = tuple_aimed place (each_aimed ts here.setting locals) in
    let is = tuple_aim_stands here locals place ts (aims_stand ys here locals bound b r q c u) in (
      λ at value one. assign_shaped here locals at a [] value (λ f. (is (aim_of here at a f)).0) tt one,
      λ at f. (is (aim_of here at a f)).0,
      λ f. (is f).1,
      λ f. inr (tuple_is (each_aimed ts here.setting locals).shapes),
    )
  where
    tuple_is : (ss : List Shape) → is_tuple_form (out-Shape (V.Tuple ss)) ≡ true
    tuple_is ss = ap is_tuple_form (ap out-Shape (sym (V.rolls-Tuple ss)) ∙ out-roll-Shape (S.Tuple ss))
lexp_again (E.ToPart place base ys) b here locals bound r q c u =
    let a : Aimed = part_of here locals place base ys in
    let is : a.faults ≡ [] → AimStands here locals a × PartAimStands here locals a × BaseHolds here locals a =
    λ f. part_stands place base ys here locals bound b r q c u f in (
      λ at value one. assign_shaped here locals at a [] value (λ f. (is (aim_of here at a f)).0) tt one,
      λ at f. (is (aim_of here at a f)).0,
      λ f. (is f).1,
      λ f. inl (is f).2,
    )

field_again : (y : FieldValue-F SuchExp SuchLExp SuchStmt SuchSuffix SuchCase SuchFieldValue SuchIndex SuchRange SuchTarget) → FieldValueForm
    (first_FieldValue y)
field_again y = (refl, λ b here locals bound r q c u. stands y.value here locals bound b r q c u)

further_again : (y : Target-F SuchExp SuchLExp SuchStmt SuchSuffix SuchCase SuchFieldValue SuchIndex SuchRange SuchTarget) → TargetForm (first_Target y)
further_again y b here locals bound r q c u f = (y.to.1 b here locals bound r q c u).1 y.place f

stmt_again : (y : Stmt-F SuchExp SuchLExp SuchStmt SuchSuffix SuchCase SuchFieldValue SuchIndex SuchRange SuchTarget) → StmtForm (first_Stmt y)
stmt_again (E.Evaluate a) b here locals bound r q c u =
    (evaluate_stands here locals (found_exp a.0) (stands a here locals bound b r q c u), λ e. r)
stmt_again (E.Define place pattern a) b here locals bound r q c u =
    let k = and_parts (pattern_written pattern) (written_exp a.0) b in
    let n = halves here (in_exp a.0 here.names.known) (pattern_callees here.names.known pattern) c in
    let h = both_empty (failed_exp a.0 here.names bound) (pattern_failures here.names pattern) u in (
      define_stands here locals place pattern (found_exp a.0) (stands a here locals bound k.1 r q n.0 h.0)
          (pattern_shaped here locals bound pattern r k.0 h.1 n.1),
      λ e. pattern_ready here locals bound pattern _ r h.1 (bound_counted here locals bound pattern a.0 r h.0 h.1),
    )
stmt_again (E.Declare place name typ a) b here locals bound r q c u =
    let h = both_empty (Uses.maybe_type typ here.names) (failed_exp a.0 here.names bound) u in
    let is = typ_is here locals bound typ r h.0 in (
      declare_stands here locals place name typ (found_exp a.0) is (stands a here locals bound b r q c h.1),
      λ e. with_variable here.setting here.names locals bound name _ r (declared_settled here locals place name typ (found_exp a.0) is e)
          (begun_counted here locals bound typ a.0 r h.1 h.0),
    )

suffix_again : (y : Suffix-F SuchExp SuchLExp SuchStmt SuchSuffix SuchCase SuchFieldValue SuchIndex SuchRange SuchTarget) → SuffixForm (first_Suffix y)
suffix_again (E.Field name) b here locals bound r q c u = tt
suffix_again (E.At place i) b here locals bound r q c u = i.1 b here locals bound r q c u

case_by : (p : Pat) (guard : Option SuchExp) (body : SuchExp) → CaseForm (first_Case (record { pattern = p; guard = guard; body = body }))
case_by p None body b here locals bound r q c u subject fine =
    let p2 = quiet_parts here leaf (manner_exp body.0) q in
    let k = and_parts (pattern_written p && true) (written_exp body.0) b in
    let k2 = and_parts (pattern_written p) true k.0 in
    let n = halves here (pattern_callees here.names.known p ++ []) (in_exp body.0 here.names.known) c in
    let n2 = halves here (pattern_callees here.names.known p) [] n.0 in
    let inner = behind (binds here.names.known p) bound in
    let h = both_empty (pattern_failures here.names p ++ []) (failed_exp body.0 here.names inner) u in
    let h2 = both_empty (pattern_failures here.names p) [] h.0 in
    λ e.
    let is = pattern_shaped here locals bound p r k2.0 h2.0 n2.0 subject e in
    let ready = pattern_ready here locals bound p subject r h2.0 fine in
    (is.0, is.1, tt, stands body here _ inner k.1 ready p2.1 n.1 h.1)
case_by p (Some guard) body b here locals bound r q c u subject fine =
    let p2 = quiet_parts here (manner_exp guard.0) (manner_exp body.0) q in
    let k = and_parts (pattern_written p && written_exp guard.0) (written_exp body.0) b in
    let k2 = and_parts (pattern_written p) (written_exp guard.0) k.0 in
    let n = halves here (pattern_callees here.names.known p ++ in_exp guard.0 here.names.known) (in_exp body.0 here.names.known) c in
    let n2 = halves here (pattern_callees here.names.known p) (in_exp guard.0 here.names.known) n.0 in
    let inner = behind (binds here.names.known p) bound in
    let h = both_empty (pattern_failures here.names p ++ failed_exp guard.0 here.names inner) (failed_exp body.0 here.names inner) u in
    let h2 = both_empty (pattern_failures here.names p) (failed_exp guard.0 here.names inner) h.0 in
    λ e.
    let is = pattern_shaped here locals bound p r k2.0 h2.0 n2.0 subject e in
    let ready = pattern_ready here locals bound p subject r h2.0 fine in
    (is.0, is.1, stands guard here _ inner k2.1 ready p2.0 n2.1 h2.1, stands body here _ inner k.1 ready p2.1 n.1 h.1)

index_by : (first : SuchExp) (last : Option SuchExp) → IndexForm (first_Index (record { first = first; last = last }))
index_by first None b here locals bound r q c u =
    let p = quiet_parts here (manner_exp first.0) leaf q in
    let k = and_parts (written_exp first.0) true b in
    let n = halves here (in_exp first.0 here.names.known) [] c in
    let h = both_empty (failed_exp first.0 here.names bound) [] u in
    (stands first here locals bound k.0 r p.0 n.0 h.0, tt)
index_by first (Some last) b here locals bound r q c u =
    let p = quiet_parts here (manner_exp first.0) (manner_exp last.0) q in
    let k = and_parts (written_exp first.0) (written_exp last.0) b in
    let n = halves here (in_exp first.0 here.names.known) (in_exp last.0 here.names.known) c in
    let h = both_empty (failed_exp first.0 here.names bound) (failed_exp last.0 here.names bound) u in
    (stands first here locals bound k.0 r p.0 n.0 h.0, stands last here locals bound k.1 r p.1 n.1 h.1)

range_by : (from to : SuchExp) (by : Option SuchExp) (direction : _) → RangeForm (first_Range (record { from = from; to = to; by = by; direction = direction }))
range_by from to None direction b here locals bound r q c u =
    let p = quiet_parts here (both (manner_exp from.0) (manner_exp to.0)) leaf q in
    let p2 = quiet_parts here (manner_exp from.0) (manner_exp to.0) p.0 in
    let k = and_parts (written_exp from.0 && written_exp to.0) true b in
    let k2 = and_parts (written_exp from.0) (written_exp to.0) k.0 in
    let n = halves here (in_exp from.0 here.names.known ++ in_exp to.0 here.names.known) [] c in
    let n2 = halves here (in_exp from.0 here.names.known) (in_exp to.0 here.names.known) n.0 in
    let h = both_empty (failed_exp from.0 here.names bound ++ failed_exp to.0 here.names bound) [] u in
    let h2 = both_empty (failed_exp from.0 here.names bound) (failed_exp to.0 here.names bound) h.0 in
    (stands from here locals bound k2.0 r p2.0 n2.0 h2.0, stands to here locals bound k2.1 r p2.1 n2.1 h2.1, tt)
range_by from to (Some by) direction b here locals bound r q c u =
    let p = quiet_parts here (both (manner_exp from.0) (manner_exp to.0)) (manner_exp by.0) q in
    let p2 = quiet_parts here (manner_exp from.0) (manner_exp to.0) p.0 in
    let k = and_parts (written_exp from.0 && written_exp to.0) (written_exp by.0) b in
    let k2 = and_parts (written_exp from.0) (written_exp to.0) k.0 in
    let n = halves here (in_exp from.0 here.names.known ++ in_exp to.0 here.names.known) (in_exp by.0 here.names.known) c in
    let n2 = halves here (in_exp from.0 here.names.known) (in_exp to.0 here.names.known) n.0 in
    let h = both_empty (failed_exp from.0 here.names bound ++ failed_exp to.0 here.names bound) (failed_exp by.0 here.names bound) u in
    let h2 = both_empty (failed_exp from.0 here.names bound) (failed_exp to.0 here.names bound) h.0 in
    (stands from here locals bound k2.0 r p2.0 n2.0 h2.0, stands to here locals bound k2.1 r p2.1 n2.1 h2.1, stands by here locals bound k.1 r p.1 n.1 h.1)

-- ---- the trees

abbrev OfExp : Exp → Type 0
OfExp x = ExpStands (found_exp x) (failed_exp x) (written_exp x) (manner_exp x) (in_exp x)

abbrev OfLExp : LExp → Type 0
OfLExp x = LExpStands (found_lexp x) (failed_lexp x) (written_lexp x) (manner_lexp x) (in_lexp x)

abbrev OfStmt : Stmt → Type 0
OfStmt x = StmtStands (found_stmt x) (failed_stmt x) (written_stmt x) (manner_stmt x) (in_stmt x)

abbrev OfSuffix : SuffixTree → Type 0
OfSuffix x = SuffixTreeStands (found_suffix x) (failed_suffix x) (written_suffix x) (manner_suffix x) (in_suffix x)

abbrev OfCase : CaseTree → Type 0
OfCase x = CaseTreeStands (found_case x) (failed_case x) (written_case x) (manner_case x) (in_case x)

abbrev OfFieldValue : FieldValue → Type 0
OfFieldValue x = FieldStands (found_field x) (failed_field x) (written_field x) (manner_field x) (in_field x)

abbrev OfIndex : Index → Type 0
OfIndex x = IndexTreeStands (found_index x) (failed_index x) (written_index x) (manner_index x) (in_index x)

abbrev OfRange : Range → Type 0
OfRange x = RangeTreeStands (found_range x) (failed_range x) (written_range x) (manner_range x) (in_range x)

abbrev OfTarget : TargetTree → Type 0
OfTarget x = FurtherTreeStands (found_target x) (failed_target x) (written_target x) (manner_target x) (in_target x)

holds : (e : Exp) → OfExp e
holds = ind-Exp OfExp OfLExp OfStmt OfSuffix OfCase OfFieldValue OfIndex OfRange OfTarget
    (λ e y is. subst (λ d. OfExp (roll-Exp d)) is (rolled_Exp (first_Exp y) (again y)))
    (λ e y is. subst (λ d. OfLExp (roll-LExp d)) is (rolled_LExp (first_LExp y) (lexp_again y)))
    (λ e y is. subst (λ d. OfStmt (roll-Stmt d)) is (rolled_Stmt (first_Stmt y) (stmt_again y)))
    (λ e y is. subst (λ d. OfSuffix (roll-Suffix d)) is (rolled_Suffix (first_Suffix y) (suffix_again y)))
    (λ e y is. subst (λ d. OfCase (roll-Case d)) is (rolled_Case (first_Case y) (case_by y.pattern y.guard y.body)))
    (λ e y is. subst (λ d. OfFieldValue (roll-FieldValue d)) is (rolled_FieldValue (first_FieldValue y) (field_again y)))
    (λ e y is. subst (λ d. OfIndex (roll-Index d)) is (rolled_Index (first_Index y) (index_by y.first y.last)))
    (λ e y is. subst (λ d. OfRange (roll-Range d)) is (rolled_Range (first_Range y) (range_by y.from y.to y.by y.direction)))
    (λ e y is. subst (λ d. OfTarget (roll-Target d)) is (rolled_Target (first_Target y) (further_again y)))

pub expressions_stand : ExpressionsStand
expressions_stand e b here known locals bound are settled fine quiet u converts =
    let r : Ready here.setting here.names locals bound = record { known = known; are = are; settled = settled; counted = fine } in
    stands (e, holds e) here locals bound b r quiet converts u
