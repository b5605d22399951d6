-- A plain expression calls nothing of the model, where the tables find no failure of its names: by induction on the expression.
use Rattle.std.proofs.Common.{◌≡◌, List, [], ◌∷◌, ◌++◌, map, Option, Some, None, refl, subst}
use Rattle.sail_base.specs.declared.kind.Kind.TheVariants as Sort
use Rattle.sail_syntax.specs.declared.patterns.Pat.{Pat}
use Rattle.sail_syntax.specs.declared.words.Looping.TheVariants.{While, Repeat}
use Rattle.sail_syntax.specs.declared.expressions.Exp.{Exp, Exp-F, roll-Exp}
use Rattle.sail_syntax.specs.declared.expressions.Exp.TheOpen as E
use Rattle.sail_syntax.specs.declared.expressions.Exp.TheOpen.{FieldValue-F, LExp-F, Stmt-F, Suffix-F, Target-F}
use Rattle.sail_syntax.specs.declared.expressions.Exp.TheFolds.{ind-Exp}
use Rattle.sail_syntax.specs.declared.expressions.LExp.{LExp, roll-LExp}
use Rattle.sail_syntax.specs.declared.expressions.Stmt.{Stmt, roll-Stmt}
use Rattle.sail_syntax.specs.declared.expressions.Suffix.{Suffix as SuffixTree, roll-Suffix}
use Rattle.sail_syntax.specs.declared.expressions.Case.{Case as CaseTree, roll-Case}
use Rattle.sail_syntax.specs.declared.expressions.FieldValue.{FieldValue, roll-FieldValue}
use Rattle.sail_syntax.specs.declared.expressions.Index.{Index, roll-Index}
use Rattle.sail_syntax.specs.declared.expressions.Range.{Range, roll-Range}
use Rattle.sail_syntax.specs.declared.expressions.Target.{Target as TargetTree, roll-Target}
use Rattle.sail_names.specs.Known as Tables
use Rattle.sail_names.specs.Known.{in_measure, is_callee}
use Rattle.sail_names.specs.Locals as Bound
use Rattle.sail_names.specs.Locals.{behind}
use Rattle.sail_names.specs.Patterns.{binds, clashes, pattern_failures, type_failures, unless, uses_failures}
use Rattle.sail_names.specs.Uses as Uses
use Rattle.shape_rules.specs.Scopes.{Setting, local_of, plainly}
use Rattle.shape_rules.specs.Patterns.{no_widths}
use Rattle.shape_rules.specs.Targets.{elaborations, tuple_aimed}
use Rattle.shape_rules.specs.Values.{typed_found, values_of}
use Rattle.shape_rules.specs.Statements.{assert_found, declared_as, defined_as, evaluated, if_found}
use Rattle.shape_rules.specs.Statements.{loop_found}
use Rattle.shape_meanings.proofs.Folds.{found_exp, found_lexp, found_stmt, found_suffix, found_case, found_field, found_index, found_range, found_target}
use Rattle.shape_meanings.proofs.Folds.{failed_exp, failed_lexp, failed_stmt, failed_suffix, failed_case, failed_field, failed_index, failed_range}
use Rattle.shape_meanings.proofs.Folds.{failed_target}
use Rattle.shape_meanings.proofs.Naming.{unless_true}
use Rattle.shape_meanings.proofs.Settling.{both_empty}
use Rattle.opening_meanings.specs.Names.{PlainExpressionsCallNothing, PlainPatternsCallNothing}
use Rattle.opening_meanings.proofs.Forms.{FurtherSameAll, SameCases, SameLook, SameStatements, assign_same, block_same, bound_same, choose_same}
use Rattle.opening_meanings.proofs.Forms.{declaring_same, foreach_same, infix_same, leave_same, let_same, name_aim_same, name_same, of_type_same, part_aim_same}
use Rattle.opening_meanings.proofs.Forms.{part_same, prefix_same, struct_same, update_same, var_same, with_same}
use Rattle.opening_meanings.proofs.Looks.{looks_same}
use Rattle.opening_meanings.proofs.Parts.{AllSame, SameSuffixes, SameTargets, call_aim_same, call_same, each_aimed_same, group_same, midway}
use Rattle.opening_meanings.proofs.Plain.{IsPlain, callee_left, known_plain, measure_plain}
use Rattle.opening_meanings.proofs.Trees.{SuchExp, SuchLExp, SuchStmt, SuchSuffix, SuchCase, SuchFieldValue, SuchIndex, SuchRange, SuchTarget}
use Rattle.opening_meanings.proofs.Trees.{ExpForm, LExpForm, StmtForm, SuffixForm, CaseForm, FieldValueForm, IndexForm, RangeForm, TargetForm}
use Rattle.opening_meanings.proofs.Trees.{ExpSame, LExpSame, StmtSame, SuffixSame, CaseSame, FieldSame, IndexSame, RangeSame, FurtherSame}
use Rattle.opening_meanings.proofs.Trees.{first_Exp, first_LExp, first_Stmt, first_Suffix, first_Case, first_FieldValue, first_Index, first_Range}
use Rattle.opening_meanings.proofs.Trees.{first_Target, rolled_Exp, rolled_LExp, rolled_Stmt, rolled_Suffix, rolled_Case, rolled_FieldValue, rolled_Index}
use Rattle.opening_meanings.proofs.Trees.{rolled_Range, rolled_Target}

not_none : {A B : Type 0} {x : A} {xs : List A} → (x ∷ xs) ≡ [] → B
not_none e = absurd (empty e)
  where
    empty : {A : Type 0} {x : A} {xs : List A} → (x ∷ xs) ≡ [] → ⊥
    empty e = cc

-- ---- parts in a list

abbrev exps : List SuchExp → List Exp
exps ys = map (λ (p : SuchExp). p.0) ys

each_exp : (ys : List SuchExp) (s : Setting) (names : Tables.Setting) (bound : Bound.Locals) → IsPlain s names
    → Uses.each (map failed_exp (exps ys)) names bound ≡ [] → AllSame s (elaborations (map found_exp (exps ys)))
each_exp [] s names bound is u = tt
each_exp (y ∷ ys) s names bound is u =
    let h = both_empty (failed_exp y.0 names bound) (Uses.each (map failed_exp (exps ys)) names bound) u in
    (y.1 s names bound is h.0, each_exp ys s names bound is h.1)

abbrev suffixes : List SuchSuffix → List SuffixTree
suffixes ys = map (λ (p : SuchSuffix). p.0) ys

each_suffix : (ys : List SuchSuffix) (s : Setting) (names : Tables.Setting) (bound : Bound.Locals) → IsPlain s names
    → Uses.each (map failed_suffix (suffixes ys)) names bound ≡ [] → SameSuffixes s (map found_suffix (suffixes ys))
each_suffix [] s names bound is u = tt
each_suffix (y ∷ ys) s names bound is u =
    let h = both_empty (failed_suffix y.0 names bound) (Uses.each (map failed_suffix (suffixes ys)) names bound) u in
    (y.1 s names bound is h.0, each_suffix ys s names bound is h.1)

abbrev casetrees : List SuchCase → List CaseTree
casetrees ys = map (λ (p : SuchCase). p.0) ys

each_case : (ys : List SuchCase) (s : Setting) (names : Tables.Setting) (bound : Bound.Locals) → IsPlain s names
    → Uses.each (map failed_case (casetrees ys)) names bound ≡ [] → SameCases s (map found_case (casetrees ys))
each_case [] s names bound is u = tt
each_case (y ∷ ys) s names bound is u =
    let h = both_empty (failed_case y.0 names bound) (Uses.each (map failed_case (casetrees ys)) names bound) u in
    (y.1 s names bound is h.0, each_case ys s names bound is h.1)

abbrev fieldvalues : List SuchFieldValue → List FieldValue
fieldvalues ys = map (λ (p : SuchFieldValue). p.0) ys

each_field : (ys : List SuchFieldValue) (s : Setting) (names : Tables.Setting) (bound : Bound.Locals) → IsPlain s names
    → Uses.fields_failures (map failed_field (fieldvalues ys)) names bound ≡ [] → AllSame s (values_of (map found_field (fieldvalues ys)))
each_field [] s names bound is u = tt
each_field (y ∷ ys) s names bound is u =
    let field = failed_field y.0 in
    let h = both_empty (Uses.field_failures names field.name ++ field.value names bound) (Uses.fields_failures
    (map failed_field (fieldvalues ys)) names bound) u in
    let k = both_empty (Uses.field_failures names field.name) (field.value names bound) h.0 in
    (y.1 s names bound is k.1, each_field ys s names bound is h.1)

abbrev lexps : List SuchLExp → List LExp
lexps ys = map (λ (p : SuchLExp). p.0) ys

each_lexp : (ys : List SuchLExp) (s : Setting) (names : Tables.Setting) (bound : Bound.Locals) → IsPlain s names
    → Uses.each (map failed_lexp (lexps ys)) names bound ≡ [] → SameTargets s (map found_lexp (lexps ys))
each_lexp [] s names bound is u = tt
each_lexp (y ∷ ys) s names bound is u =
    let h = both_empty (failed_lexp y.0 names bound) (Uses.each (map failed_lexp (lexps ys)) names bound) u in
    (y.1 s names bound is h.0, each_lexp ys s names bound is h.1)

abbrev targets : List SuchTarget → List TargetTree
targets ys = map (λ (p : SuchTarget). p.0) ys

each_target : (ys : List SuchTarget) (s : Setting) (names : Tables.Setting) (bound : Bound.Locals) → IsPlain s names
    → Uses.each (map failed_target (targets ys)) names bound ≡ [] → FurtherSameAll s (map found_target (targets ys))
each_target [] s names bound is u = tt
each_target (y ∷ ys) s names bound is u =
    let h = both_empty (failed_target y.0 names bound) (Uses.each (map failed_target (targets ys)) names bound) u in
    (y.1 s names bound is h.0, each_target ys s names bound is h.1)

abbrev stmts : List SuchStmt → List Stmt
stmts ys = map (λ (p : SuchStmt). p.0) ys

each_stmt : (ys : List SuchStmt) (s : Setting) (names : Tables.Setting) (bound : Bound.Locals) → IsPlain s names
    → (Uses.steps (map failed_stmt (stmts ys)) names bound).failures ≡ [] → SameStatements s (map found_stmt (stmts ys))
each_stmt [] s names bound is u = tt
each_stmt (y ∷ ys) s names bound is u =
    let step = failed_stmt y.0 names bound in
    let h = both_empty step.failures (Uses.steps (map failed_stmt (stmts ys)) names step.locals).failures u in
    (y.1 s names bound is h.0, each_stmt ys s names step.locals is h.1)

-- ---- patterns

pattern_same : (p : Pat) (s : Setting) (names : Tables.Setting) → IsPlain s names → pattern_failures names p ≡ [] → SameLook s p
pattern_same p s names is u subject =
    looks_same p s names is (both_empty (uses_failures names p) (clashes (binds names.known p)) u).0 no_widths subject

-- ---- the forms

again : (y : Exp-F SuchExp SuchLExp SuchStmt SuchSuffix SuchCase SuchFieldValue SuchIndex SuchRange SuchTarget) → ExpForm (first_Exp y)
again (E.Constant place literal) s names bound is u = λ locals want. refl
again (E.Variable name) s names bound is u = λ locals want. name_same name (local_of name.text locals) (s.value name.text) want
again (E.Call name args) s names bound is u =
    let h = both_empty (unless (is_callee names name.text) name) (Uses.each (map failed_exp (exps args)) names bound) u in
    call_same s name (map found_exp (exps args)) (callee_left s names is name.text (unless_true (is_callee names name.text) name h.0))
    (each_exp args s names bound is h.1)
again (E.Prefixed place prefix a) s names bound is u = prefix_same s place prefix (found_exp a.0) (a.1 s names bound is u)
again (E.Infix place operator a c) s names bound is u =
    let h = both_empty (failed_exp a.0 names bound) (failed_exp c.0 names bound) u in
    infix_same s place operator (found_exp a.0) (found_exp c.0) (a.1 s names bound is h.0) (c.1 s names bound is h.1)
again (E.Leave place leaving a) s names bound is u =
    let h = both_empty (Uses.leave_failures names place leaving) (failed_exp a.0 names bound) u in
    leave_same s place leaving (found_exp a.0) (a.1 s names bound is h.1)
again (E.Group place brackets ys) s names bound is u =
    group_same s place brackets (elaborations (map found_exp (exps ys))) (each_exp ys s names bound is u)
again (E.Part place a ys) s names bound is u =
    let h = both_empty (failed_exp a.0 names bound) (Uses.each (map failed_suffix (suffixes ys)) names bound) u in
    part_same s place (found_exp a.0) (map found_suffix (suffixes ys)) (a.1 s names bound is h.0) (each_suffix ys s names bound is h.1)
again (E.Typed place a typ) s names bound is u = λ locals want.
    let h = both_empty (failed_exp a.0 names bound) (type_failures Sort.Type typ names) u in
    λ j. typed_found place (midway (found_exp a.0) (λ ls w. a.1 s names bound is h.0 ls w j)) typ s locals want
again (E.Assign place target more a) s names bound is u =
    let h = both_empty (failed_lexp target.0 names bound ++ Uses.each (map failed_target (targets more)) names bound) (failed_exp a.0 names bound) u in
    let k = both_empty (failed_lexp target.0 names bound) (Uses.each (map failed_target (targets more)) names bound) h.0 in
    let same = target.1 s names bound is k.0 in
    assign_same s place (found_lexp target.0) (map found_target (targets more)) (found_exp a.0) (found_lexp target.0).call same.call same
    (each_target more s names bound is k.1) (a.1 s names bound is h.1)
again (E.Block place ys None) s names bound is u =
    let h = both_empty (Uses.steps (map failed_stmt (stmts ys)) names bound).failures [] u in
    block_same s place (map found_stmt (stmts ys)) None (each_stmt ys s names bound is h.0) tt
again (E.Block place ys (Some a)) s names bound is u =
    let steps = Uses.steps (map failed_stmt (stmts ys)) names bound in
    let h = both_empty steps.failures (failed_exp a.0 names steps.locals) u in
    block_same s place (map found_stmt (stmts ys)) (Some (found_exp a.0)) (each_stmt ys s names bound is h.0) (a.1 s names steps.locals is h.1)
again (E.Let place pattern a c) s names bound is u =
    let h = both_empty (failed_exp a.0 names bound ++ pattern_failures names pattern) (failed_exp c.0 names (behind (binds names.known pattern) bound)) u in
    let k = both_empty (failed_exp a.0 names bound) (pattern_failures names pattern) h.0 in
    let_same s place pattern (found_exp a.0) (found_exp c.0) (pattern_same pattern s names is k.1) (a.1 s names bound is k.0)
    (c.1 s names (behind (binds names.known pattern) bound) is h.1)
again (E.Var place name typ a c) s names bound is u =
    let h = both_empty (Uses.maybe_type typ names ++ failed_exp a.0 names bound) (failed_exp c.0 names (Bound.variable name ∷ bound)) u in
    let k = both_empty (Uses.maybe_type typ names) (failed_exp a.0 names bound) h.0 in
    var_same s place name typ (found_exp a.0) (found_exp c.0) (a.1 s names bound is k.1) (c.1 s names (Bound.variable name ∷ bound) is h.1)
again (E.If place a c None) s names bound is u = λ locals want.
    let h = both_empty (failed_exp a.0 names bound ++ failed_exp c.0 names bound) [] u in
    let k = both_empty (failed_exp a.0 names bound) (failed_exp c.0 names bound) h.0 in
    λ j. if_found place (midway (found_exp a.0) (λ ls w. a.1 s names bound is k.0 ls w j))
    (midway (found_exp c.0) (λ ls w. c.1 s names bound is k.1 ls w j)) None s locals want
again (E.If place a c (Some d)) s names bound is u = λ locals want.
    let h = both_empty (failed_exp a.0 names bound ++ failed_exp c.0 names bound) (failed_exp d.0 names bound) u in
    let k = both_empty (failed_exp a.0 names bound) (failed_exp c.0 names bound) h.0 in
    λ j. if_found place (midway (found_exp a.0) (λ ls w. a.1 s names bound is k.0 ls w j))
    (midway (found_exp c.0) (λ ls w. c.1 s names bound is k.1 ls w j)) (Some (midway (found_exp d.0) (λ ls w. d.1 s names bound is h.1 ls w j))) s locals want
again (E.Choose place choosing a ys) s names bound is u =
    let h = both_empty (failed_exp a.0 names bound) (Uses.each (map failed_case (casetrees ys)) names bound) u in
    choose_same s place choosing (found_exp a.0) (map found_case (casetrees ys)) (a.1 s names bound is h.0) (each_case ys s names bound is h.1)
again (E.Foreach place name range a) s names bound is u =
    let h = both_empty (failed_range range.0 names bound) (failed_exp a.0 names (Bound.constant name ∷ bound)) u in
    foreach_same s place name (found_range range.0) (found_exp a.0) (range.1 s names bound is h.0) (a.1 s names (Bound.constant name ∷ bound) is h.1)
again (E.Loop place looping None a c) s names bound is u = not_none u
again (E.Loop place While (Some measure) a c) s names bound is u = λ locals want.
    let h = both_empty (failed_exp measure.0 (in_measure names) bound ++ failed_exp a.0 names bound) (failed_exp c.0 names bound) u in
    let k = both_empty (failed_exp measure.0 (in_measure names) bound) (failed_exp a.0 names bound) h.0 in
    λ j. loop_found place While
    (Some (midway (found_exp measure.0) (λ ls w. measure.1 (plainly s) (in_measure names) bound (measure_plain s names is) k.0 ls w j)))
    (midway (found_exp a.0) (λ ls w. a.1 s names bound is k.1 ls w j)) (midway (found_exp c.0) (λ ls w. c.1 s names bound is h.1 ls w j)) s locals want
again (E.Loop place Repeat (Some measure) a c) s names bound is u = λ locals want.
    let h = both_empty (failed_exp measure.0 (in_measure names) bound ++ failed_exp a.0 names bound) (failed_exp c.0 names bound) u in
    let k = both_empty (failed_exp measure.0 (in_measure names) bound) (failed_exp a.0 names bound) h.0 in
    λ j. loop_found place Repeat
    (Some (midway (found_exp measure.0) (λ ls w. measure.1 (plainly s) (in_measure names) bound (measure_plain s names is) k.0 ls w j)))
    (midway (found_exp a.0) (λ ls w. a.1 s names bound is k.1 ls w j)) (midway (found_exp c.0) (λ ls w. c.1 s names bound is h.1 ls w j)) s locals want
again (E.Update place a i c) s names bound is u =
    let h = both_empty (failed_exp a.0 names bound ++ failed_index i.0 names bound) (failed_exp c.0 names bound) u in
    let k = both_empty (failed_exp a.0 names bound) (failed_index i.0 names bound) h.0 in
    update_same s place (found_exp a.0) (found_index i.0) (found_exp c.0) (a.1 s names bound is k.0) (i.1 s names bound is k.1) (c.1 s names bound is h.1)
again (E.Struct place name ys) s names bound is u =
    let failed = map failed_field (fieldvalues ys) in
    let h = both_empty (Uses.struct_failures names name ++ clashes (Uses.named failed)) (Uses.fields_failures failed names bound) u in
    struct_same s place name (map found_field (fieldvalues ys)) (each_field ys s names bound is h.1)
again (E.With place a ys) s names bound is u =
    let failed = map failed_field (fieldvalues ys) in
    let h = both_empty (failed_exp a.0 names bound ++ clashes (Uses.named failed)) (Uses.fields_failures failed names bound) u in
    let k = both_empty (failed_exp a.0 names bound) (clashes (Uses.named failed)) h.0 in
    with_same s place (found_exp a.0) (map found_field (fieldvalues ys)) (a.1 s names bound is k.0) (each_field ys s names bound is h.1)
again (E.OfType place asking typ) s names bound is u = of_type_same s place asking typ
again (E.Assert place a text) s names bound is u = λ locals want j.
    assert_found place (midway (found_exp a.0) (λ ls w. a.1 s names bound is u ls w j)) text s locals want

-- ---- targets

lexp_again : (y : LExp-F SuchExp SuchLExp SuchStmt SuchSuffix SuchCase SuchFieldValue SuchIndex SuchRange SuchTarget) → LExpForm (first_LExp y)
lexp_again (E.ToName name) s names bound is u =
    record { aim = λ locals. name_aim_same name (local_of name.text locals) (s.value name.text); call = tt }
lexp_again (E.ToCall name args) s names bound is u =
    let h = both_empty (unless (is_callee names name.text) name) (Uses.each (map failed_exp (exps args)) names bound) u in
    let left = callee_left s names is name.text (unless_true (is_callee names name.text) name h.0) in
    let same = each_exp args s names bound is h.1 in
    record { aim = λ locals. call_aim_same s name (map found_exp (exps args)) left same locals; call = (left, same) }
lexp_again (E.ToTuple place ys) s names bound is u =
    let same = each_lexp ys s names bound is u in
    record { aim = λ locals. λ j. tuple_aimed place (each_aimed_same s (map found_lexp (lexps ys)) same locals j); call = tt }
lexp_again (E.ToPart place base ys) s names bound is u =
    let h = both_empty (failed_lexp base.0 names bound) (Uses.each (map failed_suffix (suffixes ys)) names bound) u in
    let same = base.1 s names bound is h.0 in
    record {
      aim = λ locals. part_aim_same s place (found_lexp base.0) (map found_suffix (suffixes ys)) same (each_suffix ys s names bound is h.1) locals;
      call = tt;
    }

-- ---- statements, and what stands in forms

stmt_again : (y : Stmt-F SuchExp SuchLExp SuchStmt SuchSuffix SuchCase SuchFieldValue SuchIndex SuchRange SuchTarget) → StmtForm (first_Stmt y)
stmt_again (E.Evaluate a) s names bound is u locals = λ j. evaluated (midway (found_exp a.0) (λ ls w. a.1 s names bound is u ls w j)) s locals
stmt_again (E.Define place pattern a) s names bound is u locals =
    let h = both_empty (failed_exp a.0 names bound) (pattern_failures names pattern) u in
    λ j. defined_as place (bound_same s place pattern (found_exp a.0) (pattern_same pattern s names is h.1) (a.1 s names bound is h.0) locals j) locals
stmt_again (E.Declare place name typ a) s names bound is u locals =
    let h = both_empty (Uses.maybe_type typ names) (failed_exp a.0 names bound) u in
    λ j. declared_as name (declaring_same s place name typ (found_exp a.0) (a.1 s names bound is h.1) locals j) locals

suffix_again : (y : Suffix-F SuchExp SuchLExp SuchStmt SuchSuffix SuchCase SuchFieldValue SuchIndex SuchRange SuchTarget) → SuffixForm (first_Suffix y)
suffix_again (E.Field name) s names bound is u = tt
suffix_again (E.At place i) s names bound is u = i.1 s names bound is u

case_by : (p : Pat) (guard : Option SuchExp) (body : SuchExp) → CaseForm (first_Case (record { pattern = p; guard = guard; body = body }))
case_by p None body s names bound is u =
    let inner = behind (binds names.known p) bound in
    let h = both_empty (pattern_failures names p ++ []) (failed_exp body.0 names inner) u in
    let k = both_empty (pattern_failures names p) [] h.0 in
    record { pattern = pattern_same p s names is k.0; guard = tt; body = body.1 s names inner is h.1 }
case_by p (Some guard) body s names bound is u =
    let inner = behind (binds names.known p) bound in
    let h = both_empty (pattern_failures names p ++ failed_exp guard.0 names inner) (failed_exp body.0 names inner) u in
    let k = both_empty (pattern_failures names p) (failed_exp guard.0 names inner) h.0 in
    record { pattern = pattern_same p s names is k.0; guard = guard.1 s names inner is k.1; body = body.1 s names inner is h.1 }

field_again : (y : FieldValue-F SuchExp SuchLExp SuchStmt SuchSuffix SuchCase SuchFieldValue SuchIndex SuchRange SuchTarget)
    → FieldValueForm (first_FieldValue y)
field_again y = y.value.1

index_by : (first : SuchExp) (last : Option SuchExp) → IndexForm (first_Index (record { first = first; last = last }))
index_by first None s names bound is u =
    let h = both_empty (failed_exp first.0 names bound) [] u in
    record { first = first.1 s names bound is h.0; last = tt }
index_by first (Some last) s names bound is u =
    let h = both_empty (failed_exp first.0 names bound) (failed_exp last.0 names bound) u in
    record { first = first.1 s names bound is h.0; last = last.1 s names bound is h.1 }

range_by : (from to : SuchExp) (by : Option SuchExp) (direction : _)
    → RangeForm (first_Range (record { from = from; to = to; by = by; direction = direction }))
range_by from to None direction s names bound is u =
    let h = both_empty (failed_exp from.0 names bound ++ failed_exp to.0 names bound) [] u in
    let k = both_empty (failed_exp from.0 names bound) (failed_exp to.0 names bound) h.0 in
    record { from = from.1 s names bound is k.0; to = to.1 s names bound is k.1; by = tt }
range_by from to (Some by) direction s names bound is u =
    let h = both_empty (failed_exp from.0 names bound ++ failed_exp to.0 names bound) (failed_exp by.0 names bound) u in
    let k = both_empty (failed_exp from.0 names bound) (failed_exp to.0 names bound) h.0 in
    record { from = from.1 s names bound is k.0; to = to.1 s names bound is k.1; by = by.1 s names bound is h.1 }

further_again : (y : Target-F SuchExp SuchLExp SuchStmt SuchSuffix SuchCase SuchFieldValue SuchIndex SuchRange SuchTarget) → TargetForm (first_Target y)
further_again y = y.to.1

-- ---- the trees

abbrev OfExp : Exp → Type 0
OfExp x = ExpSame (found_exp x) (failed_exp x)

abbrev OfLExp : LExp → Type 0
OfLExp x = LExpSame (found_lexp x) (failed_lexp x)

abbrev OfStmt : Stmt → Type 0
OfStmt x = StmtSame (found_stmt x) (failed_stmt x)

abbrev OfSuffix : SuffixTree → Type 0
OfSuffix x = SuffixSame (found_suffix x) (failed_suffix x)

abbrev OfCase : CaseTree → Type 0
OfCase x = CaseSame (found_case x) (failed_case x)

abbrev OfFieldValue : FieldValue → Type 0
OfFieldValue x = FieldSame (found_field x) (failed_field x)

abbrev OfIndex : Index → Type 0
OfIndex x = IndexSame (found_index x) (failed_index x)

abbrev OfRange : Range → Type 0
OfRange x = RangeSame (found_range x) (failed_range x)

abbrev OfTarget : TargetTree → Type 0
OfTarget x = FurtherSame (found_target x) (failed_target x)

exp_same : (e : Exp) → OfExp e
exp_same = ind-Exp OfExp OfLExp OfStmt OfSuffix OfCase OfFieldValue OfIndex OfRange OfTarget
    (λ e y is. subst (λ d. OfExp (roll-Exp d)) is (rolled_Exp (first_Exp y) (again y)))
    (λ e y is. subst (λ d. OfLExp (roll-LExp d)) is (rolled_LExp (first_LExp y) (lexp_again y)))
    (λ e y is. subst (λ d. OfStmt (roll-Stmt d)) is (rolled_Stmt (first_Stmt y) (stmt_again y)))
    (λ e y is. subst (λ d. OfSuffix (roll-Suffix d)) is (rolled_Suffix (first_Suffix y) (suffix_again y)))
    (λ e y is. subst (λ d. OfCase (roll-Case d)) is (rolled_Case (first_Case y) (case_by y.pattern y.guard y.body)))
    (λ e y is. subst (λ d. OfFieldValue (roll-FieldValue d)) is (rolled_FieldValue (first_FieldValue y) (field_again y)))
    (λ e y is. subst (λ d. OfIndex (roll-Index d)) is (rolled_Index (first_Index y) (index_by y.first y.last)))
    (λ e y is. subst (λ d. OfRange (roll-Range d)) is (rolled_Range (first_Range y) (range_by y.from y.to y.by y.direction)))
    (λ e y is. subst (λ d. OfTarget (roll-Target d)) is (rolled_Target (first_Target y) (further_again y)))

pub expressions_call_nothing : PlainExpressionsCallNothing
expressions_call_nothing e setting names known plain bound u locals want =
    exp_same e setting names bound (known_plain setting names known plain) u locals want

pub patterns_call_nothing : PlainPatternsCallNothing
patterns_call_nothing p setting names known plain u widths subject = looks_same p setting names (known_plain setting names known plain) u widths subject
