-- What is said of expressions, and how it goes over a form: what is found of them, and the failures of their names.
use Rattle.std.proofs.Common.{◌≡◌, [], sym, subst}
use Rattle.sail_syntax.specs.declared.expressions.Exp.{Exp, Exp-F, roll-Exp}
use Rattle.sail_syntax.specs.declared.expressions.Exp.TheOpen.{LExp-F, Stmt-F, Suffix-F, Case-F, FieldValue-F, Index-F, Range-F, Target-F}
use Rattle.sail_syntax.specs.declared.expressions.Exp.TheFolds.{fold-roll-Exp, fold-roll-LExp, fold-roll-Stmt, fold-roll-Suffix, fold-roll-Case}
use Rattle.sail_syntax.specs.declared.expressions.Exp.TheFolds.{fold-roll-FieldValue, fold-roll-Index, fold-roll-Range, fold-roll-Target}
use Rattle.sail_syntax.specs.declared.expressions.Exp.TheFolds.{map-Exp, map-LExp, map-Stmt, map-Suffix, map-Case, map-FieldValue, map-Index, map-Range}
use Rattle.sail_syntax.specs.declared.expressions.Exp.TheFolds.{map-Target}
use Rattle.sail_syntax.specs.declared.expressions.LExp.{LExp, roll-LExp}
use Rattle.sail_syntax.specs.declared.expressions.Stmt.{Stmt, roll-Stmt}
use Rattle.sail_syntax.specs.declared.expressions.Suffix.{Suffix as SuffixTree, roll-Suffix}
use Rattle.sail_syntax.specs.declared.expressions.Case.{Case as CaseTree, roll-Case}
use Rattle.sail_syntax.specs.declared.expressions.FieldValue.{FieldValue, roll-FieldValue}
use Rattle.sail_syntax.specs.declared.expressions.Index.{Index, roll-Index}
use Rattle.sail_syntax.specs.declared.expressions.Range.{Range, roll-Range}
use Rattle.sail_syntax.specs.declared.expressions.Target.{Target as TargetTree, roll-Target}
use Rattle.sail_names.specs.Known as Tables
use Rattle.sail_names.specs.Locals as Bound
use Rattle.sail_names.specs.Uses as Uses
use Rattle.sail_names.specs.Uses.{Failures}
use Rattle.sail_types.specs.declared.shapes.Shape.{Shape}
use Rattle.shape_rules.specs.Scopes.{Locals, Setting}
use Rattle.shape_rules.specs.Patterns.{look, no_widths}
use Rattle.shape_rules.specs.Targets.{IndexPart, Part, SuffixPart, TargetPart}
use Rattle.shape_rules.specs.Values.{FieldPart}
use Rattle.shape_rules.specs.Statements.{CasePart, FurtherPart, RangePart, StatementPart}
use Rattle.shape_rules.specs.Expressions as Rules
use Rattle.shape_meanings.proofs.Folds.{OverTrees, found_exp, found_lexp, found_stmt, found_suffix, found_case, found_field, found_index, found_range}
use Rattle.shape_meanings.proofs.Folds.{found_target, failed_exp, failed_lexp, failed_stmt, failed_suffix, failed_case, failed_field, failed_index}
use Rattle.shape_meanings.proofs.Folds.{failed_range, failed_target, found_Exp, found_LExp, found_Stmt, found_Suffix, found_Case, found_FieldValue}
use Rattle.shape_meanings.proofs.Folds.{found_Index, found_Range, found_Target, failed_Exp, failed_LExp, failed_Stmt, failed_Suffix, failed_Case}
use Rattle.shape_meanings.proofs.Folds.{failed_FieldValue, failed_Index, failed_Range, failed_Target}
use Rattle.opening_meanings.specs.Plain.{uncalled}
use Rattle.opening_meanings.proofs.Parts.{MaybeSame, Same, SameIndex, SameSuffix, SameTarget}
use Rattle.opening_meanings.proofs.Plain.{IsPlain}

-- ---- what is said of each tree: where the tables find no failure of its names, the same is found of it where nothing of the model can be called

abbrev pub Plainly : (Tables.Setting → Bound.Locals → Type 0) → (Setting → Type 0) → Type 0
Plainly faultless said = (s : Setting) (names : Tables.Setting) (bound : Bound.Locals) → IsPlain s names → faultless names bound → said s

abbrev pub ExpSame : Part → Failures → Type 0
ExpSame a f = Plainly (λ names bound. f names bound ≡ []) (λ s. Same s a.elaborate)

abbrev pub LExpSame : TargetPart → Failures → Type 0
LExpSame x f = Plainly (λ names bound. f names bound ≡ []) (λ s. SameTarget s x)

abbrev pub StmtSame : StatementPart → Uses.Statement → Type 0
StmtSame x f =
    Plainly (λ names bound. (f names bound).failures ≡ []) (λ s. (locals : Locals) → x s locals ≡ x (uncalled s) locals)

abbrev pub SuffixSame : SuffixPart → Failures → Type 0
SuffixSame x f = Plainly (λ names bound. f names bound ≡ []) (λ s. SameSuffix s x)

pub record SameCase (s : Setting) (c : CasePart) : Type 0 where
  pub pattern : (subject : Shape) → look c.pattern s no_widths subject ≡ look c.pattern (uncalled s) no_widths subject
  pub guard : MaybeSame s c.guard
  pub body : Same s c.body.elaborate

abbrev pub CaseSame : CasePart → Failures → Type 0
CaseSame c f = Plainly (λ names bound. f names bound ≡ []) (λ s. SameCase s c)

abbrev pub FieldSame : FieldPart → Uses.Field → Type 0
FieldSame p f = Plainly (λ names bound. f.value names bound ≡ []) (λ s. Same s p.value.elaborate)

abbrev pub IndexSame : IndexPart → Failures → Type 0
IndexSame i f = Plainly (λ names bound. f names bound ≡ []) (λ s. SameIndex s i)

pub record SameRange (s : Setting) (r : RangePart) : Type 0 where
  pub from : Same s r.from.elaborate
  pub to : Same s r.to.elaborate
  pub by : MaybeSame s r.by

abbrev pub RangeSame : RangePart → Failures → Type 0
RangeSame r f = Plainly (λ names bound. f names bound ≡ []) (λ s. SameRange s r)

abbrev pub FurtherSame : FurtherPart → Failures → Type 0
FurtherSame x f = Plainly (λ names bound. f names bound ≡ []) (λ s. SameTarget s x.to)

abbrev pub SuchExp : Type 0
SuchExp = (x : Exp) × ExpSame (found_exp x) (failed_exp x)

abbrev pub SuchLExp : Type 0
SuchLExp = (x : LExp) × LExpSame (found_lexp x) (failed_lexp x)

abbrev pub SuchStmt : Type 0
SuchStmt = (x : Stmt) × StmtSame (found_stmt x) (failed_stmt x)

abbrev pub SuchSuffix : Type 0
SuchSuffix = (x : SuffixTree) × SuffixSame (found_suffix x) (failed_suffix x)

abbrev pub SuchCase : Type 0
SuchCase = (x : CaseTree) × CaseSame (found_case x) (failed_case x)

abbrev pub SuchFieldValue : Type 0
SuchFieldValue = (x : FieldValue) × FieldSame (found_field x) (failed_field x)

abbrev pub SuchIndex : Type 0
SuchIndex = (x : Index) × IndexSame (found_index x) (failed_index x)

abbrev pub SuchRange : Type 0
SuchRange = (x : Range) × RangeSame (found_range x) (failed_range x)

abbrev pub SuchTarget : Type 0
SuchTarget = (x : TargetTree) × FurtherSame (found_target x) (failed_target x)

-- ---- forms over the trees

abbrev pub OverSuch : (Type 0 → Type 0 → Type 0 → Type 0 → Type 0 → Type 0 → Type 0 → Type 0 → Type 0 → Type 0) → Type 0
OverSuch F = F SuchExp SuchLExp SuchStmt SuchSuffix SuchCase SuchFieldValue SuchIndex SuchRange SuchTarget

abbrev pub first_Exp : OverSuch Exp-F → OverTrees Exp-F
first_Exp = map-Exp SuchExp SuchLExp SuchStmt SuchSuffix SuchCase SuchFieldValue SuchIndex SuchRange SuchTarget
    Exp LExp Stmt SuffixTree CaseTree FieldValue Index Range TargetTree
    (λ p. p.0) (λ p. p.0) (λ p. p.0) (λ p. p.0) (λ p. p.0) (λ p. p.0) (λ p. p.0) (λ p. p.0) (λ p. p.0)

abbrev pub ExpForm : OverTrees Exp-F → Type 0
ExpForm d = ExpSame (Rules.exp_form (found_Exp d)) (Uses.expression_form (failed_Exp d))

pub rolled_Exp : (d : OverTrees Exp-F) → ExpForm d → ExpSame (found_exp (roll-Exp d)) (failed_exp (roll-Exp d))
rolled_Exp d h =
    subst (λ k. ExpSame k (failed_exp (roll-Exp d)))
    (sym (fold-roll-Exp Part TargetPart StatementPart SuffixPart CasePart FieldPart IndexPart RangePart FurtherPart
    Rules.exp_form Rules.target_form Rules.statement_form Rules.suffix_form Rules.case_form Rules.field_form Rules.index_form Rules.range_form
    Rules.further_form d))
    (subst (λ k. ExpSame (Rules.exp_form (found_Exp d)) k)
    (sym (fold-roll-Exp Failures Failures Uses.Statement Failures Failures Uses.Field Failures Failures Failures
    Uses.expression_form Uses.target_form Uses.statement_form Uses.suffix_form Uses.case_form Uses.field_form Uses.index_form Uses.range_form
    Uses.further_form d)) h)

abbrev pub first_LExp : OverSuch LExp-F → OverTrees LExp-F
first_LExp = map-LExp SuchExp SuchLExp SuchStmt SuchSuffix SuchCase SuchFieldValue SuchIndex SuchRange SuchTarget
    Exp LExp Stmt SuffixTree CaseTree FieldValue Index Range TargetTree
    (λ p. p.0) (λ p. p.0) (λ p. p.0) (λ p. p.0) (λ p. p.0) (λ p. p.0) (λ p. p.0) (λ p. p.0) (λ p. p.0)

abbrev pub LExpForm : OverTrees LExp-F → Type 0
LExpForm d = LExpSame (Rules.target_form (found_LExp d)) (Uses.target_form (failed_LExp d))

pub rolled_LExp : (d : OverTrees LExp-F) → LExpForm d → LExpSame (found_lexp (roll-LExp d)) (failed_lexp (roll-LExp d))
rolled_LExp d h =
    subst (λ k. LExpSame k (failed_lexp (roll-LExp d)))
    (sym (fold-roll-LExp Part TargetPart StatementPart SuffixPart CasePart FieldPart IndexPart RangePart FurtherPart
    Rules.exp_form Rules.target_form Rules.statement_form Rules.suffix_form Rules.case_form Rules.field_form Rules.index_form Rules.range_form
    Rules.further_form d))
    (subst (λ k. LExpSame (Rules.target_form (found_LExp d)) k)
    (sym (fold-roll-LExp Failures Failures Uses.Statement Failures Failures Uses.Field Failures Failures Failures
    Uses.expression_form Uses.target_form Uses.statement_form Uses.suffix_form Uses.case_form Uses.field_form Uses.index_form Uses.range_form
    Uses.further_form d)) h)

abbrev pub first_Stmt : OverSuch Stmt-F → OverTrees Stmt-F
first_Stmt = map-Stmt SuchExp SuchLExp SuchStmt SuchSuffix SuchCase SuchFieldValue SuchIndex SuchRange SuchTarget
    Exp LExp Stmt SuffixTree CaseTree FieldValue Index Range TargetTree
    (λ p. p.0) (λ p. p.0) (λ p. p.0) (λ p. p.0) (λ p. p.0) (λ p. p.0) (λ p. p.0) (λ p. p.0) (λ p. p.0)

abbrev pub StmtForm : OverTrees Stmt-F → Type 0
StmtForm d = StmtSame (Rules.statement_form (found_Stmt d)) (Uses.statement_form (failed_Stmt d))

pub rolled_Stmt : (d : OverTrees Stmt-F) → StmtForm d → StmtSame (found_stmt (roll-Stmt d)) (failed_stmt (roll-Stmt d))
rolled_Stmt d h =
    subst (λ k. StmtSame k (failed_stmt (roll-Stmt d)))
    (sym (fold-roll-Stmt Part TargetPart StatementPart SuffixPart CasePart FieldPart IndexPart RangePart FurtherPart
    Rules.exp_form Rules.target_form Rules.statement_form Rules.suffix_form Rules.case_form Rules.field_form Rules.index_form Rules.range_form
    Rules.further_form d))
    (subst (λ k. StmtSame (Rules.statement_form (found_Stmt d)) k)
    (sym (fold-roll-Stmt Failures Failures Uses.Statement Failures Failures Uses.Field Failures Failures Failures
    Uses.expression_form Uses.target_form Uses.statement_form Uses.suffix_form Uses.case_form Uses.field_form Uses.index_form Uses.range_form
    Uses.further_form d)) h)

abbrev pub first_Suffix : OverSuch Suffix-F → OverTrees Suffix-F
first_Suffix = map-Suffix SuchExp SuchLExp SuchStmt SuchSuffix SuchCase SuchFieldValue SuchIndex SuchRange SuchTarget
    Exp LExp Stmt SuffixTree CaseTree FieldValue Index Range TargetTree
    (λ p. p.0) (λ p. p.0) (λ p. p.0) (λ p. p.0) (λ p. p.0) (λ p. p.0) (λ p. p.0) (λ p. p.0) (λ p. p.0)

abbrev pub SuffixForm : OverTrees Suffix-F → Type 0
SuffixForm d = SuffixSame (Rules.suffix_form (found_Suffix d)) (Uses.suffix_form (failed_Suffix d))

pub rolled_Suffix : (d : OverTrees Suffix-F) → SuffixForm d → SuffixSame (found_suffix (roll-Suffix d)) (failed_suffix (roll-Suffix d))
rolled_Suffix d h =
    subst (λ k. SuffixSame k (failed_suffix (roll-Suffix d)))
    (sym (fold-roll-Suffix Part TargetPart StatementPart SuffixPart CasePart FieldPart IndexPart RangePart FurtherPart
    Rules.exp_form Rules.target_form Rules.statement_form Rules.suffix_form Rules.case_form Rules.field_form Rules.index_form Rules.range_form
    Rules.further_form d))
    (subst (λ k. SuffixSame (Rules.suffix_form (found_Suffix d)) k)
    (sym (fold-roll-Suffix Failures Failures Uses.Statement Failures Failures Uses.Field Failures Failures Failures
    Uses.expression_form Uses.target_form Uses.statement_form Uses.suffix_form Uses.case_form Uses.field_form Uses.index_form Uses.range_form
    Uses.further_form d)) h)

abbrev pub first_Case : OverSuch Case-F → OverTrees Case-F
first_Case = map-Case SuchExp SuchLExp SuchStmt SuchSuffix SuchCase SuchFieldValue SuchIndex SuchRange SuchTarget
    Exp LExp Stmt SuffixTree CaseTree FieldValue Index Range TargetTree
    (λ p. p.0) (λ p. p.0) (λ p. p.0) (λ p. p.0) (λ p. p.0) (λ p. p.0) (λ p. p.0) (λ p. p.0) (λ p. p.0)

abbrev pub CaseForm : OverTrees Case-F → Type 0
CaseForm d = CaseSame (Rules.case_form (found_Case d)) (Uses.case_form (failed_Case d))

pub rolled_Case : (d : OverTrees Case-F) → CaseForm d → CaseSame (found_case (roll-Case d)) (failed_case (roll-Case d))
rolled_Case d h =
    subst (λ k. CaseSame k (failed_case (roll-Case d)))
    (sym (fold-roll-Case Part TargetPart StatementPart SuffixPart CasePart FieldPart IndexPart RangePart FurtherPart
    Rules.exp_form Rules.target_form Rules.statement_form Rules.suffix_form Rules.case_form Rules.field_form Rules.index_form Rules.range_form
    Rules.further_form d))
    (subst (λ k. CaseSame (Rules.case_form (found_Case d)) k)
    (sym (fold-roll-Case Failures Failures Uses.Statement Failures Failures Uses.Field Failures Failures Failures
    Uses.expression_form Uses.target_form Uses.statement_form Uses.suffix_form Uses.case_form Uses.field_form Uses.index_form Uses.range_form
    Uses.further_form d)) h)

abbrev pub first_FieldValue : OverSuch FieldValue-F → OverTrees FieldValue-F
first_FieldValue = map-FieldValue SuchExp SuchLExp SuchStmt SuchSuffix SuchCase SuchFieldValue SuchIndex SuchRange SuchTarget
    Exp LExp Stmt SuffixTree CaseTree FieldValue Index Range TargetTree
    (λ p. p.0) (λ p. p.0) (λ p. p.0) (λ p. p.0) (λ p. p.0) (λ p. p.0) (λ p. p.0) (λ p. p.0) (λ p. p.0)

abbrev pub FieldValueForm : OverTrees FieldValue-F → Type 0
FieldValueForm d = FieldSame (Rules.field_form (found_FieldValue d)) (Uses.field_form (failed_FieldValue d))

pub rolled_FieldValue : (d : OverTrees FieldValue-F) → FieldValueForm d → FieldSame (found_field (roll-FieldValue d)) (failed_field (roll-FieldValue d))
rolled_FieldValue d h =
    subst (λ k. FieldSame k (failed_field (roll-FieldValue d)))
    (sym (fold-roll-FieldValue Part TargetPart StatementPart SuffixPart CasePart FieldPart IndexPart RangePart FurtherPart
    Rules.exp_form Rules.target_form Rules.statement_form Rules.suffix_form Rules.case_form Rules.field_form Rules.index_form Rules.range_form
    Rules.further_form d))
    (subst (λ k. FieldSame (Rules.field_form (found_FieldValue d)) k)
    (sym (fold-roll-FieldValue Failures Failures Uses.Statement Failures Failures Uses.Field Failures Failures Failures
    Uses.expression_form Uses.target_form Uses.statement_form Uses.suffix_form Uses.case_form Uses.field_form Uses.index_form Uses.range_form
    Uses.further_form d)) h)

abbrev pub first_Index : OverSuch Index-F → OverTrees Index-F
first_Index = map-Index SuchExp SuchLExp SuchStmt SuchSuffix SuchCase SuchFieldValue SuchIndex SuchRange SuchTarget
    Exp LExp Stmt SuffixTree CaseTree FieldValue Index Range TargetTree
    (λ p. p.0) (λ p. p.0) (λ p. p.0) (λ p. p.0) (λ p. p.0) (λ p. p.0) (λ p. p.0) (λ p. p.0) (λ p. p.0)

abbrev pub IndexForm : OverTrees Index-F → Type 0
IndexForm d = IndexSame (Rules.index_form (found_Index d)) (Uses.index_form (failed_Index d))

pub rolled_Index : (d : OverTrees Index-F) → IndexForm d → IndexSame (found_index (roll-Index d)) (failed_index (roll-Index d))
rolled_Index d h =
    subst (λ k. IndexSame k (failed_index (roll-Index d)))
    (sym (fold-roll-Index Part TargetPart StatementPart SuffixPart CasePart FieldPart IndexPart RangePart FurtherPart
    Rules.exp_form Rules.target_form Rules.statement_form Rules.suffix_form Rules.case_form Rules.field_form Rules.index_form Rules.range_form
    Rules.further_form d))
    (subst (λ k. IndexSame (Rules.index_form (found_Index d)) k)
    (sym (fold-roll-Index Failures Failures Uses.Statement Failures Failures Uses.Field Failures Failures Failures
    Uses.expression_form Uses.target_form Uses.statement_form Uses.suffix_form Uses.case_form Uses.field_form Uses.index_form Uses.range_form
    Uses.further_form d)) h)

abbrev pub first_Range : OverSuch Range-F → OverTrees Range-F
first_Range = map-Range SuchExp SuchLExp SuchStmt SuchSuffix SuchCase SuchFieldValue SuchIndex SuchRange SuchTarget
    Exp LExp Stmt SuffixTree CaseTree FieldValue Index Range TargetTree
    (λ p. p.0) (λ p. p.0) (λ p. p.0) (λ p. p.0) (λ p. p.0) (λ p. p.0) (λ p. p.0) (λ p. p.0) (λ p. p.0)

abbrev pub RangeForm : OverTrees Range-F → Type 0
RangeForm d = RangeSame (Rules.range_form (found_Range d)) (Uses.range_form (failed_Range d))

pub rolled_Range : (d : OverTrees Range-F) → RangeForm d → RangeSame (found_range (roll-Range d)) (failed_range (roll-Range d))
rolled_Range d h =
    subst (λ k. RangeSame k (failed_range (roll-Range d)))
    (sym (fold-roll-Range Part TargetPart StatementPart SuffixPart CasePart FieldPart IndexPart RangePart FurtherPart
    Rules.exp_form Rules.target_form Rules.statement_form Rules.suffix_form Rules.case_form Rules.field_form Rules.index_form Rules.range_form
    Rules.further_form d))
    (subst (λ k. RangeSame (Rules.range_form (found_Range d)) k)
    (sym (fold-roll-Range Failures Failures Uses.Statement Failures Failures Uses.Field Failures Failures Failures
    Uses.expression_form Uses.target_form Uses.statement_form Uses.suffix_form Uses.case_form Uses.field_form Uses.index_form Uses.range_form
    Uses.further_form d)) h)

abbrev pub first_Target : OverSuch Target-F → OverTrees Target-F
first_Target = map-Target SuchExp SuchLExp SuchStmt SuchSuffix SuchCase SuchFieldValue SuchIndex SuchRange SuchTarget
    Exp LExp Stmt SuffixTree CaseTree FieldValue Index Range TargetTree
    (λ p. p.0) (λ p. p.0) (λ p. p.0) (λ p. p.0) (λ p. p.0) (λ p. p.0) (λ p. p.0) (λ p. p.0) (λ p. p.0)

abbrev pub TargetForm : OverTrees Target-F → Type 0
TargetForm d = FurtherSame (Rules.further_form (found_Target d)) (Uses.further_form (failed_Target d))

pub rolled_Target : (d : OverTrees Target-F) → TargetForm d → FurtherSame (found_target (roll-Target d)) (failed_target (roll-Target d))
rolled_Target d h =
    subst (λ k. FurtherSame k (failed_target (roll-Target d)))
    (sym (fold-roll-Target Part TargetPart StatementPart SuffixPart CasePart FieldPart IndexPart RangePart FurtherPart
    Rules.exp_form Rules.target_form Rules.statement_form Rules.suffix_form Rules.case_form Rules.field_form Rules.index_form Rules.range_form
    Rules.further_form d))
    (subst (λ k. FurtherSame (Rules.further_form (found_Target d)) k)
    (sym (fold-roll-Target Failures Failures Uses.Statement Failures Failures Uses.Field Failures Failures Failures
    Uses.expression_form Uses.target_form Uses.statement_form Uses.suffix_form Uses.case_form Uses.field_form Uses.index_form Uses.range_form
    Uses.further_form d)) h)
