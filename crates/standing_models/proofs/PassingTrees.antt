-- What is found of an expression passes the tests of nodes, where it is as the grammar has it, the tables find no failure of its names and nothing is
-- refused in its shapes: what is said of each of its trees.
use Rattle.std.proofs.Common.{◌≡◌, Bool, true, [], List, sym, subst}
use Rattle.sail_types.specs.declared.numbers.Index.{Index as Number}
use Rattle.sail_syntax.specs.declared.expressions.Exp.{Exp, Exp-F, roll-Exp}
use Rattle.sail_syntax.specs.declared.expressions.Exp.TheOpen.{Case-F, FieldValue-F, Index-F, LExp-F, Range-F, Stmt-F, Suffix-F, Target-F}
use Rattle.sail_syntax.specs.declared.expressions.Exp.TheFolds.{fold-roll-Case, fold-roll-Exp, fold-roll-FieldValue, fold-roll-Index, fold-roll-LExp}
use Rattle.sail_syntax.specs.declared.expressions.Exp.TheFolds.{fold-roll-Range, fold-roll-Stmt, fold-roll-Suffix, fold-roll-Target}
use Rattle.sail_syntax.specs.declared.expressions.Exp.TheFolds.{map-Case, map-Exp, map-FieldValue, map-Index, map-LExp, map-Range, map-Stmt}
use Rattle.sail_syntax.specs.declared.expressions.Exp.TheFolds.{map-Suffix, map-Target}
use Rattle.sail_syntax.specs.declared.expressions.LExp.{LExp, roll-LExp}
use Rattle.sail_syntax.specs.declared.expressions.Stmt.{Stmt, roll-Stmt}
use Rattle.sail_syntax.specs.declared.expressions.Suffix.{Suffix as SuffixTree, roll-Suffix}
use Rattle.sail_syntax.specs.declared.expressions.Case.{Case as CaseTree, roll-Case}
use Rattle.sail_syntax.specs.declared.expressions.FieldValue.{FieldValue, roll-FieldValue}
use Rattle.sail_syntax.specs.declared.expressions.Index.{Index, roll-Index}
use Rattle.sail_syntax.specs.declared.expressions.Range.{Range, roll-Range}
use Rattle.sail_syntax.specs.declared.expressions.Target.{Target as TargetTree, roll-Target}
use Rattle.sail_core.specs.declared.patterns.Pattern.{Pattern}
use Rattle.sail_cycles.specs.declared.expressions.Which.TheVariants.{Patterns}
use Rattle.sail_cycles.specs.Callees as Callees
use Rattle.sail_names.specs.Known as Tables
use Rattle.sail_names.specs.Locals as Bound
use Rattle.sail_names.specs.Uses as Uses
use Rattle.sail_names.specs.Uses.{Failures}
use Rattle.pattern_leaves.specs.Settings.{Around}
use Rattle.shape_rules.specs.Expressions as Rules
use Rattle.shape_rules.specs.Scopes.{Setting}
use Rattle.shape_rules.specs.Statements.{CasePart, FurtherPart, RangePart, StatementPart}
use Rattle.shape_rules.specs.Targets.{IndexPart, Part, SuffixPart, TargetPart}
use Rattle.shape_rules.specs.Values.{FieldPart}
use Rattle.shape_meanings.specs.Trees as Trees
use Rattle.shape_meanings.proofs.Folds.{OverTrees}
use Rattle.shape_meanings.proofs.Folds.{failed_Case, failed_Exp, failed_FieldValue, failed_Index, failed_LExp, failed_Range, failed_Stmt, failed_Suffix}
use Rattle.shape_meanings.proofs.Folds.{failed_Target, failed_case, failed_exp, failed_field, failed_index, failed_lexp, failed_range, failed_stmt}
use Rattle.shape_meanings.proofs.Folds.{failed_suffix, failed_target}
use Rattle.shape_meanings.proofs.Folds.{found_Case, found_Exp, found_FieldValue, found_Index, found_LExp, found_Range, found_Stmt, found_Suffix, found_Target}
use Rattle.shape_meanings.proofs.Folds.{found_case, found_exp, found_field, found_index, found_lexp, found_range, found_stmt, found_suffix, found_target}
use Rattle.shape_meanings.proofs.Folds.{written_Case, written_Exp, written_FieldValue, written_Index}
use Rattle.shape_meanings.proofs.Folds.{written_LExp, written_Range, written_Stmt, written_Suffix, written_Target}
use Rattle.shape_meanings.proofs.Folds.{written_case, written_exp, written_field, written_index}
use Rattle.shape_meanings.proofs.Folds.{written_lexp, written_range, written_stmt, written_suffix, written_target}
use Rattle.form_stands.proofs.Folds.{Numbers, in_Case, in_Exp, in_FieldValue, in_Index, in_LExp, in_Range, in_Stmt, in_Suffix, in_Target, in_case, in_exp}
use Rattle.form_stands.proofs.Folds.{in_field, in_index, in_lexp, in_range, in_stmt, in_suffix, in_target, numbers_Case, numbers_Exp, numbers_FieldValue}
use Rattle.form_stands.proofs.Folds.{numbers_Index, numbers_LExp, numbers_Range, numbers_Stmt, numbers_Suffix, numbers_Target}
use Rattle.standing_models.specs.Tests.{Converts, Fits, Tested}
use Rattle.standing_models.proofs.Passing.{IndexIs, SuffixIs}
use Rattle.standing_models.proofs.PassingSteps.{CaseIs, RangeIs, StatementIs, TargetIs}

module _ (around : Around) (numbers : List Number) (fits : Pattern → Bool) where
  -- ---- what is said of each tree

  -- where nothing is wrong in it
  abbrev pub Placed : Bool → (Tables.Setting → Bound.Locals → Type 0) → Numbers
      → ((setting : Setting) (names : Tables.Setting) → Fits around numbers fits setting names → Type 0)
      → Type 0
  Placed b named calls said =
      b ≡ true → (names : Tables.Setting) (bound : Bound.Locals) → named names bound → (setting : Setting) (fit : Fits around numbers fits setting names)
      → Converts fit.converts names (calls names.known) → said setting names fit

  abbrev pub SaidExp : Part → Failures → Bool → Numbers → Type 0
  SaidExp k f b n = Placed b (λ names bound. f names bound ≡ []) n (λ setting names fit. Tested around numbers fits setting k.elaborate)

  abbrev pub SaidLExp : TargetPart → Failures → Bool → Numbers → Type 0
  SaidLExp k f b n = Placed b (λ names bound. f names bound ≡ []) n (λ setting names fit. TargetIs around numbers fits setting names fit k)

  abbrev pub SaidStmt : StatementPart → Uses.Statement → Bool → Numbers → Type 0
  SaidStmt k f b n = Placed b (λ names bound. (f names bound).failures ≡ []) n (λ setting names fit. StatementIs around numbers fits setting names fit k)

  abbrev pub SaidSuffix : SuffixPart → Failures → Bool → Numbers → Type 0
  SaidSuffix k f b n = Placed b (λ names bound. f names bound ≡ []) n (λ setting names fit. SuffixIs around numbers fits setting names fit k)

  abbrev pub SaidCase : CasePart → Failures → Bool → Numbers → Type 0
  SaidCase k f b n = Placed b (λ names bound. f names bound ≡ []) n (λ setting names fit. CaseIs around numbers fits setting names fit k)

  abbrev pub SaidFieldValue : FieldPart → Uses.Field → Bool → Numbers → Type 0
  SaidFieldValue k f b n = (k.name ≡ f.name)
      × Placed b (λ names bound. f.value names bound ≡ []) n (λ setting names fit. Tested around numbers fits setting k.value.elaborate)

  abbrev pub SaidIndex : IndexPart → Failures → Bool → Numbers → Type 0
  SaidIndex k f b n = Placed b (λ names bound. f names bound ≡ []) n (λ setting names fit. IndexIs around numbers fits setting names fit k)

  abbrev pub SaidRange : RangePart → Failures → Bool → Numbers → Type 0
  SaidRange k f b n = Placed b (λ names bound. f names bound ≡ []) n (λ setting names fit. RangeIs around numbers fits setting names fit k)

  abbrev pub SaidTarget : FurtherPart → Failures → Bool → Numbers → Type 0
  SaidTarget k f b n = Placed b (λ names bound. f names bound ≡ []) n (λ setting names fit. TargetIs around numbers fits setting names fit k.to)

  abbrev pub OfExp : Exp → Type 0
  OfExp x = SaidExp (found_exp x) (failed_exp x) (written_exp x) (in_exp x)

  abbrev pub SuchExp : Type 0
  SuchExp = (x : Exp) × OfExp x

  abbrev pub OfLExp : LExp → Type 0
  OfLExp x = SaidLExp (found_lexp x) (failed_lexp x) (written_lexp x) (in_lexp x)

  abbrev pub SuchLExp : Type 0
  SuchLExp = (x : LExp) × OfLExp x

  abbrev pub OfStmt : Stmt → Type 0
  OfStmt x = SaidStmt (found_stmt x) (failed_stmt x) (written_stmt x) (in_stmt x)

  abbrev pub SuchStmt : Type 0
  SuchStmt = (x : Stmt) × OfStmt x

  abbrev pub OfSuffix : SuffixTree → Type 0
  OfSuffix x = SaidSuffix (found_suffix x) (failed_suffix x) (written_suffix x) (in_suffix x)

  abbrev pub SuchSuffix : Type 0
  SuchSuffix = (x : SuffixTree) × OfSuffix x

  abbrev pub OfCase : CaseTree → Type 0
  OfCase x = SaidCase (found_case x) (failed_case x) (written_case x) (in_case x)

  abbrev pub SuchCase : Type 0
  SuchCase = (x : CaseTree) × OfCase x

  abbrev pub OfFieldValue : FieldValue → Type 0
  OfFieldValue x = SaidFieldValue (found_field x) (failed_field x) (written_field x) (in_field x)

  abbrev pub SuchFieldValue : Type 0
  SuchFieldValue = (x : FieldValue) × OfFieldValue x

  abbrev pub OfIndex : Index → Type 0
  OfIndex x = SaidIndex (found_index x) (failed_index x) (written_index x) (in_index x)

  abbrev pub SuchIndex : Type 0
  SuchIndex = (x : Index) × OfIndex x

  abbrev pub OfRange : Range → Type 0
  OfRange x = SaidRange (found_range x) (failed_range x) (written_range x) (in_range x)

  abbrev pub SuchRange : Type 0
  SuchRange = (x : Range) × OfRange x

  abbrev pub OfTarget : TargetTree → Type 0
  OfTarget x = SaidTarget (found_target x) (failed_target x) (written_target x) (in_target x)

  abbrev pub SuchTarget : Type 0
  SuchTarget = (x : TargetTree) × OfTarget x

  abbrev pub OverSuch : (Type 0 → Type 0 → Type 0 → Type 0 → Type 0 → Type 0 → Type 0 → Type 0 → Type 0 → Type 0) → Type 0
  OverSuch F = F SuchExp SuchLExp SuchStmt SuchSuffix SuchCase SuchFieldValue SuchIndex SuchRange SuchTarget

  abbrev pub first_Exp : OverSuch Exp-F → OverTrees Exp-F
  first_Exp = map-Exp SuchExp SuchLExp SuchStmt SuchSuffix SuchCase SuchFieldValue SuchIndex SuchRange SuchTarget
      Exp LExp Stmt SuffixTree CaseTree FieldValue Index Range TargetTree
      (λ p. p.0) (λ p. p.0) (λ p. p.0) (λ p. p.0) (λ p. p.0) (λ p. p.0) (λ p. p.0) (λ p. p.0) (λ p. p.0)

  abbrev pub ExpForm : OverTrees Exp-F → Type 0
  ExpForm d =
      SaidExp (Rules.exp_form (found_Exp d)) (Uses.expression_form (failed_Exp d)) (Trees.expression_form (written_Exp d))
      (λ known. Callees.expression_form Patterns known (in_Exp known d))

  pub rolled_Exp : (d : OverTrees Exp-F) → ExpForm d → OfExp (roll-Exp d)
  rolled_Exp d h =
      subst (λ k. SaidExp k (failed_exp (roll-Exp d)) (written_exp (roll-Exp d)) (in_exp (roll-Exp d)))
      (sym (fold-roll-Exp Part TargetPart StatementPart SuffixPart CasePart FieldPart IndexPart RangePart FurtherPart
      Rules.exp_form Rules.target_form Rules.statement_form Rules.suffix_form Rules.case_form Rules.field_form Rules.index_form Rules.range_form
      Rules.further_form d))
      (subst (λ k. SaidExp (Rules.exp_form (found_Exp d)) k (written_exp (roll-Exp d)) (in_exp (roll-Exp d)))
      (sym (fold-roll-Exp Failures Failures Uses.Statement Failures Failures Uses.Field Failures Failures Failures
      Uses.expression_form Uses.target_form Uses.statement_form Uses.suffix_form Uses.case_form Uses.field_form Uses.index_form Uses.range_form
      Uses.further_form d))
      (subst (λ k. SaidExp (Rules.exp_form (found_Exp d)) (Uses.expression_form (failed_Exp d)) k (in_exp (roll-Exp d)))
      (sym (fold-roll-Exp Bool Bool Bool Bool Bool Bool Bool Bool Bool
      Trees.expression_form Trees.target_form Trees.statement_form Trees.suffix_form Trees.case_form Trees.field_form Trees.index_form
      Trees.range_form Trees.further_form d))
      (subst (SaidExp (Rules.exp_form (found_Exp d)) (Uses.expression_form (failed_Exp d)) (Trees.expression_form (written_Exp d))) (sym (numbers_Exp d)) h)))

  abbrev pub first_LExp : OverSuch LExp-F → OverTrees LExp-F
  first_LExp = map-LExp SuchExp SuchLExp SuchStmt SuchSuffix SuchCase SuchFieldValue SuchIndex SuchRange SuchTarget
      Exp LExp Stmt SuffixTree CaseTree FieldValue Index Range TargetTree
      (λ p. p.0) (λ p. p.0) (λ p. p.0) (λ p. p.0) (λ p. p.0) (λ p. p.0) (λ p. p.0) (λ p. p.0) (λ p. p.0)

  abbrev pub LExpForm : OverTrees LExp-F → Type 0
  LExpForm d =
      SaidLExp (Rules.target_form (found_LExp d)) (Uses.target_form (failed_LExp d)) (Trees.target_form (written_LExp d))
      (λ known. Callees.target_form Patterns known (in_LExp known d))

  pub rolled_LExp : (d : OverTrees LExp-F) → LExpForm d → OfLExp (roll-LExp d)
  rolled_LExp d h =
      subst (λ k. SaidLExp k (failed_lexp (roll-LExp d)) (written_lexp (roll-LExp d)) (in_lexp (roll-LExp d)))
      (sym (fold-roll-LExp Part TargetPart StatementPart SuffixPart CasePart FieldPart IndexPart RangePart FurtherPart
      Rules.exp_form Rules.target_form Rules.statement_form Rules.suffix_form Rules.case_form Rules.field_form Rules.index_form Rules.range_form
      Rules.further_form d))
      (subst (λ k. SaidLExp (Rules.target_form (found_LExp d)) k (written_lexp (roll-LExp d)) (in_lexp (roll-LExp d)))
      (sym (fold-roll-LExp Failures Failures Uses.Statement Failures Failures Uses.Field Failures Failures Failures
      Uses.expression_form Uses.target_form Uses.statement_form Uses.suffix_form Uses.case_form Uses.field_form Uses.index_form Uses.range_form
      Uses.further_form d))
      (subst (λ k. SaidLExp (Rules.target_form (found_LExp d)) (Uses.target_form (failed_LExp d)) k (in_lexp (roll-LExp d)))
      (sym (fold-roll-LExp Bool Bool Bool Bool Bool Bool Bool Bool Bool
      Trees.expression_form Trees.target_form Trees.statement_form Trees.suffix_form Trees.case_form Trees.field_form Trees.index_form
      Trees.range_form Trees.further_form d))
      (subst (SaidLExp (Rules.target_form (found_LExp d)) (Uses.target_form (failed_LExp d)) (Trees.target_form (written_LExp d))) (sym (numbers_LExp d)) h)))

  abbrev pub first_Stmt : OverSuch Stmt-F → OverTrees Stmt-F
  first_Stmt = map-Stmt SuchExp SuchLExp SuchStmt SuchSuffix SuchCase SuchFieldValue SuchIndex SuchRange SuchTarget
      Exp LExp Stmt SuffixTree CaseTree FieldValue Index Range TargetTree
      (λ p. p.0) (λ p. p.0) (λ p. p.0) (λ p. p.0) (λ p. p.0) (λ p. p.0) (λ p. p.0) (λ p. p.0) (λ p. p.0)

  abbrev pub StmtForm : OverTrees Stmt-F → Type 0
  StmtForm d =
      SaidStmt (Rules.statement_form (found_Stmt d)) (Uses.statement_form (failed_Stmt d)) (Trees.statement_form (written_Stmt d))
      (λ known. Callees.statement_form known (in_Stmt known d))

  pub rolled_Stmt : (d : OverTrees Stmt-F) → StmtForm d → OfStmt (roll-Stmt d)
  rolled_Stmt d h =
      subst (λ k. SaidStmt k (failed_stmt (roll-Stmt d)) (written_stmt (roll-Stmt d)) (in_stmt (roll-Stmt d)))
      (sym (fold-roll-Stmt Part TargetPart StatementPart SuffixPart CasePart FieldPart IndexPart RangePart FurtherPart
      Rules.exp_form Rules.target_form Rules.statement_form Rules.suffix_form Rules.case_form Rules.field_form Rules.index_form Rules.range_form
      Rules.further_form d))
      (subst (λ k. SaidStmt (Rules.statement_form (found_Stmt d)) k (written_stmt (roll-Stmt d)) (in_stmt (roll-Stmt d)))
      (sym (fold-roll-Stmt Failures Failures Uses.Statement Failures Failures Uses.Field Failures Failures Failures
      Uses.expression_form Uses.target_form Uses.statement_form Uses.suffix_form Uses.case_form Uses.field_form Uses.index_form Uses.range_form
      Uses.further_form d))
      (subst (λ k. SaidStmt (Rules.statement_form (found_Stmt d)) (Uses.statement_form (failed_Stmt d)) k (in_stmt (roll-Stmt d)))
      (sym (fold-roll-Stmt Bool Bool Bool Bool Bool Bool Bool Bool Bool
      Trees.expression_form Trees.target_form Trees.statement_form Trees.suffix_form Trees.case_form Trees.field_form Trees.index_form
      Trees.range_form Trees.further_form d))
      (subst (SaidStmt (Rules.statement_form (found_Stmt d)) (Uses.statement_form (failed_Stmt d)) (Trees.statement_form (written_Stmt d)))
      (sym (numbers_Stmt d)) h)))

  abbrev pub first_Suffix : OverSuch Suffix-F → OverTrees Suffix-F
  first_Suffix = map-Suffix SuchExp SuchLExp SuchStmt SuchSuffix SuchCase SuchFieldValue SuchIndex SuchRange SuchTarget
      Exp LExp Stmt SuffixTree CaseTree FieldValue Index Range TargetTree
      (λ p. p.0) (λ p. p.0) (λ p. p.0) (λ p. p.0) (λ p. p.0) (λ p. p.0) (λ p. p.0) (λ p. p.0) (λ p. p.0)

  abbrev pub SuffixForm : OverTrees Suffix-F → Type 0
  SuffixForm d =
      SaidSuffix (Rules.suffix_form (found_Suffix d)) (Uses.suffix_form (failed_Suffix d)) (Trees.suffix_form (written_Suffix d))
      (λ known. Callees.suffix_form (in_Suffix known d))

  pub rolled_Suffix : (d : OverTrees Suffix-F) → SuffixForm d → OfSuffix (roll-Suffix d)
  rolled_Suffix d h =
      subst (λ k. SaidSuffix k (failed_suffix (roll-Suffix d)) (written_suffix (roll-Suffix d)) (in_suffix (roll-Suffix d)))
      (sym (fold-roll-Suffix Part TargetPart StatementPart SuffixPart CasePart FieldPart IndexPart RangePart FurtherPart
      Rules.exp_form Rules.target_form Rules.statement_form Rules.suffix_form Rules.case_form Rules.field_form Rules.index_form Rules.range_form
      Rules.further_form d))
      (subst (λ k. SaidSuffix (Rules.suffix_form (found_Suffix d)) k (written_suffix (roll-Suffix d)) (in_suffix (roll-Suffix d)))
      (sym (fold-roll-Suffix Failures Failures Uses.Statement Failures Failures Uses.Field Failures Failures Failures
      Uses.expression_form Uses.target_form Uses.statement_form Uses.suffix_form Uses.case_form Uses.field_form Uses.index_form Uses.range_form
      Uses.further_form d))
      (subst (λ k. SaidSuffix (Rules.suffix_form (found_Suffix d)) (Uses.suffix_form (failed_Suffix d)) k (in_suffix (roll-Suffix d)))
      (sym (fold-roll-Suffix Bool Bool Bool Bool Bool Bool Bool Bool Bool
      Trees.expression_form Trees.target_form Trees.statement_form Trees.suffix_form Trees.case_form Trees.field_form Trees.index_form
      Trees.range_form Trees.further_form d))
      (subst (SaidSuffix (Rules.suffix_form (found_Suffix d)) (Uses.suffix_form (failed_Suffix d)) (Trees.suffix_form (written_Suffix d)))
      (sym (numbers_Suffix d)) h)))

  abbrev pub first_Case : OverSuch Case-F → OverTrees Case-F
  first_Case = map-Case SuchExp SuchLExp SuchStmt SuchSuffix SuchCase SuchFieldValue SuchIndex SuchRange SuchTarget
      Exp LExp Stmt SuffixTree CaseTree FieldValue Index Range TargetTree
      (λ p. p.0) (λ p. p.0) (λ p. p.0) (λ p. p.0) (λ p. p.0) (λ p. p.0) (λ p. p.0) (λ p. p.0) (λ p. p.0)

  abbrev pub CaseForm : OverTrees Case-F → Type 0
  CaseForm d =
      SaidCase (Rules.case_form (found_Case d)) (Uses.case_form (failed_Case d)) (Trees.case_form (written_Case d))
      (λ known. Callees.case_form known (in_Case known d))

  pub rolled_Case : (d : OverTrees Case-F) → CaseForm d → OfCase (roll-Case d)
  rolled_Case d h =
      subst (λ k. SaidCase k (failed_case (roll-Case d)) (written_case (roll-Case d)) (in_case (roll-Case d)))
      (sym (fold-roll-Case Part TargetPart StatementPart SuffixPart CasePart FieldPart IndexPart RangePart FurtherPart
      Rules.exp_form Rules.target_form Rules.statement_form Rules.suffix_form Rules.case_form Rules.field_form Rules.index_form Rules.range_form
      Rules.further_form d))
      (subst (λ k. SaidCase (Rules.case_form (found_Case d)) k (written_case (roll-Case d)) (in_case (roll-Case d)))
      (sym (fold-roll-Case Failures Failures Uses.Statement Failures Failures Uses.Field Failures Failures Failures
      Uses.expression_form Uses.target_form Uses.statement_form Uses.suffix_form Uses.case_form Uses.field_form Uses.index_form Uses.range_form
      Uses.further_form d))
      (subst (λ k. SaidCase (Rules.case_form (found_Case d)) (Uses.case_form (failed_Case d)) k (in_case (roll-Case d)))
      (sym (fold-roll-Case Bool Bool Bool Bool Bool Bool Bool Bool Bool
      Trees.expression_form Trees.target_form Trees.statement_form Trees.suffix_form Trees.case_form Trees.field_form Trees.index_form
      Trees.range_form Trees.further_form d))
      (subst (SaidCase (Rules.case_form (found_Case d)) (Uses.case_form (failed_Case d)) (Trees.case_form (written_Case d))) (sym (numbers_Case d)) h)))

  abbrev pub first_FieldValue : OverSuch FieldValue-F → OverTrees FieldValue-F
  first_FieldValue = map-FieldValue SuchExp SuchLExp SuchStmt SuchSuffix SuchCase SuchFieldValue SuchIndex SuchRange SuchTarget
      Exp LExp Stmt SuffixTree CaseTree FieldValue Index Range TargetTree
      (λ p. p.0) (λ p. p.0) (λ p. p.0) (λ p. p.0) (λ p. p.0) (λ p. p.0) (λ p. p.0) (λ p. p.0) (λ p. p.0)

  abbrev pub FieldValueForm : OverTrees FieldValue-F → Type 0
  FieldValueForm d =
      SaidFieldValue (Rules.field_form (found_FieldValue d)) (Uses.field_form (failed_FieldValue d)) (Trees.field_form (written_FieldValue d))
      (λ known. Callees.field_form (in_FieldValue known d))

  pub rolled_FieldValue : (d : OverTrees FieldValue-F) → FieldValueForm d → OfFieldValue (roll-FieldValue d)
  rolled_FieldValue d h =
      subst (λ k. SaidFieldValue k (failed_field (roll-FieldValue d)) (written_field (roll-FieldValue d)) (in_field (roll-FieldValue d)))
      (sym (fold-roll-FieldValue Part TargetPart StatementPart SuffixPart CasePart FieldPart IndexPart RangePart FurtherPart
      Rules.exp_form Rules.target_form Rules.statement_form Rules.suffix_form Rules.case_form Rules.field_form Rules.index_form Rules.range_form
      Rules.further_form d))
      (subst (λ k. SaidFieldValue (Rules.field_form (found_FieldValue d)) k (written_field (roll-FieldValue d)) (in_field (roll-FieldValue d)))
      (sym (fold-roll-FieldValue Failures Failures Uses.Statement Failures Failures Uses.Field Failures Failures Failures
      Uses.expression_form Uses.target_form Uses.statement_form Uses.suffix_form Uses.case_form Uses.field_form Uses.index_form Uses.range_form
      Uses.further_form d))
      (subst (λ k. SaidFieldValue (Rules.field_form (found_FieldValue d)) (Uses.field_form (failed_FieldValue d)) k (in_field (roll-FieldValue d)))
      (sym (fold-roll-FieldValue Bool Bool Bool Bool Bool Bool Bool Bool Bool
      Trees.expression_form Trees.target_form Trees.statement_form Trees.suffix_form Trees.case_form Trees.field_form Trees.index_form
      Trees.range_form Trees.further_form d))
      (subst (SaidFieldValue (Rules.field_form (found_FieldValue d)) (Uses.field_form (failed_FieldValue d)) (Trees.field_form (written_FieldValue d)))
      (sym (numbers_FieldValue d)) h)))

  abbrev pub first_Index : OverSuch Index-F → OverTrees Index-F
  first_Index = map-Index SuchExp SuchLExp SuchStmt SuchSuffix SuchCase SuchFieldValue SuchIndex SuchRange SuchTarget
      Exp LExp Stmt SuffixTree CaseTree FieldValue Index Range TargetTree
      (λ p. p.0) (λ p. p.0) (λ p. p.0) (λ p. p.0) (λ p. p.0) (λ p. p.0) (λ p. p.0) (λ p. p.0) (λ p. p.0)

  abbrev pub IndexForm : OverTrees Index-F → Type 0
  IndexForm d =
      SaidIndex (Rules.index_form (found_Index d)) (Uses.index_form (failed_Index d)) (Trees.index_form (written_Index d))
      (λ known. Callees.index_form (in_Index known d))

  pub rolled_Index : (d : OverTrees Index-F) → IndexForm d → OfIndex (roll-Index d)
  rolled_Index d h =
      subst (λ k. SaidIndex k (failed_index (roll-Index d)) (written_index (roll-Index d)) (in_index (roll-Index d)))
      (sym (fold-roll-Index Part TargetPart StatementPart SuffixPart CasePart FieldPart IndexPart RangePart FurtherPart
      Rules.exp_form Rules.target_form Rules.statement_form Rules.suffix_form Rules.case_form Rules.field_form Rules.index_form Rules.range_form
      Rules.further_form d))
      (subst (λ k. SaidIndex (Rules.index_form (found_Index d)) k (written_index (roll-Index d)) (in_index (roll-Index d)))
      (sym (fold-roll-Index Failures Failures Uses.Statement Failures Failures Uses.Field Failures Failures Failures
      Uses.expression_form Uses.target_form Uses.statement_form Uses.suffix_form Uses.case_form Uses.field_form Uses.index_form Uses.range_form
      Uses.further_form d))
      (subst (λ k. SaidIndex (Rules.index_form (found_Index d)) (Uses.index_form (failed_Index d)) k (in_index (roll-Index d)))
      (sym (fold-roll-Index Bool Bool Bool Bool Bool Bool Bool Bool Bool
      Trees.expression_form Trees.target_form Trees.statement_form Trees.suffix_form Trees.case_form Trees.field_form Trees.index_form
      Trees.range_form Trees.further_form d))
      (subst (SaidIndex (Rules.index_form (found_Index d)) (Uses.index_form (failed_Index d)) (Trees.index_form (written_Index d))) (sym (numbers_Index d)) h)))

  abbrev pub first_Range : OverSuch Range-F → OverTrees Range-F
  first_Range = map-Range SuchExp SuchLExp SuchStmt SuchSuffix SuchCase SuchFieldValue SuchIndex SuchRange SuchTarget
      Exp LExp Stmt SuffixTree CaseTree FieldValue Index Range TargetTree
      (λ p. p.0) (λ p. p.0) (λ p. p.0) (λ p. p.0) (λ p. p.0) (λ p. p.0) (λ p. p.0) (λ p. p.0) (λ p. p.0)

  abbrev pub RangeForm : OverTrees Range-F → Type 0
  RangeForm d =
      SaidRange (Rules.range_form (found_Range d)) (Uses.range_form (failed_Range d)) (Trees.range_form (written_Range d))
      (λ known. Callees.range_form (in_Range known d))

  pub rolled_Range : (d : OverTrees Range-F) → RangeForm d → OfRange (roll-Range d)
  rolled_Range d h =
      subst (λ k. SaidRange k (failed_range (roll-Range d)) (written_range (roll-Range d)) (in_range (roll-Range d)))
      (sym (fold-roll-Range Part TargetPart StatementPart SuffixPart CasePart FieldPart IndexPart RangePart FurtherPart
      Rules.exp_form Rules.target_form Rules.statement_form Rules.suffix_form Rules.case_form Rules.field_form Rules.index_form Rules.range_form
      Rules.further_form d))
      (subst (λ k. SaidRange (Rules.range_form (found_Range d)) k (written_range (roll-Range d)) (in_range (roll-Range d)))
      (sym (fold-roll-Range Failures Failures Uses.Statement Failures Failures Uses.Field Failures Failures Failures
      Uses.expression_form Uses.target_form Uses.statement_form Uses.suffix_form Uses.case_form Uses.field_form Uses.index_form Uses.range_form
      Uses.further_form d))
      (subst (λ k. SaidRange (Rules.range_form (found_Range d)) (Uses.range_form (failed_Range d)) k (in_range (roll-Range d)))
      (sym (fold-roll-Range Bool Bool Bool Bool Bool Bool Bool Bool Bool
      Trees.expression_form Trees.target_form Trees.statement_form Trees.suffix_form Trees.case_form Trees.field_form Trees.index_form
      Trees.range_form Trees.further_form d))
      (subst (SaidRange (Rules.range_form (found_Range d)) (Uses.range_form (failed_Range d)) (Trees.range_form (written_Range d))) (sym (numbers_Range d)) h)))

  abbrev pub first_Target : OverSuch Target-F → OverTrees Target-F
  first_Target = map-Target SuchExp SuchLExp SuchStmt SuchSuffix SuchCase SuchFieldValue SuchIndex SuchRange SuchTarget
      Exp LExp Stmt SuffixTree CaseTree FieldValue Index Range TargetTree
      (λ p. p.0) (λ p. p.0) (λ p. p.0) (λ p. p.0) (λ p. p.0) (λ p. p.0) (λ p. p.0) (λ p. p.0) (λ p. p.0)

  abbrev pub TargetForm : OverTrees Target-F → Type 0
  TargetForm d =
      SaidTarget (Rules.further_form (found_Target d)) (Uses.further_form (failed_Target d)) (Trees.further_form (written_Target d))
      (λ known. Callees.further_form (in_Target known d))

  pub rolled_Target : (d : OverTrees Target-F) → TargetForm d → OfTarget (roll-Target d)
  rolled_Target d h =
      subst (λ k. SaidTarget k (failed_target (roll-Target d)) (written_target (roll-Target d)) (in_target (roll-Target d)))
      (sym (fold-roll-Target Part TargetPart StatementPart SuffixPart CasePart FieldPart IndexPart RangePart FurtherPart
      Rules.exp_form Rules.target_form Rules.statement_form Rules.suffix_form Rules.case_form Rules.field_form Rules.index_form Rules.range_form
      Rules.further_form d))
      (subst (λ k. SaidTarget (Rules.further_form (found_Target d)) k (written_target (roll-Target d)) (in_target (roll-Target d)))
      (sym (fold-roll-Target Failures Failures Uses.Statement Failures Failures Uses.Field Failures Failures Failures
      Uses.expression_form Uses.target_form Uses.statement_form Uses.suffix_form Uses.case_form Uses.field_form Uses.index_form Uses.range_form
      Uses.further_form d))
      (subst (λ k. SaidTarget (Rules.further_form (found_Target d)) (Uses.further_form (failed_Target d)) k (in_target (roll-Target d)))
      (sym (fold-roll-Target Bool Bool Bool Bool Bool Bool Bool Bool Bool
      Trees.expression_form Trees.target_form Trees.statement_form Trees.suffix_form Trees.case_form Trees.field_form Trees.index_form
      Trees.range_form Trees.further_form d))
      (subst (SaidTarget (Rules.further_form (found_Target d)) (Uses.further_form (failed_Target d)) (Trees.further_form (written_Target d)))
      (sym (numbers_Target d)) h)))
