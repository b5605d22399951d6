-- Where the tables find no failure of an expression's names, each type that is written in it reads: by induction on the expression.
use Rattle.std.proofs.Common.{◌≡◌, Bool, true, ◌&&◌, [], List, ◌∷◌, ◌++◌, map, refl, sym, subst, Option, Some, None}
use Rattle.std.specs.Prelude.{is_some}
use Rattle.sail_base.specs.declared.kind.Kind.TheVariants as Sort
use Rattle.sail_syntax.specs.declared.patterns.Pat.{Pat}
use Rattle.sail_syntax.specs.declared.types.TyExp.{TyExp}
use Rattle.sail_syntax.specs.declared.expressions.Exp.{Exp, Exp-F, fold-Exp, roll-Exp}
use Rattle.sail_syntax.specs.declared.expressions.Exp.TheOpen as E
use Rattle.sail_syntax.specs.declared.expressions.Exp.TheOpen.{Case-F, FieldValue-F, Index-F, LExp-F, Range-F, Stmt-F, Suffix-F, Target-F}
use Rattle.sail_syntax.specs.declared.expressions.Exp.TheFolds.{fold-Case, fold-FieldValue, fold-Index, fold-LExp, fold-Range, fold-Stmt, fold-Suffix}
use Rattle.sail_syntax.specs.declared.expressions.Exp.TheFolds.{fold-Target, ind-Exp}
use Rattle.sail_syntax.specs.declared.expressions.Exp.TheFolds.{fold-roll-Case, fold-roll-Exp, fold-roll-FieldValue, fold-roll-Index, fold-roll-LExp}
use Rattle.sail_syntax.specs.declared.expressions.Exp.TheFolds.{fold-roll-Range, fold-roll-Stmt, fold-roll-Suffix, fold-roll-Target}
use Rattle.sail_syntax.specs.declared.expressions.Exp.TheFolds.{map-Case, map-Exp, map-FieldValue, map-Index, map-LExp, map-Range, map-Stmt}
use Rattle.sail_syntax.specs.declared.expressions.Exp.TheFolds.{map-Suffix, map-Target}
use Rattle.sail_syntax.specs.declared.expressions.LExp.{LExp, roll-LExp}
use Rattle.sail_syntax.specs.declared.expressions.Stmt.{Stmt, roll-Stmt}
use Rattle.sail_syntax.specs.declared.expressions.Suffix.{Suffix as SuffixTree, roll-Suffix}
use Rattle.sail_syntax.specs.declared.expressions.Case.{Case as CaseTree, roll-Case}
use Rattle.sail_syntax.specs.declared.expressions.FieldValue.{FieldValue, roll-FieldValue}
use Rattle.sail_syntax.specs.declared.expressions.Index.{Index, roll-Index}
use Rattle.sail_syntax.specs.declared.expressions.Range.{Range, roll-Range}
use Rattle.sail_syntax.specs.declared.expressions.Target.{Target as TargetTree, roll-Target}
use Rattle.sail_kinds.specs.Scopes.{Within}
use Rattle.sail_names.specs.Known as Tables
use Rattle.sail_names.specs.Known.{in_measure, is_callee}
use Rattle.sail_names.specs.Locals as Bound
use Rattle.sail_names.specs.Locals.{behind}
use Rattle.sail_names.specs.Patterns.{binds, clashes, pattern_failures, type_failures, unless}
use Rattle.sail_names.specs.Uses as Uses
use Rattle.sail_names.specs.Uses.{Failures}
use Rattle.shape_joins.proofs.Order.{two}
use Rattle.shape_rules.specs.Written.{typ_in}
use Rattle.shape_meanings.proofs.Folds.{OverTrees}
use Rattle.shape_meanings.proofs.Folds.{failed_Case, failed_Exp, failed_FieldValue, failed_Index, failed_LExp, failed_Range, failed_Stmt, failed_Suffix}
use Rattle.shape_meanings.proofs.Folds.{failed_Target, failed_case, failed_exp, failed_field, failed_index, failed_lexp, failed_range, failed_stmt}
use Rattle.shape_meanings.proofs.Folds.{failed_suffix, failed_target}
use Rattle.shape_meanings.proofs.Settling.{both_empty}
use Rattle.standing_cores.specs.Types as T
use Rattle.standing_cores.specs.Types.{every, types_read}
use Rattle.standing_models.proofs.Passing.{not_empty}

module _ (within : Within) (typs : (names : Tables.Setting) (typ : TyExp) → names.types ≡ within → type_failures Sort.Type typ names ≡ []
    → is_some (typ_in within typ) ≡ true) where
  -- ---- whether the types in each tree read

  abbrev reads_exp : Exp → Bool
  reads_exp = fold-Exp Bool Bool Bool Bool Bool Bool Bool Bool Bool
      (T.expression_form within) T.target_form T.statement_form T.suffix_form T.case_form T.field_form T.index_form T.range_form T.further_form

  abbrev reads_lexp : LExp → Bool
  reads_lexp = fold-LExp Bool Bool Bool Bool Bool Bool Bool Bool Bool
      (T.expression_form within) T.target_form T.statement_form T.suffix_form T.case_form T.field_form T.index_form T.range_form T.further_form

  abbrev reads_stmt : Stmt → Bool
  reads_stmt = fold-Stmt Bool Bool Bool Bool Bool Bool Bool Bool Bool
      (T.expression_form within) T.target_form T.statement_form T.suffix_form T.case_form T.field_form T.index_form T.range_form T.further_form

  abbrev reads_suffix : SuffixTree → Bool
  reads_suffix = fold-Suffix Bool Bool Bool Bool Bool Bool Bool Bool Bool
      (T.expression_form within) T.target_form T.statement_form T.suffix_form T.case_form T.field_form T.index_form T.range_form T.further_form

  abbrev reads_case : CaseTree → Bool
  reads_case = fold-Case Bool Bool Bool Bool Bool Bool Bool Bool Bool
      (T.expression_form within) T.target_form T.statement_form T.suffix_form T.case_form T.field_form T.index_form T.range_form T.further_form

  abbrev reads_field : FieldValue → Bool
  reads_field = fold-FieldValue Bool Bool Bool Bool Bool Bool Bool Bool Bool
      (T.expression_form within) T.target_form T.statement_form T.suffix_form T.case_form T.field_form T.index_form T.range_form T.further_form

  abbrev reads_index : Index → Bool
  reads_index = fold-Index Bool Bool Bool Bool Bool Bool Bool Bool Bool
      (T.expression_form within) T.target_form T.statement_form T.suffix_form T.case_form T.field_form T.index_form T.range_form T.further_form

  abbrev reads_range : Range → Bool
  reads_range = fold-Range Bool Bool Bool Bool Bool Bool Bool Bool Bool
      (T.expression_form within) T.target_form T.statement_form T.suffix_form T.case_form T.field_form T.index_form T.range_form T.further_form

  abbrev reads_target : TargetTree → Bool
  reads_target = fold-Target Bool Bool Bool Bool Bool Bool Bool Bool Bool
      (T.expression_form within) T.target_form T.statement_form T.suffix_form T.case_form T.field_form T.index_form T.range_form T.further_form

  abbrev OverReads : (Type 0 → Type 0 → Type 0 → Type 0 → Type 0 → Type 0 → Type 0 → Type 0 → Type 0 → Type 0) → Type 0
  OverReads F = F Bool Bool Bool Bool Bool Bool Bool Bool Bool

  -- ---- what is said of each tree

  abbrev Placed : (Tables.Setting → Bound.Locals → Type 0) → Bool → Type 0
  Placed named b = (names : Tables.Setting) (bound : Bound.Locals) → names.types ≡ within → named names bound → b ≡ true

  abbrev Said : Failures → Bool → Type 0
  Said f b = Placed (λ names bound. f names bound ≡ []) b

  abbrev SaidStmt : Uses.Statement → Bool → Type 0
  SaidStmt f b = Placed (λ names bound. (f names bound).failures ≡ []) b

  abbrev SaidField : Uses.Field → Bool → Type 0
  SaidField f b = Placed (λ names bound. f.value names bound ≡ []) b

  abbrev OfExp : Exp → Type 0
  OfExp x = Said (failed_exp x) (reads_exp x)

  abbrev SuchExp : Type 0
  SuchExp = (x : Exp) × OfExp x

  abbrev OfLExp : LExp → Type 0
  OfLExp x = Said (failed_lexp x) (reads_lexp x)

  abbrev SuchLExp : Type 0
  SuchLExp = (x : LExp) × OfLExp x

  abbrev OfStmt : Stmt → Type 0
  OfStmt x = SaidStmt (failed_stmt x) (reads_stmt x)

  abbrev SuchStmt : Type 0
  SuchStmt = (x : Stmt) × OfStmt x

  abbrev OfSuffix : SuffixTree → Type 0
  OfSuffix x = Said (failed_suffix x) (reads_suffix x)

  abbrev SuchSuffix : Type 0
  SuchSuffix = (x : SuffixTree) × OfSuffix x

  abbrev OfCase : CaseTree → Type 0
  OfCase x = Said (failed_case x) (reads_case x)

  abbrev SuchCase : Type 0
  SuchCase = (x : CaseTree) × OfCase x

  abbrev OfFieldValue : FieldValue → Type 0
  OfFieldValue x = SaidField (failed_field x) (reads_field x)

  abbrev SuchFieldValue : Type 0
  SuchFieldValue = (x : FieldValue) × OfFieldValue x

  abbrev OfIndex : Index → Type 0
  OfIndex x = Said (failed_index x) (reads_index x)

  abbrev SuchIndex : Type 0
  SuchIndex = (x : Index) × OfIndex x

  abbrev OfRange : Range → Type 0
  OfRange x = Said (failed_range x) (reads_range x)

  abbrev SuchRange : Type 0
  SuchRange = (x : Range) × OfRange x

  abbrev OfTarget : TargetTree → Type 0
  OfTarget x = Said (failed_target x) (reads_target x)

  abbrev SuchTarget : Type 0
  SuchTarget = (x : TargetTree) × OfTarget x

  abbrev OverSuch : (Type 0 → Type 0 → Type 0 → Type 0 → Type 0 → Type 0 → Type 0 → Type 0 → Type 0 → Type 0) → Type 0
  OverSuch F = F SuchExp SuchLExp SuchStmt SuchSuffix SuchCase SuchFieldValue SuchIndex SuchRange SuchTarget

  abbrev first_Exp : OverSuch Exp-F → OverTrees Exp-F
  first_Exp = map-Exp SuchExp SuchLExp SuchStmt SuchSuffix SuchCase SuchFieldValue SuchIndex SuchRange SuchTarget
      Exp LExp Stmt SuffixTree CaseTree FieldValue Index Range TargetTree
      (λ p. p.0) (λ p. p.0) (λ p. p.0) (λ p. p.0) (λ p. p.0) (λ p. p.0) (λ p. p.0) (λ p. p.0) (λ p. p.0)

  abbrev reads_Exp : OverTrees Exp-F → OverReads Exp-F
  reads_Exp = map-Exp Exp LExp Stmt SuffixTree CaseTree FieldValue Index Range TargetTree
      Bool Bool Bool Bool Bool Bool Bool Bool Bool
      reads_exp reads_lexp reads_stmt reads_suffix reads_case reads_field reads_index reads_range reads_target

  abbrev ExpForm : OverTrees Exp-F → Type 0
  ExpForm d = Said (Uses.expression_form (failed_Exp d)) ((T.expression_form within) (reads_Exp d))

  rolled_Exp : (d : OverTrees Exp-F) → ExpForm d → OfExp (roll-Exp d)
  rolled_Exp d h =
      subst (λ k. Said k (reads_exp (roll-Exp d)))
      (sym (fold-roll-Exp Failures Failures Uses.Statement Failures Failures Uses.Field Failures Failures Failures
      Uses.expression_form Uses.target_form Uses.statement_form Uses.suffix_form Uses.case_form Uses.field_form Uses.index_form Uses.range_form
      Uses.further_form d))
      (subst (λ k. Said (Uses.expression_form (failed_Exp d)) k)
      (sym (fold-roll-Exp Bool Bool Bool Bool Bool Bool Bool Bool Bool
      (T.expression_form within) T.target_form T.statement_form T.suffix_form T.case_form T.field_form T.index_form T.range_form T.further_form d)) h)

  abbrev first_LExp : OverSuch LExp-F → OverTrees LExp-F
  first_LExp = map-LExp SuchExp SuchLExp SuchStmt SuchSuffix SuchCase SuchFieldValue SuchIndex SuchRange SuchTarget
      Exp LExp Stmt SuffixTree CaseTree FieldValue Index Range TargetTree
      (λ p. p.0) (λ p. p.0) (λ p. p.0) (λ p. p.0) (λ p. p.0) (λ p. p.0) (λ p. p.0) (λ p. p.0) (λ p. p.0)

  abbrev reads_LExp : OverTrees LExp-F → OverReads LExp-F
  reads_LExp = map-LExp Exp LExp Stmt SuffixTree CaseTree FieldValue Index Range TargetTree
      Bool Bool Bool Bool Bool Bool Bool Bool Bool
      reads_exp reads_lexp reads_stmt reads_suffix reads_case reads_field reads_index reads_range reads_target

  abbrev LExpForm : OverTrees LExp-F → Type 0
  LExpForm d = Said (Uses.target_form (failed_LExp d)) (T.target_form (reads_LExp d))

  rolled_LExp : (d : OverTrees LExp-F) → LExpForm d → OfLExp (roll-LExp d)
  rolled_LExp d h =
      subst (λ k. Said k (reads_lexp (roll-LExp d)))
      (sym (fold-roll-LExp Failures Failures Uses.Statement Failures Failures Uses.Field Failures Failures Failures
      Uses.expression_form Uses.target_form Uses.statement_form Uses.suffix_form Uses.case_form Uses.field_form Uses.index_form Uses.range_form
      Uses.further_form d))
      (subst (λ k. Said (Uses.target_form (failed_LExp d)) k)
      (sym (fold-roll-LExp Bool Bool Bool Bool Bool Bool Bool Bool Bool
      (T.expression_form within) T.target_form T.statement_form T.suffix_form T.case_form T.field_form T.index_form T.range_form T.further_form d)) h)

  abbrev first_Stmt : OverSuch Stmt-F → OverTrees Stmt-F
  first_Stmt = map-Stmt SuchExp SuchLExp SuchStmt SuchSuffix SuchCase SuchFieldValue SuchIndex SuchRange SuchTarget
      Exp LExp Stmt SuffixTree CaseTree FieldValue Index Range TargetTree
      (λ p. p.0) (λ p. p.0) (λ p. p.0) (λ p. p.0) (λ p. p.0) (λ p. p.0) (λ p. p.0) (λ p. p.0) (λ p. p.0)

  abbrev reads_Stmt : OverTrees Stmt-F → OverReads Stmt-F
  reads_Stmt = map-Stmt Exp LExp Stmt SuffixTree CaseTree FieldValue Index Range TargetTree
      Bool Bool Bool Bool Bool Bool Bool Bool Bool
      reads_exp reads_lexp reads_stmt reads_suffix reads_case reads_field reads_index reads_range reads_target

  abbrev StmtForm : OverTrees Stmt-F → Type 0
  StmtForm d = SaidStmt (Uses.statement_form (failed_Stmt d)) (T.statement_form (reads_Stmt d))

  rolled_Stmt : (d : OverTrees Stmt-F) → StmtForm d → OfStmt (roll-Stmt d)
  rolled_Stmt d h =
      subst (λ k. SaidStmt k (reads_stmt (roll-Stmt d)))
      (sym (fold-roll-Stmt Failures Failures Uses.Statement Failures Failures Uses.Field Failures Failures Failures
      Uses.expression_form Uses.target_form Uses.statement_form Uses.suffix_form Uses.case_form Uses.field_form Uses.index_form Uses.range_form
      Uses.further_form d))
      (subst (λ k. SaidStmt (Uses.statement_form (failed_Stmt d)) k)
      (sym (fold-roll-Stmt Bool Bool Bool Bool Bool Bool Bool Bool Bool
      (T.expression_form within) T.target_form T.statement_form T.suffix_form T.case_form T.field_form T.index_form T.range_form T.further_form d)) h)

  abbrev first_Suffix : OverSuch Suffix-F → OverTrees Suffix-F
  first_Suffix = map-Suffix SuchExp SuchLExp SuchStmt SuchSuffix SuchCase SuchFieldValue SuchIndex SuchRange SuchTarget
      Exp LExp Stmt SuffixTree CaseTree FieldValue Index Range TargetTree
      (λ p. p.0) (λ p. p.0) (λ p. p.0) (λ p. p.0) (λ p. p.0) (λ p. p.0) (λ p. p.0) (λ p. p.0) (λ p. p.0)

  abbrev reads_Suffix : OverTrees Suffix-F → OverReads Suffix-F
  reads_Suffix = map-Suffix Exp LExp Stmt SuffixTree CaseTree FieldValue Index Range TargetTree
      Bool Bool Bool Bool Bool Bool Bool Bool Bool
      reads_exp reads_lexp reads_stmt reads_suffix reads_case reads_field reads_index reads_range reads_target

  abbrev SuffixForm : OverTrees Suffix-F → Type 0
  SuffixForm d = Said (Uses.suffix_form (failed_Suffix d)) (T.suffix_form (reads_Suffix d))

  rolled_Suffix : (d : OverTrees Suffix-F) → SuffixForm d → OfSuffix (roll-Suffix d)
  rolled_Suffix d h =
      subst (λ k. Said k (reads_suffix (roll-Suffix d)))
      (sym (fold-roll-Suffix Failures Failures Uses.Statement Failures Failures Uses.Field Failures Failures Failures
      Uses.expression_form Uses.target_form Uses.statement_form Uses.suffix_form Uses.case_form Uses.field_form Uses.index_form Uses.range_form
      Uses.further_form d))
      (subst (λ k. Said (Uses.suffix_form (failed_Suffix d)) k)
      (sym (fold-roll-Suffix Bool Bool Bool Bool Bool Bool Bool Bool Bool
      (T.expression_form within) T.target_form T.statement_form T.suffix_form T.case_form T.field_form T.index_form T.range_form T.further_form d)) h)

  abbrev first_Case : OverSuch Case-F → OverTrees Case-F
  first_Case = map-Case SuchExp SuchLExp SuchStmt SuchSuffix SuchCase SuchFieldValue SuchIndex SuchRange SuchTarget
      Exp LExp Stmt SuffixTree CaseTree FieldValue Index Range TargetTree
      (λ p. p.0) (λ p. p.0) (λ p. p.0) (λ p. p.0) (λ p. p.0) (λ p. p.0) (λ p. p.0) (λ p. p.0) (λ p. p.0)

  abbrev reads_Case : OverTrees Case-F → OverReads Case-F
  reads_Case = map-Case Exp LExp Stmt SuffixTree CaseTree FieldValue Index Range TargetTree
      Bool Bool Bool Bool Bool Bool Bool Bool Bool
      reads_exp reads_lexp reads_stmt reads_suffix reads_case reads_field reads_index reads_range reads_target

  abbrev CaseForm : OverTrees Case-F → Type 0
  CaseForm d = Said (Uses.case_form (failed_Case d)) (T.case_form (reads_Case d))

  rolled_Case : (d : OverTrees Case-F) → CaseForm d → OfCase (roll-Case d)
  rolled_Case d h =
      subst (λ k. Said k (reads_case (roll-Case d)))
      (sym (fold-roll-Case Failures Failures Uses.Statement Failures Failures Uses.Field Failures Failures Failures
      Uses.expression_form Uses.target_form Uses.statement_form Uses.suffix_form Uses.case_form Uses.field_form Uses.index_form Uses.range_form
      Uses.further_form d))
      (subst (λ k. Said (Uses.case_form (failed_Case d)) k)
      (sym (fold-roll-Case Bool Bool Bool Bool Bool Bool Bool Bool Bool
      (T.expression_form within) T.target_form T.statement_form T.suffix_form T.case_form T.field_form T.index_form T.range_form T.further_form d)) h)

  abbrev first_FieldValue : OverSuch FieldValue-F → OverTrees FieldValue-F
  first_FieldValue = map-FieldValue SuchExp SuchLExp SuchStmt SuchSuffix SuchCase SuchFieldValue SuchIndex SuchRange SuchTarget
      Exp LExp Stmt SuffixTree CaseTree FieldValue Index Range TargetTree
      (λ p. p.0) (λ p. p.0) (λ p. p.0) (λ p. p.0) (λ p. p.0) (λ p. p.0) (λ p. p.0) (λ p. p.0) (λ p. p.0)

  abbrev reads_FieldValue : OverTrees FieldValue-F → OverReads FieldValue-F
  reads_FieldValue = map-FieldValue Exp LExp Stmt SuffixTree CaseTree FieldValue Index Range TargetTree
      Bool Bool Bool Bool Bool Bool Bool Bool Bool
      reads_exp reads_lexp reads_stmt reads_suffix reads_case reads_field reads_index reads_range reads_target

  abbrev FieldValueForm : OverTrees FieldValue-F → Type 0
  FieldValueForm d = SaidField (Uses.field_form (failed_FieldValue d)) (T.field_form (reads_FieldValue d))

  rolled_FieldValue : (d : OverTrees FieldValue-F) → FieldValueForm d → OfFieldValue (roll-FieldValue d)
  rolled_FieldValue d h =
      subst (λ k. SaidField k (reads_field (roll-FieldValue d)))
      (sym (fold-roll-FieldValue Failures Failures Uses.Statement Failures Failures Uses.Field Failures Failures Failures
      Uses.expression_form Uses.target_form Uses.statement_form Uses.suffix_form Uses.case_form Uses.field_form Uses.index_form Uses.range_form
      Uses.further_form d))
      (subst (λ k. SaidField (Uses.field_form (failed_FieldValue d)) k)
      (sym (fold-roll-FieldValue Bool Bool Bool Bool Bool Bool Bool Bool Bool
      (T.expression_form within) T.target_form T.statement_form T.suffix_form T.case_form T.field_form T.index_form T.range_form T.further_form d)) h)

  abbrev first_Index : OverSuch Index-F → OverTrees Index-F
  first_Index = map-Index SuchExp SuchLExp SuchStmt SuchSuffix SuchCase SuchFieldValue SuchIndex SuchRange SuchTarget
      Exp LExp Stmt SuffixTree CaseTree FieldValue Index Range TargetTree
      (λ p. p.0) (λ p. p.0) (λ p. p.0) (λ p. p.0) (λ p. p.0) (λ p. p.0) (λ p. p.0) (λ p. p.0) (λ p. p.0)

  abbrev reads_Index : OverTrees Index-F → OverReads Index-F
  reads_Index = map-Index Exp LExp Stmt SuffixTree CaseTree FieldValue Index Range TargetTree
      Bool Bool Bool Bool Bool Bool Bool Bool Bool
      reads_exp reads_lexp reads_stmt reads_suffix reads_case reads_field reads_index reads_range reads_target

  abbrev IndexForm : OverTrees Index-F → Type 0
  IndexForm d = Said (Uses.index_form (failed_Index d)) (T.index_form (reads_Index d))

  rolled_Index : (d : OverTrees Index-F) → IndexForm d → OfIndex (roll-Index d)
  rolled_Index d h =
      subst (λ k. Said k (reads_index (roll-Index d)))
      (sym (fold-roll-Index Failures Failures Uses.Statement Failures Failures Uses.Field Failures Failures Failures
      Uses.expression_form Uses.target_form Uses.statement_form Uses.suffix_form Uses.case_form Uses.field_form Uses.index_form Uses.range_form
      Uses.further_form d))
      (subst (λ k. Said (Uses.index_form (failed_Index d)) k)
      (sym (fold-roll-Index Bool Bool Bool Bool Bool Bool Bool Bool Bool
      (T.expression_form within) T.target_form T.statement_form T.suffix_form T.case_form T.field_form T.index_form T.range_form T.further_form d)) h)

  abbrev first_Range : OverSuch Range-F → OverTrees Range-F
  first_Range = map-Range SuchExp SuchLExp SuchStmt SuchSuffix SuchCase SuchFieldValue SuchIndex SuchRange SuchTarget
      Exp LExp Stmt SuffixTree CaseTree FieldValue Index Range TargetTree
      (λ p. p.0) (λ p. p.0) (λ p. p.0) (λ p. p.0) (λ p. p.0) (λ p. p.0) (λ p. p.0) (λ p. p.0) (λ p. p.0)

  abbrev reads_Range : OverTrees Range-F → OverReads Range-F
  reads_Range = map-Range Exp LExp Stmt SuffixTree CaseTree FieldValue Index Range TargetTree
      Bool Bool Bool Bool Bool Bool Bool Bool Bool
      reads_exp reads_lexp reads_stmt reads_suffix reads_case reads_field reads_index reads_range reads_target

  abbrev RangeForm : OverTrees Range-F → Type 0
  RangeForm d = Said (Uses.range_form (failed_Range d)) (T.range_form (reads_Range d))

  rolled_Range : (d : OverTrees Range-F) → RangeForm d → OfRange (roll-Range d)
  rolled_Range d h =
      subst (λ k. Said k (reads_range (roll-Range d)))
      (sym (fold-roll-Range Failures Failures Uses.Statement Failures Failures Uses.Field Failures Failures Failures
      Uses.expression_form Uses.target_form Uses.statement_form Uses.suffix_form Uses.case_form Uses.field_form Uses.index_form Uses.range_form
      Uses.further_form d))
      (subst (λ k. Said (Uses.range_form (failed_Range d)) k)
      (sym (fold-roll-Range Bool Bool Bool Bool Bool Bool Bool Bool Bool
      (T.expression_form within) T.target_form T.statement_form T.suffix_form T.case_form T.field_form T.index_form T.range_form T.further_form d)) h)

  abbrev first_Target : OverSuch Target-F → OverTrees Target-F
  first_Target = map-Target SuchExp SuchLExp SuchStmt SuchSuffix SuchCase SuchFieldValue SuchIndex SuchRange SuchTarget
      Exp LExp Stmt SuffixTree CaseTree FieldValue Index Range TargetTree
      (λ p. p.0) (λ p. p.0) (λ p. p.0) (λ p. p.0) (λ p. p.0) (λ p. p.0) (λ p. p.0) (λ p. p.0) (λ p. p.0)

  abbrev reads_Target : OverTrees Target-F → OverReads Target-F
  reads_Target = map-Target Exp LExp Stmt SuffixTree CaseTree FieldValue Index Range TargetTree
      Bool Bool Bool Bool Bool Bool Bool Bool Bool
      reads_exp reads_lexp reads_stmt reads_suffix reads_case reads_field reads_index reads_range reads_target

  abbrev TargetForm : OverTrees Target-F → Type 0
  TargetForm d = Said (Uses.further_form (failed_Target d)) (T.further_form (reads_Target d))

  rolled_Target : (d : OverTrees Target-F) → TargetForm d → OfTarget (roll-Target d)
  rolled_Target d h =
      subst (λ k. Said k (reads_target (roll-Target d)))
      (sym (fold-roll-Target Failures Failures Uses.Statement Failures Failures Uses.Field Failures Failures Failures
      Uses.expression_form Uses.target_form Uses.statement_form Uses.suffix_form Uses.case_form Uses.field_form Uses.index_form Uses.range_form
      Uses.further_form d))
      (subst (λ k. Said (Uses.further_form (failed_Target d)) k)
      (sym (fold-roll-Target Bool Bool Bool Bool Bool Bool Bool Bool Bool
      (T.expression_form within) T.target_form T.statement_form T.suffix_form T.case_form T.field_form T.index_form T.range_form T.further_form d)) h)

  -- ---- parts in a list

  abbrev exps : List SuchExp → List Exp
  exps ys = map (λ (p : SuchExp). p.0) ys

  each_exp : (ys : List SuchExp) → Said (Uses.each (map failed_exp (exps ys))) (every (map reads_exp (exps ys)))
  each_exp [] names bound is u = refl
  each_exp (y ∷ ys) names bound is u =
      let h = both_empty (failed_exp y.0 names bound) (Uses.each (map failed_exp (exps ys)) names bound) u in
      two (reads_exp y.0) (every (map reads_exp (exps ys))) (y.1 names bound is h.0) (each_exp ys names bound is h.1)

  abbrev suffixes : List SuchSuffix → List SuffixTree
  suffixes ys = map (λ (p : SuchSuffix). p.0) ys

  each_suffix : (ys : List SuchSuffix) → Said (Uses.each (map failed_suffix (suffixes ys))) (every (map reads_suffix (suffixes ys)))
  each_suffix [] names bound is u = refl
  each_suffix (y ∷ ys) names bound is u =
      let h = both_empty (failed_suffix y.0 names bound) (Uses.each (map failed_suffix (suffixes ys)) names bound) u in
      two (reads_suffix y.0) (every (map reads_suffix (suffixes ys))) (y.1 names bound is h.0) (each_suffix ys names bound is h.1)

  abbrev cases : List SuchCase → List CaseTree
  cases ys = map (λ (p : SuchCase). p.0) ys

  each_case : (ys : List SuchCase) → Said (Uses.each (map failed_case (cases ys))) (every (map reads_case (cases ys)))
  each_case [] names bound is u = refl
  each_case (y ∷ ys) names bound is u =
      let h = both_empty (failed_case y.0 names bound) (Uses.each (map failed_case (cases ys)) names bound) u in
      two (reads_case y.0) (every (map reads_case (cases ys))) (y.1 names bound is h.0) (each_case ys names bound is h.1)

  abbrev targets : List SuchLExp → List LExp
  targets ys = map (λ (p : SuchLExp). p.0) ys

  each_lexp : (ys : List SuchLExp) → Said (Uses.each (map failed_lexp (targets ys))) (every (map reads_lexp (targets ys)))
  each_lexp [] names bound is u = refl
  each_lexp (y ∷ ys) names bound is u =
      let h = both_empty (failed_lexp y.0 names bound) (Uses.each (map failed_lexp (targets ys)) names bound) u in
      two (reads_lexp y.0) (every (map reads_lexp (targets ys))) (y.1 names bound is h.0) (each_lexp ys names bound is h.1)

  abbrev furthers : List SuchTarget → List TargetTree
  furthers ys = map (λ (p : SuchTarget). p.0) ys

  each_target : (ys : List SuchTarget) → Said (Uses.each (map failed_target (furthers ys))) (every (map reads_target (furthers ys)))
  each_target [] names bound is u = refl
  each_target (y ∷ ys) names bound is u =
      let h = both_empty (failed_target y.0 names bound) (Uses.each (map failed_target (furthers ys)) names bound) u in
      two (reads_target y.0) (every (map reads_target (furthers ys))) (y.1 names bound is h.0) (each_target ys names bound is h.1)

  abbrev fields : List SuchFieldValue → List FieldValue
  fields ys = map (λ (p : SuchFieldValue). p.0) ys

  each_field : (ys : List SuchFieldValue) → Said (Uses.fields_failures (map failed_field (fields ys))) (every (map reads_field (fields ys)))
  each_field [] names bound is u = refl
  each_field (y ∷ ys) names bound is u =
      let field = failed_field y.0 in
      let h = both_empty (Uses.field_failures names field.name ++ field.value names bound)
      (Uses.fields_failures (map failed_field (fields ys)) names bound) u in
      let k = both_empty (Uses.field_failures names field.name) (field.value names bound) h.0 in
      two (reads_field y.0) (every (map reads_field (fields ys))) (y.1 names bound is k.1) (each_field ys names bound is h.1)

  abbrev stmts : List SuchStmt → List Stmt
  stmts ys = map (λ (p : SuchStmt). p.0) ys

  each_stmt : (ys : List SuchStmt) → SaidStmt (Uses.steps (map failed_stmt (stmts ys))) (every (map reads_stmt (stmts ys)))
  each_stmt [] names bound is u = refl
  each_stmt (y ∷ ys) names bound is u =
      let step = failed_stmt y.0 names bound in
      let h = both_empty step.failures (Uses.steps (map failed_stmt (stmts ys)) names step.locals).failures u in
      two (reads_stmt y.0) (every (map reads_stmt (stmts ys))) (y.1 names bound is h.0) (each_stmt ys names step.locals is h.1)

  -- ---- forms

  again : (y : OverSuch Exp-F) → ExpForm (first_Exp y)
  again (E.Constant place literal) names bound is u = refl
  again (E.Variable name) names bound is u = refl
  again (E.Call name ys) names bound is u =
      each_exp ys names bound is (both_empty (unless (is_callee names name.text) name) (Uses.each (map failed_exp (exps ys)) names bound) u).1
  again (E.Prefixed place prefix a) names bound is u = a.1 names bound is u
  again (E.Infix place operator a b) names bound is u =
      let h = both_empty (failed_exp a.0 names bound) (failed_exp b.0 names bound) u in
      two (reads_exp a.0) (reads_exp b.0) (a.1 names bound is h.0) (b.1 names bound is h.1)
  again (E.Leave place leaving a) names bound is u =
      a.1 names bound is (both_empty (Uses.leave_failures names place leaving) (failed_exp a.0 names bound) u).1
  again (E.Group place brackets ys) names bound is u = each_exp ys names bound is u
  again (E.Part place a ys) names bound is u =
      let h = both_empty (failed_exp a.0 names bound) (Uses.each (map failed_suffix (suffixes ys)) names bound) u in
      two (reads_exp a.0) (every (map reads_suffix (suffixes ys))) (a.1 names bound is h.0) (each_suffix ys names bound is h.1)
  again (E.Typed place a typ) names bound is u =
      let h = both_empty (failed_exp a.0 names bound) (type_failures Sort.Type typ names) u in
      two (is_some (typ_in within typ)) (reads_exp a.0) (typs names typ is h.1) (a.1 names bound is h.0)
  again (E.Assign place target more a) names bound is u =
      let h = both_empty (failed_lexp target.0 names bound ++ Uses.each (map failed_target (furthers more)) names bound) (failed_exp a.0 names bound) u in
      let k = both_empty (failed_lexp target.0 names bound) (Uses.each (map failed_target (furthers more)) names bound) h.0 in
      two (reads_lexp target.0 && every (map reads_target (furthers more))) (reads_exp a.0)
      (two (reads_lexp target.0) (every (map reads_target (furthers more))) (target.1 names bound is k.0) (each_target more names bound is k.1))
      (a.1 names bound is h.1)
  again (E.Block place ss None) names bound is u =
      let h = both_empty (Uses.steps (map failed_stmt (stmts ss)) names bound).failures [] u in
      two (every (map reads_stmt (stmts ss))) true (each_stmt ss names bound is h.0) refl
  again (E.Block place ss (Some a)) names bound is u =
      let steps = Uses.steps (map failed_stmt (stmts ss)) names bound in
      let h = both_empty steps.failures (failed_exp a.0 names steps.locals) u in
      two (every (map reads_stmt (stmts ss))) (reads_exp a.0) (each_stmt ss names bound is h.0) (a.1 names steps.locals is h.1)
  again (E.Let place pattern a b) names bound is u =
      let inner = behind (binds names.known pattern) bound in
      let h = both_empty (failed_exp a.0 names bound ++ pattern_failures names pattern) (failed_exp b.0 names inner) u in
      let k = both_empty (failed_exp a.0 names bound) (pattern_failures names pattern) h.0 in
      two (reads_exp a.0) (reads_exp b.0) (a.1 names bound is k.0) (b.1 names inner is h.1)
  again (E.Var place name typ a b) names bound is u =
      let inner = Bound.variable name ∷ bound in
      let h = both_empty (Uses.maybe_type typ names ++ failed_exp a.0 names bound) (failed_exp b.0 names inner) u in
      let k = both_empty (Uses.maybe_type typ names) (failed_exp a.0 names bound) h.0 in
      two (reads_exp a.0) (reads_exp b.0) (a.1 names bound is k.1) (b.1 names inner is h.1)
  again (E.If place a b None) names bound is u =
      let h = both_empty (failed_exp a.0 names bound ++ failed_exp b.0 names bound) [] u in
      let k = both_empty (failed_exp a.0 names bound) (failed_exp b.0 names bound) h.0 in
      two (reads_exp a.0 && reads_exp b.0) true (two (reads_exp a.0) (reads_exp b.0) (a.1 names bound is k.0) (b.1 names bound is k.1)) refl
  again (E.If place a b (Some c)) names bound is u =
      let h = both_empty (failed_exp a.0 names bound ++ failed_exp b.0 names bound) (failed_exp c.0 names bound) u in
      let k = both_empty (failed_exp a.0 names bound) (failed_exp b.0 names bound) h.0 in
      two (reads_exp a.0 && reads_exp b.0) (reads_exp c.0) (two (reads_exp a.0) (reads_exp b.0) (a.1 names bound is k.0) (b.1 names bound is k.1))
      (c.1 names bound is h.1)
  again (E.Choose place choosing a ys) names bound is u =
      let h = both_empty (failed_exp a.0 names bound) (Uses.each (map failed_case (cases ys)) names bound) u in
      two (reads_exp a.0) (every (map reads_case (cases ys))) (a.1 names bound is h.0) (each_case ys names bound is h.1)
  again (E.Foreach place name range a) names bound is u =
      let inner = Bound.constant name ∷ bound in
      let h = both_empty (failed_range range.0 names bound) (failed_exp a.0 names inner) u in
      two (reads_range range.0) (reads_exp a.0) (range.1 names bound is h.0) (a.1 names inner is h.1)
  again (E.Loop place looping None a b) names bound is u = not_empty u
  again (E.Loop place looping (Some m) a b) names bound is u =
      let h = both_empty (failed_exp m.0 (in_measure names) bound ++ failed_exp a.0 names bound) (failed_exp b.0 names bound) u in
      let k = both_empty (failed_exp m.0 (in_measure names) bound) (failed_exp a.0 names bound) h.0 in
      two (reads_exp m.0 && reads_exp a.0) (reads_exp b.0)
      (two (reads_exp m.0) (reads_exp a.0) (m.1 (in_measure names) bound is k.0) (a.1 names bound is k.1)) (b.1 names bound is h.1)
  again (E.Update place a i b) names bound is u =
      let h = both_empty (failed_exp a.0 names bound ++ failed_index i.0 names bound) (failed_exp b.0 names bound) u in
      let k = both_empty (failed_exp a.0 names bound) (failed_index i.0 names bound) h.0 in
      two (reads_exp a.0 && reads_index i.0) (reads_exp b.0) (two (reads_exp a.0) (reads_index i.0) (a.1 names bound is k.0) (i.1 names bound is k.1))
      (b.1 names bound is h.1)
  again (E.Struct place name ys) names bound is u =
      each_field ys names bound is (both_empty (Uses.struct_failures names name ++ clashes (Uses.named (map failed_field (fields ys))))
      (Uses.fields_failures (map failed_field (fields ys)) names bound) u).1
  again (E.With place a ys) names bound is u =
      let ns = Uses.named (map failed_field (fields ys)) in
      let h = both_empty (failed_exp a.0 names bound ++ clashes ns) (Uses.fields_failures (map failed_field (fields ys)) names bound) u in
      let k = both_empty (failed_exp a.0 names bound) (clashes ns) h.0 in
      two (reads_exp a.0) (every (map reads_field (fields ys))) (a.1 names bound is k.0) (each_field ys names bound is h.1)
  again (E.OfType place asking typ) names bound is u = refl
  again (E.Assert place a text) names bound is u = a.1 names bound is u

  target_again : (y : OverSuch LExp-F) → LExpForm (first_LExp y)
  target_again (E.ToName name) names bound is u = refl
  target_again (E.ToCall name ys) names bound is u =
      each_exp ys names bound is (both_empty (unless (is_callee names name.text) name) (Uses.each (map failed_exp (exps ys)) names bound) u).1
  target_again (E.ToTuple place ys) names bound is u = each_lexp ys names bound is u
  target_again (E.ToPart place t ys) names bound is u =
      let h = both_empty (failed_lexp t.0 names bound) (Uses.each (map failed_suffix (suffixes ys)) names bound) u in
      two (reads_lexp t.0) (every (map reads_suffix (suffixes ys))) (t.1 names bound is h.0) (each_suffix ys names bound is h.1)

  statement_again : (y : OverSuch Stmt-F) → StmtForm (first_Stmt y)
  statement_again (E.Evaluate a) names bound is u = a.1 names bound is u
  statement_again (E.Define place pattern a) names bound is u =
      a.1 names bound is (both_empty (failed_exp a.0 names bound) (pattern_failures names pattern) u).0
  statement_again (E.Declare place name typ a) names bound is u =
      a.1 names bound is (both_empty (Uses.maybe_type typ names) (failed_exp a.0 names bound) u).1

  suffix_again : (y : OverSuch Suffix-F) → SuffixForm (first_Suffix y)
  suffix_again (E.Field name) names bound is u = refl
  suffix_again (E.At place i) names bound is u = i.1 names bound is u

  case_by : (pattern : Pat) (guard : Option SuchExp) (body : SuchExp) → CaseForm (first_Case (record { pattern = pattern; guard = guard; body = body }))
  case_by pattern None body names bound is u =
      let inner = behind (binds names.known pattern) bound in
      body.1 names inner is (both_empty (pattern_failures names pattern ++ []) (failed_exp body.0 names inner) u).1
  case_by pattern (Some guard) body names bound is u =
      let inner = behind (binds names.known pattern) bound in
      let h = both_empty (pattern_failures names pattern ++ failed_exp guard.0 names inner) (failed_exp body.0 names inner) u in
      let k = both_empty (pattern_failures names pattern) (failed_exp guard.0 names inner) h.0 in
      two (reads_exp guard.0) (reads_exp body.0) (guard.1 names inner is k.1) (body.1 names inner is h.1)

  index_by : (first : SuchExp) (last : Option SuchExp) → IndexForm (first_Index (record { first = first; last = last }))
  index_by first None names bound is u =
      two (reads_exp first.0) true (first.1 names bound is (both_empty (failed_exp first.0 names bound) [] u).0) refl
  index_by first (Some last) names bound is u =
      let h = both_empty (failed_exp first.0 names bound) (failed_exp last.0 names bound) u in
      two (reads_exp first.0) (reads_exp last.0) (first.1 names bound is h.0) (last.1 names bound is h.1)

  range_by : (from to : SuchExp) (by : Option SuchExp) (direction : _)
      → RangeForm (first_Range (record { from = from; to = to; by = by; direction = direction }))
  range_by from to None direction names bound is u =
      let h = both_empty (failed_exp from.0 names bound ++ failed_exp to.0 names bound) [] u in
      let k = both_empty (failed_exp from.0 names bound) (failed_exp to.0 names bound) h.0 in
      two (reads_exp from.0 && reads_exp to.0) true (two (reads_exp from.0) (reads_exp to.0) (from.1 names bound is k.0) (to.1 names bound is k.1)) refl
  range_by from to (Some by) direction names bound is u =
      let h = both_empty (failed_exp from.0 names bound ++ failed_exp to.0 names bound) (failed_exp by.0 names bound) u in
      let k = both_empty (failed_exp from.0 names bound) (failed_exp to.0 names bound) h.0 in
      two (reads_exp from.0 && reads_exp to.0) (reads_exp by.0)
      (two (reads_exp from.0) (reads_exp to.0) (from.1 names bound is k.0) (to.1 names bound is k.1)) (by.1 names bound is h.1)

  -- ---- the trees

  each_reads : (e : Exp) → OfExp e
  each_reads = ind-Exp OfExp OfLExp OfStmt OfSuffix OfCase OfFieldValue OfIndex OfRange OfTarget
      (λ e y is. subst (λ d. OfExp (roll-Exp d)) is (rolled_Exp (first_Exp y) (again y)))
      (λ e y is. subst (λ d. OfLExp (roll-LExp d)) is (rolled_LExp (first_LExp y) (target_again y)))
      (λ e y is. subst (λ d. OfStmt (roll-Stmt d)) is (rolled_Stmt (first_Stmt y) (statement_again y)))
      (λ e y is. subst (λ d. OfSuffix (roll-Suffix d)) is (rolled_Suffix (first_Suffix y) (suffix_again y)))
      (λ e y is. subst (λ d. OfCase (roll-Case d)) is (rolled_Case (first_Case y) (case_by y.pattern y.guard y.body)))
      (λ e y is. subst (λ d. OfFieldValue (roll-FieldValue d)) is
      (rolled_FieldValue (first_FieldValue y) (λ names bound same u. y.value.1 names bound same u)))
      (λ e y is. subst (λ d. OfIndex (roll-Index d)) is (rolled_Index (first_Index y) (index_by y.first y.last)))
      (λ e y is. subst (λ d. OfRange (roll-Range d)) is (rolled_Range (first_Range y) (range_by y.from y.to y.by y.direction)))
      (λ e y is. subst (λ d. OfTarget (roll-Target d)) is (rolled_Target (first_Target y) (λ names bound same u. y.to.1 names bound same u)))

  pub found_reads : (e : Exp) (names : Tables.Setting) (bound : Bound.Locals) → names.types ≡ within → Uses.expression_failures e names bound ≡ []
      → types_read within e ≡ true
  found_reads e names bound is u = each_reads e names bound is u
