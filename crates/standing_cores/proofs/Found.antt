-- What is found of an expression stands right, where each type in it reads: by induction on the expression.
use Rattle.std.proofs.Common.{◌≡◌, Bool, true, ◌&&◌, List, [], ◌∷◌, map, sym, subst, Option, Some, None}
use Rattle.std.proofs.lemmas.Bool.{and_parts}
use Rattle.std.specs.Prelude.{is_some}
use Rattle.sail_syntax.specs.declared.words.Choosing.TheVariants.{Match, Try}
use Rattle.sail_syntax.specs.declared.expressions.Exp.{Exp, Exp-F, fold-Exp, roll-Exp}
use Rattle.sail_syntax.specs.declared.expressions.Exp.TheOpen as E
use Rattle.sail_syntax.specs.declared.expressions.Exp.TheOpen.{Case-F, FieldValue-F, Index-F, LExp-F, Range-F, Stmt-F, Suffix-F, Target-F}
use Rattle.sail_syntax.specs.declared.expressions.Exp.TheFolds.{fold-Case, fold-FieldValue, fold-Index, fold-LExp, fold-Range, fold-Stmt, fold-Suffix}
use Rattle.sail_syntax.specs.declared.expressions.Exp.TheFolds.{fold-Target}
use Rattle.sail_syntax.specs.declared.expressions.Exp.TheFolds.{fold-roll-Case, fold-roll-Exp, fold-roll-FieldValue, fold-roll-Index, fold-roll-LExp}
use Rattle.sail_syntax.specs.declared.expressions.Exp.TheFolds.{fold-roll-Range, fold-roll-Stmt, fold-roll-Suffix, fold-roll-Target}
use Rattle.sail_syntax.specs.declared.expressions.Exp.TheFolds.{ind-Exp, map-Case, map-Exp, map-FieldValue, map-Index, map-LExp, map-Range, map-Stmt}
use Rattle.sail_syntax.specs.declared.expressions.Exp.TheFolds.{map-Suffix, map-Target}
use Rattle.sail_syntax.specs.declared.expressions.LExp.{LExp, roll-LExp}
use Rattle.sail_syntax.specs.declared.expressions.Stmt.{Stmt, roll-Stmt}
use Rattle.sail_syntax.specs.declared.expressions.Suffix.{Suffix as SuffixTree, roll-Suffix}
use Rattle.sail_syntax.specs.declared.expressions.Case.{Case as CaseTree, roll-Case}
use Rattle.sail_syntax.specs.declared.expressions.FieldValue.{FieldValue, roll-FieldValue}
use Rattle.sail_syntax.specs.declared.expressions.Index.{Index, roll-Index}
use Rattle.sail_syntax.specs.declared.expressions.Range.{Range, roll-Range}
use Rattle.sail_syntax.specs.declared.expressions.Target.{Target as TargetTree, roll-Target}
use Rattle.shape_rules.specs.Expressions as Rules
use Rattle.shape_rules.specs.Scopes.{local_of}
use Rattle.shape_rules.specs.Statements.{CasePart, FurtherPart, RangePart, StatementPart}
use Rattle.shape_rules.specs.Targets.{IndexPart, Part, SuffixPart, TargetPart, elaborations, read_aimed}
use Rattle.shape_rules.specs.Values.{FieldPart}
use Rattle.sail_kinds.specs.Scopes.{Within}
use Rattle.shape_rules.specs.Written.{typ_in}
use Rattle.shape_meanings.proofs.Folds.{OverTrees}
use Rattle.shape_meanings.proofs.Folds.{found_Case, found_Exp, found_FieldValue, found_Index, found_LExp, found_Range, found_Stmt, found_Suffix, found_Target}
use Rattle.shape_meanings.proofs.Folds.{found_case, found_exp, found_field, found_index, found_lexp, found_range, found_stmt, found_suffix, found_target}
use Rattle.standing_cores.specs.Laws.{FoundCoresStand}
use Rattle.standing_cores.specs.Places.{StandsRight}
use Rattle.standing_cores.specs.Types as T
use Rattle.standing_cores.specs.Types.{every}
use Rattle.standing_cores.proofs.Assigned.{FurthersFine, TargetFine, TargetsFine, assign_fine, call_fine, each_fine, name_fine as name_aim_fine, read_fine}
use Rattle.standing_cores.proofs.Forms.{CaseFine, CasesFine, FieldsFine, IndexFine, PartsFine, SuffixFine, SuffixesFine, also_fine, cast_bound}
use Rattle.standing_cores.proofs.Forms.{constant_fine, els_fine, group_fine, index_fine, infix_fine, name_fine, named_fine, of_type_fine, part_fine}
use Rattle.standing_cores.proofs.Forms.{prefix_fine, structs_fine, typed_fine, update_fine, walked_fine, with_fine}
use Rattle.standing_cores.proofs.Steps.{RangeFine, StatementFine, StatementsFine, assert_fine, block_fine, evaluated_fine, foreach_fine, if_fine}
use Rattle.standing_cores.proofs.Steps.{leave_fine, let_fine, loop_fine, match_fine, try_fine, var_fine}

module _ (within : Within) where
  -- ---- whether the types in each tree read

  abbrev reads_exp : Exp → Bool
  reads_exp = fold-Exp Bool Bool Bool Bool Bool Bool Bool Bool Bool
      (T.expression_form within) T.target_form T.statement_form T.suffix_form T.case_form T.field_form T.index_form T.range_form T.further_form

  abbrev reads_lexp : LExp → Bool
  reads_lexp = fold-LExp Bool Bool Bool Bool Bool Bool Bool Bool Bool
      (T.expression_form within) T.target_form T.statement_form T.suffix_form T.case_form T.field_form T.index_form T.range_form T.further_form

  abbrev reads_stmt : Stmt → Bool
  reads_stmt = fold-Stmt Bool Bool Bool Bool Bool Bool Bool Bool Bool
      (T.expression_form within) T.target_form T.statement_form T.suffix_form T.case_form T.field_form T.index_form T.range_form T.further_form

  abbrev reads_suffix : SuffixTree → Bool
  reads_suffix = fold-Suffix Bool Bool Bool Bool Bool Bool Bool Bool Bool
      (T.expression_form within) T.target_form T.statement_form T.suffix_form T.case_form T.field_form T.index_form T.range_form T.further_form

  abbrev reads_case : CaseTree → Bool
  reads_case = fold-Case Bool Bool Bool Bool Bool Bool Bool Bool Bool
      (T.expression_form within) T.target_form T.statement_form T.suffix_form T.case_form T.field_form T.index_form T.range_form T.further_form

  abbrev reads_field : FieldValue → Bool
  reads_field = fold-FieldValue Bool Bool Bool Bool Bool Bool Bool Bool Bool
      (T.expression_form within) T.target_form T.statement_form T.suffix_form T.case_form T.field_form T.index_form T.range_form T.further_form

  abbrev reads_index : Index → Bool
  reads_index = fold-Index Bool Bool Bool Bool Bool Bool Bool Bool Bool
      (T.expression_form within) T.target_form T.statement_form T.suffix_form T.case_form T.field_form T.index_form T.range_form T.further_form

  abbrev reads_range : Range → Bool
  reads_range = fold-Range Bool Bool Bool Bool Bool Bool Bool Bool Bool
      (T.expression_form within) T.target_form T.statement_form T.suffix_form T.case_form T.field_form T.index_form T.range_form T.further_form

  abbrev reads_target : TargetTree → Bool
  reads_target = fold-Target Bool Bool Bool Bool Bool Bool Bool Bool Bool
      (T.expression_form within) T.target_form T.statement_form T.suffix_form T.case_form T.field_form T.index_form T.range_form T.further_form

  -- ---- what is said of each tree

  abbrev SaidExp : Part → Bool → Type 0
  SaidExp k b = b ≡ true → StandsRight within k.elaborate

  abbrev OfExp : Exp → Type 0
  OfExp x = SaidExp (found_exp x) (reads_exp x)

  abbrev SuchExp : Type 0
  SuchExp = (x : Exp) × OfExp x

  abbrev SaidLExp : TargetPart → Bool → Type 0
  SaidLExp k b = b ≡ true → TargetFine within k

  abbrev OfLExp : LExp → Type 0
  OfLExp x = SaidLExp (found_lexp x) (reads_lexp x)

  abbrev SuchLExp : Type 0
  SuchLExp = (x : LExp) × OfLExp x

  abbrev SaidStmt : StatementPart → Bool → Type 0
  SaidStmt k b = b ≡ true → StatementFine within k

  abbrev OfStmt : Stmt → Type 0
  OfStmt x = SaidStmt (found_stmt x) (reads_stmt x)

  abbrev SuchStmt : Type 0
  SuchStmt = (x : Stmt) × OfStmt x

  abbrev SaidSuffix : SuffixPart → Bool → Type 0
  SaidSuffix k b = b ≡ true → SuffixFine within k

  abbrev OfSuffix : SuffixTree → Type 0
  OfSuffix x = SaidSuffix (found_suffix x) (reads_suffix x)

  abbrev SuchSuffix : Type 0
  SuchSuffix = (x : SuffixTree) × OfSuffix x

  abbrev SaidCase : CasePart → Bool → Type 0
  SaidCase k b = b ≡ true → CaseFine within k

  abbrev OfCase : CaseTree → Type 0
  OfCase x = SaidCase (found_case x) (reads_case x)

  abbrev SuchCase : Type 0
  SuchCase = (x : CaseTree) × OfCase x

  abbrev SaidFieldValue : FieldPart → Bool → Type 0
  SaidFieldValue k b = b ≡ true → StandsRight within k.value.elaborate

  abbrev OfFieldValue : FieldValue → Type 0
  OfFieldValue x = SaidFieldValue (found_field x) (reads_field x)

  abbrev SuchFieldValue : Type 0
  SuchFieldValue = (x : FieldValue) × OfFieldValue x

  abbrev SaidIndex : IndexPart → Bool → Type 0
  SaidIndex k b = b ≡ true → IndexFine within k

  abbrev OfIndex : Index → Type 0
  OfIndex x = SaidIndex (found_index x) (reads_index x)

  abbrev SuchIndex : Type 0
  SuchIndex = (x : Index) × OfIndex x

  abbrev SaidRange : RangePart → Bool → Type 0
  SaidRange k b = b ≡ true → RangeFine within k

  abbrev OfRange : Range → Type 0
  OfRange x = SaidRange (found_range x) (reads_range x)

  abbrev SuchRange : Type 0
  SuchRange = (x : Range) × OfRange x

  abbrev SaidTarget : FurtherPart → Bool → Type 0
  SaidTarget k b = b ≡ true → TargetFine within k.to

  abbrev OfTarget : TargetTree → Type 0
  OfTarget x = SaidTarget (found_target x) (reads_target x)

  abbrev SuchTarget : Type 0
  SuchTarget = (x : TargetTree) × OfTarget x

  abbrev OverSuch : (Type 0 → Type 0 → Type 0 → Type 0 → Type 0 → Type 0 → Type 0 → Type 0 → Type 0 → Type 0) → Type 0
  OverSuch F = F SuchExp SuchLExp SuchStmt SuchSuffix SuchCase SuchFieldValue SuchIndex SuchRange SuchTarget

  abbrev OverReads : (Type 0 → Type 0 → Type 0 → Type 0 → Type 0 → Type 0 → Type 0 → Type 0 → Type 0 → Type 0) → Type 0
  OverReads F = F Bool Bool Bool Bool Bool Bool Bool Bool Bool

  abbrev first_Exp : OverSuch Exp-F → OverTrees Exp-F
  first_Exp = map-Exp SuchExp SuchLExp SuchStmt SuchSuffix SuchCase SuchFieldValue SuchIndex SuchRange SuchTarget
      Exp LExp Stmt SuffixTree CaseTree FieldValue Index Range TargetTree
      (λ p. p.0) (λ p. p.0) (λ p. p.0) (λ p. p.0) (λ p. p.0) (λ p. p.0) (λ p. p.0) (λ p. p.0) (λ p. p.0)

  abbrev reads_Exp : OverTrees Exp-F → OverReads Exp-F
  reads_Exp = map-Exp Exp LExp Stmt SuffixTree CaseTree FieldValue Index Range TargetTree
      Bool Bool Bool Bool Bool Bool Bool Bool Bool
      reads_exp reads_lexp reads_stmt reads_suffix reads_case reads_field reads_index reads_range reads_target

  rolled_Exp : (d : OverTrees Exp-F) → SaidExp (Rules.exp_form (found_Exp d)) (T.expression_form within (reads_Exp d)) → OfExp (roll-Exp d)
  rolled_Exp d h =
      subst (λ k. SaidExp k (reads_exp (roll-Exp d)))
      (sym (fold-roll-Exp Part TargetPart StatementPart SuffixPart CasePart FieldPart IndexPart RangePart FurtherPart
      Rules.exp_form Rules.target_form Rules.statement_form Rules.suffix_form Rules.case_form Rules.field_form Rules.index_form Rules.range_form
      Rules.further_form d))
      (subst (λ k. SaidExp (Rules.exp_form (found_Exp d)) k)
      (sym (fold-roll-Exp Bool Bool Bool Bool Bool Bool Bool Bool Bool
      (T.expression_form within) T.target_form T.statement_form T.suffix_form T.case_form T.field_form T.index_form T.range_form T.further_form d)) h)

  abbrev first_LExp : OverSuch LExp-F → OverTrees LExp-F
  first_LExp = map-LExp SuchExp SuchLExp SuchStmt SuchSuffix SuchCase SuchFieldValue SuchIndex SuchRange SuchTarget
      Exp LExp Stmt SuffixTree CaseTree FieldValue Index Range TargetTree
      (λ p. p.0) (λ p. p.0) (λ p. p.0) (λ p. p.0) (λ p. p.0) (λ p. p.0) (λ p. p.0) (λ p. p.0) (λ p. p.0)

  abbrev reads_LExp : OverTrees LExp-F → OverReads LExp-F
  reads_LExp = map-LExp Exp LExp Stmt SuffixTree CaseTree FieldValue Index Range TargetTree
      Bool Bool Bool Bool Bool Bool Bool Bool Bool
      reads_exp reads_lexp reads_stmt reads_suffix reads_case reads_field reads_index reads_range reads_target

  rolled_LExp : (d : OverTrees LExp-F) → SaidLExp (Rules.target_form (found_LExp d)) (T.target_form (reads_LExp d)) → OfLExp (roll-LExp d)
  rolled_LExp d h =
      subst (λ k. SaidLExp k (reads_lexp (roll-LExp d)))
      (sym (fold-roll-LExp Part TargetPart StatementPart SuffixPart CasePart FieldPart IndexPart RangePart FurtherPart
      Rules.exp_form Rules.target_form Rules.statement_form Rules.suffix_form Rules.case_form Rules.field_form Rules.index_form Rules.range_form
      Rules.further_form d))
      (subst (λ k. SaidLExp (Rules.target_form (found_LExp d)) k)
      (sym (fold-roll-LExp Bool Bool Bool Bool Bool Bool Bool Bool Bool
      (T.expression_form within) T.target_form T.statement_form T.suffix_form T.case_form T.field_form T.index_form T.range_form T.further_form d)) h)

  abbrev first_Stmt : OverSuch Stmt-F → OverTrees Stmt-F
  first_Stmt = map-Stmt SuchExp SuchLExp SuchStmt SuchSuffix SuchCase SuchFieldValue SuchIndex SuchRange SuchTarget
      Exp LExp Stmt SuffixTree CaseTree FieldValue Index Range TargetTree
      (λ p. p.0) (λ p. p.0) (λ p. p.0) (λ p. p.0) (λ p. p.0) (λ p. p.0) (λ p. p.0) (λ p. p.0) (λ p. p.0)

  abbrev reads_Stmt : OverTrees Stmt-F → OverReads Stmt-F
  reads_Stmt = map-Stmt Exp LExp Stmt SuffixTree CaseTree FieldValue Index Range TargetTree
      Bool Bool Bool Bool Bool Bool Bool Bool Bool
      reads_exp reads_lexp reads_stmt reads_suffix reads_case reads_field reads_index reads_range reads_target

  rolled_Stmt : (d : OverTrees Stmt-F) → SaidStmt (Rules.statement_form (found_Stmt d)) (T.statement_form (reads_Stmt d)) → OfStmt (roll-Stmt d)
  rolled_Stmt d h =
      subst (λ k. SaidStmt k (reads_stmt (roll-Stmt d)))
      (sym (fold-roll-Stmt Part TargetPart StatementPart SuffixPart CasePart FieldPart IndexPart RangePart FurtherPart
      Rules.exp_form Rules.target_form Rules.statement_form Rules.suffix_form Rules.case_form Rules.field_form Rules.index_form Rules.range_form
      Rules.further_form d))
      (subst (λ k. SaidStmt (Rules.statement_form (found_Stmt d)) k)
      (sym (fold-roll-Stmt Bool Bool Bool Bool Bool Bool Bool Bool Bool
      (T.expression_form within) T.target_form T.statement_form T.suffix_form T.case_form T.field_form T.index_form T.range_form T.further_form d)) h)

  abbrev first_Suffix : OverSuch Suffix-F → OverTrees Suffix-F
  first_Suffix = map-Suffix SuchExp SuchLExp SuchStmt SuchSuffix SuchCase SuchFieldValue SuchIndex SuchRange SuchTarget
      Exp LExp Stmt SuffixTree CaseTree FieldValue Index Range TargetTree
      (λ p. p.0) (λ p. p.0) (λ p. p.0) (λ p. p.0) (λ p. p.0) (λ p. p.0) (λ p. p.0) (λ p. p.0) (λ p. p.0)

  abbrev reads_Suffix : OverTrees Suffix-F → OverReads Suffix-F
  reads_Suffix = map-Suffix Exp LExp Stmt SuffixTree CaseTree FieldValue Index Range TargetTree
      Bool Bool Bool Bool Bool Bool Bool Bool Bool
      reads_exp reads_lexp reads_stmt reads_suffix reads_case reads_field reads_index reads_range reads_target

  rolled_Suffix : (d : OverTrees Suffix-F) → SaidSuffix (Rules.suffix_form (found_Suffix d)) (T.suffix_form (reads_Suffix d)) → OfSuffix (roll-Suffix d)
  rolled_Suffix d h =
      subst (λ k. SaidSuffix k (reads_suffix (roll-Suffix d)))
      (sym (fold-roll-Suffix Part TargetPart StatementPart SuffixPart CasePart FieldPart IndexPart RangePart FurtherPart
      Rules.exp_form Rules.target_form Rules.statement_form Rules.suffix_form Rules.case_form Rules.field_form Rules.index_form Rules.range_form
      Rules.further_form d))
      (subst (λ k. SaidSuffix (Rules.suffix_form (found_Suffix d)) k)
      (sym (fold-roll-Suffix Bool Bool Bool Bool Bool Bool Bool Bool Bool
      (T.expression_form within) T.target_form T.statement_form T.suffix_form T.case_form T.field_form T.index_form T.range_form T.further_form d)) h)

  abbrev first_Case : OverSuch Case-F → OverTrees Case-F
  first_Case = map-Case SuchExp SuchLExp SuchStmt SuchSuffix SuchCase SuchFieldValue SuchIndex SuchRange SuchTarget
      Exp LExp Stmt SuffixTree CaseTree FieldValue Index Range TargetTree
      (λ p. p.0) (λ p. p.0) (λ p. p.0) (λ p. p.0) (λ p. p.0) (λ p. p.0) (λ p. p.0) (λ p. p.0) (λ p. p.0)

  abbrev reads_Case : OverTrees Case-F → OverReads Case-F
  reads_Case = map-Case Exp LExp Stmt SuffixTree CaseTree FieldValue Index Range TargetTree
      Bool Bool Bool Bool Bool Bool Bool Bool Bool
      reads_exp reads_lexp reads_stmt reads_suffix reads_case reads_field reads_index reads_range reads_target

  rolled_Case : (d : OverTrees Case-F) → SaidCase (Rules.case_form (found_Case d)) (T.case_form (reads_Case d)) → OfCase (roll-Case d)
  rolled_Case d h =
      subst (λ k. SaidCase k (reads_case (roll-Case d)))
      (sym (fold-roll-Case Part TargetPart StatementPart SuffixPart CasePart FieldPart IndexPart RangePart FurtherPart
      Rules.exp_form Rules.target_form Rules.statement_form Rules.suffix_form Rules.case_form Rules.field_form Rules.index_form Rules.range_form
      Rules.further_form d))
      (subst (λ k. SaidCase (Rules.case_form (found_Case d)) k)
      (sym (fold-roll-Case Bool Bool Bool Bool Bool Bool Bool Bool Bool
      (T.expression_form within) T.target_form T.statement_form T.suffix_form T.case_form T.field_form T.index_form T.range_form T.further_form d)) h)

  abbrev first_FieldValue : OverSuch FieldValue-F → OverTrees FieldValue-F
  first_FieldValue = map-FieldValue SuchExp SuchLExp SuchStmt SuchSuffix SuchCase SuchFieldValue SuchIndex SuchRange SuchTarget
      Exp LExp Stmt SuffixTree CaseTree FieldValue Index Range TargetTree
      (λ p. p.0) (λ p. p.0) (λ p. p.0) (λ p. p.0) (λ p. p.0) (λ p. p.0) (λ p. p.0) (λ p. p.0) (λ p. p.0)

  abbrev reads_FieldValue : OverTrees FieldValue-F → OverReads FieldValue-F
  reads_FieldValue = map-FieldValue Exp LExp Stmt SuffixTree CaseTree FieldValue Index Range TargetTree
      Bool Bool Bool Bool Bool Bool Bool Bool Bool
      reads_exp reads_lexp reads_stmt reads_suffix reads_case reads_field reads_index reads_range reads_target

  rolled_FieldValue : (d : OverTrees FieldValue-F) → SaidFieldValue (Rules.field_form (found_FieldValue d)) (T.field_form (reads_FieldValue d))
      → OfFieldValue (roll-FieldValue d)
  rolled_FieldValue d h =
      subst (λ k. SaidFieldValue k (reads_field (roll-FieldValue d)))
      (sym (fold-roll-FieldValue Part TargetPart StatementPart SuffixPart CasePart FieldPart IndexPart RangePart FurtherPart
      Rules.exp_form Rules.target_form Rules.statement_form Rules.suffix_form Rules.case_form Rules.field_form Rules.index_form Rules.range_form
      Rules.further_form d))
      (subst (λ k. SaidFieldValue (Rules.field_form (found_FieldValue d)) k)
      (sym (fold-roll-FieldValue Bool Bool Bool Bool Bool Bool Bool Bool Bool
      (T.expression_form within) T.target_form T.statement_form T.suffix_form T.case_form T.field_form T.index_form T.range_form T.further_form d)) h)

  abbrev first_Index : OverSuch Index-F → OverTrees Index-F
  first_Index = map-Index SuchExp SuchLExp SuchStmt SuchSuffix SuchCase SuchFieldValue SuchIndex SuchRange SuchTarget
      Exp LExp Stmt SuffixTree CaseTree FieldValue Index Range TargetTree
      (λ p. p.0) (λ p. p.0) (λ p. p.0) (λ p. p.0) (λ p. p.0) (λ p. p.0) (λ p. p.0) (λ p. p.0) (λ p. p.0)

  abbrev reads_Index : OverTrees Index-F → OverReads Index-F
  reads_Index = map-Index Exp LExp Stmt SuffixTree CaseTree FieldValue Index Range TargetTree
      Bool Bool Bool Bool Bool Bool Bool Bool Bool
      reads_exp reads_lexp reads_stmt reads_suffix reads_case reads_field reads_index reads_range reads_target

  rolled_Index : (d : OverTrees Index-F) → SaidIndex (Rules.index_form (found_Index d)) (T.index_form (reads_Index d)) → OfIndex (roll-Index d)
  rolled_Index d h =
      subst (λ k. SaidIndex k (reads_index (roll-Index d)))
      (sym (fold-roll-Index Part TargetPart StatementPart SuffixPart CasePart FieldPart IndexPart RangePart FurtherPart
      Rules.exp_form Rules.target_form Rules.statement_form Rules.suffix_form Rules.case_form Rules.field_form Rules.index_form Rules.range_form
      Rules.further_form d))
      (subst (λ k. SaidIndex (Rules.index_form (found_Index d)) k)
      (sym (fold-roll-Index Bool Bool Bool Bool Bool Bool Bool Bool Bool
      (T.expression_form within) T.target_form T.statement_form T.suffix_form T.case_form T.field_form T.index_form T.range_form T.further_form d)) h)

  abbrev first_Range : OverSuch Range-F → OverTrees Range-F
  first_Range = map-Range SuchExp SuchLExp SuchStmt SuchSuffix SuchCase SuchFieldValue SuchIndex SuchRange SuchTarget
      Exp LExp Stmt SuffixTree CaseTree FieldValue Index Range TargetTree
      (λ p. p.0) (λ p. p.0) (λ p. p.0) (λ p. p.0) (λ p. p.0) (λ p. p.0) (λ p. p.0) (λ p. p.0) (λ p. p.0)

  abbrev reads_Range : OverTrees Range-F → OverReads Range-F
  reads_Range = map-Range Exp LExp Stmt SuffixTree CaseTree FieldValue Index Range TargetTree
      Bool Bool Bool Bool Bool Bool Bool Bool Bool
      reads_exp reads_lexp reads_stmt reads_suffix reads_case reads_field reads_index reads_range reads_target

  rolled_Range : (d : OverTrees Range-F) → SaidRange (Rules.range_form (found_Range d)) (T.range_form (reads_Range d)) → OfRange (roll-Range d)
  rolled_Range d h =
      subst (λ k. SaidRange k (reads_range (roll-Range d)))
      (sym (fold-roll-Range Part TargetPart StatementPart SuffixPart CasePart FieldPart IndexPart RangePart FurtherPart
      Rules.exp_form Rules.target_form Rules.statement_form Rules.suffix_form Rules.case_form Rules.field_form Rules.index_form Rules.range_form
      Rules.further_form d))
      (subst (λ k. SaidRange (Rules.range_form (found_Range d)) k)
      (sym (fold-roll-Range Bool Bool Bool Bool Bool Bool Bool Bool Bool
      (T.expression_form within) T.target_form T.statement_form T.suffix_form T.case_form T.field_form T.index_form T.range_form T.further_form d)) h)

  abbrev first_Target : OverSuch Target-F → OverTrees Target-F
  first_Target = map-Target SuchExp SuchLExp SuchStmt SuchSuffix SuchCase SuchFieldValue SuchIndex SuchRange SuchTarget
      Exp LExp Stmt SuffixTree CaseTree FieldValue Index Range TargetTree
      (λ p. p.0) (λ p. p.0) (λ p. p.0) (λ p. p.0) (λ p. p.0) (λ p. p.0) (λ p. p.0) (λ p. p.0) (λ p. p.0)

  abbrev reads_Target : OverTrees Target-F → OverReads Target-F
  reads_Target = map-Target Exp LExp Stmt SuffixTree CaseTree FieldValue Index Range TargetTree
      Bool Bool Bool Bool Bool Bool Bool Bool Bool
      reads_exp reads_lexp reads_stmt reads_suffix reads_case reads_field reads_index reads_range reads_target

  rolled_Target : (d : OverTrees Target-F) → SaidTarget (Rules.further_form (found_Target d)) (T.further_form (reads_Target d)) → OfTarget (roll-Target d)
  rolled_Target d h =
      subst (λ k. SaidTarget k (reads_target (roll-Target d)))
      (sym (fold-roll-Target Part TargetPart StatementPart SuffixPart CasePart FieldPart IndexPart RangePart FurtherPart
      Rules.exp_form Rules.target_form Rules.statement_form Rules.suffix_form Rules.case_form Rules.field_form Rules.index_form Rules.range_form
      Rules.further_form d))
      (subst (λ k. SaidTarget (Rules.further_form (found_Target d)) k)
      (sym (fold-roll-Target Bool Bool Bool Bool Bool Bool Bool Bool Bool
      (T.expression_form within) T.target_form T.statement_form T.suffix_form T.case_form T.field_form T.index_form T.range_form T.further_form d)) h)

  -- ---- parts

  abbrev parts : List SuchExp → List Exp
  parts ys = map (λ (p : SuchExp). p.0) ys

  each_part : (ys : List SuchExp) → every (map reads_exp (parts ys)) ≡ true → PartsFine within (map found_exp (parts ys))
  each_part [] q = tt
  each_part (y ∷ ys) q = let p = and_parts (reads_exp y.0) (every (map reads_exp (parts ys))) q in (y.1 p.0, each_part ys p.1)

  abbrev suffixes : List SuchSuffix → List SuffixTree
  suffixes ys = map (λ (p : SuchSuffix). p.0) ys

  each_suffix : (ys : List SuchSuffix) → every (map reads_suffix (suffixes ys)) ≡ true → SuffixesFine within (map found_suffix (suffixes ys))
  each_suffix [] q = tt
  each_suffix (y ∷ ys) q = let p = and_parts (reads_suffix y.0) (every (map reads_suffix (suffixes ys))) q in (y.1 p.0, each_suffix ys p.1)

  abbrev cases : List SuchCase → List CaseTree
  cases ys = map (λ (p : SuchCase). p.0) ys

  each_case : (ys : List SuchCase) → every (map reads_case (cases ys)) ≡ true → CasesFine within (map found_case (cases ys))
  each_case [] q = tt
  each_case (y ∷ ys) q = let p = and_parts (reads_case y.0) (every (map reads_case (cases ys))) q in (y.1 p.0, each_case ys p.1)

  abbrev fields : List SuchFieldValue → List FieldValue
  fields ys = map (λ (p : SuchFieldValue). p.0) ys

  each_field : (ys : List SuchFieldValue) → every (map reads_field (fields ys)) ≡ true → FieldsFine within (map found_field (fields ys))
  each_field [] q = tt
  each_field (y ∷ ys) q = let p = and_parts (reads_field y.0) (every (map reads_field (fields ys))) q in (y.1 p.0, each_field ys p.1)

  abbrev statements_of : List SuchStmt → List Stmt
  statements_of ys = map (λ (p : SuchStmt). p.0) ys

  each_statement : (ys : List SuchStmt) → every (map reads_stmt (statements_of ys)) ≡ true → StatementsFine within (map found_stmt (statements_of ys))
  each_statement [] q = tt
  each_statement (y ∷ ys) q = let p = and_parts (reads_stmt y.0) (every (map reads_stmt (statements_of ys))) q in (y.1 p.0, each_statement ys p.1)

  abbrev targets : List SuchLExp → List LExp
  targets ys = map (λ (p : SuchLExp). p.0) ys

  each_target : (ys : List SuchLExp) → every (map reads_lexp (targets ys)) ≡ true → TargetsFine within (map found_lexp (targets ys))
  each_target [] q = tt
  each_target (y ∷ ys) q = let p = and_parts (reads_lexp y.0) (every (map reads_lexp (targets ys))) q in (y.1 p.0, each_target ys p.1)

  abbrev furthers : List SuchTarget → List TargetTree
  furthers ys = map (λ (p : SuchTarget). p.0) ys

  each_further : (ys : List SuchTarget) → every (map reads_target (furthers ys)) ≡ true → FurthersFine within (map found_target (furthers ys))
  each_further [] q = tt
  each_further (y ∷ ys) q = let p = and_parts (reads_target y.0) (every (map reads_target (furthers ys))) q in (y.1 p.0, each_further ys p.1)

  -- ---- forms

  again : (y : OverSuch Exp-F) → SaidExp (Rules.exp_form (found_Exp (first_Exp y))) (T.expression_form within (reads_Exp (first_Exp y)))
  again (E.Constant place literal) q = λ setting ok locals want. constant_fine within place literal want
  again (E.Variable name) q = λ setting ok locals want. name_fine within name (local_of name.text locals) (setting.value name.text) want
  again (E.Call name ys) q = named_fine within name (map found_exp (parts ys)) (each_part ys q)
  again (E.Prefixed place prefix a) q = prefix_fine within place prefix (found_exp a.0) (a.1 q)
  again (E.Infix place operator a b) q =
      let p = and_parts (reads_exp a.0) (reads_exp b.0) q in infix_fine within operator place (found_exp a.0) (found_exp b.0) (a.1 p.0) (b.1 p.1)
  again (E.Leave place leaving a) q = leave_fine within place leaving (found_exp a.0) (a.1 q)
  again (E.Group place brackets ys) q =
      group_fine within place brackets (elaborations (map found_exp (parts ys))) (els_fine within (map found_exp (parts ys)) (each_part ys q))
  again (E.Part place a ys) q =
      let p = and_parts (reads_exp a.0) (every (map reads_suffix (suffixes ys))) q in
      part_fine within place (found_exp a.0) (map found_suffix (suffixes ys)) (a.1 p.0) (each_suffix ys p.1)
  again (E.Typed place a typ) q =
      let p = and_parts (is_some (typ_in within typ)) (reads_exp a.0) q in typed_fine within place (found_exp a.0) typ p.0 (a.1 p.1)
  again (E.Assign place target more a) q =
      let p = and_parts (reads_lexp target.0 && every (map reads_target (furthers more))) (reads_exp a.0) q in
      let r = and_parts (reads_lexp target.0) (every (map reads_target (furthers more))) p.0 in
      assign_fine within place (found_lexp target.0) (map found_target (furthers more)) (found_exp a.0) (target.1 r.0) (each_further more r.1) (a.1 p.1)
  again (E.Block place ss None) q =
      let p = and_parts (every (map reads_stmt (statements_of ss))) true q in
      block_fine within place (map found_stmt (statements_of ss)) None (each_statement ss p.0) tt
  again (E.Block place ss (Some a)) q =
      let p = and_parts (every (map reads_stmt (statements_of ss))) (reads_exp a.0) q in
      block_fine within place (map found_stmt (statements_of ss)) (Some (found_exp a.0)) (each_statement ss p.0) (a.1 p.1)
  again (E.Let place pattern a b) q =
      let p = and_parts (reads_exp a.0) (reads_exp b.0) q in let_fine within place pattern (found_exp a.0) (found_exp b.0) (a.1 p.0) (b.1 p.1)
  again (E.Var place name typ a b) q =
      let p = and_parts (reads_exp a.0) (reads_exp b.0) q in var_fine within place name typ (found_exp a.0) (found_exp b.0) (a.1 p.0) (b.1 p.1)
  again (E.If place a b None) q =
      let p = and_parts (reads_exp a.0 && reads_exp b.0) true q in
      let r = and_parts (reads_exp a.0) (reads_exp b.0) p.0 in
      if_fine within place (found_exp a.0) (found_exp b.0) None (a.1 r.0) (b.1 r.1) tt
  again (E.If place a b (Some c)) q =
      let p = and_parts (reads_exp a.0 && reads_exp b.0) (reads_exp c.0) q in
      let r = and_parts (reads_exp a.0) (reads_exp b.0) p.0 in
      if_fine within place (found_exp a.0) (found_exp b.0) (Some (found_exp c.0)) (a.1 r.0) (b.1 r.1) (c.1 p.1)
  again (E.Choose place Match a ys) q =
      let p = and_parts (reads_exp a.0) (every (map reads_case (cases ys))) q in
      match_fine within place (found_exp a.0) (map found_case (cases ys)) (a.1 p.0) (each_case ys p.1)
  again (E.Choose place Try a ys) q =
      let p = and_parts (reads_exp a.0) (every (map reads_case (cases ys))) q in
      try_fine within place (found_exp a.0) (map found_case (cases ys)) (a.1 p.0) (each_case ys p.1)
  again (E.Foreach place name range a) q =
      let p = and_parts (reads_range range.0) (reads_exp a.0) q in
      foreach_fine within place name (found_range range.0) (found_exp a.0) (range.1 p.0) (a.1 p.1)
  again (E.Loop place looping None a b) q =
      let p = and_parts (reads_exp a.0) (reads_exp b.0) q in
      loop_fine within place looping None (found_exp a.0) (found_exp b.0) tt (a.1 p.0) (b.1 p.1)
  again (E.Loop place looping (Some m) a b) q =
      let p = and_parts (reads_exp m.0 && reads_exp a.0) (reads_exp b.0) q in
      let r = and_parts (reads_exp m.0) (reads_exp a.0) p.0 in
      loop_fine within place looping (Some (found_exp m.0)) (found_exp a.0) (found_exp b.0) (m.1 r.0) (a.1 r.1) (b.1 p.1)
  again (E.Update place a i b) q =
      let p = and_parts (reads_exp a.0 && reads_index i.0) (reads_exp b.0) q in
      let r = and_parts (reads_exp a.0) (reads_index i.0) p.0 in
      update_fine within place (found_exp a.0) (found_index i.0) (found_exp b.0) (a.1 r.0) (i.1 r.1) (b.1 p.1)
  again (E.Struct place name ys) q = structs_fine within place name (map found_field (fields ys)) (each_field ys q)
  again (E.With place a ys) q =
      let p = and_parts (reads_exp a.0) (every (map reads_field (fields ys))) q in
      with_fine within place (found_exp a.0) (map found_field (fields ys)) (a.1 p.0) (each_field ys p.1)
  again (E.OfType place asking typ) q = of_type_fine within place asking typ
  again (E.Assert place a text) q = assert_fine within place (found_exp a.0) text (a.1 q)

  target_again : (y : OverSuch LExp-F) → SaidLExp (Rules.target_form (found_LExp (first_LExp y))) (T.target_form (reads_LExp (first_LExp y)))
  target_again (E.ToName name) q = ((λ setting ok locals. name_aim_fine within name (local_of name.text locals) (setting.value name.text)), tt)
  target_again (E.ToCall name ys) q = (call_fine within name (map found_exp (parts ys)) (each_part ys q), each_part ys q)
  target_again (E.ToTuple place ys) q = (each_fine within (map found_lexp (targets ys)) (each_target ys q), tt)
  target_again (E.ToPart place t ys) q =
      let p = and_parts (reads_lexp t.0) (every (map reads_suffix (suffixes ys))) q in
      let h = t.1 p.0 in (
        (λ setting ok locals.
            let base = read_aimed (found_lexp t.0).call setting locals ((found_lexp t.0).aim setting locals) in
            also_fine base.parts _ (read_fine within (found_lexp t.0).call h.1 setting ok locals ((found_lexp t.0).aim setting locals) (h.0 setting ok locals))
            (walked_fine within (map found_suffix (suffixes ys)) (each_suffix ys p.1) setting ok locals place (found_lexp t.0).place base.shape)),
        tt,
      )

  statement_again : (y : OverSuch Stmt-F) → SaidStmt (Rules.statement_form (found_Stmt (first_Stmt y))) (T.statement_form (reads_Stmt (first_Stmt y)))
  statement_again (E.Evaluate a) q = evaluated_fine within (found_exp a.0) (a.1 q)
  statement_again (E.Define place pattern a) q = λ setting ok locals. cast_bound _ _ (a.1 q setting ok locals _)
  statement_again (E.Declare place name typ a) q = λ setting ok locals. cast_bound _ _ (a.1 q setting ok locals _)

  suffix_again : (y : OverSuch Suffix-F) → SaidSuffix (Rules.suffix_form (found_Suffix (first_Suffix y))) (T.suffix_form (reads_Suffix (first_Suffix y)))
  suffix_again (E.Field name) q = λ setting ok locals. tt
  suffix_again (E.At place i) q = index_fine within place (found_index i.0) (i.1 q)

  case_by : (pattern : _) (guard : Option SuchExp) (body : SuchExp)
      → SaidCase (Rules.case_form (found_Case (first_Case (record { pattern = pattern; guard = guard; body = body }))))
      (T.case_form (reads_Case (first_Case (record { pattern = pattern; guard = guard; body = body }))))
  case_by pattern None body q = (tt, body.1 q)
  case_by pattern (Some guard) body q = let p = and_parts (reads_exp guard.0) (reads_exp body.0) q in (guard.1 p.0, body.1 p.1)

  index_by : (first : SuchExp) (last : Option SuchExp)
      → SaidIndex (Rules.index_form (found_Index (first_Index (record { first = first; last = last }))))
      (T.index_form (reads_Index (first_Index (record { first = first; last = last }))))
  index_by first None q = (first.1 (and_parts (reads_exp first.0) true q).0, tt)
  index_by first (Some last) q = let p = and_parts (reads_exp first.0) (reads_exp last.0) q in (first.1 p.0, last.1 p.1)

  range_by : (from to : SuchExp) (by : Option SuchExp) (direction : _)
      → SaidRange (Rules.range_form (found_Range (first_Range (record { from = from; to = to; by = by; direction = direction }))))
      (T.range_form (reads_Range (first_Range (record { from = from; to = to; by = by; direction = direction }))))
  range_by from to None direction q =
      let p = and_parts (reads_exp from.0 && reads_exp to.0) true q in
      let r = and_parts (reads_exp from.0) (reads_exp to.0) p.0 in ((from.1 r.0, to.1 r.1), tt)
  range_by from to (Some by) direction q =
      let p = and_parts (reads_exp from.0 && reads_exp to.0) (reads_exp by.0) q in
      let r = and_parts (reads_exp from.0) (reads_exp to.0) p.0 in ((from.1 r.0, to.1 r.1), by.1 p.1)

  -- ---- the trees

  all_stand : (e : Exp) → OfExp e
  all_stand = ind-Exp OfExp OfLExp OfStmt OfSuffix OfCase OfFieldValue OfIndex OfRange OfTarget
      (λ e y is. subst (λ d. OfExp (roll-Exp d)) is (rolled_Exp (first_Exp y) (again y)))
      (λ e y is. subst (λ d. OfLExp (roll-LExp d)) is (rolled_LExp (first_LExp y) (target_again y)))
      (λ e y is. subst (λ d. OfStmt (roll-Stmt d)) is (rolled_Stmt (first_Stmt y) (statement_again y)))
      (λ e y is. subst (λ d. OfSuffix (roll-Suffix d)) is (rolled_Suffix (first_Suffix y) (suffix_again y)))
      (λ e y is. subst (λ d. OfCase (roll-Case d)) is (rolled_Case (first_Case y) (case_by y.pattern y.guard y.body)))
      (λ e y is. subst (λ d. OfFieldValue (roll-FieldValue d)) is (rolled_FieldValue (first_FieldValue y) (λ q. y.value.1 q)))
      (λ e y is. subst (λ d. OfIndex (roll-Index d)) is (rolled_Index (first_Index y) (index_by y.first y.last)))
      (λ e y is. subst (λ d. OfRange (roll-Range d)) is (rolled_Range (first_Range y) (range_by y.from y.to y.by y.direction)))
      (λ e y is. subst (λ d. OfTarget (roll-Target d)) is (rolled_Target (first_Target y) (λ q. y.to.1 q)))

pub found_stand : FoundCoresStand
found_stand within e q = all_stand within e q
