-- The manners of each of the trees of expressions, and what is asked of one that is read in a mode.
use Rattle.std.proofs.Common.{◌≡◌, true, List, [], ◌∷◌, refl}
use Rattle.sail_syntax.specs.declared.expressions.Exp.{Exp, Exp-F}
use Rattle.sail_syntax.specs.declared.expressions.Exp.TheOpen.{LExp-F, Stmt-F, Suffix-F, Case-F, FieldValue-F, Index-F, Range-F, Target-F}
use Rattle.sail_syntax.specs.declared.expressions.Exp.TheFolds.{fold-LExp, fold-Stmt, fold-Suffix, fold-Case, fold-FieldValue, fold-Index, fold-Range}
use Rattle.sail_syntax.specs.declared.expressions.Exp.TheFolds.{fold-Target, map-Exp, map-LExp, map-Stmt, map-Suffix, map-Case, map-FieldValue, map-Index}
use Rattle.sail_syntax.specs.declared.expressions.Exp.TheFolds.{map-Range, map-Target}
use Rattle.sail_syntax.specs.declared.expressions.LExp.{LExp}
use Rattle.sail_syntax.specs.declared.expressions.Stmt.{Stmt}
use Rattle.sail_syntax.specs.declared.expressions.Suffix.{Suffix}
use Rattle.sail_syntax.specs.declared.expressions.Case.{Case}
use Rattle.sail_syntax.specs.declared.expressions.FieldValue.{FieldValue}
use Rattle.sail_syntax.specs.declared.expressions.Index.{Index}
use Rattle.sail_syntax.specs.declared.expressions.Range.{Range}
use Rattle.sail_syntax.specs.declared.expressions.Target.{Target}
use Rattle.sail_grammar.specs.declared.mode.Mode.{Mode}
use Rattle.sail_grammar.specs.declared.mode.Mode.TheVariants.{Full, Limited}
use Rattle.shape_joins.proofs.Order.{no, two}
use Rattle.shape_meanings.proofs.Folds.{OverTrees}
use Rattle.shape_stands.specs.Manner as M
use Rattle.shape_stands.specs.Manner.{Form, Manner, both, every, fields_form, leaf, manner}

-- ---- the manners of trees

abbrev pub manner_lexp : LExp → Manner
manner_lexp = fold-LExp Manner Manner Manner Manner Manner Manner Manner Manner Manner
    M.expression_form M.target_form M.statement_form M.suffix_form M.case_form M.field_form M.index_form M.range_form M.further_form

abbrev pub manner_stmt : Stmt → Manner
manner_stmt = fold-Stmt Manner Manner Manner Manner Manner Manner Manner Manner Manner
    M.expression_form M.target_form M.statement_form M.suffix_form M.case_form M.field_form M.index_form M.range_form M.further_form

abbrev pub manner_suffix : Suffix → Manner
manner_suffix = fold-Suffix Manner Manner Manner Manner Manner Manner Manner Manner Manner
    M.expression_form M.target_form M.statement_form M.suffix_form M.case_form M.field_form M.index_form M.range_form M.further_form

abbrev pub manner_case : Case → Manner
manner_case = fold-Case Manner Manner Manner Manner Manner Manner Manner Manner Manner
    M.expression_form M.target_form M.statement_form M.suffix_form M.case_form M.field_form M.index_form M.range_form M.further_form

abbrev pub manner_field : FieldValue → Manner
manner_field = fold-FieldValue Manner Manner Manner Manner Manner Manner Manner Manner Manner
    M.expression_form M.target_form M.statement_form M.suffix_form M.case_form M.field_form M.index_form M.range_form M.further_form

abbrev pub manner_index : Index → Manner
manner_index = fold-Index Manner Manner Manner Manner Manner Manner Manner Manner Manner
    M.expression_form M.target_form M.statement_form M.suffix_form M.case_form M.field_form M.index_form M.range_form M.further_form

abbrev pub manner_range : Range → Manner
manner_range = fold-Range Manner Manner Manner Manner Manner Manner Manner Manner Manner
    M.expression_form M.target_form M.statement_form M.suffix_form M.case_form M.field_form M.index_form M.range_form M.further_form

abbrev pub manner_target : Target → Manner
manner_target = fold-Target Manner Manner Manner Manner Manner Manner Manner Manner Manner
    M.expression_form M.target_form M.statement_form M.suffix_form M.case_form M.field_form M.index_form M.range_form M.further_form

abbrev pub manner_Exp : OverTrees Exp-F → Form Exp-F
manner_Exp = map-Exp Exp LExp Stmt Suffix Case FieldValue Index Range Target Manner Manner Manner Manner Manner Manner Manner Manner Manner
    manner manner_lexp manner_stmt manner_suffix manner_case manner_field manner_index manner_range manner_target

abbrev pub manner_LExp : OverTrees LExp-F → Form LExp-F
manner_LExp = map-LExp Exp LExp Stmt Suffix Case FieldValue Index Range Target Manner Manner Manner Manner Manner Manner Manner Manner Manner
    manner manner_lexp manner_stmt manner_suffix manner_case manner_field manner_index manner_range manner_target

abbrev pub manner_Stmt : OverTrees Stmt-F → Form Stmt-F
manner_Stmt = map-Stmt Exp LExp Stmt Suffix Case FieldValue Index Range Target Manner Manner Manner Manner Manner Manner Manner Manner Manner
    manner manner_lexp manner_stmt manner_suffix manner_case manner_field manner_index manner_range manner_target

abbrev pub manner_Suffix : OverTrees Suffix-F → Form Suffix-F
manner_Suffix = map-Suffix Exp LExp Stmt Suffix Case FieldValue Index Range Target Manner Manner Manner Manner Manner Manner Manner Manner Manner
    manner manner_lexp manner_stmt manner_suffix manner_case manner_field manner_index manner_range manner_target

abbrev pub manner_Case : OverTrees Case-F → Form Case-F
manner_Case = map-Case Exp LExp Stmt Suffix Case FieldValue Index Range Target Manner Manner Manner Manner Manner Manner Manner Manner Manner
    manner manner_lexp manner_stmt manner_suffix manner_case manner_field manner_index manner_range manner_target

abbrev pub manner_FieldValue : OverTrees FieldValue-F → Form FieldValue-F
manner_FieldValue = map-FieldValue Exp LExp Stmt Suffix Case FieldValue Index Range Target Manner Manner Manner Manner Manner Manner Manner Manner Manner
    manner manner_lexp manner_stmt manner_suffix manner_case manner_field manner_index manner_range manner_target

abbrev pub manner_Index : OverTrees Index-F → Form Index-F
manner_Index = map-Index Exp LExp Stmt Suffix Case FieldValue Index Range Target Manner Manner Manner Manner Manner Manner Manner Manner Manner
    manner manner_lexp manner_stmt manner_suffix manner_case manner_field manner_index manner_range manner_target

abbrev pub manner_Range : OverTrees Range-F → Form Range-F
manner_Range = map-Range Exp LExp Stmt Suffix Case FieldValue Index Range Target Manner Manner Manner Manner Manner Manner Manner Manner Manner
    manner manner_lexp manner_stmt manner_suffix manner_case manner_field manner_index manner_range manner_target

abbrev pub manner_Target : OverTrees Target-F → Form Target-F
manner_Target = map-Target Exp LExp Stmt Suffix Case FieldValue Index Range Target Manner Manner Manner Manner Manner Manner Manner Manner Manner
    manner manner_lexp manner_stmt manner_suffix manner_case manner_field manner_index manner_range manner_target

-- ---- what is read in a mode

-- each `with` has a field, and what is read where nothing else may stand is plain
pub record Suits (mode : Mode) (m : Manner) : Type 0 where
  pub full : m.is_full ≡ true
  pub plain : mode ≡ Limited → m.is_plain ≡ true

full_limited : Full ≡ Limited → ⊥
full_limited h = cc

pub suits_full : (m : Manner) → m.is_full ≡ true → Suits Full m
suits_full m h = record { full = h; plain = λ e. absurd (full_limited e) }

pub suits_leaf : (mode : Mode) → Suits mode leaf
suits_leaf mode = record { full = refl; plain = λ e. refl }

pub suits_both : (mode : Mode) (a b : Manner) → Suits mode a → Suits mode b → Suits mode (both a b)
suits_both mode a b h k = record { full = two _ _ h.full k.full; plain = λ e. two _ _ (h.plain e) (k.plain e) }

-- fields of which there is one
pub suits_fields : (mode : Mode) (ms : List Manner) → Suits mode (fields_form ms) → Suits mode (every ms)
suits_fields mode [] h = no h.full
suits_fields mode (m ∷ ms) h = h
