-- The parts of an expression's tree as the definitions see them: each stands where `part` has it.
use Rattle.std.specs.Prelude.{List, map}
use Rattle.sail_syntax.specs.declared.expressions.Exp.{Exp}
use Rattle.sail_syntax.specs.declared.expressions.Exp.TheFolds.{fold-LExp, fold-Stmt, fold-Suffix, fold-Case, fold-FieldValue}
use Rattle.sail_syntax.specs.declared.expressions.Exp.TheFolds.{fold-Index, fold-Range, fold-Target}
use Rattle.sail_syntax.specs.declared.expressions.LExp.{LExp}
use Rattle.sail_syntax.specs.declared.expressions.Stmt.{Stmt}
use Rattle.sail_syntax.specs.declared.expressions.Suffix.{Suffix}
use Rattle.sail_syntax.specs.declared.expressions.Case.{Case}
use Rattle.sail_syntax.specs.declared.expressions.FieldValue.{FieldValue}
use Rattle.sail_syntax.specs.declared.expressions.Index.{Index}
use Rattle.sail_syntax.specs.declared.expressions.Range.{Range}
use Rattle.sail_syntax.specs.declared.expressions.Target.{Target}
use Rattle.shape_rules.specs.Calls.{Elaborate}
use Rattle.shape_rules.specs.Targets.{Part, TargetPart, SuffixPart, IndexPart, elaborations}
use Rattle.shape_rules.specs.Values.{FieldPart}
use Rattle.shape_rules.specs.Statements.{StatementPart, CasePart, RangePart, FurtherPart}
use Rattle.shape_rules.specs.Expressions.{part, exp_form, target_form, statement_form, suffix_form, case_form, field_form, index_form, range_form, further_form}

-- expressions, as what is found of each
abbrev pub elaborates : List Exp → List Elaborate
elaborates es = elaborations (map part es)

abbrev pub target_part : LExp → TargetPart
target_part = fold-LExp Part TargetPart StatementPart SuffixPart CasePart FieldPart IndexPart RangePart FurtherPart
    exp_form target_form statement_form suffix_form case_form field_form index_form range_form further_form

abbrev pub statement_part : Stmt → StatementPart
statement_part = fold-Stmt Part TargetPart StatementPart SuffixPart CasePart FieldPart IndexPart RangePart FurtherPart
    exp_form target_form statement_form suffix_form case_form field_form index_form range_form further_form

abbrev pub suffix_part : Suffix → SuffixPart
suffix_part = fold-Suffix Part TargetPart StatementPart SuffixPart CasePart FieldPart IndexPart RangePart FurtherPart
    exp_form target_form statement_form suffix_form case_form field_form index_form range_form further_form

abbrev pub case_part : Case → CasePart
case_part = fold-Case Part TargetPart StatementPart SuffixPart CasePart FieldPart IndexPart RangePart FurtherPart
    exp_form target_form statement_form suffix_form case_form field_form index_form range_form further_form

abbrev pub field_value : FieldValue → FieldPart
field_value = fold-FieldValue Part TargetPart StatementPart SuffixPart CasePart FieldPart IndexPart RangePart FurtherPart
    exp_form target_form statement_form suffix_form case_form field_form index_form range_form further_form

abbrev pub index_part : Index → IndexPart
index_part = fold-Index Part TargetPart StatementPart SuffixPart CasePart FieldPart IndexPart RangePart FurtherPart
    exp_form target_form statement_form suffix_form case_form field_form index_form range_form further_form

abbrev pub range_part : Range → RangePart
range_part = fold-Range Part TargetPart StatementPart SuffixPart CasePart FieldPart IndexPart RangePart FurtherPart
    exp_form target_form statement_form suffix_form case_form field_form index_form range_form further_form

abbrev pub further_part : Target → FurtherPart
further_part = fold-Target Part TargetPart StatementPart SuffixPart CasePart FieldPart IndexPart RangePart FurtherPart
    exp_form target_form statement_form suffix_form case_form field_form index_form range_form further_form
