-- Indexes by their ends, forms of one shape over their parts, and the first of failures in several parts.
use Rattle.std.proofs.Common.{◌≡◌, List, ◌++◌, Option, Some, None, option_map, refl, ap, ◌∙◌}
use Rattle.sail_base.specs.declared.place.Place.{Place}
use Rattle.sail_syntax.specs.declared.expressions.Index.{Index, out-Index}
use Rattle.sail_syntax.specs.declared.expressions.Exp.TheFolds.{fold_out-Index, map-Index}
use Rattle.sail_syntax.specs.declared.expressions.Exp.{Exp}
use Rattle.sail_syntax.specs.declared.expressions.LExp.{LExp}
use Rattle.sail_syntax.specs.declared.expressions.Stmt.{Stmt}
use Rattle.sail_syntax.specs.declared.expressions.Suffix.{Suffix}
use Rattle.sail_syntax.specs.declared.expressions.Case.{Case}
use Rattle.sail_syntax.specs.declared.expressions.FieldValue.{FieldValue}
use Rattle.sail_syntax.specs.declared.expressions.Range.{Range}
use Rattle.sail_syntax.specs.declared.expressions.Target.{Target}
use Rattle.sail_types.specs.declared.shapes.Shape.{Shape}
use Rattle.sail_core.specs.declared.tree.Core.{Core}
use Rattle.sail_core.specs.declared.tree.Kind.{Kind}
use Rattle.shape_rules.specs.declared.error.ShapeError.{ShapeError}
use Rattle.shape_rules.specs.Findings.{over, settled, first_failure}
use Rattle.shape_rules.specs.Targets.{Part, TargetPart, SuffixPart, IndexPart}
use Rattle.shape_rules.specs.Values.{FieldPart}
use Rattle.shape_rules.specs.Statements.{StatementPart, CasePart, RangePart, FurtherPart}
use Rattle.shape_rules.specs.Expressions.{part, exp_form, target_form, statement_form, suffix_form, case_form, field_form}
use Rattle.shape_rules.specs.Expressions.{index_form, range_form}
use Rattle.shape_rules.specs.Expressions.{further_form}
use Rattle.shape_rules.proofs.Firsts.{first_failure_append}
use Rattle.shape_walks.specs.Trees.{target_part, statement_part, suffix_part, case_part, field_value, index_part, range_part, further_part}
use Rattle.shape_forms.specs.Over.{over_found}

-- the ends of an index are those of its expressions
last_mapped : (front : Exp) (last : Option Exp) → (index_form (map-Index Exp LExp Stmt Suffix Case FieldValue Index Range Target
    Part TargetPart StatementPart SuffixPart CasePart FieldPart IndexPart RangePart FurtherPart
    part target_part statement_part suffix_part case_part field_value index_part range_part further_part
    (record { first = front; last = last }))).last ≡ option_map part last
last_mapped front None = refl
last_mapped front (Some e) = refl

pub first_is : (i : Index) → (index_part i).first ≡ part (out-Index i).first
first_is i = ap (λ (p : IndexPart). p.first)
    (fold_out-Index Part TargetPart StatementPart SuffixPart CasePart FieldPart IndexPart RangePart FurtherPart
    exp_form target_form statement_form suffix_form case_form field_form index_form range_form further_form i)

pub last_is : (i : Index) → (index_part i).last ≡ option_map part (out-Index i).last
last_is i = ap (λ (p : IndexPart). p.last)
    (fold_out-Index Part TargetPart StatementPart SuffixPart CasePart FieldPart IndexPart RangePart FurtherPart
    exp_form target_form statement_form suffix_form case_form field_form index_form range_form further_form i)
    ∙ last_mapped (out-Index i).first (out-Index i).last

pub over_is : (place place' : Place) (want s s' : Shape) (kind kind' : Kind) (parts parts' : List Core)
    → place ≡ place' → s ≡ s' → kind ≡ kind' → parts ≡ parts'
    → over_found place want s kind parts ≡ settled place' want s' (λ t. over place' kind' parts')
unfolding over_found
over_is place place' want s s' kind kind' parts parts' one two three four =
    λ j. settled (one j) want (two j) (λ t. over (one j) (three j) (four j))

pub three_failures : (old : Option ShapeError) (a b c : List ShapeError)
    → first_failure old ((a ++ b) ++ c) ≡ first_failure (first_failure (first_failure old a) b) c
three_failures old a b c =
    first_failure_append old (a ++ b) c ∙ ap (λ (o : Option ShapeError). first_failure o c) (first_failure_append old a b)

pub five_failures : (old : Option ShapeError) (a b c d e : List ShapeError)
    → first_failure old ((((a ++ b) ++ c) ++ d) ++ e)
    ≡ first_failure (first_failure (first_failure (first_failure (first_failure old a) b) c) d) e
five_failures old a b c d e =
    first_failure_append old (((a ++ b) ++ c) ++ d) e
    ∙ ap (λ (o : Option ShapeError). first_failure o e) (first_failure_append old ((a ++ b) ++ c) d
    ∙ ap (λ (o : Option ShapeError). first_failure o d) (three_failures old a b c))
