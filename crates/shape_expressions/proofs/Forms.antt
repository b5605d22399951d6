-- Parts of values, updates and structs with other fields as expressions, of the parts that the code has in hand.
use Rattle.std.proofs.Common.{◌≡◌, List, map, sym, ap, ◌∙◌}
use Rattle.sail_base.specs.declared.place.Place.{Place}
use Rattle.sail_syntax.specs.declared.expressions.Exp.{Exp}
use Rattle.sail_syntax.specs.declared.expressions.Exp.TheOpen as E
use Rattle.sail_syntax.specs.declared.expressions.Exp.TheVariants as V
use Rattle.sail_syntax.specs.declared.expressions.Exp.TheFolds.{fold-roll-Exp}
use Rattle.sail_syntax.specs.declared.expressions.FieldValue.{FieldValue}
use Rattle.sail_syntax.specs.declared.expressions.Index.{Index}
use Rattle.sail_syntax.specs.declared.expressions.Suffix.{Suffix}
use Rattle.sail_types.specs.declared.shapes.Shape.{Shape}
use Rattle.shape_rules.specs.Scopes.{Setting, Locals}
use Rattle.shape_rules.specs.Targets.{Part, TargetPart, SuffixPart, IndexPart}
use Rattle.shape_rules.specs.Values.{FieldPart, part_found, update_found, with_found}
use Rattle.shape_rules.specs.Statements.{StatementPart, CasePart, RangePart, FurtherPart}
use Rattle.shape_rules.specs.Expressions.{elaborate as elaborated, part, exp_form, target_form, statement_form, suffix_form}
use Rattle.shape_rules.specs.Expressions.{case_form, field_form}
use Rattle.shape_rules.specs.Expressions.{index_form, range_form, further_form}
use Rattle.shape_walks.specs.Trees.{field_value, suffix_part, index_part}

of_With : (place : Place) (base : Exp) (fs : List FieldValue)
    → part (V.With place base fs) ≡ exp_form (E.With place (part base) (map field_value fs))
of_With place base fs = ap part (sym (V.rolls-With place base fs))
    ∙ fold-roll-Exp Part TargetPart StatementPart SuffixPart CasePart FieldPart IndexPart RangePart FurtherPart
    exp_form target_form statement_form suffix_form case_form field_form index_form range_form further_form (E.With place base fs)

pub with_expression : (e : Exp) (place : Place) (base base' : Exp) (fs fs' : List FieldValue) (setting : Setting) (locals : Locals) (want : Shape)
    → e ≡ V.With place base fs → base' ≡ base → fs' ≡ fs
    → elaborated e setting locals want ≡ with_found place (part base') (map field_value fs') setting locals want
with_expression e place base base' fs fs' setting locals want is one rest =
    (λ i. (part (is i)).elaborate setting locals want) ∙ (λ i. (of_With place base fs i).elaborate setting locals want)
    ∙ (λ i. with_found place (part (sym one i)) (map field_value (sym rest i)) setting locals want)

of_Part : (place : Place) (base : Exp) (suffixes : List Suffix)
    → part (V.Part place base suffixes) ≡ exp_form (E.Part place (part base) (map suffix_part suffixes))
of_Part place base suffixes = ap part (sym (V.rolls-Part place base suffixes))
    ∙ fold-roll-Exp Part TargetPart StatementPart SuffixPart CasePart FieldPart IndexPart RangePart FurtherPart
    exp_form target_form statement_form suffix_form case_form field_form index_form range_form further_form (E.Part place base suffixes)

pub part_expression : (e : Exp) (place : Place) (base base' : Exp) (suffixes suffixes' : List Suffix) (setting : Setting) (locals : Locals) (want : Shape)
    → e ≡ V.Part place base suffixes → base' ≡ base → suffixes' ≡ suffixes
    → elaborated e setting locals want ≡ part_found place (part base') (map suffix_part suffixes') setting locals want
part_expression e place base base' suffixes suffixes' setting locals want is one rest =
    (λ i. (part (is i)).elaborate setting locals want) ∙ (λ i. (of_Part place base suffixes i).elaborate setting locals want)
    ∙ (λ i. part_found place (part (sym one i)) (map suffix_part (sym rest i)) setting locals want)

of_Update : (place : Place) (base : Exp) (index : Index) (value : Exp)
    → part (V.Update place base index value) ≡ exp_form (E.Update place (part base) (index_part index) (part value))
of_Update place base index value = ap part (sym (V.rolls-Update place base index value))
    ∙ fold-roll-Exp Part TargetPart StatementPart SuffixPart CasePart FieldPart IndexPart RangePart FurtherPart
    exp_form target_form statement_form suffix_form case_form field_form index_form range_form further_form (E.Update place base index value)

pub update_expression : (e : Exp) (place : Place) (base base' : Exp) (index index' : Index) (value value' : Exp) (setting : Setting) (locals : Locals)
    (want : Shape) → e ≡ V.Update place base index value → base' ≡ base → index' ≡ index → value' ≡ value
    → elaborated e setting locals want ≡ update_found place (part base') (index_part index') (part value') setting locals want
update_expression e place base base' index index' value value' setting locals want is one two three =
    (λ i. (part (is i)).elaborate setting locals want) ∙ (λ i. (of_Update place base index value i).elaborate setting locals want)
    ∙ (λ i. update_found place (part (sym one i)) (index_part (sym two i)) (part (sym three i)) setting locals want)
