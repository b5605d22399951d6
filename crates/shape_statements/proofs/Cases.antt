-- Cases as the code has them in hand.
use Rattle.std.proofs.Common.{◌≡◌, ◌++◌, Some, sym, ap, ◌∙◌}
use Rattle.sail_syntax.specs.declared.expressions.Exp.{Exp}
use Rattle.sail_syntax.specs.declared.expressions.Exp.TheFolds.{fold_out-Case, fold-roll-Case}
use Rattle.sail_syntax.specs.declared.expressions.Exp.TheViews.{roll-out-Case}
use Rattle.sail_syntax.specs.declared.expressions.Case.{Case, out-Case, roll-Case}
use Rattle.sail_syntax.specs.declared.patterns.Pat.{Pat}
use Rattle.sail_types.specs.declared.shapes.Shape.{Shape}
use Rattle.sail_types.specs.declared.shapes.Shape.TheVariants as V
use Rattle.shape_rules.specs.Scopes.{Setting, Locals}
use Rattle.shape_rules.specs.Targets.{Part, TargetPart, SuffixPart, IndexPart}
use Rattle.shape_rules.specs.Values.{FieldPart}
use Rattle.shape_rules.specs.Statements.{StatementPart, CasePart, RangePart, FurtherPart}
use Rattle.shape_rules.specs.Expressions.{elaborate as elaborated, part, exp_form, target_form, statement_form, suffix_form}
use Rattle.shape_rules.specs.Expressions.{case_form, field_form}
use Rattle.shape_rules.specs.Expressions.{index_form, range_form, further_form}
use Rattle.shape_walks.specs.Trees.{case_part}
use Rattle.shape_forms.specs.Steps.{case_faults}

pub pattern_is : (c : Case) → (case_part c).pattern ≡ (out-Case c).pattern
pattern_is c = ap (λ (p : CasePart). p.pattern)
    (fold_out-Case Part TargetPart StatementPart SuffixPart CasePart FieldPart IndexPart RangePart FurtherPart
    exp_form target_form statement_form suffix_form case_form field_form index_form range_form further_form c)

of_guarded : (p : Pat) (guard body : Exp)
    → case_part (roll-Case (record { pattern = p; guard = Some guard; body = body }))
    ≡ case_form (record { pattern = p; guard = Some (part guard); body = part body })
of_guarded p guard body =
    fold-roll-Case Part TargetPart StatementPart SuffixPart CasePart FieldPart IndexPart RangePart FurtherPart
    exp_form target_form statement_form suffix_form case_form field_form index_form range_form further_form
    (record { pattern = p; guard = Some guard; body = body })

opened : (c : Case) (guard : Exp) → (out-Case c).guard ≡ Some guard
    → case_part c ≡ case_form (record { pattern = (out-Case c).pattern; guard = Some (part guard); body = part (out-Case c).body })
opened c guard is =
    ap case_part (sym (roll-out-Case c))
    ∙ (λ i. case_part (roll-Case (record { pattern = (out-Case c).pattern; guard = is i; body = (out-Case c).body })))
    ∙ of_guarded (out-Case c).pattern guard (out-Case c).body

-- the failures of a case's guard and body
pub guarded_faults : (c : Case) (g guard body : Exp) (setting : Setting) (locals : Locals) (want : Shape)
    → (out-Case c).guard ≡ Some g → guard ≡ g → body ≡ (out-Case c).body
    → case_faults (case_part c) setting locals want
    ≡ (elaborated guard setting locals V.Bool).faults ++ (elaborated body setting locals want).faults
guarded_faults c g guard body setting locals want is same whole =
    ap (λ (p : CasePart). case_faults p setting locals want) (opened c g is)
    ∙ ap (λ (e : Exp). (elaborated e setting locals V.Bool).faults ++ (elaborated (out-Case c).body setting locals want).faults) (sym same)
    ∙ ap (λ (e : Exp). (elaborated guard setting locals V.Bool).faults ++ (elaborated e setting locals want).faults) (sym whole)
