use Rattle.std.proofs.Common.{◌≡◌, ◌∙◌, ◌++◌, IfOk, subst, sym}
use Rattle.value_indices.specs.Steps.{Conditions}
use Rattle.expression_forms.proofs.Bounds.{compare_is, one_of_is}
use Rattle.expression_forms.proofs.sizes.+compared.Goals as goal

pub compared-returns-in_ok-append-in-Compare : goal.compared-returns-in_ok-append-in-Compare
compared-returns-in_ok-append-in-Compare t c =
    c.in_ok-append-in-Compare.ensures.appended
    ∙ (λ j. c.in_ok-made-in-Compare.ensures j ++ c.in_ok-side_through-in-Compare.ensures j)
    ∙ sym (compare_is c.args.indices.now c.args.numbers.now c.args.condition.now c.in-Compare.field-0 c.in-Compare.left c.in-Compare.right c.in-Compare.is)

pub compared-returns-in-OneOf : goal.compared-returns-in-OneOf
compared-returns-in-OneOf t c =
    subst (λ (cs : Conditions). IfOk c.side_through-in-OneOf.result (λ made. made ≡ cs))
    (sym (one_of_is c.args.indices.now c.args.numbers.now c.args.condition.now c.in-OneOf.number c.in-OneOf.field-1 c.in-OneOf.is))
    c.side_through-in-OneOf.ensures
