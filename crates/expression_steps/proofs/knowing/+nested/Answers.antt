use Rattle.std.proofs.Common.{◌∙◌, ap, sym}
use Rattle.sail_core.specs.declared.tree.Kind.{Kind}
use Rattle.sail_core.specs.declared.tree.Kind.TheVariants as K
use Rattle.expression_steps.specs.Coded.{each_part}
use Rattle.expression_steps.specs.Expressions.{kind_nested}
use Rattle.expression_steps.proofs.Opened.{nested_is}
use Rattle.expression_steps.proofs.knowing.+nested.Goals as goal

pub is_nested-returns-in-Cast-None : goal.is_nested-returns-in-Cast-None
is_nested-returns-in-Cast-None t c =
    let ps = c.as_slice.result.now in
    let none = rw c.in-Cast-None.is at c.in-Cast-None.field-0-is in
    c.is_inside_nested.ensures
    ∙ sym (nested_is c.args.core.now ps c.as_slice.ensures
    ∙ ap (λ (k : Kind). kind_nested k (each_part ps)) (c.in-Cast-None.is ∙ ap K.Cast none))

pub is_nested-returns-in-When : goal.is_nested-returns-in-When
is_nested-returns-in-When t c =
    let ps = c.as_slice-in-When.result.now in
    c.is_guarded_nested.ensures
    ∙ sym (nested_is c.args.core.now ps c.as_slice-in-When.ensures ∙ ap (λ (k : Kind). kind_nested k (each_part ps)) c.in-When.is)
