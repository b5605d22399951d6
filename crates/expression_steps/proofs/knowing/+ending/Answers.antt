use Rattle.std.proofs.Common.{◌∙◌, ◌-◌, ap, sym, length, arith}
use Rattle.sail_core.specs.declared.tree.Kind.{Kind}
use Rattle.sail_core.specs.declared.tree.Kind.TheVariants as K
use Rattle.expression_steps.specs.Coded.{each_part}
use Rattle.expression_steps.specs.Expressions.{kind_never_ends}
use Rattle.expression_steps.proofs.Opened.{ending_is, last_at}
use Rattle.expression_steps.proofs.knowing.+ending.Goals as goal

pub last_never_ends-returns-in-len1-up : goal.last_never_ends-returns-in-len1-up
last_never_ends-returns-in-len1-up t c =
    let some = c.in-len1-up.len_at_least in
    c.never_ends.ensures
    ∙ last_at c.args.parts.now (length c.args.parts.now - 1) c.last-item.result (omega (arith, some)) c.last-item.is

pub never_ends-returns-in-Cast-None : goal.never_ends-returns-in-Cast-None
never_ends-returns-in-Cast-None t c =
    let ps = c.as_slice.result.now in
    let none = rw c.in-Cast-None.is at c.in-Cast-None.field-0-is in
    c.inside_never_ends.ensures
    ∙ sym (ending_is c.args.core.now ps c.as_slice.ensures
    ∙ ap (λ (k : Kind). kind_never_ends k (each_part ps)) (c.in-Cast-None.is ∙ ap K.Cast none))

pub never_ends-returns-in-When : goal.never_ends-returns-in-When
never_ends-returns-in-When t c =
    let ps = c.as_slice-in-When.result.now in
    c.guarded_never_ends.ensures
    ∙ sym (ending_is c.args.core.now ps c.as_slice-in-When.ensures ∙ ap (λ (k : Kind). kind_never_ends k (each_part ps)) c.in-When.is)

pub never_ends-returns-in-If : goal.never_ends-returns-in-If
never_ends-returns-in-If t c =
    let ps = c.as_slice-in-If.result.now in
    c.both_never_end.ensures
    ∙ sym (ending_is c.args.core.now ps c.as_slice-in-If.ensures ∙ ap (λ (k : Kind). kind_never_ends k (each_part ps)) c.in-If.is)
