use Rattle.std.proofs.Common.{◌≡◌, sym, subst, IfOk, OnOk}
use Rattle.shape_rules.specs.Around.{setting_of}
use Rattle.shape_rules.specs.Findings.{first_failure, Found}
use Rattle.shape_calls.specs.Made.{made_of}
use Rattle.shape_expressions.proofs.Forms.{with_expression}
use Rattle.shape_expressions.proofs.expressions.+elaborate.Goals as goal

pub returns-in-With-clause-made : goal.returns-in-With-clause-made
returns-in-With-clause-made t c =
    subst (λ (f : Found). IfOk c.with_found.result (λ made. made ≡ made_of f))
    (sym (with_expression c.args.expression.now c.in-With.place c.in-With.base c.get-in-With.result.now c.in-With.fields c.as_slice-in-With.result.now
    (setting_of c.args.around.now) c.args.locals.now c.args.want.now c.in-With.is c.get-in-With.ensures c.as_slice-in-With.ensures))
    c.with_found.ensures.made

pub returns-in-With-clause-failures : goal.returns-in-With-clause-failures
returns-in-With-clause-failures t c =
    subst (λ (f : Found). OnOk c.with_found.result (c.with_found.new.first.error ≡ first_failure c.args.first.now.error f.faults))
    (sym (with_expression c.args.expression.now c.in-With.place c.in-With.base c.get-in-With.result.now c.in-With.fields c.as_slice-in-With.result.now
    (setting_of c.args.around.now) c.args.locals.now c.args.want.now c.in-With.is c.get-in-With.ensures c.as_slice-in-With.ensures))
    c.with_found.ensures.failures
