use Rattle.std.proofs.Common.{◌∙◌, ap, List}
use Rattle.sail_core.specs.declared.tree.Kind.TheVariants as K
use Rattle.sail_core.specs.declared.written.WrittenNumber.{WrittenNumber}
use Rattle.shape_rules.specs.Around.{setting_of}
use Rattle.shape_rules.specs.Findings.{leaf}
use Rattle.shape_rules.specs.Written.{constraint_in}
use Rattle.shape_forms.proofs.Asked.{truth_noted}
use Rattle.shape_forms.proofs.asking.truth.Goals as goal

pub returns-in_ok-numbers_in-in-Some-clause-failures : goal.returns-in_ok-numbers_in-in-Some-clause-failures
returns-in_ok-numbers_in-in-Some-clause-failures c =
    truth_noted c.settled.result c.args.place c.args.typ.now (setting_of c.args.around.now) c.args.want.now c.leaf-core.result c.in-Some.constraint
    (constraint_in (setting_of c.args.around.now).within c.args.typ.now) c.args.first.now.error _ c.settled.new.first.error
    (cc (c.in-Some.is, c.in_ok-constraint_in.ensures))
    (c.leaf-core.ensures ∙ ap (λ (ns : List WrittenNumber). leaf c.args.place (K.Constraint c.in-Some.constraint ns)) c.in_ok-numbers_in-in-Some.ensures)
    c.in_ok-note_written-in-Some.ensures.failures c.settled.ensures.failures
