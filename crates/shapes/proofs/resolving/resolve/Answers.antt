use Rattle.std.proofs.Common.{sym, ap, ◌∙◌, Option}
use Rattle.shape_rules.specs.declared.error.ShapeError.{ShapeError}
use Rattle.shape_rules.specs.Findings.{first_failure}
use Rattle.shapes.specs.Failures.{all_faults}
use Rattle.shapes.specs.Tabled.{tabled_of}
use Rattle.shapes.proofs.Refused.{refused_for}
use Rattle.shapes.proofs.resolving.resolve.Goals as goal

pub returns-in-Some-clause-refused : goal.returns-in-Some-clause-refused
returns-in-Some-clause-refused c = λ text end are.
    refused_for text c.in-Some.error
    (sym (c.in-Some.ensures.value ∙ c.in_ok-core.ensures.failures text end are
    ∙ ap (λ (kept : Option ShapeError). first_failure kept (all_faults (tabled_of text) text)) c.none-first.ensures))
