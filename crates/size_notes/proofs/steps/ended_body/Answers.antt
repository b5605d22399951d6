use Rattle.std.proofs.Common.{ap, ◌∙◌}
use Rattle.value_indices.specs.Walking.{begun, steps_read}
use Rattle.constraint_gen.specs.Obligations.{names_of}
use Rattle.size_notes.proofs.Walked.{body_ended}
use Rattle.size_notes.proofs.steps.ended_body.Goals as goal

pub returns : goal.returns
returns c =
    let steps = c.into_steps-steps.result in
    let count = c.next-variables.result in
    body_ended c.args.walking steps count c.in_ok-names.names c.into_steps-steps.ensures c.next-variables.ensures
    (c.in_ok-names.ensures ∙ ap (λ ss. names_of count (steps_read (begun 0) ss).notes) c.as_slice.ensures)
