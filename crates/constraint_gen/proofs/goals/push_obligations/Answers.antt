use Rattle.std.proofs.Common.{ap, ◌∙◌}
use Rattle.value_indices.specs.Walking.{begun, steps_read}
use Rattle.constraint_gen.specs.Obligations.{names_of}
use Rattle.constraint_gen.proofs.Owing.{walked_owed}
use Rattle.constraint_gen.proofs.goals.push_obligations.Goals as goal

pub returns : goal.returns
returns c =
    let count = c.next-count.result in
    walked_owed c.push_steps.result c.args.made.now c.push_steps.new.made c.args.walking c.into_steps-steps.result count c.as_slice-2.result.now
    c.into_steps-steps.ensures c.next-count.ensures
    (c.as_slice-2.ensures ∙ (c.in_ok-names.ensures ∙ ap (λ s. names_of count (steps_read (begun 0) s).notes) c.as_slice.ensures))
    c.push_steps.ensures
