use Rattle.std.proofs.Common.{◌∙◌, [], ap}
use Rattle.jib_lower.specs.Crossings.{turns_of, wanted_by}
use Rattle.jib_lower.proofs.turned.crossings_of.Goals as goal

pub returns-clause-calls : goal.returns-clause-calls
returns-clause-calls c = c.in_ok-calls.ensures

pub returns-clause-wanted : goal.returns-clause-wanted
returns-clause-wanted c =
    c.in_ok-add_wanted.ensures
    ∙ ap (wanted_by c.as_slice-lists.result.now c.as_slice-instances.result.now) c.new-wanted.ensures
    ∙ ap (λ ts. wanted_by ts c.as_slice-instances.result.now []) (c.as_slice-lists.ensures ∙ c.in_ok-turns.ensures)
    ∙ ap (λ xs. wanted_by (turns_of c.args.core.now) xs []) c.as_slice-instances.ensures
