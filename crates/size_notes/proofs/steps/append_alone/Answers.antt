use Rattle.value_indices.specs.Walking.{seen}
use Rattle.size_notes.proofs.Spliced.{appended}
use Rattle.size_notes.proofs.steps.append_alone.Goals as goal

pub returns : goal.returns
returns c =
    let body = c.args.body.now in
    appended c.args.behind.now body (record { steps = c.push_steps.new.steps; next = body.next }) c.args.inner c.into_steps.result c.next-next.result
    (seen c.count_from.new.self) c.requires.rest c.requires.ended c.into_steps.ensures c.in_ok-push_steps.ensures c.next-next.ensures
    c.count_from.ensures
