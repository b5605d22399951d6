use Rattle.std.proofs.Common.{◌∙◌, ap}
use Rattle.jib_lower.specs.Crossings.{with_behind}
use Rattle.jib_lower.proofs.crossings.step.Goals as goal

pub returns : goal.returns
returns c = c.in_ok-add_behind.ensures ∙ ap (with_behind c.args.calls.now c.args.seen.now) c.in_ok-next.ensures
