use Rattle.std.proofs.Common.{◌∙◌, ◌++◌, ap}
use Rattle.jib_lower.specs.Crossings.{asked_in}
use Rattle.jib_lower.proofs.crossings.asked_in.Goals as goal

pub returns : goal.returns
returns c = c.in_ok-list_asked.ensures ∙ ap (λ ds. ds ++ asked_in c.args.direction.now.body) c.new-asked.ensures
