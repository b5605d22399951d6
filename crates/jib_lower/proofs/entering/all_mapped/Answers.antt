use Rattle.std.proofs.Common.{◌∙◌, ◌++◌, ap}
use Rattle.jib_lower.specs.Entering.{mapped_from}
use Rattle.jib_lower.proofs.entering.all_mapped.Goals as goal

pub returns : goal.returns
returns c =
    c.in_ok-push_mapped.ensures ∙ ap (λ xs. xs ++ mapped_from c.args.types.now c.args.order.now 0 c.args.directions.now) c.new-all.ensures
