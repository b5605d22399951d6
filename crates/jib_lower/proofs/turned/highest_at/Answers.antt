use Rattle.std.proofs.Common.{◌∙◌, ◌/◌, ap, sym}
use Rattle.lowered_steps.proofs.Lists.{got_item, got_none}
use Rattle.jib_lower.specs.Crossings.{highest_at, highest_in}
use Rattle.jib_lower.proofs.turned.highest_at.Goals as goal

pub returns-in-Some : goal.returns-in-Some
returns-in-Some c =
    c.highest_in.ensures ∙ ap (highest_in c.args.numbers.now c.args.instances.now) c.as_slice.ensures
    ∙ sym (ap (highest_at c.args.numbers.now c.args.instances.now)
    (got_item c.args.mappings.now (c.args.direction / 2) c.in-Some.nodes.now c.in-Some.ensures.lookup.0 c.in-Some.ensures.lookup.1))

pub returns-in-None : goal.returns-in-None
returns-in-None c =
    sym (ap (highest_at c.args.numbers.now c.args.instances.now) (got_none c.args.mappings.now (c.args.direction / 2) c.in-None.ensures.lookup.0))
