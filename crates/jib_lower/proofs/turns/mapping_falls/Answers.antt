use Rattle.std.proofs.Common.{◌∙◌, ◌/◌, ap, sym}
use Rattle.lowered_steps.proofs.Lists.{got_item, got_none}
use Rattle.jib_lower.specs.Cycles.{mapping_falls, nodes_fall}
use Rattle.jib_lower.proofs.turns.mapping_falls.Goals as goal

pub returns-in-Some : goal.returns-in-Some
returns-in-Some c =
    c.nodes_fall.ensures ∙ ap (nodes_fall c.args.numbers.now c.args.instances.now c.args.own) c.as_slice.ensures
    ∙ sym (ap (mapping_falls c.args.numbers.now c.args.instances.now c.args.own)
    (got_item c.args.mappings.now (c.args.direction / 2) c.in-Some.nodes.now c.in-Some.ensures.lookup.0 c.in-Some.ensures.lookup.1))

pub returns-in-None : goal.returns-in-None
returns-in-None c =
    sym (ap (mapping_falls c.args.numbers.now c.args.instances.now c.args.own)
    (got_none c.args.mappings.now (c.args.direction / 2) c.in-None.ensures.lookup.0))
