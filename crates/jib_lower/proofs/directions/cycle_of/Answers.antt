use Rattle.std.proofs.Common.{◌∙◌, Some, ap}
use Rattle.lowered_steps.proofs.Lists.{got_item, got_none}
use Rattle.jib_lower.proofs.Ways.{none_there, nothing_there}
use Rattle.jib_lower.proofs.directions.cycle_of.Goals as goal

pub returns-in-Some-own-clause-found : goal.returns-in-Some-own-clause-found
returns-in-Some-own-clause-found c =
    got_item c.args.turned.now c.args.at c.in-Some.own.now c.in-Some.ensures.lookup.0 c.in-Some.ensures.lookup.1 ∙ ap (λ o. Some o) c.in-Some-own.is

pub returns-in-None-own-clause-left : goal.returns-in-None-own-clause-left
returns-in-None-own-clause-left c =
    nothing_there c.args.turned.now c.args.at
    (got_item c.args.turned.now c.args.at c.in-Some.own.now c.in-Some.ensures.lookup.0 c.in-Some.ensures.lookup.1 ∙ ap (λ o. Some o) c.in-None-own.is)

pub returns-in-None-clause-left : goal.returns-in-None-clause-left
returns-in-None-clause-left c = none_there c.args.turned.now c.args.at (got_none c.args.turned.now c.args.at c.in-None.ensures.lookup.0)
