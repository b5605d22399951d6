use Rattle.std.proofs.Common.{◌≤◌, length}
use Rattle.std.specs.Prelude.{slice_index_or}
use Rattle.std.proofs.lemmas.Result.{on_ok_weaker}
use Rattle.lowered_steps.proofs.Lists.{got_item, lt_false}
use Rattle.jib_lower.specs.Cycles.{Joined}
use Rattle.jib_lower.proofs.Falling.{lead_nowhere, lead_there, past_none}
use Rattle.jib_lower.proofs.cycles.join_lead.Goals as goal

pub returns-in-Some : goal.returns-in-Some
returns-in-Some c =
    on_ok_weaker c.add_call.result
    (λ (h : Joined (λ ns. slice_index_or ns c.in-Some.called.now.instance.function 0 ≤ slice_index_or ns c.args.caller 0) c.args.graph.now
    c.add_call.new.graph).
    lead_there c.args.instances.now c.args.caller c.args.place c.in-Some.called.now c.args.graph.now c.add_call.new.graph
    (got_item c.args.instances.now c.args.place c.in-Some.called.now c.in-Some.ensures.lookup.0 c.in-Some.ensures.lookup.1) h) c.add_call.ensures

pub returns-in-None : goal.returns-in-None
returns-in-None c =
    lead_nowhere c.args.instances.now c.args.caller c.args.place c.args.graph.now
    (past_none c.args.instances.now c.args.place (lt_false c.args.place (length c.args.instances.now) c.in-None.ensures.lookup.0))
