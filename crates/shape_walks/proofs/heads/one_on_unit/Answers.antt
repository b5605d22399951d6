use Rattle.std.proofs.Common.{◌∙◌, slice_get}
use Rattle.shape_walks.proofs.Recalled.{unit_made, unit_noted, no_unit_noted}
use Rattle.shape_walks.proofs.heads.one_on_unit.Goals as goal

pub returns-in-Some-clause-made : goal.returns-in-Some-clause-made
returns-in-Some-clause-made c =
    unit_made c.one_on_param.result c.args.place c.args.want.now c.args.callee.now c.in_ok-known.known c.in-Some.param.now
    (slice_get c.args.callee.now.params 0) c.in-Some.ensures.item c.in_ok-known.ensures c.one_on_param.ensures.made

pub returns-in-Some-clause-failures : goal.returns-in-Some-clause-failures
returns-in-Some-clause-failures c =
    unit_noted c.one_on_param.result c.args.place c.args.want.now c.args.callee.now c.in_ok-known.known c.in-Some.param.now
    (slice_get c.args.callee.now.params 0) c.args.first.now.error c.one_on_param.new.first.error c.in-Some.ensures.item c.in_ok-known.ensures
    c.one_on_param.ensures.failures

pub returns-in-None-clause-failures : goal.returns-in-None-clause-failures
returns-in-None-clause-failures c =
    no_unit_noted c.call_found.result c.args.place c.args.want.now c.args.callee.now c.as_slice.result.now c.new.result
    (slice_get c.args.callee.now.params 0) c.args.first.now.error c.call_found.new.first.error c.in-None.ensures.item
    (c.as_slice.ensures ∙ c.in_ok-known.ensures) c.new.ensures c.call_found.ensures.failures
