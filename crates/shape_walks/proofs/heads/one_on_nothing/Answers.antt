use Rattle.std.proofs.Common.{◌∙◌, arith}
use Rattle.shape_walks.proofs.Recalled.{nothing_noted}
use Rattle.shape_walks.proofs.heads.one_on_nothing.Goals as goal

pub returns-in_ok-known-clause-failures : goal.returns-in_ok-known-clause-failures
returns-in_ok-known-clause-failures c =
    nothing_noted c.call_found.result c.args.place c.args.want.now c.args.callee.now c.as_slice.result.now c.new.result
    c.args.first.now.error c.call_found.new.first.error (omega arith) (c.as_slice.ensures ∙ c.in_ok-known.ensures)
    c.new.ensures c.call_found.ensures.failures
