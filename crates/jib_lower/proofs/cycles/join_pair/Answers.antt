use Rattle.std.proofs.Common.{◌≤◌}
use Rattle.std.specs.Prelude.{slice_index_or}
use Rattle.std.proofs.lemmas.Result.{on_ok_weaker}
use Rattle.jib_lower.specs.Cycles.{Joined}
use Rattle.jib_lower.proofs.Falling.{pair_joined}
use Rattle.jib_lower.proofs.cycles.join_pair.Goals as goal

pub returns-in_ok-add_call : goal.returns-in_ok-add_call
returns-in_ok-add_call c =
    on_ok_weaker c.add_call-then-is_one.result
    (λ (h : Joined (λ ns. slice_index_or ns c.args.left 0 ≤ slice_index_or ns c.args.right 0) c.add_call.new.graph c.add_call-then-is_one.new.graph).
    pair_joined c.args.is_one c.args.left c.args.right c.args.graph.now c.add_call.new.graph c.add_call-then-is_one.new.graph c.if-is_one.true
    c.in_ok-add_call.ensures h) c.add_call-then-is_one.ensures
