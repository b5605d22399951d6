use Rattle.lowered_nodes.proofs.Joining.{ok_first}
use Rattle.lowered_nodes.proofs.operands.put_noted_tail.Goals as goal

pub returns : goal.returns
returns c =
    ok_first c.put_tail.result _ _ _ _ _ _ c.in_ok-put_notes.ensures c.put_tail.ensures
