use Rattle.lowered_functions.proofs.Put.{ok_answer}
use Rattle.lowered_functions.proofs.functions.put_answer.Goals as goal

pub put_node-requires : goal.put_node-requires
put_node-requires c = c.requires.lowered

pub returns : goal.returns
returns c =
    ok_answer c.put_ends.result c.args.coding.now c.put_node.new.coding c.put_made.new.coding c.put_ends.new.coding _ _ _ _ _ c.in_ok-put_node.ensures
    c.in_ok-put_made.ensures c.put_ends.ensures
