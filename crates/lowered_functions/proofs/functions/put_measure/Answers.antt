use Rattle.lowered_functions.proofs.Put.{ok_behind}
use Rattle.lowered_functions.proofs.functions.put_measure.Goals as goal

pub put_node-requires : goal.put_node-requires
put_node-requires c = c.requires.lowered

pub returns : goal.returns
returns c =
    ok_behind c.put_measure.result c.args.coding.now c.put_node.new.coding c.put_measure.new.self _ _ _ c.in_ok-put_node.ensures c.put_measure.ensures
