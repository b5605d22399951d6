use Rattle.constraint_gen.proofs.Placing.{listed_as, mapping_there}
use Rattle.constraint_gen.proofs.defined.put_mapping.Goals as goal

pub returns : goal.returns
returns c = λ core around backwards first second.
    listed_as core around c.put.result c.args.list.now c.put.new.list
    (mapping_there core around c.args.forwards.now backwards c.args.at c.args.behind first second) (c.put.ensures core around)
