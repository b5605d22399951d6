use Rattle.constraint_gen.proofs.Placing.{listed_as, opening_there}
use Rattle.constraint_gen.proofs.defined.put_opening.Goals as goal

pub returns : goal.returns
returns c = λ core around there.
    listed_as core around c.put.result c.args.list.now c.put.new.list (opening_there core around c.args.opening.now c.args.at there)
    (c.put.ensures core around)
