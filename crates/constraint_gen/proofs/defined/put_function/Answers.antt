use Rattle.constraint_gen.proofs.Placing.{function_put}
use Rattle.constraint_gen.proofs.defined.put_function.Goals as goal

pub returns : goal.returns
returns c = λ core around there.
    function_put core around c.put_measure.result c.args.list.now c.put.new.list c.put_measure.new.list c.args.function.now c.args.at there
    (c.in_ok-put.ensures core around) (c.put_measure.ensures core around there)
