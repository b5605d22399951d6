use Rattle.constraint_gen.proofs.Placing.{put_one}
use Rattle.constraint_gen.proofs.defined.put.Goals as goal

pub returns : goal.returns
returns c = λ core around.
    put_one core around c.push.result c.args.list.now c.push.new.self (record { place = c.args.place; defined = c.args.defined }) c.push.ensures.pushed
