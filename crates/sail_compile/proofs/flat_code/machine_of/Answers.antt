use Rattle.sail_compile.proofs.flat_code.machine_of.Goals as goal

pub returns-in_ok-machine-in-Ok : goal.returns-in_ok-machine-in-Ok
returns-in_ok-machine-in-Ok c =
    c.in_ok-machine-in-Ok.ensures c.args.core c.args.sized.now c.requires c.in-Ok.ensures.flat c.in-Ok.ensures.made

pub returns-in-Err : goal.returns-in-Err
returns-in-Err c = c.unless_memory.ensures c.args.core c.args.sized.now c.requires c.in-Err.ensures.left
