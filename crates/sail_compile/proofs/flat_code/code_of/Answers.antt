use Rattle.sail_compile.proofs.flat_code.code_of.Goals as goal

pub returns-in-Err : goal.returns-in-Err
returns-in-Err c = c.unless_wanting.ensures c.args.core c.in-Err.ensures
