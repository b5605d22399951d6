use Rattle.shape_meanings.proofs.Declaring.{let_right, var_right, declare_is}
use Rattle.shape_meanings.proofs.Looping.{foreach_right, while_right, repeat_right}
use Rattle.shape_meanings.proofs.Trying.{try_right}
use Rattle.shape_meanings.proofs.Vectors.{vector_right}
use Rattle.shape_meanings.proofs.Tests.{sizeof_right, constraint_right}
use Rattle.shape_meanings.proofs.laws.steps_are_right.Goals as goal

pub returns-clause-lets : goal.returns-clause-lets
returns-clause-lets c = let_right

pub returns-clause-variables : goal.returns-clause-variables
returns-clause-variables c = var_right

pub returns-clause-declared : goal.returns-clause-declared
returns-clause-declared c = declare_is

pub returns-clause-foreaches : goal.returns-clause-foreaches
returns-clause-foreaches c = foreach_right

pub returns-clause-whiles : goal.returns-clause-whiles
returns-clause-whiles c = while_right

pub returns-clause-repeats : goal.returns-clause-repeats
returns-clause-repeats c = repeat_right

pub returns-clause-tries : goal.returns-clause-tries
returns-clause-tries c = try_right

pub returns-clause-vectors : goal.returns-clause-vectors
returns-clause-vectors c = vector_right

pub returns-clause-sizes : goal.returns-clause-sizes
returns-clause-sizes c = sizeof_right

pub returns-clause-constraints : goal.returns-clause-constraints
returns-clause-constraints c = constraint_right
