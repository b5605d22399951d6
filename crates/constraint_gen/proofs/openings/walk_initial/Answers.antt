use Rattle.value_indices.specs.Walking.{seen}
use Rattle.pattern_leaves.specs.Settings.{around_of}
use Rattle.function_notes.specs.Expressions.{part}
use Rattle.constraint_gen.proofs.Lets.{initial_walked}
use Rattle.constraint_gen.proofs.openings.walk_initial.Goals as goal

pub returns : goal.returns
returns c =
    initial_walked (around_of c.args.around.now) (around_of c.apart-inner.result) c.args.register.now (part c.args.value.now) (seen c.args.walking.now)
    (seen c.walk_expression.new.walking) _ c.in_ok-aim.aim c.apart-inner.ensures c.empty.ensures c.in_ok-aim.ensures
    c.in_ok-walk_expression.ensures.walked
