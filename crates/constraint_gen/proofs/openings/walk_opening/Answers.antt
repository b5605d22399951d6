use Rattle.value_indices.specs.Walking.{seen}
use Rattle.pattern_leaves.specs.Settings.{around_of}
use Rattle.function_notes.specs.Expressions.{part}
use Rattle.constraint_gen.proofs.Lets.{let_opened, register_opened}
use Rattle.constraint_gen.proofs.openings.walk_opening.Goals as goal

pub returns-in_ok-walk_let-in-Let : goal.returns-in_ok-walk_let-in-Let
returns-in_ok-walk_let-in-Let c =
    let o = c.args.opening.now in
    let_opened (around_of c.args.around.now) o.place o.kind (part o.value) (seen c.args.walking.now) (seen c.walk_let.new.walking) _ c.in-Let.is
    c.in_ok-walk_let-in-Let.ensures.walked

pub returns-in-Register : goal.returns-in-Register
returns-in-Register c =
    let o = c.args.opening.now in
    register_opened (around_of c.args.around.now) o.place o.kind (part o.value) (seen c.args.walking.now) (seen c.walk_register.new.walking)
    c.walk_register.result _ c.in-Register.is c.walk_register.ensures
