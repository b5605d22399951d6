use Rattle.std.proofs.Common.{◌∙◌, ◌++◌, map, ap}
use Rattle.lowered_steps.specs.Hands.{held_of}
use Rattle.lowered_steps.proofs.hands.copy_both.Goals as goal

pub returns : goal.returns
returns c =
    c.in_ok-copy_held-2.ensures ∙ ap (λ us. us ++ map held_of c.args.others.now)
    (c.in_ok-copy_held.ensures ∙ ap (λ us. map held_of us ++ map held_of c.args.values.now) c.new-copies.ensures)
