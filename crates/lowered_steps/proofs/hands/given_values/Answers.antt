use Rattle.std.proofs.Common.{◌∙◌, ◌++◌, map, ap}
use Rattle.lowered_steps.specs.Hands.{held_of}
use Rattle.lowered_pieces.specs.Arms.{given_held}
use Rattle.lowered_steps.proofs.hands.given_values.Goals as goal

pub returns : goal.returns
returns c =
    c.in_ok-hold_given.ensures ∙ ap (λ us. map held_of us ++ given_held 0 c.args.types.now) c.new-values.ensures
