use Rattle.std.proofs.Common.{◌∙◌, ap}
use Rattle.lowered_pieces.specs.Forms.{dead}
use Rattle.std.specs.Prelude.{◌||◌}
use Rattle.lowered_typed.specs.Here as here
use Rattle.lowered_typed.proofs.cases.is_changed.Goals as goal

pub returns : goal.returns
returns c =
    c.either-any.ensures ∙ (λ i. (c.is_dead-one.ensures ∙ ap dead c.as_slice-takes.ensures) i || (c.in_ok-other.ensures
    ∙ ap (λ us. here.is_with c.args.judge.now c.args.fields.now us c.args.case.now.gives) c.as_slice-takes.ensures) i)
