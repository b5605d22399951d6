use Rattle.std.proofs.Common.{◌∙◌, ap}
use Rattle.lowered_pieces.specs.Mapped.{ends_with, fixed_end}
use Rattle.jib_lower.proofs.directions.gives_payload.Goals as goal

pub returns : goal.returns
returns c = λ name. c.ends_with-is_so.ensures ∙ ap (λ es. ends_with c.args.payload.now (fixed_end es)) (c.in_ok-ends.ensures name)
