use Rattle.std.proofs.Common.{◌∙◌, ap}
use Rattle.lowered_pieces.specs.Forms.{set_fields}
use Rattle.lowered_steps.proofs.making.placed.Goals as goal

pub returns : goal.returns
returns c =
    c.place_each.ensures ∙ ap (λ us. set_fields c.args.fields.now c.args.sources.now us) c.in_ok-placed.ensures
