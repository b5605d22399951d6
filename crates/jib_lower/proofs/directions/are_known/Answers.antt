use Rattle.std.proofs.Common.{◌∙◌, ap}
use Rattle.std.specs.Prelude.{◌&&◌}
use Rattle.lowered_types.specs.Table.{is_known}
use Rattle.jib_lower.proofs.directions.are_known.Goals as goal

pub returns : goal.returns
returns c =
    let ss = c.args.numbered.now in
    let x = c.args.mapped.now in
    c.both.ensures ∙ ap (λ b. b && c.both-option.result) c.is_known-takes.ensures
    ∙ ap (λ b. is_known ss x.takes && b)
    (c.both-option.ensures ∙ ap (λ b. b && c.is_known-payload.result) c.is_known-gives.ensures ∙ ap (λ b. is_known ss x.gives && b) c.is_known-payload.ensures)
