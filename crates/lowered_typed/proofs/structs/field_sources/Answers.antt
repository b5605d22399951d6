use Rattle.std.proofs.Common.{◌∙◌, ap}
use Rattle.lowered_pieces.specs.Forms.{set_fields}
use Rattle.lowered_steps.specs.Makers.{all_slots}
use Rattle.lowered_validity.specs.Typing.{operands}
use Rattle.lowered_typed.specs.Here as here
use Rattle.lowered_typed.proofs.Shells.{operands_slots}
use Rattle.lowered_typed.proofs.structs.field_sources.Goals as goal

pub place_each-requires : goal.place_each-requires
place_each-requires c = record {
  slots = ap all_slots (c.as_slice-listed.ensures ∙ c.in_ok-values.ensures) ∙ operands_slots 0 (here.numbers c.args.judge.now c.args.new.now);
}

pub returns : goal.returns
returns c =
    let j = c.args.judge.now in
    c.place_each.ensures
    ∙ ap (λ xs. set_fields c.args.fields.now xs c.in_ok-sources.sources) (c.as_slice-listed.ensures ∙ c.in_ok-values.ensures)
    ∙ ap (λ ys. set_fields c.args.fields.now (operands 0 (here.numbers j c.args.new.now)) ys)
    (c.in_ok-sources.ensures ∙ ap (λ k. operands k (here.numbers j c.args.old.now)) c.in_ok-first.ensures)
