use Rattle.std.proofs.Common.{◌∙◌, ap}
use Rattle.jib.specs.declared.code.Literal.TheVariants as L
use Rattle.jib.specs.declared.code.Source.TheVariants as R
use Rattle.lowered_pieces.specs.Forms.{in_fields}
use Rattle.lowered_steps.specs.Makers.{all_slots}
use Rattle.lowered_typed.proofs.cases.in_fields.Goals as goal

pub placed-requires : goal.placed-requires
placed-requires c = record { slots = ap all_slots c.as_slice-listed.ensures ∙ c.requires.slots }

pub returns : goal.returns
returns c =
    c.in_ok-made.ensures
    ∙ ap (λ n. in_fields (R.Constant n L.Unit) c.args.fields.now c.as_slice-listed.result.now) c.in_ok-unit.ensures
    ∙ ap (in_fields (R.Constant _ L.Unit) c.args.fields.now) c.as_slice-listed.ensures
