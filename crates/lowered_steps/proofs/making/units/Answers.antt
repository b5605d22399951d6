use Rattle.std.proofs.Common.{◌∙◌, ℕ, ◌++◌, map, ap}
use Rattle.jib.specs.declared.code.Source.TheVariants as R
use Rattle.jib.specs.declared.code.Literal.TheVariants as L
use Rattle.lowered_steps.proofs.making.units.Goals as goal

pub returns : goal.returns
returns c =
    c.in_ok-push_units.ensures ∙ ap (λ us. us ++ map (λ (field : ℕ). R.Constant c.args.unit L.Unit) c.args.fields.now) c.new-units.ensures
