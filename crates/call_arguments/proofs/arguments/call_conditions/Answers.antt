use Rattle.std.proofs.Common.{◌∙◌, ap, List}
use Rattle.value_fits.specs.Fitting.{fits}
use Rattle.value_indices.specs.declared.indices.Reading.{Reading}
use Rattle.call_arguments.specs.Placing as places
use Rattle.call_arguments.proofs.Lists.{found}
use Rattle.call_arguments.proofs.arguments.call_conditions.Goals as goal

pub returns : goal.returns
returns c = found c.conditions_of.result _ _ c.conditions_of.ensures (ap (λ (qs : List Reading). places.conditions_of (fits c.args.types.now)
    c.args.function.now c.args.indices.now qs c.args.nested.now c.args.arguments.now c.args.next) (c.as_slice.ensures ∙ c.in_ok-owed.ensures))
