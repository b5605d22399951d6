use Rattle.std.proofs.Common.{ap}
use Rattle.value_fits.specs.Fitting.{fits}
use Rattle.value_indices.specs.declared.indices.Reading.TheVariants as R
use Rattle.call_arguments.specs.Placing.{Placing, whole_placed}
use Rattle.call_arguments.proofs.Lists.{found, left}
use Rattle.call_arguments.proofs.Parameters.{vector_is_placed}
use Rattle.call_arguments.proofs.arguments.items_fit.Goals as goal

pub returns-in-Vector : goal.returns-in-Vector
returns-in-Vector c =
    let fit = fits c.args.types.now in
    let js = c.args.indices.now in
    let qs = c.args.readings.now in
    let is = vector_is_placed fit js qs c.args.known.now c.args.value.now c.args.next c.args.wanted.now (R.Of c.args.item.now js qs)
    (whole_placed fit js qs c.args.typ.now c.args.known.now c.args.value.now c.args.next) c.in-Vector.length c.in-Vector.own c.get.result.now
    c.in-Vector.is c.get.ensures in
    record {
      fitted = found c.vector_placed.result _ _ c.vector_placed.ensures.fitted (ap (λ (p : Placing). p.fitted) is);
      placed = left c.vector_placed.result c.vector_placed.new.known _ _ c.vector_placed.ensures.placed (ap (λ (p : Placing). p.placed) is);
    }
