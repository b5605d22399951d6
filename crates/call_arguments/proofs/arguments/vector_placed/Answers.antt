use Rattle.value_fits.specs.Fitting.{fits}
use Rattle.value_fits.specs.Lent.{reading_of}
use Rattle.call_arguments.proofs.Lists.{found}
use Rattle.call_arguments.proofs.Placed.{vector_is}
use Rattle.call_arguments.proofs.arguments.vector_placed.Goals as goal

pub returns-clause-fitted : goal.returns-clause-fitted
returns-clause-fitted c =
    found c.also.result _ _ c.also.ensures
    (vector_is (fits c.args.types.now) c.args.indices.now c.args.wanted.now (reading_of c.args.item.now) c.args.known.now c.args.length.now
    c.args.own.now c.args.next _ _ c.in_ok-length.ensures.fitted c.in_ok-items.ensures)
