use Rattle.std.proofs.Common.{◌∙◌, sym}
use Rattle.expression_steps.specs.Coded.{left_behind, spotted_all_in}
use Rattle.expression_steps.specs.Targets.{spotted, tuple_spotted}
use Rattle.expression_steps.proofs.Spots.{tuple_is}
use Rattle.expression_steps.proofs.found.tuple_found.Goals as goal

pub returns-in-None : goal.returns-in-None
returns-in-None c around parts = (λ j. tuple_spotted c.args.place c.args.number (spotted_all_in around parts (sym c.in-None.is j)))

pub returns-in-Some : goal.returns-in-Some
returns-in-Some c around parts =
    (λ j. spotted (tuple_is around c.args.place c.args.number c.in-Some.spots j) (left_behind parts c.in-Some.at))
    ∙ (λ j. tuple_spotted c.args.place c.args.number (spotted_all_in around parts (sym c.in-Some.is j)))
