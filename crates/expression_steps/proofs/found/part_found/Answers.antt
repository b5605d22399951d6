use Rattle.std.proofs.Common.{◌∙◌, sym}
use Rattle.expression_forms.specs.Spots.{spot_of}
use Rattle.expression_steps.specs.Coded.{left_behind, taken_in}
use Rattle.expression_steps.specs.Targets.{part_spotted, spotted}
use Rattle.expression_steps.proofs.found.part_found.Goals as goal

pub returns-in-None : goal.returns-in-None
returns-in-None c around parts =
    (λ j. part_spotted around c.args.number c.args.suffix.now (spot_of around c.args.base) c.args.held (taken_in parts (sym c.in-None.is j)))

pub returns-in_ok-spot-in-Some : goal.returns-in_ok-spot-in-Some
returns-in_ok-spot-in-Some c around parts =
    (λ j. spotted (c.in_ok-spot-in-Some.ensures around j) (left_behind parts c.in-Some.at))
    ∙ (λ j. part_spotted around c.args.number c.args.suffix.now (spot_of around c.args.base) c.args.held (taken_in parts (sym c.in-Some.is j)))
