use Rattle.std.proofs.Common.{◌∙◌, sym}
use Rattle.expression_forms.specs.Spots.{late_part, spot_of}
use Rattle.expression_steps.specs.Coded.{left_behind}
use Rattle.expression_steps.specs.Targets.{late_spotted, spotted}
use Rattle.expression_steps.proofs.late.late_spot.Goals as goal

pub returns-in-None : goal.returns-in-None
returns-in-None c around parts =
    (λ j. late_spotted c.args.place around c.args.number (spot_of around c.args.base) c.args.ahead c.args.from c.args.more (left_behind parts c.args.at)
    (sym c.in-None.is j))

pub returns-in_ok-spot-in-Some : goal.returns-in_ok-spot-in-Some
returns-in_ok-spot-in-Some c around parts =
    let left = left_behind parts c.args.at in
    (λ j. spotted (c.in_ok-spot-in-Some.ensures around j) left)
    ∙ (λ j. spotted (late_part around (c.late_place-owing.ensures j) c.args.number (spot_of around c.args.base) c.args.ahead.held c.in-Some.late.reached
    (record { before = c.late_bound-bound.ensures j; facts = c.in_ok-append-in-Some.ensures.appended j })) left)
    ∙ (λ j. late_spotted c.args.place around c.args.number (spot_of around c.args.base) c.args.ahead c.args.from c.args.more left (sym c.in-Some.is j))
