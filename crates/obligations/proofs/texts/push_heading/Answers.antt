use Rattle.std.proofs.Common.{◌++◌}
use Rattle.std.specs.Prelude.{codes}
use Rattle.model_state.specs.Report.{number_text, place_text}
use Rattle.obligations.proofs.Printed.{on_ok, three_put}
use Rattle.obligations.proofs.texts.push_heading.Goals as goal

pub returns : goal.returns
returns c =
    on_ok c.push_end.result
    (three_put c.args.out.now.items (codes "obligation " ++ number_text c.args.number) (codes " ") (place_text c.args.place) (codes "\n")
    c.push_number.new.out.items c.push_place.new.out.items c.push_end.new.out.items c.in_ok-push_number.ensures c.in_ok-push_place.ensures)
    c.push_end.ensures
