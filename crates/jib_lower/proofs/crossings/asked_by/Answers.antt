use Rattle.std.proofs.Common.{◌∙◌, ◌++◌, ap}
use Rattle.lowered_pieces.specs.Functions.{measure_of}
use Rattle.jib_lower.specs.Crossings.{asked_if, asked_in}
use Rattle.jib_lower.proofs.crossings.asked_by.Goals as goal

pub returns : goal.returns
returns c =
    let f = c.args.function.now in
    c.in_ok-list_measure.ensures
    ∙ ap (λ ds. ds ++ asked_if (measure_of f.cycle f.measure)) (c.in_ok-list_asked.ensures ∙ ap (λ ds. ds ++ asked_in f.body) c.new-asked.ensures)
