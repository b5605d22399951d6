use Rattle.std.proofs.Common.{◌≡◌, ◌∙◌, ◌++◌, ap, sym}
use Rattle.std.specs.Option.{option_copied}
use Rattle.std.proofs.lemmas.Result.{on_ok_weaker}
use Rattle.lowered_pieces.specs.Functions.{measure_of}
use Rattle.lowered_typed.proofs.Pushed.{none}
use Rattle.jib_lower.specs.Crossings.{asked_if, asked_in}
use Rattle.jib_lower.proofs.crossings.list_measure.Goals as goal

pub returns-in-Some : goal.returns-in-Some
returns-in-Some c =
    on_ok_weaker c.list_asked.result
    (λ (e : c.list_asked.new.asked ≡ c.args.asked.now ++ asked_in c.in-Some.measure.now).
    e ∙ ap (λ m. c.args.asked.now ++ asked_if m) (sym (sym c.active_measure.ensures ∙ ap option_copied c.in-Some.is)))
    c.list_asked.ensures

pub returns-in-None : goal.returns-in-None
returns-in-None c =
    none c.args.asked.now (asked_if (measure_of c.args.function.now.cycle c.args.function.now.measure))
    (ap asked_if (sym c.active_measure.ensures ∙ ap option_copied c.in-None.is))
