use Rattle.std.proofs.Common.{◌≡◌, ◌∙◌, ap, sym}
use Rattle.std.specs.Option.{option_copied}
use Rattle.std.proofs.lemmas.Result.{IfOk-weaker}
use Rattle.lowered_pieces.specs.Functions.{all_in}
use Rattle.lowered_typed.specs.Judging.{typed}
use Rattle.jib_lower.specs.Functions.{measure_typed}
use Rattle.jib_lower.proofs.functions.measure_fits.Goals as goal

pub returns-in-Some : goal.returns-in-Some
returns-in-Some c =
    IfOk-weaker c.is_typed.result (λ a. a ≡ (typed c.args.judge.now c.in-Some.measure.now).right) (λ a. a ≡ measure_typed c.args.judge.now c.args.function.now)
    (λ a e. e ∙ ap (λ m. all_in (λ x. (typed c.args.judge.now x).right) m) (sym (sym c.active_measure.ensures ∙ ap option_copied c.in-Some.is)))
    c.is_typed.ensures

pub returns-in-None : goal.returns-in-None
returns-in-None c = ap (λ m. all_in (λ x. (typed c.args.judge.now x).right) m) (sym (sym c.active_measure.ensures ∙ ap option_copied c.in-None.is))
