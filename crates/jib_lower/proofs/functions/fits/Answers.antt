use Rattle.std.proofs.Common.{◌≡◌, ◌∙◌, ap, sym}
use Rattle.std.specs.Prelude.{Bool, ◌&&◌}
use Rattle.std.proofs.lemmas.Result.{IfOk-weaker}
use Rattle.lowered_typed.specs.Judging.{typed}
use Rattle.lowered_typed.specs.Here as here
use Rattle.jib_lower.specs.Functions.{typed_for}
use Rattle.jib_lower.proofs.functions.fits.Goals as goal

pub returns-then-has_measure : goal.returns-then-has_measure
returns-then-has_measure c =
    let last : Bool = here.result_right c.args.judge.now c.args.function.now.last (typed c.args.judge.now c.args.function.now.body) in
    IfOk-weaker c.is_result_typed.result (λ a. a ≡ last) (λ a. a ≡ typed_for c.args.judge.now c.args.function.now)
    (λ a e. e ∙ ap (λ b. b && last) (sym (sym c.in_ok-has_measure.ensures ∙ c.if-has_measure.true)))
    c.is_result_typed.ensures

pub returns-else-has_measure : goal.returns-else-has_measure
returns-else-has_measure c =
    let last : Bool = here.result_right c.args.judge.now c.args.function.now.last (typed c.args.judge.now c.args.function.now.body) in
    ap (λ b. b && last) (sym (sym c.in_ok-has_measure.ensures ∙ c.if-has_measure.false))
