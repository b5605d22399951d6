use Rattle.std.proofs.Common.{◌≡◌, ◌∙◌, ap, sym}
use Rattle.std.specs.Prelude.{◌&&◌}
use Rattle.std.proofs.lemmas.Result.{IfOk-weaker}
use Rattle.lowered_pieces.specs.Places.{Naming}
use Rattle.lowered_ends.specs.Around.{node_for}
use Rattle.jib_lower.specs.Functions.{able_for}
use Rattle.jib_lower.proofs.functions.is_able.Goals as goal

pub returns-then-has_measure : goal.returns-then-has_measure
returns-then-has_measure c =
    IfOk-weaker c.is_lowered.result
    (λ a. (name : Naming) → a ≡ (node_for c.args.walk.now.setting.now c.args.walk.now.around.now name c.args.function.now.body).ok)
    (λ a. (name : Naming) → a ≡ able_for c.args.walk.now name c.args.function.now)
    (λ a e name. e name ∙ ap (λ b. b && (node_for c.args.walk.now.setting.now c.args.walk.now.around.now name c.args.function.now.body).ok)
    (sym (sym (c.in_ok-has_measure.ensures name) ∙ c.if-has_measure.true))) c.is_lowered.ensures

pub returns-else-has_measure : goal.returns-else-has_measure
returns-else-has_measure c =
    λ name. ap (λ b. b && (node_for c.args.walk.now.setting.now c.args.walk.now.around.now name c.args.function.now.body).ok)
    (sym (sym (c.in_ok-has_measure.ensures name) ∙ c.if-has_measure.false))
