use Rattle.std.proofs.Common.{◌≡◌, ◌∙◌, ap, sym}
use Rattle.std.specs.Option.{option_copied}
use Rattle.std.proofs.lemmas.Result.{IfOk-weaker}
use Rattle.lowered_pieces.specs.Functions.{all_in}
use Rattle.lowered_pieces.specs.Places.{Naming}
use Rattle.lowered_ends.specs.Around.{node_for}
use Rattle.jib_lower.specs.Functions.{measure_able}
use Rattle.jib_lower.proofs.functions.is_measure_able.Goals as goal

pub returns-in-Some : goal.returns-in-Some
returns-in-Some c =
    IfOk-weaker c.is_lowered.result
    (λ a. (name : Naming) → a ≡ (node_for c.args.walk.now.setting.now c.args.walk.now.around.now name c.in-Some.measure.now).ok)
    (λ a. (name : Naming) → a ≡ measure_able c.args.walk.now name c.args.function.now)
    (λ a e name. e name ∙ ap (λ m. all_in (λ x. (node_for c.args.walk.now.setting.now c.args.walk.now.around.now name x).ok) m)
    (sym (sym c.active_measure.ensures ∙ ap option_copied c.in-Some.is))) c.is_lowered.ensures

pub returns-in-None : goal.returns-in-None
returns-in-None c =
    λ name. ap (λ m. all_in (λ x. (node_for c.args.walk.now.setting.now c.args.walk.now.around.now name x).ok) m)
    (sym (sym c.active_measure.ensures ∙ ap option_copied c.in-None.is))
