use Rattle.std.proofs.Common.{◌≡◌, ◌∙◌, Option, sym, ap}
use Rattle.std.specs.Option.{option_copied}
use Rattle.size_values.specs.declared.sized.Sized.{Sized}
use Rattle.lowered_steps.specs.Setting.{direction_in, ways_for}
use Rattle.lowered_steps.specs.declared.setting.Mapped.{Mapped as Direction}
use Rattle.std.proofs.lemmas.Result.{IfOk-weaker}
use Rattle.lowered_typed.proofs.arms.given_option.Goals as goal

pub returns-in-Some : goal.returns-in-Some
returns-in-Some c =
    IfOk-weaker c.copy_sized.result _ (λ (t : Sized). t ≡ (ways_for c.args.judge.now.setting.now c.args.direction).gives) (λ t e. e
    ∙ ap (λ (o : Option Direction). (direction_in o).gives) (sym (sym c.direction.ensures ∙ ap option_copied c.in-Some.is))) c.copy_sized.ensures

pub returns-in-None : goal.returns-in-None
returns-in-None c = ap (λ (o : Option Direction). (direction_in o).gives) (sym (sym c.direction.ensures ∙ ap option_copied c.in-None.is))
