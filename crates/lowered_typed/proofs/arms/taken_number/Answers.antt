use Rattle.std.proofs.Common.{◌≡◌, ◌∙◌, ℕ, Option, sym, ap}
use Rattle.std.specs.Option.{option_copied}
use Rattle.lowered_steps.specs.Setting.{direction_in, number_for, ways_for}
use Rattle.lowered_steps.specs.declared.setting.Mapped.{Mapped as Direction}
use Rattle.std.proofs.lemmas.Result.{IfOk-weaker}
use Rattle.lowered_typed.proofs.arms.taken_number.Goals as goal

pub returns-in-Some : goal.returns-in-Some
returns-in-Some c =
    let setting = c.args.judge.now.setting.now in
    IfOk-weaker c.number.result _ (λ (n : ℕ). n ≡ number_for setting (ways_for setting c.args.direction).takes) (λ n e. e
    ∙ ap (λ (o : Option Direction). number_for setting (direction_in o).takes) (sym (sym c.direction.ensures
    ∙ ap option_copied c.in-Some.is))) c.number.ensures

pub returns-in-None : goal.returns-in-None
returns-in-None c =
    let setting = c.args.judge.now.setting.now in
    IfOk-weaker c.number-in-None.result _ (λ (n : ℕ). n ≡ number_for setting (ways_for setting c.args.direction).takes) (λ n e. e
    ∙ ap (λ (o : Option Direction). number_for setting (direction_in o).takes) (sym (sym c.direction.ensures
    ∙ ap option_copied c.in-None.is))) c.number-in-None.ensures
