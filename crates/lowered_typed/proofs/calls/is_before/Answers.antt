use Rattle.std.proofs.Common.{◌∙◌, Option, sym, ap}
use Rattle.std.specs.Option.{option_copied}
use Rattle.std.specs.Prelude.{nat_lt}
use Rattle.lowered_steps.specs.Setting.{direction_in}
use Rattle.lowered_steps.specs.declared.setting.Mapped.{Mapped as Direction}
use Rattle.lowered_typed.proofs.calls.is_before.Goals as goal

pub returns-in-Some : goal.returns-in-Some
returns-in-Some c =
    ap (λ (o : Option Direction). nat_lt (direction_in o).function c.args.judge.now.signs.now.below) (sym (sym c.direction.ensures
    ∙ ap option_copied c.in-Some.is))

pub returns-in-None : goal.returns-in-None
returns-in-None c =
    ap (λ (o : Option Direction). nat_lt (direction_in o).function c.args.judge.now.signs.now.below) (sym (sym c.direction.ensures
    ∙ ap option_copied c.in-None.is))
