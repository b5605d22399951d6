use Rattle.std.proofs.Common.{◌≡◌, ◌∙◌, ℕ, sym, ap}
use Rattle.lowered_typed.proofs.Fixed.{nothing_typ}
use Rattle.lowered_typed.specs.Judging.{number_here}
use Rattle.std.proofs.lemmas.Result.{IfOk-weaker}
use Rattle.lowered_typed.specs.Here as here
use Rattle.lowered_typed.proofs.works.unit_number.Goals as goal

pub returns : goal.returns
returns c =
    IfOk-weaker c.number.result _ (λ (a : ℕ). a ≡ here.unit_number c.args.judge.now) (λ a e. e
    ∙ ap (number_here c.args.judge.now) (sym (nothing_typ c.args.judge.now.setting.now.types.now))) c.number.ensures
