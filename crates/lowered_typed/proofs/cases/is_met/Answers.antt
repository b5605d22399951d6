use Rattle.std.proofs.Common.{◌≡◌, ◌∙◌, Bool, sym, ap}
use Rattle.lowered_typed.specs.Judging.{cases_typed, number_here, signs_here}
use Rattle.lowered_validity.specs.Typing.{comes}
use Rattle.std.proofs.lemmas.Result.{IfOk-weaker}
use Rattle.std.specs.Prelude.{◌||◌}
use Rattle.lowered_typed.specs.Judged as judged
use Rattle.lowered_typed.proofs.cases.is_met.Goals as goal

pub returns-then-is_never : goal.returns-then-is_never
returns-then-is_never c =
    IfOk-weaker c.are_as_asked.result _ (λ (a : Bool). a ≡ judged.met_right c.args.judge.now c.args.typ.now c.args.cases.now) (λ a e. e
    ∙ ap (λ (b : Bool). cases_typed c.args.judge.now
    (λ x. b || comes (signs_here c.args.judge.now) (number_here c.args.judge.now c.args.typ.now)
    (number_here c.args.judge.now x.gives)) c.args.cases.now) (sym c.if-is_never.true ∙ c.is_never.ensures)) c.are_as_asked.ensures

pub returns-else-is_never : goal.returns-else-is_never
returns-else-is_never c =
    IfOk-weaker c.comes_from.result _ (λ (a : Bool). a ≡ judged.met_right c.args.judge.now c.args.typ.now c.args.cases.now) (λ a e. e
    ∙ ap (λ (b : Bool). cases_typed c.args.judge.now
    (λ x. b || comes (signs_here c.args.judge.now) (number_here c.args.judge.now c.args.typ.now)
    (number_here c.args.judge.now x.gives)) c.args.cases.now) (sym c.if-is_never.false ∙ c.is_never.ensures)) c.comes_from.ensures
