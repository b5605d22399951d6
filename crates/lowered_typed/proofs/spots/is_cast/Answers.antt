use Rattle.std.proofs.Common.{◌≡◌, ◌∙◌, Bool, ap}
use Rattle.lowered_typed.specs.Judging.{cases_typed}
use Rattle.std.proofs.lemmas.Result.{IfOk-weaker}
use Rattle.lowered_typed.specs.Here as here
use Rattle.lowered_typed.specs.Judged as judged
use Rattle.lowered_typed.proofs.spots.is_cast.Goals as goal

pub returns : goal.returns
returns c =
    IfOk-weaker c.are_as_asked.result _ (λ (a : Bool). a ≡ judged.cast_asked c.args.judge.now c.args.node) (λ a e. e
    ∙ ap (cases_typed c.args.judge.now (here.is_recast c.args.judge.now)) c.cases.ensures) c.are_as_asked.ensures
