use Rattle.std.proofs.Common.{◌≡◌, ◌∙◌, ◌++◌, Bool, ap}
use Rattle.std.proofs.lemmas.Result.{IfOk-weaker}
use Rattle.lowered_typed.specs.Here as here
use Rattle.lowered_typed.specs.Judged as judged
use Rattle.lowered_typed.proofs.kinds.is_first_of.Goals as goal

pub returns : goal.returns
returns c =
    IfOk-weaker c.are_of.result _
    (λ (a : Bool). a ≡ here.are_of c.args.judge.now c.args.number (judged.first_types (judged.all_here c.args.judge.now c.args.parts.now)))
    (λ a e. e ∙ ap (here.are_of c.args.judge.now c.args.number) (c.as_slice.ensures ∙ c.in_ok-put_first_types.ensures
    ∙ ap (λ us. us ++ judged.first_types (judged.all_here c.args.judge.now c.args.parts.now)) c.new-types.ensures)) c.are_of.ensures
