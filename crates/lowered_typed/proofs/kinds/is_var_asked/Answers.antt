use Rattle.std.proofs.Common.{◌≡◌, ◌∙◌, ◌++◌, Bool, ap}
use Rattle.std.proofs.lemmas.Result.{IfOk-weaker}
use Rattle.lowered_typed.specs.Here as here
use Rattle.lowered_typed.specs.Judged as judged
use Rattle.lowered_typed.proofs.kinds.is_var_asked.Goals as goal

pub returns : goal.returns
returns c =
    IfOk-weaker c.are_kept.result _
    (λ (a : Bool). a ≡ judged.var_asked c.args.judge.now c.args.name.now (judged.all_here c.args.judge.now c.args.parts.now))
    (λ a e. e ∙ (λ i. here.kept_right c.args.judge.now (c.reads_as.ensures i) ((c.as_slice.ensures ∙ c.in_ok-put_first_types.ensures
    ∙ ap (λ us. us ++ judged.first_types (judged.all_here c.args.judge.now c.args.parts.now)) c.new-types.ensures) i))) c.are_kept.ensures
