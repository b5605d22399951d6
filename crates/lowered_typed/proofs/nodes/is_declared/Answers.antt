use Rattle.std.proofs.Common.{◌≡◌, ◌∙◌, ◌++◌, Bool, ap}
use Rattle.std.proofs.lemmas.Result.{IfOk-weaker}
use Rattle.lowered_steps.specs.Setting.{reads_at}
use Rattle.lowered_typed.specs.Judging.{typed}
use Rattle.lowered_typed.specs.Here as here
use Rattle.lowered_typed.proofs.nodes.is_declared.Goals as goal

pub returns : goal.returns
returns c =
    IfOk-weaker c.are_kept.result _
    (λ (a : Bool). a ≡ here.kept_right c.args.judge.now (reads_at c.args.judge.now.setting.now.reads.now c.args.name.now)
    (typed c.args.judge.now c.args.value.now).types)
    (λ a e. e ∙ (λ i. here.kept_right c.args.judge.now (c.reads_as.ensures i) ((c.as_slice.ensures ∙ c.in_ok-put_types.ensures
    ∙ ap (λ us. us ++ (typed c.args.judge.now c.args.value.now).types) c.new-types.ensures) i))) c.are_kept.ensures
