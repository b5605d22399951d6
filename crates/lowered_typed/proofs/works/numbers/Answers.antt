use Rattle.std.proofs.Common.{◌∙◌, ◌++◌, ap}
use Rattle.lowered_typed.specs.Here as here
use Rattle.lowered_typed.proofs.works.numbers.Goals as goal

pub returns : goal.returns
returns c = c.in_ok-push_numbers.ensures ∙ ap (λ us. us ++ here.numbers c.args.judge.now c.args.types.now) c.new-numbers.ensures
