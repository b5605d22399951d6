use Rattle.std.proofs.Common.{◌≡◌, ◌∙◌, ◌++◌, ap}
use Rattle.std.proofs.lemmas.Result.{on_ok_weaker}
use Rattle.lowered_steps.proofs.Lists.{none_of}
use Rattle.lowered_typed.proofs.Pushed.{none}
use Rattle.lowered_typed.proofs.Written.{last_here}
use Rattle.lowered_typed.specs.Judging.{typed}
use Rattle.lowered_typed.specs.Here as here
use Rattle.lowered_typed.specs.Judged as judged
use Rattle.lowered_typed.proofs.types.put_last_of.Goals as goal

pub returns-in-empty : goal.returns-in-empty
returns-in-empty c =
    none c.args.types.now (here.last_types c.args.judge.now (judged.all_here c.args.judge.now c.args.parts.now))
    (ap (λ us. here.last_types c.args.judge.now (judged.all_here c.args.judge.now us)) (none_of c.args.parts.now c.in-empty.len_below))

pub returns-in-len1-up : goal.returns-in-len1-up
returns-in-len1-up c =
    on_ok_weaker c.put_types.result (λ (e : c.put_types.new.types ≡ c.args.types.now ++ (typed c.args.judge.now c.last-item.result).types). e
    ∙ ap (λ us. c.args.types.now ++ us) (last_here c.args.judge.now c.args.parts.now c.last-item.result c.in-len1-up.len_at_least c.last-item.is))
    c.put_types.ensures
