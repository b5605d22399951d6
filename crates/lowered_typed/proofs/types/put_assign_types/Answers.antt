use Rattle.std.proofs.Common.{◌≡◌, ◌∙◌, ◌++◌, sym, ap}
use Rattle.lowered_ends.specs.Targets.{spot_in}
use Rattle.lowered_steps.proofs.Lists.{none_of, one_of}
use Rattle.lowered_typed.proofs.More.{assign_untyped}
use Rattle.lowered_typed.proofs.Pushed.{none}
use Rattle.std.proofs.lemmas.Result.{on_ok_weaker}
use Rattle.lowered_typed.specs.Judged as judged
use Rattle.lowered_typed.proofs.types.put_assign_types.Goals as goal

pub returns-in-empty : goal.returns-in-empty
returns-in-empty c =
    none c.args.types.now (judged.assign_types c.args.judge.now c.args.targets.now c.args.parts) (ap
    (λ us. judged.assign_types c.args.judge.now us c.args.parts) (none_of c.args.targets.now c.in-empty.len_below))

pub returns-in-len1 : goal.returns-in-len1
returns-in-len1 c =
    on_ok_weaker c.put_spot_types.result
    (λ (e : c.put_spot_types.new.types ≡ c.args.types.now ++ judged.spot_types c.args.judge.now (spot_in c.spot_of.result) c.args.parts). e
    ∙ ap (λ s. c.args.types.now ++ judged.spot_types c.args.judge.now s c.args.parts) c.spot_of.ensures
    ∙ ap (λ us. c.args.types.now ++ judged.assign_types c.args.judge.now us c.args.parts) (sym
    (one_of c.args.targets.now c.target-item.result c.in-len1.len_at_least c.in-len1.len_below c.target-item.is))) c.put_spot_types.ensures

pub returns-in-len2-up : goal.returns-in-len2-up
returns-in-len2-up c =
    none c.args.types.now (judged.assign_types c.args.judge.now c.args.targets.now c.args.parts)
    (assign_untyped c.args.judge.now c.args.targets.now c.args.parts c.in-len2-up.len_at_least)
