use Rattle.std.proofs.Common.{◌≡◌, ◌∙◌, ◌∷◌, ◌++◌, sym, ap}
use Rattle.lowered_steps.proofs.Lists.{first_of, none_of, others}
use Rattle.lowered_typed.proofs.Pushed.{none, pushed}
use Rattle.std.proofs.lemmas.Result.{on_ok_weaker}
use Rattle.lowered_typed.specs.Here as here
use Rattle.lowered_typed.proofs.works.+push_numbers.Goals as goal

pub returns-in-empty : goal.returns-in-empty
returns-in-empty t c =
    none c.args.numbers.now (here.numbers c.args.judge.now c.args.types.now) (ap (here.numbers c.args.judge.now)
    (none_of c.args.types.now c.in-empty.len_below))

pub returns-in_ok-push-in-len1-up : goal.returns-in_ok-push-in-len1-up
returns-in_ok-push-in-len1-up t c =
    let j = c.args.judge.now in let more = here.numbers j (others c.args.types.now) in let all = here.numbers j c.args.types.now in
    on_ok_weaker c.push_numbers.result (λ (e : c.push_numbers.new.numbers ≡ c.push.new.self ++ more).
    pushed c.args.numbers.now c.push.new.self c.push_numbers.new.numbers more all c.in_ok-number-in-len1-up.number
    c.in_ok-push-in-len1-up.ensures.pushed e
    (ap (here.numbers j) (first_of c.args.types.now c.first-item.result c.in-len1-up.len_at_least c.first-item.is)
    ∙ ap (λ n. n ∷ more) (sym c.in_ok-number-in-len1-up.ensures))) c.push_numbers.ensures
