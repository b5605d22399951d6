use Rattle.std.proofs.Common.{◌≡◌, ◌∙◌, sym, ap}
use Rattle.lowered_steps.proofs.Lists.{first_of, none_of}
use Rattle.lowered_steps.specs.Hands.{types_of}
use Rattle.lowered_steps.specs.declared.hands.Ends.{Ends as EndsHeld}
use Rattle.std.proofs.lemmas.Result.{IfOk-weaker}
use Rattle.lowered_typed.specs.Judged as judged
use Rattle.lowered_typed.proofs.ends.first_ends.Goals as goal

pub returns-in-empty : goal.returns-in-empty
returns-in-empty c = ap (λ us. judged.first_ends (judged.all_here c.args.judge.now us)) (sym (none_of c.args.parts.now c.in-empty.len_below))

pub returns-in-len1-up : goal.returns-in-len1-up
returns-in-len1-up c =
    IfOk-weaker c.ends_of.result _ (λ (a : EndsHeld). types_of a ≡ judged.first_ends (judged.all_here c.args.judge.now c.args.parts.now)) (λ a e. e
    ∙ ap (λ us. judged.first_ends (judged.all_here c.args.judge.now us)) (sym
    (first_of c.args.parts.now c.first-item.result c.in-len1-up.len_at_least c.first-item.is))) c.ends_of.ensures
