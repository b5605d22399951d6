use Rattle.std.proofs.Common.{◌≡◌, ◌∙◌, Bool, None, sym, ap}
use Rattle.std.specs.Option.{option_copied}
use Rattle.lowered_pieces.specs.Gathered.{only_end}
use Rattle.lowered_steps.specs.Setting.{direction_in, mapped_of}
use Rattle.std.proofs.lemmas.Result.{IfOk-weaker}
use Rattle.lowered_typed.specs.Judged as judged
use Rattle.lowered_typed.proofs.calls.is_turned.Goals as goal

pub returns-in_ok-ends-in-Some : goal.returns-in_ok-ends-in-Some
returns-in_ok-ends-in-Some c =
    IfOk-weaker c.is_mapped.result _
    (λ (a : Bool). a ≡ judged.turned_asked c.args.judge.now c.args.direction c.args.node (judged.all_here c.args.judge.now c.args.parts.now))
    (λ a e. e ∙ (λ i. judged.mapped_asked c.args.judge.now (mapped_of c.in-Some.mapped.now) (c.cases.ensures i) (only_end
    (c.in_ok-ends-in-Some.ensures i)))
    ∙ ap (λ o. judged.mapped_asked c.args.judge.now (direction_in o) (judged.cases_at c.args.judge.now c.args.node 1) (only_end (judged.first_ends
    (judged.all_here c.args.judge.now c.args.parts.now)))) (sym
    (sym c.direction.ensures ∙ ap option_copied c.in-Some.is))) c.is_mapped.ensures

pub returns-in_ok-ends-in-None : goal.returns-in_ok-ends-in-None
returns-in_ok-ends-in-None c =
    IfOk-weaker c.is_mapped-in-None.result _
    (λ (a : Bool). a ≡ judged.turned_asked c.args.judge.now c.args.direction c.args.node (judged.all_here c.args.judge.now c.args.parts.now))
    (λ a e. e ∙ (λ i. judged.mapped_asked c.args.judge.now (direction_in None) (c.cases-in-None.ensures i) (only_end
    (c.in_ok-ends-in-None.ensures i)))
    ∙ ap (λ o. judged.mapped_asked c.args.judge.now (direction_in o) (judged.cases_at c.args.judge.now c.args.node 1) (only_end (judged.first_ends
    (judged.all_here c.args.judge.now c.args.parts.now)))) (sym
    (sym c.direction.ensures ∙ ap option_copied c.in-None.is))) c.is_mapped-in-None.ensures
