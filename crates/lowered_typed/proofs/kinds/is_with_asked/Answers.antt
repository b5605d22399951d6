use Rattle.std.proofs.Common.{◌≡◌, ◌∙◌, Bool, sym, ap}
use Rattle.lowered_steps.proofs.Lists.{none_of, only_of}
use Rattle.lowered_typed.proofs.More.{with_many}
use Rattle.lowered_typed.specs.Judging.{cases_typed}
use Rattle.std.proofs.lemmas.Result.{IfOk-weaker}
use Rattle.lowered_typed.specs.Here as here
use Rattle.lowered_typed.specs.Judged as judged
use Rattle.lowered_typed.proofs.kinds.is_with_asked.Goals as goal

pub returns-in-empty : goal.returns-in-empty
returns-in-empty c =
    ap (λ us. judged.with_asked c.args.judge.now us (judged.cases_at c.args.judge.now c.args.node c.args.count)) (sym
    (none_of c.args.fields.now c.in-empty.len_below))

pub returns-in-len1 : goal.returns-in-len1
returns-in-len1 c =
    IfOk-weaker c.is_built.result _
    (λ (a : Bool). a ≡ judged.with_asked c.args.judge.now c.args.fields.now (judged.cases_at c.args.judge.now c.args.node c.args.count)) (λ a e. e
    ∙ ap (λ us. judged.with_asked c.args.judge.now us (judged.cases_at c.args.judge.now c.args.node c.args.count)) (sym
    (only_of c.args.fields.now 0 c.in-len1.len_at_least c.in-len1.len_below))) c.is_built.ensures

pub returns-in-len2-up : goal.returns-in-len2-up
returns-in-len2-up c =
    IfOk-weaker c.are_as_asked.result _
    (λ (a : Bool). a ≡ judged.with_asked c.args.judge.now c.args.fields.now (judged.cases_at c.args.judge.now c.args.node c.args.count)) (λ a e. e
    ∙ ap (λ xs. cases_typed c.args.judge.now (here.is_changed c.args.judge.now c.args.fields.now) xs) c.cases.ensures
    ∙ with_many c.args.judge.now c.args.fields.now
    (judged.cases_at c.args.judge.now c.args.node c.args.count) c.in-len2-up.len_at_least) c.are_as_asked.ensures
