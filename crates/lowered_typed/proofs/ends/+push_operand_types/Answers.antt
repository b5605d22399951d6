use Rattle.std.proofs.Common.{◌≡◌, ◌∙◌, ◌∷◌, ◌++◌, sym, ap}
use Rattle.lowered_pieces.specs.Gathered.{only_end}
use Rattle.lowered_steps.proofs.Lists.{first_of, none_of, others}
use Rattle.lowered_typed.proofs.Pushed.{none, pushed}
use Rattle.std.proofs.lemmas.Result.{on_ok_weaker}
use Rattle.lowered_typed.specs.Here as here
use Rattle.lowered_typed.specs.Judged as judged
use Rattle.lowered_typed.proofs.ends.+push_operand_types.Goals as goal

pub returns-in-empty : goal.returns-in-empty
returns-in-empty t c =
    none c.args.types.now (here.operand_types c.args.judge.now (judged.all_here c.args.judge.now c.args.parts.now)) (ap
    (λ us. here.operand_types c.args.judge.now (judged.all_here c.args.judge.now us)) (none_of c.args.parts.now c.in-empty.len_below))

pub returns-in_ok-push-in-len1-up : goal.returns-in_ok-push-in-len1-up
returns-in_ok-push-in-len1-up t c =
    on_ok_weaker c.push_operand_types.result
    (λ (e : c.push_operand_types.new.types ≡ c.push.new.self ++ here.operand_types c.args.judge.now (judged.all_here c.args.judge.now
    (others c.args.parts.now))).
    pushed c.args.types.now c.push.new.self c.push_operand_types.new.types (here.operand_types c.args.judge.now (judged.all_here c.args.judge.now
    (others c.args.parts.now))) (here.operand_types c.args.judge.now (judged.all_here c.args.judge.now c.args.parts.now)) c.in_ok-typ-in-len1-up.typ
    c.in_ok-push-in-len1-up.ensures.pushed e
    (ap (λ us. here.operand_types c.args.judge.now (judged.all_here c.args.judge.now us))
    (first_of c.args.parts.now c.first-item.result c.in-len1-up.len_at_least c.first-item.is)
    ∙ ap (λ u. u ∷ here.operand_types c.args.judge.now (judged.all_here c.args.judge.now (others c.args.parts.now))) (sym
    (c.in_ok-typ-in-len1-up.ensures
    ∙ ap (λ es. here.operand_typ c.args.judge.now (only_end es)) c.in_ok-ends-in-len1-up.ensures)))) c.push_operand_types.ensures
