use Rattle.std.proofs.Common.{◌≡◌, ◌∙◌, ◌∷◌, ◌++◌, ◌-◌, suc, sym, ap}
use Rattle.lowered_typed.proofs.More.{next, one_less}
use Rattle.lowered_typed.proofs.Pushed.{none, pushed}
use Rattle.std.proofs.lemmas.Result.{on_ok_weaker}
use Rattle.lowered_typed.specs.Here as here
use Rattle.lowered_typed.proofs.heads.+push_parts.Goals as goal

pub returns-then-count-eq0 : goal.returns-then-count-eq0
returns-then-count-eq0 t c =
    none c.args.types.now (here.fields_typ c.args.judge.now c.args.whole.now c.args.first c.args.count) (ap
    (here.fields_typ c.args.judge.now c.args.whole.now c.args.first) c.if-count-eq0.true)

pub returns : goal.returns
returns t c =
    let j = c.args.judge.now in let w = c.args.whole.now in let all = here.fields_typ j w c.args.first c.args.count in let more = here.fields_typ j w
    (suc c.args.first) (c.args.count - 1) in
    on_ok_weaker c.push_parts.result (λ (e : c.push_parts.new.types ≡ c.push.new.self ++ here.fields_typ j w c.in_ok-next.next (c.args.count - 1)).
    pushed c.args.types.now c.push.new.self c.push_parts.new.types more all c.in_ok-typ.typ c.in_ok-push.ensures.pushed
    (e ∙ ap (λ k. c.push.new.self ++ here.fields_typ j w k (c.args.count - 1)) (next c.in_ok-next.next c.args.first c.in_ok-next.ensures))
    (ap (here.fields_typ j w c.args.first) (one_less c.args.count c.if-count-eq0.false)
    ∙ ap (λ t. t ∷ more) (sym c.in_ok-typ.ensures))) c.push_parts.ensures
