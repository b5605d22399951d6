use Rattle.std.proofs.Common.{◌≡◌, ◌∙◌, ◌∷◌, ◌++◌, ◌-◌, sym, ap}
use Rattle.lowered_typed.proofs.More.{one_less}
use Rattle.lowered_typed.proofs.Pushed.{none, pushed}
use Rattle.std.proofs.lemmas.Result.{on_ok_weaker}
use Rattle.lowered_typed.specs.Here as here
use Rattle.lowered_typed.proofs.heads.+push_items.Goals as goal

pub returns-then-count-eq0 : goal.returns-then-count-eq0
returns-then-count-eq0 t c =
    none c.args.types.now (here.items_typ c.args.judge.now c.args.whole.now c.args.count) (ap
    (here.items_typ c.args.judge.now c.args.whole.now) c.if-count-eq0.true)

pub returns : goal.returns
returns t c =
    let j = c.args.judge.now in let w = c.args.whole.now in let all = here.items_typ j w c.args.count in let more = here.items_typ j w
    (c.args.count - 1) in
    on_ok_weaker c.push_items.result (λ (e : c.push_items.new.types ≡ c.push.new.self ++ more).
    pushed c.args.types.now c.push.new.self c.push_items.new.types more all c.in_ok-typ.typ c.in_ok-push.ensures.pushed e
    (ap (here.items_typ j w) (one_less c.args.count c.if-count-eq0.false) ∙ ap (λ t. t ∷ more) (sym c.in_ok-typ.ensures))) c.push_items.ensures
