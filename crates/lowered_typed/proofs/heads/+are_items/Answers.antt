use Rattle.std.proofs.Common.{◌∙◌, ◌&&◌, sym, ap}
use Rattle.lowered_typed.proofs.More.{one_less}
use Rattle.lowered_typed.specs.Here as here
use Rattle.lowered_typed.proofs.heads.+are_items.Goals as goal

pub returns-then-count-eq0 : goal.returns-then-count-eq0
returns-then-count-eq0 t c = ap (here.items_right c.args.judge.now c.args.whole.now) (sym c.if-count-eq0.true)

pub returns : goal.returns
returns t c =
    let j = c.args.judge.now in let w = c.args.whole.now in
    c.both-all.ensures ∙ (λ i. c.in_ok-one.ensures i && c.in_ok-other.ensures i)
    ∙ ap (here.items_right j w) (sym (one_less c.args.count c.if-count-eq0.false))
