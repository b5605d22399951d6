use Rattle.std.proofs.Common.{◌∙◌, ◌∷◌, ◌&&◌, ◌-◌, sym, ap, []}
use Rattle.lowered_typed.proofs.More.{next, one_less}
use Rattle.lowered_validity.specs.Typing.{one_operand}
use Rattle.jib.specs.declared.code.Operation.TheVariants as O
use Rattle.lowered_typed.specs.Here as here
use Rattle.lowered_typed.proofs.heads.+are_parts.Goals as goal

pub returns-then-count-eq0 : goal.returns-then-count-eq0
returns-then-count-eq0 t c = ap (here.fields_right c.args.judge.now c.args.whole.now c.args.first) (sym c.if-count-eq0.true)

pub returns : goal.returns
returns t c =
    let j = c.args.judge.now in let w = c.args.whole.now in
    c.both-all.ensures ∙ (λ i. (c.in_ok-one.ensures ∙ ap (here.works j (O.Field c.args.first) one_operand (w ∷ [])) c.in_ok-typ.ensures) i
    && (c.in_ok-other.ensures ∙ ap (λ k. here.fields_right j w k (c.args.count - 1)) (next c.in_ok-next.next c.args.first c.in_ok-next.ensures)) i)
    ∙ ap (here.fields_right j w c.args.first) (sym (one_less c.args.count c.if-count-eq0.false))
