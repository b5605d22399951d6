use Rattle.std.proofs.Common.{◌≡◌, ◌∙◌, sym, ap}
use Rattle.lowered_steps.proofs.Lists.{first_of, none_of}
use Rattle.lowered_typed.proofs.Fixed.{nothing_typ}
use Rattle.lowered_typed.proofs.More.{one_less}
use Rattle.size_values.specs.declared.sized.Sized.{Sized}
use Rattle.std.proofs.lemmas.Result.{IfOk-weaker}
use Rattle.lowered_typed.specs.Here as here
use Rattle.lowered_typed.proofs.arms.+at_hand.Goals as goal

pub returns-in-empty : goal.returns-in-empty
returns-in-empty t c =
    sym (nothing_typ c.args.judge.now.setting.now.types.now)
    ∙ ap (λ us. here.typ_at_hand c.args.judge.now us c.args.value) (sym (none_of c.args.types.now c.in-empty.len_below))

pub returns-then-value-eq0 : goal.returns-then-value-eq0
returns-then-value-eq0 t c =
    IfOk-weaker c.copy_sized.result _ (λ (a : Sized). a ≡ here.typ_at_hand c.args.judge.now c.args.types.now c.args.value) (λ a e. e
    ∙ (λ i. here.typ_at_hand c.args.judge.now (sym (first_of c.args.types.now c.first-item.result c.in-len1-up.len_at_least c.first-item.is) i)
    (sym c.if-value-eq0.true i))) c.copy_sized.ensures

pub returns-else-value-eq0 : goal.returns-else-value-eq0
returns-else-value-eq0 t c =
    IfOk-weaker c.at_hand.result _ (λ (a : Sized). a ≡ here.typ_at_hand c.args.judge.now c.args.types.now c.args.value) (λ a e. e
    ∙ (λ i. here.typ_at_hand c.args.judge.now (sym (first_of c.args.types.now c.first-item.result c.in-len1-up.len_at_least c.first-item.is) i) (sym
    (one_less c.args.value c.if-value-eq0.false) i))) c.at_hand.ensures
