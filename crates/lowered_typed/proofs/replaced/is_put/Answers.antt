use Rattle.std.proofs.Common.{◌≡◌, ◌∙◌, ◌∷◌, Bool, sym, ap, []}
use Rattle.lowered_typed.proofs.Fixed.{integer_typ}
use Rattle.sail_core.specs.declared.targets.Way.{Way}
use Rattle.std.proofs.lemmas.Result.{IfOk-weaker}
use Rattle.jib.specs.declared.code.Operation.TheVariants as O
use Rattle.jib.specs.declared.code.Source.TheVariants as R
use Rattle.lowered_typed.specs.Here as here
use Rattle.lowered_typed.proofs.replaced.is_put.Goals as goal

pub returns-in-Item : goal.returns-in-Item
returns-in-Item c =
    IfOk-weaker c.works-in-Item.result _ (λ (a : Bool). a ≡ here.is_put c.args.judge.now c.args.way.now c.args.whole.now c.args.part.now) (λ a e. e
    ∙ (λ i. here.works c.args.judge.now O.WithItem (R.Slot 0 ∷ R.Slot 1 ∷ R.Slot 2 ∷ []) (c.in_ok-old.ensures i ∷ (sym
    (integer_typ c.args.judge.now.setting.now.types.now)) i ∷ c.in_ok-new.ensures i ∷ []) c.args.whole.now)
    ∙ ap (λ (w : Way). here.is_put c.args.judge.now w c.args.whole.now c.args.part.now) (sym c.in-Item.is)) c.works-in-Item.ensures

pub returns-in-Slice : goal.returns-in-Slice
returns-in-Slice c =
    IfOk-weaker c.works-in-Slice.result _ (λ (a : Bool). a ≡ here.is_put c.args.judge.now c.args.way.now c.args.whole.now c.args.part.now)
    (λ a e. e ∙ (λ i. here.works c.args.judge.now O.WithSlice (R.Slot 0 ∷ R.Slot 1 ∷ R.Slot 2 ∷ R.Slot 3 ∷ []) (c.in_ok-old.ensures i ∷ (sym
    (integer_typ c.args.judge.now.setting.now.types.now)) i ∷ (sym
    (integer_typ c.args.judge.now.setting.now.types.now)) i ∷ c.in_ok-new.ensures i ∷ []) c.args.whole.now)
    ∙ ap (λ (w : Way). here.is_put c.args.judge.now w c.args.whole.now c.args.part.now) (sym c.in-Slice.is)) c.works-in-Slice.ensures
