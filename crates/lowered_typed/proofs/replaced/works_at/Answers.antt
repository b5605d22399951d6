use Rattle.std.proofs.Common.{◌≡◌, ◌∙◌, ◌∷◌, Bool, sym, []}
use Rattle.lowered_typed.proofs.Fixed.{integer_typ}
use Rattle.std.proofs.lemmas.Result.{IfOk-weaker}
use Rattle.jib.specs.declared.code.Source.TheVariants as R
use Rattle.lowered_typed.specs.Here as here
use Rattle.lowered_typed.specs.Judged as judged
use Rattle.lowered_typed.proofs.replaced.works_at.Goals as goal

pub returns : goal.returns
returns c =
    IfOk-weaker c.works.result _ (λ (a : Bool). a ≡ judged.works_at c.args.judge.now c.args.operation c.args.whole.now c.args.gives.now) (λ a e. e
    ∙ (λ i. here.works c.args.judge.now c.args.operation (R.Slot 0 ∷ R.Slot 1 ∷ []) (c.in_ok-old.ensures i ∷ (sym
    (integer_typ c.args.judge.now.setting.now.types.now)) i ∷ []) c.args.gives.now)) c.works.ensures
