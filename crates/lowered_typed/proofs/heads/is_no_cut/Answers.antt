use Rattle.std.proofs.Common.{◌≡◌, ◌∙◌, ◌∷◌, Bool, []}
use Rattle.std.proofs.lemmas.Result.{IfOk-weaker}
use Rattle.std.specs.Prelude.{pos}
use Rattle.jib.specs.declared.code.Literal.TheVariants as L
use Rattle.jib.specs.declared.code.Operation.TheVariants as O
use Rattle.jib.specs.declared.code.Source.TheVariants as R
use Rattle.size_values.specs.declared.sized.Sized.TheVariants as Z
use Rattle.lowered_typed.specs.Here as here
use Rattle.lowered_typed.specs.Judged as judged
use Rattle.lowered_typed.proofs.heads.is_no_cut.Goals as goal

pub returns : goal.returns
returns c =
    IfOk-weaker c.works_alone.result _ (λ (a : Bool). a ≡ judged.no_cut_right c.args.judge.now) (λ a e. e
    ∙ (λ i. here.works c.args.judge.now O.Same (R.Constant (c.in_ok-number.ensures i) (L.Bits (c.zeros.ensures i)) ∷ []) [] (Z.Bits
    (pos 0)))) c.works_alone.ensures
