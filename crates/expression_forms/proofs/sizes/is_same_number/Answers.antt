use Rattle.expression_forms.specs.Sizes.{same_number}
use Rattle.expression_forms.proofs.Bounds.{number_decided, same_bools}
use Rattle.expression_forms.proofs.sizes.is_same_number.Goals as goal

pub returns : goal.returns
returns c =
    same_bools c.same_num.result (same_number c.args.a.now c.args.b.now) c.same_num.ensures (number_decided c.args.a.now c.args.b.now)
