use Rattle.std.proofs.Common.{◌≡◌, IfOk, subst}
use Rattle.size_values.specs.Sized.{typ_sized}
use Rattle.size_values.proofs.sizing.typ_sized_by.Goals as goal

pub returns : goal.returns
returns c =
    subst (λ own. IfOk c.typ_sized.result (λ made. made ≡ typ_sized c.args.types.now own c.args.typ.now c.args.constants.now))
    c.types_or_own.ensures c.typ_sized.ensures
