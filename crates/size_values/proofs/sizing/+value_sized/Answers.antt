use Rattle.std.proofs.Common.{◌≡◌, IfOk, subst}
use Rattle.size_values.specs.Numbers.{meant}
use Rattle.size_values.proofs.Readings.{typ_is}
use Rattle.size_values.proofs.sizing.+value_sized.Goals as goal

pub reading_sized-returns-in_ok-parts-in-Of : goal.reading_sized-returns-in_ok-parts-in-Of
reading_sized-returns-in_ok-parts-in-Of t c =
    subst (λ s. IfOk c.typ_sized_by.result (λ made. made ≡ s))
    (typ_is c.args.types.now c.args.own.now (meant c.args.variables.now) c.args.reading.now c.in-Of.typ c.in-Of.arguments c.as_slice.result.now
    c.in-Of.parts c.as_slice-in-Of.result.now _ _ _ _ c.in-Of.is c.as_slice.ensures c.in_ok-arguments-in-Of.ensures c.as_slice-in-Of.ensures
    c.in_ok-parts-in-Of.ensures c.as_slice-in-Of-2.ensures c.as_slice-in-Of-3.ensures) c.typ_sized_by.ensures
