-- What has more than 128 bits is no word.
use Rattle.std.proofs.Common.{◌≡◌, ◌<◌, Bool, false, List, length, ap, arith}
use Rattle.std.specs.Prelude.{None}
use Rattle.std.proofs.lemmas.Bool.Decides.{nat_tests}
use Rattle.sail_types.specs.Limits.{is_width}
use Rattle.sail_types.specs.declared.values.Value.TheVariants as V
use Rattle.builtins.specs.RowValues.{a_word, only}

not_width : (b : List Bool) → 128 < length b → is_width (length b) ≡ false
not_width b h = grind (arith, nat_tests)

pub too_wide : (b : List Bool) → 128 < length b → a_word b ≡ None
too_wide b h = ap (λ t. only t (V.Bits b)) (not_width b h)
