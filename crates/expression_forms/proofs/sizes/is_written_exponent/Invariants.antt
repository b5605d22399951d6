use Rattle.std.proofs.Common.{◌≡◌, drop}
use Rattle.std.specs.List.{list_any}
use Rattle.expression_forms.specs.Sizes.{exponent_is}
use Rattle.expression_forms.proofs.sizes.is_written_exponent.Given as goal

-- the rest decides
abbrev pub invariant-loop-written : goal.invariant-loop-written
invariant-loop-written l = list_any (exponent_is l.exponent) (drop l.written-index l.numbers) ≡ list_any (exponent_is l.exponent) l.numbers
