use Rattle.std.proofs.Common.{◌≡◌, drop}
use Rattle.std.specs.List.{list_any}
use Rattle.expression_forms.specs.Sizes.{side_is}
use Rattle.expression_forms.proofs.sizes.is_written_side.Given as goal

-- the rest decides
abbrev pub invariant-loop-written : goal.invariant-loop-written
invariant-loop-written l = list_any (side_is l.side) (drop l.written-index l.numbers) ≡ list_any (side_is l.side) l.numbers
