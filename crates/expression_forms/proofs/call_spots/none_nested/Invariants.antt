use Rattle.std.proofs.Common.{◌≡◌, false, replicate}
use Rattle.expression_forms.proofs.call_spots.none_nested.Given as goal

abbrev pub invariant-loop-at : goal.invariant-loop-at
invariant-loop-at l = l.made ≡ replicate l._at false
