use Rattle.std.proofs.Common.{◌≡◌, drop, map}
use Rattle.std.specs.List.{list_any}
use Rattle.call_arguments.specs.Holes.{has_hole, value_has_hole}
use Rattle.call_arguments.proofs.holes.+has_hole.Given as goal

-- the rest decides
abbrev pub invariant-any_has_hole-loop-reading : goal.invariant-any_has_hole-loop-reading
invariant-any_has_hole-loop-reading l =
    list_any (λ b. b) (map has_hole (drop l.reading-index l.readings)) ≡ list_any (λ b. b) (map has_hole l.readings)

abbrev pub invariant-any_value_has_hole-loop-value : goal.invariant-any_value_has_hole-loop-value
invariant-any_value_has_hole-loop-value l =
    list_any (λ b. b) (map value_has_hole (drop l.value-index l.values)) ≡ list_any (λ b. b) (map value_has_hole l.values)
