use Rattle.std.proofs.Common.{◌≡◌, drop, map}
use Rattle.std.specs.List.{list_all}
use Rattle.expression_forms.specs.Inside.{is_type_below, is_value_below}
use Rattle.expression_forms.proofs.inside.+below.Given as goal

-- the rest decides
abbrev pub invariant-are_values_below-loop-value : goal.invariant-are_values_below-loop-value
invariant-are_values_below-loop-value l =
    list_all (λ b. b) (map (is_value_below l.before) (drop l.value-index l.values)) ≡ list_all (λ b. b) (map (is_value_below l.before) l.values)

abbrev pub invariant-are_types_below-loop-reading : goal.invariant-are_types_below-loop-reading
invariant-are_types_below-loop-reading l =
    list_all (λ b. b) (map (is_type_below l.before) (drop l.reading-index l.readings)) ≡ list_all (λ b. b) (map (is_type_below l.before) l.readings)
