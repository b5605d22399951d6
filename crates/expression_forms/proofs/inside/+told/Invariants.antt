use Rattle.std.proofs.Common.{◌≡◌, drop, map}
use Rattle.std.specs.List.{list_all}
use Rattle.expression_forms.specs.Inside.{is_type_told, is_value_told}
use Rattle.expression_forms.proofs.inside.+told.Given as goal

-- the rest decides
abbrev pub invariant-are_values_told-loop-value : goal.invariant-are_values_told-loop-value
invariant-are_values_told-loop-value l =
    list_all (λ b. b) (map is_value_told (drop l.value-index l.values)) ≡ list_all (λ b. b) (map is_value_told l.values)

abbrev pub invariant-are_types_told-loop-reading : goal.invariant-are_types_told-loop-reading
invariant-are_types_told-loop-reading l =
    list_all (λ b. b) (map is_type_told (drop l.reading-index l.readings)) ≡ list_all (λ b. b) (map is_type_told l.readings)
