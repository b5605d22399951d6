use Rattle.std.proofs.Common.{◌≡◌, drop, map}
use Rattle.std.specs.List.{list_all}
use Rattle.expression_forms.specs.Inside.{is_type_whole, is_value_whole}
use Rattle.expression_forms.proofs.inside.+whole.Given as goal

-- the rest decides
abbrev pub invariant-are_values_whole-loop-value : goal.invariant-are_values_whole-loop-value
invariant-are_values_whole-loop-value l =
    list_all (λ b. b) (map is_value_whole (drop l.value-index l.values)) ≡ list_all (λ b. b) (map is_value_whole l.values)

abbrev pub invariant-are_types_whole-loop-reading : goal.invariant-are_types_whole-loop-reading
invariant-are_types_whole-loop-reading l =
    list_all (λ b. b) (map is_type_whole (drop l.reading-index l.readings)) ≡ list_all (λ b. b) (map is_type_whole l.readings)
