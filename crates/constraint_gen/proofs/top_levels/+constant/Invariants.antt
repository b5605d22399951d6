use Rattle.std.proofs.Common.{◌≡◌, drop, map}
use Rattle.std.specs.List.{list_all}
use Rattle.constraint_gen.specs.Models.{is_constant, is_reading_constant}
use Rattle.constraint_gen.proofs.top_levels.+constant.Given as goal

abbrev pub invariant-are_constant-loop-part : goal.invariant-are_constant-loop-part
invariant-are_constant-loop-part l =
    list_all (λ b. b) (map is_constant (drop l.part-index l.parts)) ≡ list_all (λ b. b) (map is_constant l.parts)

abbrev pub invariant-are_readings_constant-loop-reading : goal.invariant-are_readings_constant-loop-reading
invariant-are_readings_constant-loop-reading l =
    list_all (λ b. b) (map is_reading_constant (drop l.reading-index l.readings)) ≡ list_all (λ b. b) (map is_reading_constant l.readings)
