use Rattle.std.proofs.Common.{◌≡◌, drop, map, true, false}
use Rattle.size_values.specs.Numbers.{every, meant, some, truth_of}
use Rattle.size_values.proofs.conditions.+truth.Given as goal

abbrev pub invariant-every-loop-part : goal.invariant-every-loop-part
invariant-every-loop-part l =
    every l.before (map (truth_of (meant l.variables)) (drop l.part-index l.parts)) ≡ every true (map (truth_of (meant l.variables)) l.parts)

abbrev pub invariant-some-loop-part : goal.invariant-some-loop-part
invariant-some-loop-part l =
    some l.before (map (truth_of (meant l.variables)) (drop l.part-index l.parts)) ≡ some false (map (truth_of (meant l.variables)) l.parts)
