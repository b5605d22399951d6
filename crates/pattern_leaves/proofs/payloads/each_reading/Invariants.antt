use Rattle.std.proofs.Common.{◌≡◌, ◌++◌, map, drop}
use Rattle.value_indices.specs.declared.indices.Reading.TheVariants as R
use Rattle.pattern_leaves.proofs.payloads.each_reading.Given as goal

abbrev pub invariant-loop-part : goal.invariant-loop-part
invariant-loop-part l = l.readings ++ map (λ t. R.Of t l.numbers l.types) (drop l.part-index l.parts) ≡ map (λ t. R.Of t l.numbers l.types) l.parts
