use Rattle.std.proofs.Common.{◌≡◌, ◌++◌, drop, map}
use Rattle.value_indices.specs.declared.indices.Reading.TheVariants as R
use Rattle.value_indices.proofs.forms.readings_of.Given as goal

abbrev pub invariant-loop-typ : goal.invariant-loop-typ
invariant-loop-typ l =
    l.made ++ map (λ t. R.Of t l.indices l.readings) (drop l.typ-index l.types) ≡ map (λ t. R.Of t l.indices l.readings) l.types
