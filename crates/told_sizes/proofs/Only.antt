-- What is asked only if something is so.
use Rattle.std.proofs.Common.{◌≡◌, Bool, true, false, not, refl}
use Rattle.told_sizes.specs.Exact.{only_if}

pub only_true : (h : Bool) → only_if h true ≡ true
only_true true = refl
only_true false = refl

pub only_false : (h : Bool) → only_if h false ≡ not h
only_false true = refl
only_false false = refl
