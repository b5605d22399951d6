-- Two walks that give the same value, and write down the same.
use Rattle.std.proofs.Common.{◌≡◌}
use Rattle.value_indices.specs.Walking.{Written}

pub record Alike {A : Type 0} (x y : A) (v w : Written) : Type 0 where
  pub value : x ≡ y
  pub walked : v ≡ w
