-- Assignments that give one number to all powers that aren't fixed, whatever their exponents are.
use Rattle.std.specs.Prelude.{◌≡◌}
use Rattle.sail_types.specs.Numbers.{Assignment}
use Rattle.sail_types.specs.declared.numbers.Num.{Num}

abbrev pub IsSteady : Assignment → Type 0
IsSteady nu = (n m : Num) → nu.beyond n ≡ nu.beyond m
