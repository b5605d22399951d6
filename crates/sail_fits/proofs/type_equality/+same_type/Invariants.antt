use Rattle.std.proofs.Common.{◌≡◌, length, take, map}
use Rattle.sail_fits.specs.Unnamed.{unnamed}
use Rattle.sail_fits.proofs.type_equality.+same_type.Given as goal

-- what stands before the item in hand is the same
abbrev pub invariant-same_types-loop-item : goal.invariant-same_types-loop-item
invariant-same_types-loop-item l = record {
  here : l.at ≡ l.item-index;
  lengths : length l.a ≡ length l.b;
  before : take l.at (map unnamed l.a) ≡ take l.at (map unnamed l.b);
}
