use Rattle.std.proofs.Common.{◌≡◌, drop, map}
use Rattle.size_values.specs.Numbers.{meant}
use Rattle.size_splits.specs.Reading.{pointed}
use Rattle.size_splits.specs.Splits.{domain}
use Rattle.size_splits.proofs.domains.domain.Given as goal

abbrev pub invariant-loop-at : goal.invariant-loop-at
invariant-loop-at l =
    domain (meant l.variables) l.variable (map pointed (drop l.at l.conditions)) ≡ domain (meant l.variables) l.variable (map pointed l.conditions)
