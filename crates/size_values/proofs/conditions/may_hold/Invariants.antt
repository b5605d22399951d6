use Rattle.std.proofs.Common.{◌≡◌, drop}
use Rattle.value_indices.specs.Steps.{conditions}
use Rattle.size_values.specs.Numbers.{may_hold, meant}
use Rattle.size_values.proofs.conditions.may_hold.Given as goal

abbrev pub invariant-loop-fact : goal.invariant-loop-fact
invariant-loop-fact l =
    may_hold (meant l.variables) (conditions (drop l.fact-index l.facts)) ≡ may_hold (meant l.variables) (conditions l.facts)
