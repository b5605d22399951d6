use Rattle.std.proofs.Common.{◌≡◌, drop}
use Rattle.pattern_leaves.specs.Settings as settings
use Rattle.pattern_leaves.proofs.holding.held_in.Given as goal

abbrev pub invariant-loop-bound : goal.invariant-loop-bound
invariant-loop-bound l = settings.held_in l.name (drop l.bound-index l.scope) ≡ settings.held_in l.name l.scope
