use Rattle.std.proofs.Common.{◌≡◌, take}
use Rattle.sail_kinds.specs.Scopes.{binder, seen_behind_all}
use Rattle.sail_kinds.proofs.variables.find_name.Given as goal

abbrev pub invariant-loop-binder : goal.invariant-loop-binder
invariant-loop-binder l = l.found ≡ seen_behind_all l.name (binder (take l.binder-index l.names)) l.fn.outer
