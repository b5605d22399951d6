use Rattle.std.proofs.Common.{◌≡◌, map, drop}
use Rattle.sail_names.specs.Locals.{behind}
use Rattle.sail_names.specs.parts.Scopes.{pointed}
use Rattle.sail_names.proofs.patterns.bind_all.Given as goal

abbrev pub invariant-loop-name : goal.invariant-loop-name
invariant-loop-name l = behind (map pointed (drop l.name-index l.names)) l.locals ≡ behind (map pointed l.names) l.initial.locals
