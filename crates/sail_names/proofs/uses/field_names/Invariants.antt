use Rattle.std.proofs.Common.{◌≡◌, ◌++◌, map, drop}
use Rattle.sail_names.specs.Uses as spec
use Rattle.sail_names.specs.parts.Scopes.{pointed}
use Rattle.sail_names.proofs.uses.field_names.Given as goal

abbrev pub invariant-loop-field : goal.invariant-loop-field
invariant-loop-field l = map pointed l.names.items ++ spec.named (map spec.field_of (drop l.field-index l.fields))
    ≡ spec.named (map spec.field_of l.fields)
