use Rattle.std.proofs.Common.{◌≡◌, take, option_map}
use Rattle.sail_kinds.specs.Scopes.{binder, variable_of}
use Rattle.written_types.specs.Parts.{int_found}
use Rattle.written_types.proofs.bound.number_among.Given as goal

abbrev pub invariant-loop-bound : goal.invariant-loop-bound
invariant-loop-bound l = option_map int_found l.number ≡ variable_of l.name (binder (take l.bound-index l.names))
