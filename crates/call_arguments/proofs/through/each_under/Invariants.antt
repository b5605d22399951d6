use Rattle.std.proofs.Common.{◌≡◌, ◌++◌, drop}
use Rattle.call_arguments.specs.Aims.{each_under}
use Rattle.call_arguments.proofs.through.each_under.Given as goal

abbrev pub invariant-loop-typ : goal.invariant-loop-typ
invariant-loop-typ l = l.made ++ each_under l.indices l.readings (drop l.typ-index l.types) ≡ each_under l.indices l.readings l.types
