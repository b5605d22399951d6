use Rattle.std.proofs.Common.{◌≡◌, ◌++◌, drop, map}
use Rattle.call_notes.specs.Noted.{name_indices}
use Rattle.call_notes.proofs.noted.with_names.Given as goal

abbrev pub invariant-loop-name : goal.invariant-loop-name
invariant-loop-name l = l.made ++ map name_indices (drop l.name-index l.names) ≡ l.values ++ map name_indices l.names
