use Rattle.std.proofs.Common.{◌≡◌, drop}
use Rattle.pattern_leaves.specs.Settings.{around_of}
use Rattle.value_indices.specs.Walking.{run, seen}
use Rattle.call_notes.specs.Calls.{parts_owed}
use Rattle.call_notes.proofs.made.parts_owed.Given as goal

-- what the rest owes makes up what all owe
abbrev pub invariant-loop-index : goal.invariant-loop-index
invariant-loop-index l =
    run (parts_owed (around_of l.around) (drop l.index l.places) l.known (drop l.index l.types) (drop l.index l.values) l.indices l.readings)
    (seen l.walking)
    ≡ run (parts_owed (around_of l.around) l.places l.known l.types l.values l.indices l.readings) (seen l.fn.walking)
