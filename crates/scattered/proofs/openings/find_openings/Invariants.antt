use Rattle.std.proofs.Common.{drop}
use Rattle.scattered.specs.Latest.{latest_at}
use Rattle.scattered.proofs.Reading.{ReadSoFar}
use Rattle.scattered.proofs.openings.find_openings.Given as goal

abbrev pub invariant-loop-definition : goal.invariant-loop-definition
invariant-loop-definition l =
    ReadSoFar (latest_at l.standing.names) l.standing.before.items l.definitions l.openings.items (drop l.definition-index l.definitions)
