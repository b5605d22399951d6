use Rattle.std.proofs.Common.{◌≡◌, ◌++◌, drop}
use Rattle.shape_models.specs.Models.{entries_from, entries}
use Rattle.shape_models.specs.Sources.{tabled_by}
use Rattle.shape_models.proofs.entries.find_entries.Given as goal

abbrev pub invariant-loop-definition : goal.invariant-loop-definition
invariant-loop-definition l = l.entries ++ entries_from (tabled_by l.source) l.counts (drop l.definition-index l.definitions)
    ≡ entries (tabled_by l.source) l.definitions
