use Rattle.std.proofs.Common.{◌≡◌, map, take, drop}
use Rattle.shape_rules.specs.Around.{setting_of}
use Rattle.shape_rules.specs.Findings.{first_failure}
use Rattle.shape_rules.specs.Written.{joined}
use Rattle.shape_models.specs.Sources.{tabled_by}
use Rattle.shape_clauses.specs.Mappings.{mapping_faults, directions_of}
use Rattle.shape_clauses.proofs.mappings.read_mappings.Given as goal

abbrev pub invariant-loop-definition : goal.invariant-loop-definition
invariant-loop-definition l = record {
  directions : l.directions
      ≡ joined (map (directions_of (tabled_by l.source) (setting_of l.around)) (take l.definition-index l.definitions));
  failures : first_failure l.first.error
      (joined (map (mapping_faults (tabled_by l.source) (setting_of l.around)) (drop l.definition-index l.definitions)))
      ≡ first_failure l.initial.first.error (joined (map (mapping_faults (tabled_by l.source) (setting_of l.around)) l.definitions));
}
