use Rattle.std.proofs.Common.{◌≡◌, ◌+◌, ◌++◌, map, drop}
use Rattle.shape_rules.specs.Around.{setting_of}
use Rattle.shape_rules.specs.Findings.{first_failure}
use Rattle.shape_walks.specs.Trees.{suffix_part}
use Rattle.shape_rules.specs.Targets as target
use Rattle.shape_targets.proofs.parts.walked.Given as goal

abbrev pub invariant-loop-suffix : goal.invariant-loop-suffix
invariant-loop-suffix g l =
    let setting = setting_of l.around in
    let rest = target.walked (map suffix_part (drop l.suffix-index l.suffixes)) setting l.initial.locals l.first_place l.base l.shape in
    let all = target.walked (map suffix_part l.suffixes) setting l.initial.locals l.first_place l.initial.base l.initial.shape in
    record {
      locals : l.locals ≡ l.initial.locals;
      shape : rest.shape ≡ all.shape;
      steps : l.steps ++ rest.suffixes ≡ l.initial.steps ++ all.suffixes;
      cores : l.cores ++ rest.parts ≡ l.initial.cores ++ all.parts;
      failures : first_failure l.first.error rest.faults ≡ first_failure l.initial.first.error all.faults;
    }
