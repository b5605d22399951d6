use Rattle.std.proofs.Common.{◌≡◌, ◌+◌, ◌++◌, map, drop}
use Rattle.shape_rules.specs.Around.{setting_of}
use Rattle.shape_rules.specs.Findings.{first_failure}
use Rattle.shape_rules.specs.Statements as statement
use Rattle.shape_walks.specs.Trees.{further_part}
use Rattle.shape_rules.specs.Expressions.{part}
use Rattle.shape_targets.proofs.targets.push_right.Given as goal

abbrev pub invariant-loop-further : goal.invariant-loop-further
invariant-loop-further g l =
    let setting = setting_of l.around in
    let rest = statement.righted (map further_part (drop l.further-index l.more)) (part l.value) setting l.initial.locals l.wanted in
    let all = statement.righted (map further_part l.more) (part l.value) setting l.initial.locals l.initial.wanted in
    record {
      locals : l.locals ≡ l.initial.locals;
      targets : l.targets ++ rest.targets ≡ l.initial.targets ++ all.targets;
      parts : l.parts ++ rest.parts ≡ l.initial.parts ++ all.parts;
      failures : first_failure l.first.error rest.faults ≡ first_failure l.initial.first.error all.faults;
    }
