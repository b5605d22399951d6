use Rattle.std.proofs.Common.{◌≡◌, ◌+◌, ◌++◌, map, drop}
use Rattle.shape_rules.specs.Around.{setting_of}
use Rattle.shape_rules.specs.Findings.{first_failure}
use Rattle.shape_rules.specs.Statements as statement
use Rattle.shape_walks.specs.Trees.{case_part}
use Rattle.shape_statements.proofs.branches.push_cases.Given as goal

abbrev pub invariant-loop-case : goal.invariant-loop-case
invariant-loop-case g l =
    let setting = setting_of l.around in
    let rest = statement.cases_found (map case_part (drop l.case-index l.cases)) setting l.initial.locals l.subject l.given in
    let all = statement.cases_found (map case_part l.cases) setting l.initial.locals l.subject l.initial.given in
    record {
      locals : l.locals ≡ l.initial.locals;
      shape : rest.shape ≡ all.shape;
      arms : l.arms ++ rest.arms ≡ l.initial.arms ++ all.arms;
      bodies : l.bodies ++ rest.bodies ≡ l.initial.bodies ++ all.bodies;
      failures : first_failure l.first.error rest.faults ≡ first_failure l.initial.first.error all.faults;
    }
