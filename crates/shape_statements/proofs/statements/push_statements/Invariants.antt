use Rattle.std.proofs.Common.{◌≡◌, ◌+◌, ◌++◌, map, drop}
use Rattle.shape_rules.specs.Around.{setting_of}
use Rattle.shape_rules.specs.Findings.{first_failure}
use Rattle.shape_rules.specs.Statements as statement
use Rattle.shape_walks.specs.Trees.{statement_part}
use Rattle.shape_forms.specs.Steps.{IsInside}
use Rattle.shape_statements.proofs.statements.push_statements.Given as goal

abbrev pub invariant-loop-statement : goal.invariant-loop-statement
invariant-loop-statement g l =
    let setting = setting_of l.around in
    let rest = statement.blocked (map statement_part (drop l.statement-index l.statements)) setting l.locals in
    let all = statement.blocked (map statement_part l.statements) setting l.initial.locals in
    record {
      inside : IsInside l.locals l.initial.locals;
      locals : rest.locals ≡ all.locals;
      statements : l.made ++ rest.statements ≡ all.statements;
      parts : l.parts ++ rest.parts ≡ l.initial.parts ++ all.parts;
      failures : first_failure l.first.error rest.faults ≡ first_failure l.initial.first.error all.faults;
    }
