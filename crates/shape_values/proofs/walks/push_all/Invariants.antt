use Rattle.std.proofs.Common.{◌≡◌, drop}
use Rattle.shape_rules.specs.Around.{setting_of}
use Rattle.shape_rules.specs.Findings.{first_failure}
use Rattle.shape_walks.specs.Trees.{elaborates}
use Rattle.shape_walks.specs.Walks.{each_taken, each_faults}
use Rattle.shape_values.proofs.walks.push_all.Given as goal

abbrev pub invariant-loop-expression : goal.invariant-loop-expression
invariant-loop-expression g l =
    let setting = setting_of l.around in
    let rest = elaborates (drop l.expression-index l.expressions) in
    let all = elaborates l.expressions in
    record {
      locals : l.locals ≡ l.initial.locals;
      walk : each_taken rest setting l.initial.locals l.walk ≡ each_taken all setting l.initial.locals l.initial.walk;
      failures : first_failure l.first.error (each_faults rest setting l.initial.locals l.walk)
          ≡ first_failure l.initial.first.error (each_faults all setting l.initial.locals l.initial.walk);
    }
