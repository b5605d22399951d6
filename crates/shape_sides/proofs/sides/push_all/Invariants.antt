use Rattle.std.proofs.Common.{◌≡◌, drop}
use Rattle.shape_rules.specs.Around.{setting_of}
use Rattle.shape_rules.specs.Findings.{first_failure}
use Rattle.shape_walks.specs.Walks.{each_taken, each_faults}
use Rattle.shape_sides.specs.Trees.{elaborates}
use Rattle.shape_sides.proofs.sides.push_all.Given as goal

abbrev pub invariant-loop-part : goal.invariant-loop-part
invariant-loop-part g l =
    let setting = setting_of l.around in
    let rest = elaborates (drop l.part-index l.parts) in
    let all = elaborates l.parts in
    record {
      walk : each_taken rest setting l.locals l.walk ≡ each_taken all setting l.locals l.initial.walk;
      failures : first_failure l.first.error (each_faults rest setting l.locals l.walk)
          ≡ first_failure l.initial.first.error (each_faults all setting l.locals l.initial.walk);
    }
