use Rattle.sail_syntax.proofs.expressions.LExp.TheLaws.{the_size as target_size}
use Rattle.std.proofs.Common.{◌≡◌, ◌+◌, ◌*◌, ◌++◌, map, drop}
use denote.Param.Weighed.{most}
use Rattle.shape_rules.specs.Around.{setting_of}
use Rattle.shape_rules.specs.Findings.{first_failure}
use Rattle.shape_walks.specs.Trees.{target_part}
use Rattle.shape_rules.specs.Targets as target
use Rattle.shape_targets.proofs.targets.+aim.Given as goal

abbrev pub invariant-aim_tuple-loop-target : goal.invariant-aim_tuple-loop-target
invariant-aim_tuple-loop-target g l =
    let setting = setting_of l.around in
    let rest = target.each_aimed (map target_part (drop l.target-index l.targets)) setting l.initial.locals in
    let all = target.each_aimed (map target_part l.targets) setting l.initial.locals in
    record {
      locals : l.locals ≡ l.initial.locals;
      shapes : l.shapes ++ rest.shapes ≡ all.shapes;
      targets : l.inside ++ rest.targets ≡ all.targets;
      parts : l.parts ++ rest.parts ≡ all.parts;
      failures : first_failure l.first.error rest.faults ≡ first_failure l.initial.first.error all.faults;
    }

abbrev pub decreases-push_target : goal.decreases-push_target
decreases-push_target g l = 4 * target_size l.target.now + 1

abbrev pub decreases-aim : goal.decreases-aim
decreases-aim g l = 4 * target_size l.target.now

abbrev pub decreases-aim_tuple : goal.decreases-aim_tuple
decreases-aim_tuple g l = 4 * most target_size l.targets.now + 2

abbrev pub decreases-aim_part : goal.decreases-aim_part
decreases-aim_part g l = 4 * target_size l.base.now + 2

abbrev pub decreases-aim_base : goal.decreases-aim_base
decreases-aim_base g l = 4 * target_size l.base.now + 1
