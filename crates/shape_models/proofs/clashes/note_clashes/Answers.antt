use Rattle.std.proofs.Common.{◌≡◌, ◌-◌, take, arith}
use Rattle.std.proofs.lemmas.Grind.{common_steps}
use Rattle.shape_rules.specs.Findings.{first_failure}
use Rattle.shape_models.specs.declared.clashes.Added.{Added}
use Rattle.shape_models.specs.Overloads.{overload_faults}
use Rattle.shape_models.proofs.Steps.{clash_step}
use Rattle.shape_models.proofs.clashes.note_clashes.Goals as goal

pub loop-at-preserved : goal.loop-at-preserved
loop-at-preserved c =
    clash_step c.args.members.now c.loop-at.at _ c.index-members-at.result c.loop-at.first.error c.note_clashes_with.new.first.error
    (first_failure c.args.first.now.error (overload_faults c.args.members.now)) c.loop-at-test.true (grind (arith, common_steps))
    c.index-members-at.is c.in_ok-note_clashes_with.ensures c.loop-at.invariant
