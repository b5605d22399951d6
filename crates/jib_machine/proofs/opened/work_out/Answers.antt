use Rattle.std.proofs.Common.{sym, subst, [], None}
use Rattle.jib.specs.Openings.{Opens, opens_none}
use Rattle.jib_machine.specs.Events.{blank}
use Rattle.jib_machine.proofs.OpenLaws.{same_model, same_both, worked_more}
use Rattle.jib_machine.proofs.opened.work_out.Goals as goal

pub loop-opening-init : goal.loop-opening-init
loop-opening-init c = (
  same_model c.args.machine.now,
  subst (λ q. Opens c.args.machine.now.program c.args.machine.now.types blank [] c.args.machine.now.lets q c.args.machine.now.lets)
      (sym c.new-endings.ensures) opens_none,
)

pub loop-opening-preserved : goal.loop-opening-preserved
loop-opening-preserved c = (
  same_both c.loop-opening.invariant.0 c.in_ok-ended.ensures.same,
  worked_more c.args.machine.now c.loop-opening.machine c.work_out_one.new.machine c.args.openings.now c.loop-opening.opening-index
      (record { function = 0; register = None }) c.loop-opening.endings c.push.new.self c.in_ok-ended.ended c.loop-opening-test.true
      c.loop-opening.invariant.0 c.loop-opening.invariant.1 c.in_ok-ended.ensures.one c.in_ok-push.ensures.pushed,
)
