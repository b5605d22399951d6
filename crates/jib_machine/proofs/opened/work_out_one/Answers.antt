use Rattle.std.proofs.Common.{◌∙◌, ap, refl, subst, [], ◌++◌, ◌∷◌}
use Rattle.jib.specs.Jib.{jib_run}
use Rattle.jib.specs.Openings.{begun}
use Rattle.jib_machine.specs.parts.Begun.{store}
use Rattle.jib_machine.specs.parts.Acts.{outcome_of}
use Rattle.jib_machine.specs.Events.{blank}
use Rattle.jib_machine.proofs.OpenLaws.{opens_one}
use Rattle.jib_machine.proofs.opened.work_out_one.Goals as goal

pub returns-clause-one : goal.returns-clause-one
returns-clause-one c =
    opens_one c.args.machine.now.program c.args.machine.now.types c.args.machine.now.lets c.args.opening c.in_ok-state.state c.new.result.items
    c.run.new.state c.in_ok-ending.ending c.in_ok-ended.ended c.in_ok-value.value c.push.new.self c.in_ok-state.ensures c.new.ensures.items
    c.in_ok-ending.ensures
    c.in_ok-ended.ensures c.in_ok-value.ensures c.in_ok-push.ensures.pushed
