use Rattle.std.proofs.Common.{◌∙◌, subst, []}
use Rattle.jib.specs.Openings.{Opens}
use Rattle.jib_machine.specs.Events.{blank}
use Rattle.jib_machine.proofs.OpenLaws.{opens_may_end}
use Rattle.jib_machine.proofs.machine.Machine.new.Goals as goal

pub invariant_of-machine-2 : goal.invariant_of-machine-2
invariant_of-machine-2 c = record {
  kept = c.work_out.new.machine.kept;
  found = c.work_out.new.machine.found;
  unread = c.work_out.new.machine.unread;
  may_end = opens_may_end c.args.checked.program c.args.checked.kept c.args.types blank c.in_ok-endings.ensures.opened;
}

pub returns-clause-opened : goal.returns-clause-opened
returns-clause-opened c =
    let m = c.args.checked.program in
    let lets = c.work_out.new.machine.lets in
    subst (λ q. Opens m c.args.types blank q [] c.in_ok-endings.endings lets)
    (c.as_slice-4.ensures ∙ c.in_ok-openings.ensures ∙ c.as_slice-3.ensures)
    (subst (λ q. Opens m c.args.types blank c.as_slice-4.result.now q c.in_ok-endings.endings lets) c.new.ensures c.in_ok-endings.ensures.opened)
