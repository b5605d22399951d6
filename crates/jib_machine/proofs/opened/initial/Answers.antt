use Rattle.std.proofs.Common.{◌∙◌, sym, ap, None, Some, ◌≤◌, length, arith}
use Rattle.std.specs.Option.{option_copied}
use Rattle.model_state.specs.declared.cause.Ended.TheVariants as E
use Rattle.model_state.specs.RunState.{RunState}
use Rattle.jib_machine.proofs.OpenLaws.{initial_more}
use Rattle.jib_machine.proofs.opened.initial.Goals as goal

pub loop-place-preserved : goal.loop-place-preserved
loop-place-preserved g c =
    c.loop-place.invariant
    ∙ initial_more c.args.machine.now.program.openings c.as_slice-opening-items.result.now c.args.machine.now.opened c.as_slice.result.now c.loop-place.place
    (record { function = 0; register = None }) c.in-Some-Value.value c.loop-place.state c.set_all.new.state c.as_slice-opening-items.ensures c.as_slice.ensures
    c.loop-place-test.true (sym c.ending_at.ensures ∙ ap option_copied c.in-Some-Value.is ∙ ap Some c.in-Some-Value.field-0-is)
    c.in_ok-set_all-in-Some-Value.ensures
