use Rattle.std.proofs.Common.{refl, ap, ◌∙◌, sym, arith}
use Rattle.std.specs.Prelude.{slice_index_or}
use Rattle.jib_machine.specs.parts.Runs.{table_of}
use Rattle.jib_machine.proofs.MadeLaws.{ready_made}
use Rattle.jib_machine.proofs.InPlaceLaws.{along_both}
use Rattle.jib_machine.proofs.TurnLaws.{along_here, along_more, did_go, did_jump, did_sink, did_over, did_enter}
use Rattle.jib_machine.proofs.machine.Machine.turn.Goals as goal

pub run-init : goal.run-init
run-init g c =
    along_here c.args.self.now.program c.args.self.now.lets c.args.hart c.args.current.now c.args.state.now c.args.ticks.now

pub run-smaller-in-Go : goal.run-smaller-in-Go
run-smaller-in-Go g c =
    let one = did_go c.args.self.now.program c.args.self.now.lets c.args.hart c.run_in_place.new.current c.act_at.new.current c.run_in_place.new.state
    c.run.ticks c.act_at.new.state
    c.act_at.new.ticks c.in_ok-act_at.field-0 c.in-Go.is c.in_ok-act_at.ensures.acted c.in_ok-act_at.ensures.here c.in_ok-act_at.ensures.at _ refl refl
    c.in_ok-current-in-Go.ensures in
    let before = c.in_ok-run_in_place.ensures c.run.ticks in
    omega (arith, one.less, before.no_more)

pub run-preserved-in-Go : goal.run-preserved-in-Go
run-preserved-in-Go g c =
    along_more c.args.self.now.program c.args.self.now.lets c.args.hart c.args.current.now c.args.state.now c.args.ticks.now c.run_in_place.new.current _
    c.run_in_place.new.state _
    c.run.ticks _ (along_both c.args.self.now.program c.args.self.now.lets c.args.hart c.args.current.now c.run.current c.run_in_place.new.current
    c.args.state.now c.run.state c.run_in_place.new.state c.args.ticks.now c.run.ticks c.run.ticks c.run.invariant (c.in_ok-run_in_place.ensures c.run.ticks))
    (did_go c.args.self.now.program c.args.self.now.lets c.args.hart c.run_in_place.new.current c.act_at.new.current c.run_in_place.new.state c.run.ticks
    c.act_at.new.state
    c.act_at.new.ticks c.in_ok-act_at.field-0 c.in-Go.is c.in_ok-act_at.ensures.acted c.in_ok-act_at.ensures.here c.in_ok-act_at.ensures.at _ refl refl
    c.in_ok-current-in-Go.ensures)

pub run-smaller-in-Jump : goal.run-smaller-in-Jump
run-smaller-in-Jump g c =
    let one = did_jump c.args.self.now.program c.args.self.now.lets c.args.hart c.run_in_place.new.current c.act_at.new.current c.run_in_place.new.state
    c.run.ticks c.act_at.new.state
    c.act_at.new.ticks c.in_ok-act_at.field-0 c.args.self.now.places (ready_made c.args.self.now.program c.args.self.now.places c.args.self.now.kept
    c.args.self.now.found) c.in-Jump.field-0 c.in-Jump.is c.in_ok-act_at.ensures.acted c.in_ok-act_at.ensures.here c.in_ok-act_at.ensures.at _ refl refl
    (c.find-current.ensures ∙ ap (λ q. slice_index_or q c.act_at.new.current.at 0) (c.table-table.ensures ∙ ap (table_of c.args.self.now.places) (sym
    (along_both c.args.self.now.program c.args.self.now.lets c.args.hart c.args.current.now c.run.current c.run_in_place.new.current
    c.args.state.now c.run.state c.run_in_place.new.state c.args.ticks.now c.run.ticks c.run.ticks c.run.invariant (c.in_ok-run_in_place.ensures
    c.run.ticks)).function))) in
    let before = c.in_ok-run_in_place.ensures c.run.ticks in
    omega (arith, one.less, before.no_more)

pub run-preserved-in-Jump : goal.run-preserved-in-Jump
run-preserved-in-Jump g c =
    along_more c.args.self.now.program c.args.self.now.lets c.args.hart c.args.current.now c.args.state.now c.args.ticks.now c.run_in_place.new.current _
    c.run_in_place.new.state _
    c.run.ticks _ (along_both c.args.self.now.program c.args.self.now.lets c.args.hart c.args.current.now c.run.current c.run_in_place.new.current
    c.args.state.now c.run.state c.run_in_place.new.state c.args.ticks.now c.run.ticks c.run.ticks c.run.invariant (c.in_ok-run_in_place.ensures c.run.ticks))
    (did_jump c.args.self.now.program c.args.self.now.lets c.args.hart c.run_in_place.new.current c.act_at.new.current c.run_in_place.new.state c.run.ticks
    c.act_at.new.state
    c.act_at.new.ticks c.in_ok-act_at.field-0 c.args.self.now.places (ready_made c.args.self.now.program c.args.self.now.places c.args.self.now.kept
    c.args.self.now.found) c.in-Jump.field-0 c.in-Jump.is c.in_ok-act_at.ensures.acted c.in_ok-act_at.ensures.here c.in_ok-act_at.ensures.at _ refl refl
    (c.find-current.ensures ∙ ap (λ q. slice_index_or q c.act_at.new.current.at 0) (c.table-table.ensures ∙ ap (table_of c.args.self.now.places) (sym
    (along_both c.args.self.now.program c.args.self.now.lets c.args.hart c.args.current.now c.run.current c.run_in_place.new.current
    c.args.state.now c.run.state c.run_in_place.new.state c.args.ticks.now c.run.ticks c.run.ticks c.run.invariant (c.in_ok-run_in_place.ensures
    c.run.ticks)).function))))

pub run-smaller : goal.run-smaller
run-smaller g c =
    let one = did_sink c.args.self.now.program c.args.self.now.lets c.args.hart c.run_in_place.new.current c.act_at.new.current c.run_in_place.new.state
    c.run.ticks c.act_at.new.state
    c.act_at.new.ticks c.in_ok-act_at.field-0 c.in-Sink.measure c.in-Sink.is c.in_ok-act_at.ensures.acted c.in_ok-act_at.ensures.here
    c.in_ok-act_at.ensures.at _ refl refl c.in_ok-current-in-Sink.ensures in
    let before = c.in_ok-run_in_place.ensures c.run.ticks in
    omega (arith, one.less, before.no_more)

pub run-preserved : goal.run-preserved
run-preserved g c =
    along_more c.args.self.now.program c.args.self.now.lets c.args.hart c.args.current.now c.args.state.now c.args.ticks.now c.run_in_place.new.current _
    c.run_in_place.new.state _
    c.run.ticks _ (along_both c.args.self.now.program c.args.self.now.lets c.args.hart c.args.current.now c.run.current c.run_in_place.new.current
    c.args.state.now c.run.state c.run_in_place.new.state c.args.ticks.now c.run.ticks c.run.ticks c.run.invariant (c.in_ok-run_in_place.ensures c.run.ticks))
    (did_sink c.args.self.now.program c.args.self.now.lets c.args.hart c.run_in_place.new.current c.act_at.new.current c.run_in_place.new.state c.run.ticks
    c.act_at.new.state
    c.act_at.new.ticks c.in_ok-act_at.field-0 c.in-Sink.measure c.in-Sink.is c.in_ok-act_at.ensures.acted c.in_ok-act_at.ensures.here
    c.in_ok-act_at.ensures.at _ refl refl c.in_ok-current-in-Sink.ensures)

pub returns-in-Over : goal.returns-in-Over
returns-in-Over g c =
    did_over c.args.self.now.program c.args.self.now.lets c.args.hart c.run_in_place.new.current c.act_at.new.current c.run_in_place.new.state c.run.ticks
    c.act_at.new.state
    c.act_at.new.ticks c.in_ok-act_at.field-0 c.args.current.now c.args.state.now c.args.ticks.now c.in-Over.ending (along_both c.args.self.now.program
    c.args.self.now.lets c.args.hart c.args.current.now c.run.current c.run_in_place.new.current
    c.args.state.now c.run.state c.run_in_place.new.state c.args.ticks.now c.run.ticks c.run.ticks c.run.invariant (c.in_ok-run_in_place.ensures
    c.run.ticks)) c.in-Over.is
    c.in_ok-act_at.ensures.acted

pub returns-in-Enter : goal.returns-in-Enter
returns-in-Enter g c =
    did_enter c.args.self.now.program c.args.self.now.lets c.args.hart c.run_in_place.new.current c.act_at.new.current c.run_in_place.new.state c.run.ticks
    c.act_at.new.state
    c.act_at.new.ticks c.in_ok-act_at.field-0 c.args.current.now c.args.state.now c.args.ticks.now c.in-Enter.slot c.in-Enter.function c.in-Enter.label
    c.in-Enter.place c.in-Enter.slots (along_both c.args.self.now.program c.args.self.now.lets c.args.hart c.args.current.now c.run.current
    c.run_in_place.new.current
    c.args.state.now c.run.state c.run_in_place.new.state c.args.ticks.now c.run.ticks c.run.ticks c.run.invariant (c.in_ok-run_in_place.ensures
    c.run.ticks)) c.in-Enter.is c.in_ok-act_at.ensures.acted c.in_ok-act_at.ensures.here c.in_ok-act_at.ensures.at
