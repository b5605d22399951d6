use Rattle.std.proofs.Common.{refl, ap, ◌∙◌, sym}
use Rattle.std.specs.Prelude.{slice_index_or}
use Rattle.jib_machine.specs.parts.Runs.{table_of}
use Rattle.jib_machine.proofs.MadeLaws.{ready_made}
use Rattle.jib_machine.proofs.TurnLaws.{along_here, along_more}
use Rattle.jib_machine.proofs.InPlaceLaws.{onward_next, onward_jump, left_is, along_same}
use Rattle.jib_machine.proofs.machine.Machine.run_in_place.Goals as goal

pub run-init : goal.run-init
run-init g c = (refl, λ k. along_here c.args.self.now.program c.args.self.now.lets c.args.hart c.args.current.now c.args.state.now k)

pub run-smaller-in-Next : goal.run-smaller-in-Next
run-smaller-in-Next g c =
    (onward_next c.args.self.now.program c.args.self.now.lets c.args.hart c.run.current c.in_place_at.new.current c.run.state c.in_place_at.new.state
    c.in_place_at.result
    c.in-Next.is c.in_place_at.ensures.done c.in_place_at.ensures.here c.in_place_at.ensures.at _ refl refl c.in_ok-current-in-Next.ensures 0).less

pub run-preserved-in-Next : goal.run-preserved-in-Next
run-preserved-in-Next g c =
    let on = onward_next c.args.self.now.program c.args.self.now.lets c.args.hart c.run.current c.in_place_at.new.current c.run.state
    c.in_place_at.new.state c.in_place_at.result
    c.in-Next.is c.in_place_at.ensures.done c.in_place_at.ensures.here c.in_place_at.ensures.at _ refl refl c.in_ok-current-in-Next.ensures in (
      (on 0).function ∙ c.run.invariant.0,
      λ k. along_more c.args.self.now.program c.args.self.now.lets c.args.hart c.args.current.now c.args.state.now k c.run.current _ c.run.state _ k k
          (c.run.invariant.1 k) (on k),
    )

pub run-smaller : goal.run-smaller
run-smaller g c =
    (onward_jump c.args.self.now.program c.args.self.now.lets c.args.hart c.run.current c.in_place_at.new.current c.run.state c.in_place_at.new.state
    c.in_place_at.result
    c.args.self.now.places (ready_made c.args.self.now.program c.args.self.now.places c.args.self.now.kept c.args.self.now.found)
    c.in-Jump.is c.in_place_at.ensures.done c.in_place_at.ensures.here c.in_place_at.ensures.at _ refl refl
    (c.find-current.ensures ∙ ap (λ q. slice_index_or q c.in_place_at.new.current.at 0) (c.requires.table ∙ ap (table_of c.args.self.now.places) (sym
    c.run.invariant.0))) 0).less

pub run-preserved : goal.run-preserved
run-preserved g c =
    let on = onward_jump c.args.self.now.program c.args.self.now.lets c.args.hart c.run.current c.in_place_at.new.current c.run.state
    c.in_place_at.new.state c.in_place_at.result
    c.args.self.now.places (ready_made c.args.self.now.program c.args.self.now.places c.args.self.now.kept c.args.self.now.found)
    c.in-Jump.is c.in_place_at.ensures.done c.in_place_at.ensures.here c.in_place_at.ensures.at _ refl refl
    (c.find-current.ensures ∙ ap (λ q. slice_index_or q c.in_place_at.new.current.at 0) (c.requires.table ∙ ap (table_of c.args.self.now.places) (sym
    c.run.invariant.0))) in (
      (on 0).function ∙ c.run.invariant.0,
      λ k. along_more c.args.self.now.program c.args.self.now.lets c.args.hart c.args.current.now c.args.state.now k c.run.current _ c.run.state _ k k
          (c.run.invariant.1 k) (on k),
    )

pub returns-in-Left : goal.returns-in-Left
returns-in-Left g c = λ k.
    let same = left_is c.args.self.now.program c.args.self.now.lets c.args.hart c.run.current c.in_place_at.new.current c.run.state c.in_place_at.new.state
    c.in_place_at.result c.in-Left.is c.in_place_at.ensures.done in
    along_same c.args.self.now.program c.args.self.now.lets c.args.hart c.args.current.now c.run.current c.in_place_at.new.current c.args.state.now
    c.run.state c.in_place_at.new.state k k (c.run.invariant.1 k) c.in_place_at.ensures.here c.in_place_at.ensures.at same.0 same.1
