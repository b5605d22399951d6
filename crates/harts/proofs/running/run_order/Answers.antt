use Rattle.std.proofs.Common.{◌<◌, ◌≤◌, length, get_or, sym, ◌∙◌, arith}
use Rattle.model_state.specs.declared.cause.Ended.TheVariants as ended
use Rattle.harts.specs.Schedule.{schedule}
use Rattle.harts.proofs.Events.{comes, event_goes_on, event_stops, event_ends, events_done}
use Rattle.harts.proofs.Keeping.{keeps_both}
use Rattle.harts.proofs.Schedules.{length-schedule, hart_of, after_place}
use Rattle.harts.proofs.running.run_order.Goals as goal

pub returns-in-Some : goal.returns-in-Some
returns-in-Some g c =
    let order = c.args.order.now in
    let count = c.loop-steps.steps in
    let hart = get_or order c.loop-steps.place 0 in
    let now = c.loop-steps.state in
    let after = c.event.new.state in
    let inv = c.loop-steps.invariant in
    let there : count < length (schedule order c.args.events) = omega (arith, c.loop-steps-test.true, length-schedule order c.args.events) in
    let seen = comes (g.P.Stepper.meaning c.loop-steps.stepper) (g.P.Stepper.meaning c.args.stepper.now) hart now (ended.Stop c.in-Some.cause) after
    inv.same (sym c.in-Some.ensures ∙ c.in_ok-ended.ensures.ended) c.in_ok-ended.ensures.state in
    let ends = event_stops hart c.in-Some.cause after inv.so_far there (hart_of order c.args.events count c.loop-steps.place c.loop-steps-test.true inv.place) seen in
    record {
      cause = ends.why;
      steps = omega (arith, ends.many);
      state = ends.there;
      keeps = keeps_both inv.keeps c.in_ok-ended.ensures.keeps;
      same = c.in_ok-ended.ensures.same ∙ inv.same;
    }

pub returns-then-all_rest : goal.returns-then-all_rest
returns-then-all_rest g c =
    let order = c.args.order.now in
    let count = c.loop-steps.steps in
    let hart = get_or order c.loop-steps.place 0 in
    let now = c.loop-steps.state in
    let after = c.event.new.state in
    let inv = c.loop-steps.invariant in
    let value = c.in_default.ensures in
    let there : count < length (schedule order c.args.events) = omega (arith, c.loop-steps-test.true, length-schedule order c.args.events) in
    let seen = comes (g.P.Stepper.meaning c.loop-steps.stepper) (g.P.Stepper.meaning c.args.stepper.now) hart now (ended.Value value.0) after
    inv.same (sym value.1 ∙ c.in_ok-ended.ensures.ended) c.in_ok-ended.ensures.state in
    let ends = event_ends hart value.0 after inv.so_far there (hart_of order c.args.events count c.loop-steps.place c.loop-steps-test.true inv.place) seen
    (sym c.all_rest.ensures ∙ c.if-all_rest.true) in
    record {
      cause = ends.why;
      steps = ends.many;
      state = ends.there;
      keeps = keeps_both inv.keeps c.in_ok-ended.ensures.keeps;
      same = c.in_ok-ended.ensures.same ∙ inv.same;
    }

pub loop-steps-preserved : goal.loop-steps-preserved
loop-steps-preserved g c =
    let order = c.args.order.now in
    let count = c.loop-steps.steps in
    let hart = get_or order c.loop-steps.place 0 in
    let now = c.loop-steps.state in
    let after = c.event.new.state in
    let inv = c.loop-steps.invariant in
    let value = c.in_default.ensures in
    let there : count < length (schedule order c.args.events) = omega (arith, c.loop-steps-test.true, length-schedule order c.args.events) in
    let seen = comes (g.P.Stepper.meaning c.loop-steps.stepper) (g.P.Stepper.meaning c.args.stepper.now) hart now (ended.Value value.0) after
    inv.same (sym value.1 ∙ c.in_ok-ended.ensures.ended) c.in_ok-ended.ensures.state in
    record {
      same = c.in_ok-ended.ensures.same ∙ inv.same;
      keeps = keeps_both inv.keeps c.in_ok-ended.ensures.keeps;
      place = c.next_place-place.ensures ∙ after_place (length order) count c.loop-steps.place inv.place;
      so_far = event_goes_on hart value.0 after inv.so_far there (hart_of order c.args.events count c.loop-steps.place c.loop-steps-test.true inv.place) seen
          (sym c.all_rest.ensures ∙ c.if-all_rest.false);
    }

pub returns : goal.returns
returns g c =
    let order = c.args.order.now in
    let inv = c.loop-steps.invariant in
    let past : length (schedule order c.args.events) ≤ c.loop-steps.steps =
    omega (arith, c.loop-steps-test.false, length-schedule order c.args.events) in
    let ends = events_done inv.so_far past in
    record {
      cause = ends.why;
      steps = omega (arith, ends.many, c.loop-steps-test.false, c.loop-steps.auto.steps-end);
      state = ends.there;
      keeps = inv.keeps;
      same = inv.same;
    }
