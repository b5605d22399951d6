use Rattle.std.proofs.Common.{◌≡◌, ◌+◌, ◌-◌, ◌<◌, length, ap, sym, subst, ◌∙◌, arith}
use Rattle.std.specs.List.{range_with_len}
use Rattle.model_state.specs.declared.cause.Ended.TheVariants as ended
use Rattle.model_state.specs.RunState.{Ran}
use Rattle.model_state.specs.Folds.{Meaning, resets}
use Rattle.harts.proofs.Keeping.{keeps_both}
use Rattle.harts.proofs.Resets.{AreAlike, alike_both, reset_goes_on, reset_stops}
use Rattle.harts.proofs.starting.reset_all.Goals as goal

pub returns-in-Some-clause-stop : goal.returns-in-Some-clause-stop
returns-in-Some-clause-stop g c =
    let model = g.P.Stepper.meaning c.args.stepper.now in
    let state = c.loop-hart.state in
    let hart = c.loop-hart.hart in
    let count = length c.args.state.now.harts in
    let call : Meaning → Ran = λ m. m.reset hart c.args.entry state in
    let there : hart < count = omega (arith, c.loop-hart-test.true, c.harts-hart-end.ensures.count) in
    let stops : (call model).ended ≡ ended.Stop c.in-Some.cause =
    ap (λ r. r.ended) (sym (ap call c.loop-hart.invariant.same)) ∙ sym c.in_ok-ended.ensures.ended ∙ c.in-Some.ensures in
    (alike_both (reset_stops model c.args.entry hart count state c.in-Some.cause there stops) c.loop-hart.invariant.alike).stop

pub returns-in-Some-clause-state : goal.returns-in-Some-clause-state
returns-in-Some-clause-state g c =
    let model = g.P.Stepper.meaning c.args.stepper.now in
    let state = c.loop-hart.state in
    let hart = c.loop-hart.hart in
    let count = length c.args.state.now.harts in
    let call : Meaning → Ran = λ m. m.reset hart c.args.entry state in
    let there : hart < count = omega (arith, c.loop-hart-test.true, c.harts-hart-end.ensures.count) in
    let stops : (call model).ended ≡ ended.Stop c.in-Some.cause =
    ap (λ r. r.ended) (sym (ap call c.loop-hart.invariant.same)) ∙ sym c.in_ok-ended.ensures.ended ∙ c.in-Some.ensures in
    c.in_ok-ended.ensures.state ∙ ap (λ r. r.state) (ap call c.loop-hart.invariant.same)
    ∙ (alike_both (reset_stops model c.args.entry hart count state c.in-Some.cause there stops) c.loop-hart.invariant.alike).state

pub loop-hart-preserved : goal.loop-hart-preserved
loop-hart-preserved g c =
    let model = g.P.Stepper.meaning c.args.stepper.now in
    let state = c.loop-hart.state in
    let hart = c.loop-hart.hart in
    let entry = c.args.entry in
    let count = length c.args.state.now.harts in
    let call : Meaning → Ran = λ m. m.reset hart entry state in
    let there : hart < count = omega (arith, c.loop-hart-test.true, c.harts-hart-end.ensures.count) in
    let goes : (call model).ended ≡ ended.Value c.in_default.ensures.0 =
    ap (λ r. r.ended) (sym (ap call c.loop-hart.invariant.same)) ∙ sym c.in_ok-ended.ensures.ended ∙ c.in_default.ensures.1 in
    let after : c.reset.new.state ≡ (call model).state = c.in_ok-ended.ensures.state ∙ ap (λ r. r.state) (ap call c.loop-hart.invariant.same) in
    let next = reset_goes_on model entry hart count state c.in_default.ensures.0 there goes in
    record {
      same = c.in_ok-ended.ensures.same ∙ c.loop-hart.invariant.same;
      keeps = keeps_both c.loop-hart.invariant.keeps c.in_ok-ended.ensures.keeps;
      alike = subst
          (λ s. AreAlike (resets model entry (range_with_len (hart + 1) (count - (hart + 1))) s) (resets model entry (range_with_len 0 count) c.args.state.now))
          (sym after) (alike_both next c.loop-hart.invariant.alike);
    }
