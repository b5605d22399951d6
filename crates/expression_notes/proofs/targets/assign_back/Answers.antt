use Rattle.std.proofs.Common.{◌≡◌, ◌-◌, ◌∙◌, ap, sym, map, arith}
use Rattle.value_indices.specs.Walking.{got, run, seen}
use Rattle.value_indices.specs.declared.indices.Indices.{Indices}
use Rattle.value_indices.proofs.Walks.{got_give, run_give}
use Rattle.pattern_leaves.specs.Settings.{around_of}
use Rattle.expression_forms.specs.Spots.{spot_of}
use Rattle.expression_steps.proofs.Rests.{take_whole}
use Rattle.expression_notes.specs.Chains.{written_back}
use Rattle.expression_notes.proofs.ChainSteps.{last_back, taken_less, taken_none}
use Rattle.expression_notes.proofs.targets.assign_back.Goals as goal

pub loop-left-init : goal.loop-left-init
loop-left-init c =
    let e = ap (map (spot_of (around_of c.args.around.now))) (take_whole c.args.spots.now) in
    record {
      within = omega arith;
      value = λ j. got (written_back c.args.place (e j) c.args.value) (seen c.args.walking.now);
      walked = λ j. run (written_back c.args.place (e j) c.args.value) (seen c.args.walking.now);
    }

pub loop-left-preserved : goal.loop-left-preserved
loop-left-preserved c =
    let l = c.loop-left in
    let spots = spot_of (around_of c.args.around.now) in
    let parted = taken_less spots c.args.spots.now l.left _ (omega (arith, c.loop-left-test.true)) l.invariant.within c.index-spots-left.is in
    let same = last_back c.args.place _ _ _ l.value _ (seen l.walking) _ parted c.in_ok-value.ensures.value c.in_ok-value.ensures.walked in
    record { within = omega (arith, l.invariant.within); value = same.value ∙ l.invariant.value; walked = same.walked ∙ l.invariant.walked }

pub returns : goal.returns
returns c =
    let l = c.loop-left in
    let none = taken_none (spot_of (around_of c.args.around.now)) c.args.spots.now l.left (omega (arith, c.loop-left-test.false)) in
    let w = seen l.walking in
    record {
      value = sym (got_give l.value w) ∙ (λ j. got (written_back c.args.place (sym none j) l.value) w) ∙ l.invariant.value;
      walked = sym (run_give {A = Indices} l.value w) ∙ (λ j. run (written_back c.args.place (sym none j) l.value) w) ∙ l.invariant.walked;
    }
