use Rattle.std.proofs.Common.{None, Option, ap, sym, ◌∙◌, refl}
use Rattle.value_indices.specs.Steps.{Walk, wrong}
use Rattle.value_indices.specs.Walking.{got, run, seen}
use Rattle.wide_types.proofs.Turns.{found, left_as, once_got, once_run}
use Rattle.pattern_leaves.specs.Settings.{around_of}
use Rattle.expression_steps.specs.declared.late.Late.{Late}
use Rattle.expression_steps.proofs.Left.{last_there}
use Rattle.expression_steps.proofs.LateParts.{no_way_into, ways_into}
use Rattle.expression_steps.proofs.late.part_late.Goals as goal

pub returns-in_ok-wrong-in-empty-clause-value : goal.returns-in_ok-wrong-in-empty-clause-value
returns-in_ok-wrong-in-empty-clause-value c =
    let w = seen c.args.walking.now in
    let none : Unit {0} → Option Late = λ t. None in
    once_got (wrong c.args.place) none _ w (got (wrong c.args.place) w)
    (no_way_into c.args.place c.args.suffixes.now (around_of c.args.around.now) c.args.numbers.now c.args.held.now c.in-empty.len_below) refl

pub returns-in_ok-wrong-in-empty-clause-walked : goal.returns-in_ok-wrong-in-empty-clause-walked
returns-in_ok-wrong-in-empty-clause-walked c =
    let none : Unit {0} → Option Late = λ t. None in
    once_run (wrong c.args.place) none _ (seen c.args.walking.now) (seen c.wrong.new.self)
    (no_way_into c.args.place c.args.suffixes.now (around_of c.args.around.now) c.args.numbers.now c.args.held.now c.in-empty.len_below)
    c.in_ok-wrong-in-empty.ensures

pub returns-in_ok-held-in-len1-up : goal.returns-in_ok-held-in-len1-up
returns-in_ok-held-in-len1-up c =
    let w = seen c.args.walking.now in
    let ss = c.args.suffixes.now in
    let is = ways_into c.args.place ss (around_of c.args.around.now) c.args.numbers.now c.args.held.now _ _ c.in_ok-held-in-len1-up.held
    (last_there ss _ c.in-len1-up.len_at_least) refl c.in_ok-held-in-len1-up.ensures in
    record {
      value = found c.suffixes_late.result _ _ c.suffixes_late.ensures.value (ap (λ (a : Walk (Option Late)). got a w) (sym is));
      walked = left_as c.suffixes_late.result (seen c.suffixes_late.new.walking) _ _ c.suffixes_late.ensures.walked
          (ap (λ (a : Walk (Option Late)). run a w) (sym is));
    }
