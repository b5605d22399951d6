use Rattle.std.proofs.Common.{◌≡◌, ◌∙◌, drop, take}
use Rattle.value_indices.specs.Walking.{got, run, seen}
use Rattle.wide_types.proofs.Turns.{found, left_as}
use Rattle.pattern_leaves.specs.Settings.{around_of}
use Rattle.pattern_leaves.proofs.Walked.{then_got, then_run}
use Rattle.call_arguments.proofs.Lists.{item_is}
use Rattle.expression_steps.specs.Targets.{last_late, onward_to, read_late}
use Rattle.expression_steps.proofs.LateParts.{late_end_got, late_end_run, late_got, late_run}
use Rattle.expression_steps.proofs.late.suffixes_late.Goals as goal

pub loop-suffix-preserved : goal.loop-suffix-preserved
loop-suffix-preserved c =
    let around = around_of c.args.around.now in
    let ss = c.args.read.now in
    let l = c.loop-suffix in
    let own = c.first_numbers-own.result.now in
    let left = c.other_numbers-left.result.now in
    let w = seen l.walking in
    let v = seen c.reach.new.walking in
    let u = seen c.read_suffix.new.walking in
    let within = c.loop-suffix-test.true in
    let reached = c.in_ok-reached.ensures in
    let read = c.in_ok-value.ensures in
    let owns = c.first_numbers-own.ensures ∙ (λ j. take (c.indexes_of-count.ensures j) l.left.now) in
    let leaves = c.other_numbers-left.ensures ∙ (λ j. drop (c.indexes_of-count.ensures j) l.left.now) in
    record {
      value = late_got around ss l.suffix-index _ l.left.now own left l.value _ _ _ w v u within (item_is ss _ _ within) owns leaves
          c.as_ref.ensures.value reached.value reached.walked read.value read.walked ∙ l.invariant.value;
      walked = late_run around ss l.suffix-index _ l.left.now own left l.value _ _ _ w v u within (item_is ss _ _ within) owns leaves
          c.as_ref.ensures.value reached.value reached.walked read.value read.walked ∙ l.invariant.walked;
    }

pub returns : goal.returns
returns c =
    let around = around_of c.args.around.now in
    let l = c.loop-suffix in
    let all = read_late around c.args.read.now c.args.numbers.now c.args.value in
    let last = last_late around c.args.last.now in
    let w = seen c.args.walking.now in
    let v = seen l.walking in
    let is : onward_to l.left.now l.value ≡ got all w =
    late_end_got around c.args.read.now l.suffix-index l.left.now l.value v c.loop-suffix-test.false ∙ l.invariant.value in
    let was : v ≡ run all w = late_end_run around c.args.read.now l.suffix-index l.left.now l.value v c.loop-suffix-test.false ∙ l.invariant.walked in
    record {
      value = found c.last_late.result _ _ c.last_late.ensures.value (then_got all last w v (onward_to l.left.now l.value) is was);
      walked = left_as c.last_late.result (seen c.last_late.new.walking) _ _ c.last_late.ensures.walked
          (then_run all last w v (onward_to l.left.now l.value) is was);
    }
