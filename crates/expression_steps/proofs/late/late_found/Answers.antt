use Rattle.std.proofs.Common.{List}
use Rattle.sail_core.specs.declared.tree.Core.{Core}
use Rattle.value_indices.specs.Walking.{got, seen}
use Rattle.pattern_leaves.specs.Settings.{around_of}
use Rattle.expression_forms.specs.Spots.{spot_of}
use Rattle.expression_steps.specs.Coded.{left_behind}
use Rattle.expression_steps.specs.Parts.{Part}
use Rattle.expression_steps.specs.Targets.{known_late, late_spotted}
use Rattle.expression_steps.proofs.LateParts.{any_parts, known_got, known_run}
use Rattle.expression_steps.proofs.Onward.{on_ok}
use Rattle.expression_steps.proofs.late.late_found.Goals as goal

pub returns : goal.returns
returns c =
    let around = around_of c.args.around.now in
    let base = spot_of around c.args.base in
    let ss = c.args.suffixes.now in
    let ns = c.args.numbers.now in
    let w = seen c.args.walking.now in
    let n = c.next-from.result in
    let o = c.in_ok-found.found in
    let left : List Core → List Part = λ ps. left_behind ps c.args.at in
    record {
      value = any_parts c.late_spot.result around
          (λ b ps. late_spotted c.args.place b c.args.number (spot_of b c.args.base) c.args.ahead n c.in_ok-known.known (left ps) o)
          (λ ps. got (known_late c.args.place c.args.number ss around base c.args.ahead (left ps) ns) w) c.late_spot.ensures (λ ps.
          known_got c.args.place c.args.number ss around base c.args.ahead (left ps) ns w (seen c.ways_late.new.walking) n o c.next-from.ensures
          c.in_ok-known.known c.in_ok-known.ensures c.in_ok-found.ensures.value);
      walked = on_ok c.late_spot.result (λ ps.
          known_run c.args.place c.args.number ss around base c.args.ahead (left ps) ns w (seen c.ways_late.new.walking) n o c.next-from.ensures
          c.in_ok-found.ensures.walked);
    }
