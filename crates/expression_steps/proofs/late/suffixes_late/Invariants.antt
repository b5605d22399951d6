use Rattle.std.proofs.Common.{◌≡◌, drop}
use Rattle.value_indices.specs.Walking.{got, run, seen}
use Rattle.pattern_leaves.specs.Settings.{around_of}
use Rattle.expression_steps.specs.Targets.{read_late}
use Rattle.expression_steps.proofs.late.suffixes_late.Given as goal

-- those that are left, from what is reached so far
abbrev pub invariant-loop-suffix : goal.invariant-loop-suffix
invariant-loop-suffix l =
    let rest = read_late (around_of l.around) (drop l.suffix-index l.read) l.left l.value in
    let all = read_late (around_of l.around) l.read l.numbers l.initial.value in
    record {
      value : got rest (seen l.walking) ≡ got all (seen l.initial.walking);
      walked : run rest (seen l.walking) ≡ run all (seen l.initial.walking);
    }
