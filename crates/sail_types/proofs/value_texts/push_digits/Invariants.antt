use Rattle.std.proofs.Common.{◌≡◌, ◌≤◌, ◌*◌, ◌-◌, ◌++◌, drop}
use Rattle.sail_types.specs.Texts.{digits}
use Rattle.sail_types.proofs.value_texts.push_digits.Given as goal

abbrev pub invariant-loop-left : goal.invariant-loop-left
invariant-loop-left l = record {
  within : l.left ≤ l.count;
  so_far : l.out.items ≡ l.fn.out.items ++ digits l.bits_each (l.count - l.left) (drop (l.bits_each * l.left) l.word);
}

abbrev pub decreases-loop-left : goal.decreases-loop-left
decreases-loop-left l = l.left
