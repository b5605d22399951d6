use Rattle.std.proofs.Common.{◌≡◌, ◌≤◌, length, take}
use Rattle.sail_kinds.specs.Normal.{existential}
use Rattle.sail_kinds.proofs.forms.existential.Given as goal

abbrev pub invariant-loop-left : goal.invariant-loop-left
invariant-loop-left l = record {
  within : l.left ≤ length l.names;
  made : existential (take l.left l.names) l.constraint l.typ ≡ existential l.names l.fn.constraint l.fn.typ;
}

abbrev pub decreases-loop-left : goal.decreases-loop-left
decreases-loop-left l = l.left
