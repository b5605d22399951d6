use Rattle.std.proofs.Common.{◌≡◌, ◌≤◌, length, take}
use Rattle.pattern_leaves.specs.Settings.{held_in}
use Rattle.expression_forms.specs.Scopes.{newest}
use Rattle.expression_forms.proofs.scopes.held_among.Given as goal

abbrev pub invariant-loop-left : goal.invariant-loop-left
invariant-loop-left l = record {
  within : l.left ≤ length l.groups;
  held : held_in l.name (newest (take l.left l.groups)) ≡ held_in l.name (newest l.groups);
}

abbrev pub decreases-loop-left : goal.decreases-loop-left
decreases-loop-left l = l.left
