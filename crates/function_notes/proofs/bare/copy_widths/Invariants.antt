use Rattle.std.proofs.Common.{◌≡◌, take}
use Rattle.function_notes.proofs.bare.copy_widths.Given as goal

abbrev pub invariant-loop-width : goal.invariant-loop-width
invariant-loop-width l = l.copies ≡ take l.width-index l.widths
