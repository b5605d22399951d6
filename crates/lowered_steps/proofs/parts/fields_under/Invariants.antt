use Rattle.std.proofs.Common.{◌≡◌, take}
use Rattle.checked_meaning.specs.Fits.{fields_under}
use Rattle.lowered_steps.proofs.parts.fields_under.Given as goal

abbrev pub invariant-loop-field : goal.invariant-loop-field
invariant-loop-field l = l.made ≡ fields_under l.types l.numbers l.arguments (take l.field-index l.fields)
