use Rattle.std.proofs.Common.{◌≡◌, drop}
use Rattle.shape_widths.specs.Known.{widths_of}
use Rattle.shape_widths.proofs.widths.width_named.Given as goal

abbrev pub invariant-loop-given : goal.invariant-loop-given
invariant-loop-given l = widths_of (drop l.given-index l.widths) l.name ≡ widths_of l.widths l.name
