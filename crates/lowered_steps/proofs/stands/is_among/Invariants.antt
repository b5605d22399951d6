use Rattle.std.proofs.Common.{◌≡◌, drop}
use Rattle.lowered_pieces.specs.Forms.{is_in}
use Rattle.lowered_steps.proofs.stands.is_among.Given as goal

abbrev pub invariant-loop-other : goal.invariant-loop-other
invariant-loop-other l = is_in l.variable (drop l.other-index l.variables) ≡ is_in l.variable l.variables
