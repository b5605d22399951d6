use Rattle.std.proofs.Common.{◌≡◌, drop}
use Rattle.lowered_pieces.specs.Forms.{dead}
use Rattle.lowered_steps.proofs.parts.is_dead.Given as goal

abbrev pub invariant-loop-typ : goal.invariant-loop-typ
invariant-loop-typ l = dead (drop l.typ-index l.types) ≡ dead l.types
