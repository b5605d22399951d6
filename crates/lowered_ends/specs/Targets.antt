-- What is assigned to, as the code that makes its code holds it.
use Rattle.std.specs.Prelude.{ℕ, Bool, true, false, List, Option, Some, None}
use Rattle.sail_core.specs.declared.targets.Caller.{Caller}
use Rattle.sail_core.specs.declared.targets.Target.{Target, out-Target}
use Rattle.lowered_pieces.specs.Writes.{Cell, Spot, called, called_spot, one, several}
use Rattle.lowered_steps.specs.Cells.{aim_of, cells_of}
use Rattle.lowered_ends.specs.declared.targets.Spot.{Spot as SpotFound}
use Rattle.lowered_ends.specs.declared.targets.Spot.TheVariants as S

abbrev pub spot_in : SpotFound → Option Spot
spot_in S.Other = None
spot_in (S.One c) = Some (one (aim_of c))
spot_in (S.Several targets) = Some (several (cells_of targets.now))
spot_in (S.Called k place n j f) = Some (called k place n j f)

-- the cells of targets, where each is one
abbrev pub cells_if : Bool → List Target → Option (List Cell)
cells_if true ts = Some (cells_of ts)
cells_if false ts = None

abbrev pub called_in : Target → ℕ → Caller → Option Spot
called_in t n writer = called_spot (out-Target t).place (out-Target t).number n writer.number writer.callee

abbrev pub one_in : Option Cell → Option Spot
one_in None = None
one_in (Some c) = Some (one c)
