-- The obligations of accepted models hold.
use Rattle.std.specs.Prelude.{ℕ, List}
use Rattle.bidir_check.specs.laws.Holding.{AllHold}
use Rattle.sail_compile.specs.Models.{AreAccepted}
use Rattle.sail_compile.specs.declared.models.Accepted.{Accepted}

-- where texts are accepted, the facts of each of their obligations imply its goal
abbrev pub AcceptedHold : Type 0
AcceptedHold = (texts : List (List ℕ)) (made : Accepted) → AreAccepted texts made → AllHold made.certified.obligations
