use Rattle.std.proofs.Common.{◌≡◌, ◌++◌, map, drop}
use Rattle.sail_globals.specs.Namings.{constructor_naming}
use Rattle.sail_globals.proofs.namings.push_constructors.Given as goal

abbrev pub invariant-loop-constructor : goal.invariant-loop-constructor
invariant-loop-constructor l = l.list ++ map (constructor_naming l.at) (drop l.constructor-index l.constructors) ≡ l.initial.list ++ map (constructor_naming l.at) l.constructors
