use Rattle.std.proofs.Common.{◌≡◌, ◌++◌, map, drop}
use Rattle.sail_globals.specs.declared.naming.Alone.TheVariants as is
use Rattle.sail_globals.specs.Namings.{own_naming}
use Rattle.sail_globals.proofs.namings.push_members.Given as goal

abbrev pub invariant-loop-name : goal.invariant-loop-name
invariant-loop-name l = l.list ++ map (own_naming l.at is.Member) (drop l.name-index l.names) ≡ l.initial.list ++ map (own_naming l.at is.Member) l.names
