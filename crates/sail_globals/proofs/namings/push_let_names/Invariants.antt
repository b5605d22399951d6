use Rattle.std.proofs.Common.{◌≡◌, ◌++◌, map, drop}
use Rattle.sail_globals.specs.Namings.{let_naming}
use Rattle.sail_globals.proofs.namings.push_let_names.Given as goal

abbrev pub invariant-loop-name : goal.invariant-loop-name
invariant-loop-name l =
    l.list ++ map (let_naming l.at l.place l.plain) (drop l.name-index l.names) ≡ l.initial.list ++ map (let_naming l.at l.place l.plain) l.names
