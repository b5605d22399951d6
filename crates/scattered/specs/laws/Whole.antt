-- Definitions that aren't written in parts.
use Rattle.std.specs.Prelude.{Bool, true, false}
use Rattle.sail_syntax.specs.declared.definitions.Def.{Def}
use Rattle.scattered.specs.Openings.{Role, Stands, role}

-- whether a role is that of a definition that stands by itself
abbrev pub is_standing : Role → Bool
is_standing Stands = true
is_standing r = false

-- whether a definition neither opens nor continues nor ends one that is written in parts
abbrev pub is_whole : Def → Bool
is_whole d = is_standing (role d)
