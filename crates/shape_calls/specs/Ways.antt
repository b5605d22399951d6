-- What the code holds of fields, ways into values and targets.
use Rattle.shape_rules.specs.Targets.{InStruct, Led, Aimed}
use Rattle.shape_calls.specs.declared.targets.FoundField.{FoundField}
use Rattle.shape_calls.specs.declared.targets.Inside.{Inside}
use Rattle.shape_calls.specs.declared.targets.Aim.{Aim}

abbrev pub in_struct_of : FoundField → InStruct
in_struct_of found = record { place = found.place; typ = found.typ.now }

abbrev pub led_of : Inside → Led
led_of inside = record { way = inside.way; shape = inside.shape }

-- a target but for its failures, which are noted
abbrev pub aim_of : Aimed → Aim
aim_of aimed = record { shape = aimed.shape; target = aimed.target; parts = aimed.parts; answer = aimed.answer }
