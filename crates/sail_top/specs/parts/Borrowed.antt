-- What the program keeps by reference, as the definitions see it.
use Rattle.sail_top.specs.Reading.{Wanted}
use Rattle.sail_top.specs.declared.reading.Wanted as reading

-- a file whose name is lent
abbrev pub as_wanted : reading.Wanted → Wanted
as_wanted file = record { name = file.name.now; limit = file.limit }
