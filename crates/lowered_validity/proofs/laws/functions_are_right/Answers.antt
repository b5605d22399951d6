use Rattle.lowered_validity.specs.Laws.{CalledAreRight, DirectionsAreRight, EventsAreRight, NamesAreRight, ValuesAreRight}
use Rattle.lowered_validity.proofs.Whole.{called_right, direction_right, event_right, name_right, value_right}
use Rattle.lowered_validity.proofs.laws.functions_are_right.Goals as goal

called : CalledAreRight
called types ss callees tables g m f n name pl all free place measure last body d =
    called_right types ss callees m f n name g pl tables all place measure last body d free

event : EventsAreRight
event types ss callees tables g m f n name pl all place measure last body d = event_right types ss callees m f n name g pl tables all place measure last body d

value : ValuesAreRight
value types ss callees tables g m f n name pl all place tree d = value_right types ss callees m f n name g pl tables all place tree d

direction : DirectionsAreRight
direction types ss callees tables g m f n name pl all place body d = direction_right types ss callees m f n name g pl tables all place body d

named : NamesAreRight
named types ss callees tables g m f n name pl all gives place k t arm text u d =
    name_right types ss callees m f n name g pl tables all gives place k t arm text u d

pub returns-clause-called : goal.returns-clause-called
returns-clause-called c = called

pub returns-clause-events : goal.returns-clause-events
returns-clause-events c = event

pub returns-clause-values : goal.returns-clause-values
returns-clause-values c = value

pub returns-clause-names : goal.returns-clause-names
returns-clause-names c = named

pub returns-clause-directions : goal.returns-clause-directions
returns-clause-directions c = direction
