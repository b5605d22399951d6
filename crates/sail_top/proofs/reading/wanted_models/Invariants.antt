use Rattle.std.proofs.Common.{◌≡◌, map, take}
use Rattle.sail_top.specs.Reading.{wanted_model}
use Rattle.sail_top.specs.parts.Borrowed.{as_wanted}
use Rattle.sail_top.proofs.reading.wanted_models.Given as goal

abbrev pub invariant-loop-name : goal.invariant-loop-name
invariant-loop-name l = map as_wanted l.files.items ≡ map wanted_model (take l.name-index l.models)
