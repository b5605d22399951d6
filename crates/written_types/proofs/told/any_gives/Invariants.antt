use Rattle.std.proofs.Common.{◌≡◌, drop}
use Rattle.std.specs.List.{list_any}
use Rattle.shape_rules.specs.Written.{gives_number}
use Rattle.written_types.proofs.told.any_gives.Given as goal

abbrev pub invariant-loop-part : goal.invariant-loop-part
invariant-loop-part l = list_any (gives_number l.number) (drop l.part-index l.parts) ≡ list_any (gives_number l.number) l.parts
