use Rattle.std.proofs.Common.{◌≡◌, ◌+◌, drop}
use Rattle.lowered_types.specs.Table.{type_in}
use Rattle.lowered_steps.proofs.setting.find.Given as goal

abbrev pub invariant-loop-at : goal.invariant-loop-at
invariant-loop-at l = l.at + type_in (drop l.at l.numbered) l.typ ≡ type_in l.numbered l.typ
