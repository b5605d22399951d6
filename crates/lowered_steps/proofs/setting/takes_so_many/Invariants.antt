use Rattle.std.proofs.Common.{◌≡◌, drop}
use Rattle.lowered_pieces.specs.Nodes.{takes_many}
use Rattle.lowered_steps.proofs.setting.takes_so_many.Given as goal

abbrev pub invariant-loop-case : goal.invariant-loop-case
invariant-loop-case l = takes_many l.count (drop l.case-index l.cases) ≡ takes_many l.count l.cases
