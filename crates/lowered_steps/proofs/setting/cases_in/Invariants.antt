use Rattle.std.proofs.Common.{◌≡◌, drop}
use Rattle.lowered_steps.specs.Found.{cases_found}
use Rattle.lowered_steps.proofs.setting.cases_in.Given as goal

abbrev pub invariant-loop-sizes : goal.invariant-loop-sizes
invariant-loop-sizes l = cases_found l.node l.count (drop l.sizes-index l.nodes) ≡ cases_found l.node l.count l.nodes
