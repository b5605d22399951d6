use Rattle.std.proofs.Common.{◌≡◌, drop}
use Rattle.lowered_steps.specs.Found.{leads_found}
use Rattle.lowered_steps.proofs.setting.leads_in.Given as goal

abbrev pub invariant-loop-sizes : goal.invariant-loop-sizes
invariant-loop-sizes l = leads_found l.node (drop l.sizes-index l.nodes) ≡ leads_found l.node l.nodes
