use Rattle.std.proofs.Common.{◌≡◌, ◌++◌, map, take}
use Rattle.sized_meanings.specs.Present.{gives_at}
use Rattle.lowered_steps.specs.Found.{indices_of}
use Rattle.lowered_steps.proofs.setting.list_gives.Given as goal

abbrev pub invariant-loop-sizes : goal.invariant-loop-sizes
invariant-loop-sizes l = map indices_of l.found ≡ map indices_of l.initial.found ++ gives_at (take l.sizes-index l.nodes) l.giver
