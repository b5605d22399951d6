use Rattle.std.proofs.Common.{◌≡◌, take, map}
use Rattle.fact_index.specs.Keys.{key_of}
use Rattle.fact_index.proofs.keys.keys_of.Given as goal

abbrev pub invariant-loop-atom : goal.invariant-loop-atom
invariant-loop-atom l = l.keys ≡ map key_of (take l.atom-index l.atom-items)
