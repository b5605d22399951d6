use Rattle.std.proofs.Common.{◌≡◌, drop, None}
use Rattle.sail_compile.specs.Variables.{latest, all_begun}
use Rattle.sail_compile.proofs.variables.latest_begun.Given as goal

-- the definitions that are left decide
abbrev pub invariant-loop-definition : goal.invariant-loop-definition
invariant-loop-definition l = latest l.at l.latest (all_begun (drop l.definition-index l.definitions)) ≡ latest l.at None (all_begun l.definitions)
