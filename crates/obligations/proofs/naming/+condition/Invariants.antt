use Rattle.std.proofs.Common.{◌≡◌, drop}
use Rattle.obligations.specs.Naming.{any_number}
use Rattle.obligations.proofs.naming.+condition.Given as goal

-- the rest decides
abbrev pub invariant-any_number-loop-part : goal.invariant-any_number-loop-part
invariant-any_number-loop-part l = any_number l.variable (drop l.part-index l.parts) ≡ any_number l.variable l.parts
