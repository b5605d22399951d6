use Rattle.std.proofs.Common.{◌≡◌, drop}
use Rattle.jib_lower.specs.Cycles.{leads_fall}
use Rattle.jib_lower.proofs.cycles.leads_fall.Given as goal

abbrev pub invariant-loop-lead : goal.invariant-loop-lead
invariant-loop-lead l = leads_fall l.numbers l.instances l.own (drop l.lead-index l.leads) ≡ leads_fall l.numbers l.instances l.own l.leads
