use Rattle.std.proofs.Common.{subst, sym}
use Rattle.jib_lower.specs.Leads.{AllAlone, EachAlone}
use Rattle.jib_lower.specs.Lowerable.{calls_alike, opening_calls_alike}
use Rattle.jib_lower.proofs.lowering.lower_module.Goals as goal

pub module_of-requires : goal.module_of-requires
module_of-requires c = record {
  alone = subst AllAlone c.as_slice-instances.ensures (c.instances_alone-alone.ensures.is c.if-alone.true);
  openings = subst EachAlone c.as_slice-openings.ensures (c.each_alone-apart.ensures.is c.if-apart.true);
}

pub returns-then-apart-clause-made : goal.returns-then-apart-clause-made
returns-then-apart-clause-made c = c.module_of.ensures.made

pub returns-then-apart-clause-left : goal.returns-then-apart-clause-left
returns-then-apart-clause-left c = c.module_of.ensures.left

pub returns-else-apart-clause-left : goal.returns-else-apart-clause-left
returns-else-apart-clause-left c =
    opening_calls_alike (λ h. c.each_alone-apart.ensures.no c.if-apart.false (subst EachAlone (sym c.as_slice-openings.ensures) h))

pub returns-else-alone-clause-left : goal.returns-else-alone-clause-left
returns-else-alone-clause-left c =
    calls_alike (λ h. c.instances_alone-alone.ensures.no c.if-alone.false (subst AllAlone (sym c.as_slice-instances.ensures) h))
