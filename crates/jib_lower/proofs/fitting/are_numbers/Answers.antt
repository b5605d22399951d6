use Rattle.std.proofs.Common.{◌≡◌, ◌∙◌, sym}
use Rattle.jib_lower.specs.Cycles.{instances_fall, turns_fall}
use Rattle.jib_lower.proofs.Unmade.{not_both}
use Rattle.jib_lower.proofs.fitting.are_numbers.Goals as goal

pub returns-then-fall-clause-is : goal.returns-then-fall-clause-is
returns-then-fall-clause-is c = λ h. record {
  cycles = c.are_fitting-fit.ensures.is c.if-fit.true;
  falls = sym c.instances_fall-fall.ensures ∙ c.if-fall.true;
  turns_so = sym c.turns_fall.ensures ∙ h;
}

pub returns-then-fall-clause-no : goal.returns-then-fall-clause-no
returns-then-fall-clause-no c = λ h n.
    not_both (turns_fall c.args.numbers.now c.args.instances.now c.args.mappings.now c.args.turns.now c.args.instances.now) n.turns_so
    (sym c.turns_fall.ensures ∙ h)

pub returns-else-fall-clause-no : goal.returns-else-fall-clause-no
returns-else-fall-clause-no c = λ h n.
    not_both (instances_fall c.args.numbers.now c.args.instances.now c.args.instances.now) n.falls
    (sym c.instances_fall-fall.ensures ∙ c.if-fall.false)

pub returns-else-fit-clause-no : goal.returns-else-fit-clause-no
returns-else-fit-clause-no c = λ h n. c.are_fitting-fit.ensures.no c.if-fit.false n.cycles
