use Rattle.std.proofs.Common.{◌∙◌, ap, sym}
use Rattle.lowered_typed.specs.Here as here
use Rattle.lowered_typed.specs.Judging.{arm_typed}
use Rattle.jib_lower.proofs.Unmade.{not_both}
use Rattle.jib_lower.proofs.openings.is_held.Goals as goal

pub returns-then-right-clause-is : goal.returns-then-right-clause-is
returns-then-right-clause-is c = λ h. record {
  right = ap (λ ts. arm_typed c.args.judge.now c.args.arm.now ts) (sym c.from_ref-given.ensures.value) ∙ sym c.in_ok-right.ensures ∙ c.if-right.true;
  typ = ap (λ ts. here.name_typ c.args.judge.now c.args.name.now.steps.now ts c.args.name.now.name.now) (sym c.from_ref-given.ensures.value)
      ∙ sym c.in_ok-found.ensures ∙ c.is_found-same.ensures.is h;
}

pub returns-then-right-clause-no : goal.returns-then-right-clause-no
returns-then-right-clause-no c = λ lack held.
    c.is_found-same.ensures.no lack (c.in_ok-found.ensures
    ∙ ap (λ ts. here.name_typ c.args.judge.now c.args.name.now.steps.now ts c.args.name.now.name.now) c.from_ref-given.ensures.value ∙ held.typ)

pub returns-clause-no : goal.returns-clause-no
returns-clause-no c = λ lack held.
    not_both (arm_typed c.args.judge.now c.args.arm.now c.from_ref-given.result.now)
    (ap (λ ts. arm_typed c.args.judge.now c.args.arm.now ts) c.from_ref-given.ensures.value ∙ held.right)
    (sym c.in_ok-right.ensures ∙ c.if-right.false)
