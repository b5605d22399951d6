use Rattle.std.proofs.Common.{◌∙◌, ap}
use Rattle.lowered_typed.specs.Here as here
use Rattle.jib_lower.proofs.Unmade.{held_none, held_some}
use Rattle.jib_lower.proofs.openings.type_held.Goals as goal

pub returns-clause-some : goal.returns-clause-some
returns-clause-some c =
    held_some c.args.judge.now c.args.whole.now c.args.steps.now c.args.text.now c.in_ok-typ.typ
    (c.in_ok-typ.ensures ∙ ap (λ ts. here.name_typ c.args.judge.now c.args.steps.now ts c.args.text.now) c.from_ref.ensures.value)

pub returns-clause-none : goal.returns-clause-none
returns-clause-none c =
    held_none c.args.judge.now c.args.whole.now c.args.steps.now c.args.text.now c.in_ok-typ.typ
    (c.in_ok-typ.ensures ∙ ap (λ ts. here.name_typ c.args.judge.now c.args.steps.now ts c.args.text.now) c.from_ref.ensures.value)
