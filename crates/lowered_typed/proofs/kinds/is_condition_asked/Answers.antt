use Rattle.std.proofs.Common.{◌∙◌, sym, ap}
use Rattle.jib.specs.Typing.{literal_some}
use Rattle.lowered_typed.proofs.Fixed.{truth_typ}
use Rattle.lowered_typed.specs.Judging.{number_here}
use Rattle.std.specs.Prelude.{slice_get}
use Rattle.jib.specs.declared.code.Literal.TheVariants as L
use Rattle.lowered_typed.specs.Here as here
use Rattle.lowered_typed.proofs.kinds.is_condition_asked.Goals as goal

pub returns-in_ok-typ-in-Some : goal.returns-in_ok-typ-in-Some
returns-in_ok-typ-in-Some c =
    c.is_constant.ensures ∙ (λ i. literal_some (slice_get c.args.judge.now.signs.now.shell.now.types ((c.in_ok-typ-in-Some.ensures
    ∙ ap (number_here c.args.judge.now) (sym (truth_typ c.args.judge.now.setting.now.types.now))) i)) (L.Truth c.in-Some.value))
    ∙ ap (here.truth_right c.args.judge.now) (sym c.in-Some.is ∙ c.truth_of.ensures)
