use Rattle.std.proofs.Common.{◌≡◌, ◌∙◌, sym, ap, SFits, of_z, rules, to_z}
use Rattle.jib.specs.Typing.{literal_some, same}
use Rattle.lowered_typed.proofs.Fixed.{integer_typ}
use Rattle.lowered_typed.specs.Judging.{number_here}
use Rattle.std.proofs.lemmas.Int.{to_z-of_z}
use Rattle.std.specs.Int.{w128}
use Rattle.std.specs.Prelude.{slice_get}
use Rattle.jib.specs.declared.code.Literal.TheVariants as L
use Rattle.lowered_typed.specs.Here as here
use Rattle.lowered_typed.proofs.kinds.is_size_asked.Goals as goal

pub returns-in_ok-typ-in-Some : goal.returns-in_ok-typ-in-Some
returns-in_ok-typ-in-Some c =
    let fits : SFits w128 c.in-Some.value = search rules in let same : to_z w128
    (of_z w128 c.in-Some.value) ≡ c.in-Some.value = to_z-of_z w128 c.in-Some.value fits in
    c.is_constant.ensures ∙ (λ i. literal_some (slice_get c.args.judge.now.signs.now.shell.now.types ((c.in_ok-typ-in-Some.ensures
    ∙ ap (number_here c.args.judge.now) (sym (integer_typ c.args.judge.now.setting.now.types.now))) i)) (L.Integer (same i)))
    ∙ ap (here.number_right c.args.judge.now) (sym c.in-Some.is ∙ c.value_of.ensures)
