use Rattle.std.proofs.Common.{◌∙◌, ◌∷◌, ◌&&◌, sym, ap, []}
use Rattle.lowered_typed.proofs.Fixed.{truth_typ}
use Rattle.lowered_validity.specs.Typing.{one_operand}
use Rattle.jib.specs.declared.code.Operation.TheVariants as O
use Rattle.lowered_typed.specs.Here as here
use Rattle.lowered_typed.proofs.heads.is_opened.Goals as goal

pub returns : goal.returns
returns c =
    c.both-all.ensures ∙ (λ i. (c.in_ok-first.ensures
    ∙ ap (here.works c.args.judge.now O.IsEmpty one_operand (c.args.whole.now ∷ [])) (sym (truth_typ c.args.judge.now.setting.now.types.now))) i &&
    (c.both-rest.ensures ∙ (λ k. c.in_ok-one.ensures k && c.in_ok-other.ensures k)) i)
