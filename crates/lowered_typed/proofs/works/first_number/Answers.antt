use Rattle.std.proofs.Common.{◌≡◌, ◌∙◌, ℕ, sym, ap}
use Rattle.lowered_steps.proofs.Lists.{first_of, none_of}
use Rattle.std.proofs.lemmas.Result.{IfOk-weaker}
use Rattle.lowered_typed.specs.Here as here
use Rattle.lowered_typed.proofs.works.first_number.Goals as goal

pub returns-in-empty : goal.returns-in-empty
returns-in-empty c =
    IfOk-weaker c.unit_number.result _ (λ (a : ℕ). a ≡ here.first_number c.args.judge.now c.args.types.now) (λ a e. e
    ∙ ap (here.first_number c.args.judge.now) (sym (none_of c.args.types.now c.in-empty.len_below))) c.unit_number.ensures

pub returns-in-len1-up : goal.returns-in-len1-up
returns-in-len1-up c =
    IfOk-weaker c.number.result _ (λ (a : ℕ). a ≡ here.first_number c.args.judge.now c.args.types.now) (λ a e. e
    ∙ ap (here.first_number c.args.judge.now) (sym
    (first_of c.args.types.now c.first-item.result c.in-len1-up.len_at_least c.first-item.is))) c.number.ensures
