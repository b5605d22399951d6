use Rattle.std.proofs.Common.{◌≡◌, ◌∙◌, ap, sym}
use Rattle.std.proofs.lemmas.Result.{on_ok_weaker}
use Rattle.lowered_steps.proofs.Lists.{first_of, none_of, others}
use Rattle.jib_lower.specs.Reads.{with_cases}
use Rattle.jib_lower.proofs.reads.+push_types.Goals as goal

pub returns-in-empty : goal.returns-in-empty
returns-in-empty t c = ap (λ cs. with_cases cs c.args.types.now) (sym (none_of c.args.cases.now c.in-empty.len_below))

pub returns-in_ok-add_type-in-len1-up : goal.returns-in_ok-add_type-in-len1-up
returns-in_ok-add_type-in-len1-up t c =
    on_ok_weaker c.push_types.result
    (λ (e : c.push_types.new.types ≡ with_cases (others c.args.cases.now) c.add_type.new.types).
    e ∙ ap (with_cases (others c.args.cases.now)) c.in_ok-add_type-in-len1-up.ensures
    ∙ ap (λ cs. with_cases cs c.args.types.now) (sym (first_of c.args.cases.now c.first-item.result c.in-len1-up.len_at_least c.first-item.is)))
    c.push_types.ensures
