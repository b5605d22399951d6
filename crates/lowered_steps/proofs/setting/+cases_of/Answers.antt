use Rattle.std.proofs.Common.{◌∙◌, sym, ap}
use Rattle.lowered_steps.proofs.Lists.{first_of, none_of, others}
use Rattle.lowered_steps.proofs.Searched.{cases_some, cases_none}
use Rattle.lowered_pieces.specs.Nodes.{cases_at}
use Rattle.sized_meanings.specs.Sized.{joined_nodes}
use Rattle.lowered_steps.specs.Found.{cases_found}
use Rattle.std.specs.Option.{option_copied}
use Rattle.lowered_steps.proofs.setting.+cases_of.Goals as goal

pub returns-in-empty : goal.returns-in-empty
returns-in-empty t c =
    ap (λ us. cases_at c.args.node c.args.count (joined_nodes us)) (sym (none_of c.args.bodies.now c.in-empty.len_below))

pub returns-in-Some : goal.returns-in-Some
returns-in-Some t c =
    sym (ap (λ us. cases_at c.args.node c.args.count (joined_nodes us)) (first_of c.args.bodies.now c.body-item.result c.in-len1-up.len_at_least c.body-item.is)
    ∙ cases_some c.args.node c.args.count c.body-item.result (joined_nodes (others c.args.bodies.now)) c.in-Some.cases.now
    (ap (λ ns. cases_found c.args.node c.args.count ns) (sym c.as_slice.ensures) ∙ sym c.cases_in.ensures ∙ ap option_copied c.in-Some.is))

pub returns-in-None : goal.returns-in-None
returns-in-None t c =
    c.cases_of.ensures ∙ sym (ap (λ us. cases_at c.args.node c.args.count (joined_nodes us)) (first_of c.args.bodies.now c.body-item.result
    c.in-len1-up.len_at_least c.body-item.is)
    ∙ cases_none c.args.node c.args.count c.body-item.result (joined_nodes (others c.args.bodies.now))
    (ap (λ ns. cases_found c.args.node c.args.count ns) (sym c.as_slice.ensures) ∙ sym c.cases_in.ensures ∙ ap option_copied c.in-None.is))
