use Rattle.std.proofs.Common.{◌∙◌, sym, ap}
use Rattle.lowered_steps.proofs.Lists.{first_of, none_of, others}
use Rattle.lowered_steps.proofs.Searched.{leads_some, leads_none}
use Rattle.lowered_pieces.specs.Nodes.{leads_at}
use Rattle.sized_meanings.specs.Sized.{joined_nodes}
use Rattle.lowered_steps.specs.Found.{leads_found}
use Rattle.std.specs.Option.{option_copied}
use Rattle.lowered_steps.proofs.setting.+leads_of.Goals as goal

pub returns-in-empty : goal.returns-in-empty
returns-in-empty t c =
    ap (λ us. leads_at c.args.node (joined_nodes us)) (sym (none_of c.args.bodies.now c.in-empty.len_below))

pub returns-in-Some : goal.returns-in-Some
returns-in-Some t c =
    sym (ap (λ us. leads_at c.args.node (joined_nodes us)) (first_of c.args.bodies.now c.body-item.result c.in-len1-up.len_at_least c.body-item.is)
    ∙ leads_some c.args.node c.body-item.result (joined_nodes (others c.args.bodies.now)) c.in-Some.leads.now
    (ap (λ ns. leads_found c.args.node ns) (sym c.as_slice.ensures) ∙ sym c.leads_in.ensures ∙ ap option_copied c.in-Some.is))

pub returns-in-None : goal.returns-in-None
returns-in-None t c =
    c.leads_of.ensures ∙ sym (ap (λ us. leads_at c.args.node (joined_nodes us)) (first_of c.args.bodies.now c.body-item.result c.in-len1-up.len_at_least
    c.body-item.is)
    ∙ leads_none c.args.node c.body-item.result (joined_nodes (others c.args.bodies.now)) (ap (λ ns. leads_found c.args.node ns) (sym c.as_slice.ensures) ∙
    sym c.leads_in.ensures ∙ ap option_copied c.in-None.is))
