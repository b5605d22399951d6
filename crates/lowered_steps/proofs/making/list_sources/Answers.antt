use Rattle.std.proofs.Common.{[], sym, subst}
use Rattle.lowered_steps.proofs.Sourcing.{sourced_none}
use Rattle.lowered_pieces.specs.Emitted.{Sourced}
use Rattle.lowered_steps.proofs.making.list_sources.Goals as goal

pub returns-clause-read : goal.returns-clause-read
returns-clause-read c =
    c.in_ok-list_from.ensures.read (λ name. [])
    (subst (λ rs. Sourced c.args.coding.now.slots rs (λ name. [])) (sym c.new-sources.ensures) (sourced_none c.args.coding.now.slots))
