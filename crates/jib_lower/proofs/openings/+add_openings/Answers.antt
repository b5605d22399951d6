use Rattle.std.proofs.Common.{subst, sym}
use Rattle.std.proofs.lemmas.Result.{on_ok_weaker}
use Rattle.lowered_steps.proofs.Lists.{first_of, none_of, others}
use Rattle.jib_lower.specs.Openings.{OpeningsAdded}
use Rattle.jib_lower.proofs.Growth.{openings_more, openings_none}
use Rattle.jib_lower.specs.Left.{OpeningsLeft, opening_here}
use Rattle.jib_lower.proofs.Unmade.{exit_more, last_more, opening_later}
use Rattle.jib_lower.proofs.openings.+add_openings.Goals as goal

pub returns-in-empty-clause-added : goal.returns-in-empty-clause-added
returns-in-empty-clause-added t c =
    subst (λ os. OpeningsAdded c.args.model.now c.args.at os c.args.opened.now c.args.opened.now) (sym (none_of c.args.openings.now c.in-empty.len_below))
    (openings_none c.args.model.now c.args.at c.args.opened.now)

pub returns-in_ok-next-in-len1-up-clause-added : goal.returns-in_ok-next-in-len1-up-clause-added
returns-in_ok-next-in-len1-up-clause-added t c =
    on_ok_weaker c.add_openings.result
    (λ (h : OpeningsAdded c.args.model.now c.in_ok-next-in-len1-up.next (others c.args.openings.now) c.add_at.new.opened c.add_openings.new.opened).
    subst (λ os. OpeningsAdded c.args.model.now c.args.at os c.args.opened.now c.add_openings.new.opened)
    (sym (first_of c.args.openings.now c.first-item.result c.in-len1-up.len_at_least c.first-item.is))
    (openings_more c.args.model.now c.args.at c.first-item.result (others c.args.openings.now) c.args.opened.now c.add_at.new.opened
    c.add_openings.new.opened c.in_ok-add_at-in-len1-up.ensures.added
    (subst (λ i. OpeningsAdded c.args.model.now i (others c.args.openings.now) c.add_at.new.opened c.add_openings.new.opened)
    c.in_ok-next-in-len1-up.ensures h)))
    c.add_openings.ensures.added

pub returns-in_err-add_at-in-len1-up-clause-left : goal.returns-in_err-add_at-in-len1-up-clause-left
returns-in_err-add_at-in-len1-up-clause-left t c =
    exit_more _ _ c.from_residual.ensures.1 (λ why.
    subst (λ os. OpeningsLeft c.args.model.now c.args.at os c.args.opened.now.types c.args.opened.now.names)
    (sym (first_of c.args.openings.now c.first-item.result c.in-len1-up.len_at_least c.first-item.is)) (opening_here why))
    c.in_err-add_at-in-len1-up.ensures.left

pub returns-in_ok-next-in-len1-up-clause-left : goal.returns-in_ok-next-in-len1-up-clause-left
returns-in_ok-next-in-len1-up-clause-left t c =
    last_more c.add_openings.result (λ why.
    subst (λ os. OpeningsLeft c.args.model.now c.args.at os c.args.opened.now.types c.args.opened.now.names)
    (sym (first_of c.args.openings.now c.first-item.result c.in-len1-up.len_at_least c.first-item.is))
    (opening_later c.args.model.now c.args.at c.in_ok-next-in-len1-up.next c.first-item.result (others c.args.openings.now) c.args.opened.now
    c.add_at.new.opened c.in_ok-add_at-in-len1-up.ensures.added c.in_ok-next-in-len1-up.ensures why))
    c.add_openings.ensures.left
