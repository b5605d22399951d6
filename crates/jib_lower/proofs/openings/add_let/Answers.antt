use Rattle.std.proofs.Common.{◌∙◌, subst}
use Rattle.std.proofs.lemmas.Result.{on_ok_weaker}
use Rattle.lowered_pieces.specs.Arms.{steps_in}
use Rattle.jib_lower.specs.Lowered.{names_in}
use Rattle.jib_lower.specs.Openings.{NamesAdded}
use Rattle.jib_lower.proofs.Growth.{let_added}
use Rattle.jib_lower.proofs.Unmade.{last_more, let_names}
use Rattle.jib_lower.specs.Left.{NamesLeft}
use Rattle.jib_lower.specs.Left.{let_no_type, let_not_made}
use Rattle.jib_lower.proofs.Unmade.{exit_more}
use Rattle.jib_lower.proofs.openings.add_let.Goals as goal

pub returns-clause-added : goal.returns-clause-added
returns-clause-added c =
    let o = c.args.of.now in
    let arm = c.args.arm.now in
    on_ok_weaker c.add_names.result
    (λ (h : NamesAdded c.args.model.now o.place c.in_ok-number.number c.in_ok-whole.whole (steps_in arm) (names_in c.steps_of-steps.result.now)
    c.push_opening.new.opened c.add_names.new.opened).
    let_added c.args.model.now o c.args.nodes.now arm c.in_ok-whole.whole c.in_ok-function.function c.in_ok-number.number c.args.opened.now
    c.push_opening.new.opened c.add_names.new.opened (c.in_ok-number.ensures ∙ c.len-count.ensures) c.in_ok-function.ensures.made c.in_ok-push_opening.ensures
    (subst (λ ss. NamesAdded c.args.model.now o.place c.in_ok-number.number c.in_ok-whole.whole (steps_in arm) (names_in ss) c.push_opening.new.opened
    c.add_names.new.opened) c.steps_of-steps.ensures h))
    c.add_names.ensures.added

pub returns-clause-left : goal.returns-clause-left
returns-clause-left c =
    let o = c.args.of.now in
    let arm = c.args.arm.now in
    last_more c.add_names.result (λ why.
    let_names c.args.model.now o c.args.nodes.now arm c.in_ok-whole.whole c.in_ok-function.function c.in_ok-number.number c.args.opened.now
    c.push_opening.new.opened c.in_ok-whole.ensures.typ c.in_ok-function.ensures.made c.in_ok-push_opening.ensures
    (c.in_ok-number.ensures ∙ c.len-count.ensures)
    (subst (λ ss. NamesLeft c.args.model.now o.place c.in_ok-number.number c.in_ok-whole.whole arm (names_in ss) c.push_opening.new.opened.types
    c.push_opening.new.opened.names) c.steps_of-steps.ensures why)) c.add_names.ensures.left

pub returns-in_err-whole-clause-left : goal.returns-in_err-whole-clause-left
returns-in_err-whole-clause-left c = exit_more _ _ c.from_residual.ensures.1 let_no_type c.in_err-whole.ensures.left

pub returns-in_err-function-clause-left : goal.returns-in_err-function-clause-left
returns-in_err-function-clause-left c =
    exit_more _ _ c.from_residual-in_err-function.ensures.1 (let_not_made c.in_ok-whole.ensures.typ) c.in_err-function.ensures.left
