use Rattle.std.proofs.Common.{◌∙◌, ◌∷◌, ap, subst, sym}
use Rattle.std.proofs.lemmas.Result.{on_ok_weaker}
use Rattle.lowered_pieces.specs.Arms.{steps_in}
use Rattle.lowered_steps.proofs.Lists.{first_of, none_of, others}
use Rattle.jib_lower.specs.Lowered.{names_in}
use Rattle.jib_lower.specs.Openings.{NamesAdded}
use Rattle.jib_lower.proofs.Growth.{names_more, names_none}
use Rattle.jib_lower.specs.Left.{NamesLeft, name_here}
use Rattle.jib_lower.proofs.Unmade.{exit_more, last_more, name_later}
use Rattle.jib_lower.proofs.openings.+add_names.Goals as goal

pub returns-in-empty-clause-added : goal.returns-in-empty-clause-added
returns-in-empty-clause-added t c =
    let b = c.args.bound.now in
    subst (λ ss. NamesAdded c.args.model.now b.place b.opening b.whole.now (steps_in b.arm.now) (names_in ss) c.args.opened.now c.args.opened.now)
    (sym (none_of c.args.steps.now c.in-empty.len_below))
    (names_none c.args.model.now b.place b.opening b.whole.now (steps_in b.arm.now) c.args.opened.now)

pub returns-in_ok-add_name-in-Names-clause-added : goal.returns-in_ok-add_name-in-Names-clause-added
returns-in_ok-add_name-in-Names-clause-added t c =
    let b = c.args.bound.now in
    on_ok_weaker c.add_names.result
    (λ (h : NamesAdded c.args.model.now b.place b.opening b.whole.now (steps_in b.arm.now) (names_in (others c.args.steps.now)) c.add_name.new.opened
    c.add_names.new.opened).
    subst (λ ss. NamesAdded c.args.model.now b.place b.opening b.whole.now (steps_in b.arm.now) (names_in ss) c.args.opened.now c.add_names.new.opened)
    (sym (first_of c.args.steps.now c.first-item.result c.in-len1-up.len_at_least c.first-item.is
    ∙ ap (λ s. s ∷ others c.args.steps.now) c.in-Names.is))
    (names_more c.args.model.now b.place b.opening b.whole.now (steps_in b.arm.now) c.in-Names.text (names_in (others c.args.steps.now))
    c.args.opened.now c.add_name.new.opened c.add_names.new.opened c.in_ok-add_name-in-Names.ensures.added h))
    c.add_names.ensures.added

pub returns-in-Opens-clause-added : goal.returns-in-Opens-clause-added
returns-in-Opens-clause-added t c =
    let b = c.args.bound.now in
    on_ok_weaker c.add_names-in-Opens.result
    (λ (h : NamesAdded c.args.model.now b.place b.opening b.whole.now (steps_in b.arm.now) (names_in (others c.args.steps.now)) c.args.opened.now
    c.add_names-in-Opens.new.opened).
    subst (λ ss. NamesAdded c.args.model.now b.place b.opening b.whole.now (steps_in b.arm.now) (names_in ss) c.args.opened.now c.add_names-in-Opens.new.opened)
    (sym (first_of c.args.steps.now c.first-item.result c.in-len1-up.len_at_least c.first-item.is
    ∙ ap (λ s. s ∷ others c.args.steps.now) c.in-Opens.is)) h)
    c.add_names-in-Opens.ensures.added

pub returns-in-Sees-clause-added : goal.returns-in-Sees-clause-added
returns-in-Sees-clause-added t c =
    let b = c.args.bound.now in
    on_ok_weaker c.add_names-in-Sees.result
    (λ (h : NamesAdded c.args.model.now b.place b.opening b.whole.now (steps_in b.arm.now) (names_in (others c.args.steps.now)) c.args.opened.now
    c.add_names-in-Sees.new.opened).
    subst (λ ss. NamesAdded c.args.model.now b.place b.opening b.whole.now (steps_in b.arm.now) (names_in ss) c.args.opened.now c.add_names-in-Sees.new.opened)
    (sym (first_of c.args.steps.now c.first-item.result c.in-len1-up.len_at_least c.first-item.is
    ∙ ap (λ s. s ∷ others c.args.steps.now) c.in-Sees.is)) h)
    c.add_names-in-Sees.ensures.added

pub returns-in_err-add_name-in-Names-clause-left : goal.returns-in_err-add_name-in-Names-clause-left
returns-in_err-add_name-in-Names-clause-left t c =
    let b = c.args.bound.now in
    exit_more _ _ c.from_residual.ensures.1 (λ why.
    subst (λ ss. NamesLeft c.args.model.now b.place b.opening b.whole.now b.arm.now (names_in ss) c.args.opened.now.types c.args.opened.now.names)
    (sym (first_of c.args.steps.now c.first-item.result c.in-len1-up.len_at_least c.first-item.is
    ∙ ap (λ s. s ∷ others c.args.steps.now) c.in-Names.is))
    (name_here why)) c.in_err-add_name-in-Names.ensures.left

pub returns-in_ok-add_name-in-Names-clause-left : goal.returns-in_ok-add_name-in-Names-clause-left
returns-in_ok-add_name-in-Names-clause-left t c =
    let b = c.args.bound.now in
    last_more c.add_names.result (λ why.
    subst (λ ss. NamesLeft c.args.model.now b.place b.opening b.whole.now b.arm.now (names_in ss) c.args.opened.now.types c.args.opened.now.names)
    (sym (first_of c.args.steps.now c.first-item.result c.in-len1-up.len_at_least c.first-item.is
    ∙ ap (λ s. s ∷ others c.args.steps.now) c.in-Names.is))
    (name_later c.args.model.now b.place b.opening b.whole.now b.arm.now c.in-Names.text (names_in (others c.args.steps.now)) c.args.opened.now
    c.add_name.new.opened c.in_ok-add_name-in-Names.ensures.added why)) c.add_names.ensures.left

pub returns-in-Opens-clause-left : goal.returns-in-Opens-clause-left
returns-in-Opens-clause-left t c =
    let b = c.args.bound.now in
    last_more c.add_names-in-Opens.result (λ why.
    subst (λ ss. NamesLeft c.args.model.now b.place b.opening b.whole.now b.arm.now (names_in ss) c.args.opened.now.types c.args.opened.now.names)
    (sym (first_of c.args.steps.now c.first-item.result c.in-len1-up.len_at_least c.first-item.is
    ∙ ap (λ s. s ∷ others c.args.steps.now) c.in-Opens.is)) why) c.add_names-in-Opens.ensures.left

pub returns-in-Sees-clause-left : goal.returns-in-Sees-clause-left
returns-in-Sees-clause-left t c =
    let b = c.args.bound.now in
    last_more c.add_names-in-Sees.result (λ why.
    subst (λ ss. NamesLeft c.args.model.now b.place b.opening b.whole.now b.arm.now (names_in ss) c.args.opened.now.types c.args.opened.now.names)
    (sym (first_of c.args.steps.now c.first-item.result c.in-len1-up.len_at_least c.first-item.is
    ∙ ap (λ s. s ∷ others c.args.steps.now) c.in-Sees.is)) why) c.add_names-in-Sees.ensures.left
