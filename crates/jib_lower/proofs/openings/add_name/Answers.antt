use Rattle.std.proofs.Common.{◌∙◌, ◌++◌, ◌∷◌, [], ap, refl, subst}
use Rattle.jib_lower.specs.Lowered.{NameMade}
use Rattle.jib_lower.proofs.Growth.{name_added}
use Rattle.jib_lower.specs.Left.{name_no_type, name_not_made}
use Rattle.jib_lower.proofs.Unmade.{exit_more}
use Rattle.jib_lower.specs.Left.{HeldAs, NoHeld}
use Rattle.jib_lower.proofs.openings.add_name.Goals as goal

pub name_function-requires : goal.name_function-requires
name_function-requires c = record { steps = c.steps_of-steps.ensures }

pub returns-clause-added : goal.returns-clause-added
returns-clause-added c =
    let b = c.args.bound.now in
    let steps = c.steps_of-steps.result.now in
    name_added c.args.model.now b.place b.opening b.whole.now _ c.args.text.now c.in_ok-function.function c.args.opened.now c.push_opening.new.opened _
    (subst (λ ss. NameMade c.args.model.now b.place b.opening b.whole.now ss c.args.text.now c.args.opened.now.types c.args.opened.now.names
    c.in_ok-function.function) c.steps_of-steps.ensures c.in_ok-function.ensures.made)
    c.in_ok-push_opening.ensures refl refl refl refl
    (c.in_ok-push.ensures.pushed ∙ ap (λ n. c.push_opening.new.opened.names ++ n ∷ []) (c.in_ok-number.ensures ∙ c.len-count.ensures))

pub returns-in_err-typ-clause-left : goal.returns-in_err-typ-clause-left
returns-in_err-typ-clause-left c =
    let b = c.args.bound.now in
    exit_more _ _ c.from_residual.ensures.1
    (λ none. name_no_type (subst (λ ss. NoHeld c.args.model.now b.whole.now ss c.args.text.now c.args.opened.now.types c.args.opened.now.names)
    c.steps_of-steps.ensures none)) c.in_err-typ.ensures.left

pub returns-in_err-function-clause-left : goal.returns-in_err-function-clause-left
returns-in_err-function-clause-left c =
    let b = c.args.bound.now in
    exit_more _ _ c.from_residual-in_err-function.ensures.1
    (λ why. name_not_made (record { placed = refl; opening = refl; whole_is = refl; steps_are = c.steps_of-steps.ensures; text_is = refl })
    (subst (λ ss. HeldAs c.args.model.now b.whole.now ss c.args.text.now c.args.opened.now.types c.args.opened.now.names c.in_ok-typ.typ)
    c.steps_of-steps.ensures c.in_ok-typ.ensures.typ) why) c.in_err-function.ensures.left
