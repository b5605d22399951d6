use Rattle.std.proofs.Common.{◌≡◌, ◌∙◌, ◌∷◌, [], ap, subst, sym}
use Rattle.std.proofs.lemmas.Result.{IfOk-weaker}
use Rattle.jib_lower.specs.Directions.{WayTaken, types_known}
use Rattle.jib_lower.specs.Left.{WayFunctionLeft, no_body, way_not_made, way_types_unknown}
use Rattle.jib_lower.proofs.Taken.{ok_so}
use Rattle.jib_lower.proofs.Unmade.{exit_more, last_more}
use Rattle.jib_lower.proofs.directions.way_by.Goals as goal

pub way_function-requires : goal.way_function-requires
way_function-requires c = record { body = c.in_ok-body.ensures.body }

pub returns-then-known-clause-known : goal.returns-then-known-clause-known
returns-then-known-clause-known c =
    ok_so c.way_function.result
    (ap (types_known c.args.model.now.numbered.now) (sym c.in_ok-mapped.ensures) ∙ sym c.are_known-known.ensures ∙ c.if-known.true)

pub returns-then-known-clause-taken : goal.returns-then-known-clause-taken
returns-then-known-clause-taken c =
    IfOk-weaker c.way_function.result _ _
    (λ made h. subst (λ x. WayTaken c.args.model.now (c.args.nodes.now ∷ []) c.args.direction.now x c.args.cycle made) c.in_ok-mapped.ensures
    (subst (λ bs. WayTaken c.args.model.now bs c.args.direction.now c.in_ok-mapped.mapped c.args.cycle made) c.from_ref-bodies.ensures.value h))
    c.way_function.ensures.made

pub returns-then-known-clause-left : goal.returns-then-known-clause-left
returns-then-known-clause-left c =
    last_more c.way_function.result
    (λ why. way_not_made (subst (λ x. WayFunctionLeft c.args.model.now (c.args.nodes.now ∷ []) c.args.direction.now x c.args.cycle) c.in_ok-mapped.ensures
    (subst (λ bs. WayFunctionLeft c.args.model.now bs c.args.direction.now c.in_ok-mapped.mapped c.args.cycle) c.from_ref-bodies.ensures.value why)))
    c.way_function.ensures.left

pub returns-clause-left : goal.returns-clause-left
returns-clause-left c =
    way_types_unknown
    (ap (types_known c.args.model.now.numbered.now) (sym c.in_ok-mapped.ensures) ∙ sym c.are_known-known.ensures ∙ c.if-known.false)

pub returns-in_err-body-clause-left : goal.returns-in_err-body-clause-left
returns-in_err-body-clause-left c = exit_more _ _ c.from_residual.ensures.1 no_body c.in_err-body.ensures.left
