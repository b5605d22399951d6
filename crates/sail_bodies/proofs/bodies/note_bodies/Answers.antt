use Rattle.std.proofs.Common.{◌≡◌, ◌+◌, ◌∷◌, drop, sym, ap, ◌∙◌}
use Rattle.std.proofs.lemmas.List.{drop_more}
use Rattle.sail_kinds.specs.Failures.{first_failure}
use Rattle.sail_names.specs.Known.{known_of}
use Rattle.type_definitions.specs.Defined.{held}
use Rattle.sail_kinds.proofs.Firsts.{first_failure_append}
use Rattle.sail_bodies.specs.Bodies.{body_failures, body_failures_from}
use Rattle.sail_bodies.proofs.bodies.note_bodies.Goals as goal

pub loop-number-preserved : goal.loop-number-preserved
loop-number-preserved c =
    let given = c.args.given in
    let text = given.definitions.now in
    let known = known_of given.names.now in
    let types = held given.types.now in
    let at = c.loop-number.number in
    let d = c.definition-item.result in
    let rest = drop (at + 1) text in
    let next : drop at text ≡ d ∷ rest = drop_more text at d c.loop-number-test.true ∙ ap (λ x. x ∷ rest) (sym c.definition-item.is) in
    ap (λ kept. first_failure kept (body_failures_from text known types (at + 1) rest)) c.in_ok-note_definition.ensures
    ∙ sym (first_failure_append c.loop-number.first.error (body_failures text known types at d) (body_failures_from text known types (at + 1) rest))
    ∙ ap (λ left. first_failure c.loop-number.first.error (body_failures_from text known types at left)) (sym next) ∙ c.loop-number.invariant
