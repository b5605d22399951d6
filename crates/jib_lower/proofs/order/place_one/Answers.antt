use Rattle.std.proofs.Common.{◌≡◌, ◌∙◌, ◌∷◌, ◌++◌, [], ap, if◌then◌else◌, sym}
use Rattle.std.proofs.lemmas.Result.{on_ok_weaker}
use Rattle.jib_lower.specs.Rounds.{is_ready}
use Rattle.jib_lower.proofs.order.place_one.Goals as goal

pub returns-then-ready-clause-placed : goal.returns-then-ready-clause-placed
returns-then-ready-clause-placed c =
    let ds = c.args.placed.now in
    on_ok_weaker c.push.result
    (λ (e : c.push.new.self ≡ ds ++ c.args.direction ∷ []). e
    ∙ sym (ap (λ b. if b then ds ++ c.args.direction ∷ [] else ds)
    (ap (λ xs. is_ready c.args.calls.now xs c.args.direction) (sym c.as_slice.ensures) ∙ sym c.is_ready-ready.ensures ∙ c.if-ready.true)))
    c.push.ensures.pushed

pub returns-then-ready-clause-left : goal.returns-then-ready-clause-left
returns-then-ready-clause-left c =
    let ds = c.args.left.now in
    on_ok_weaker c.push.result
    (λ e. sym (ap (λ b. if b then ds else ds ++ c.args.direction ∷ [])
    (ap (λ xs. is_ready c.args.calls.now xs c.args.direction) (sym c.as_slice.ensures) ∙ sym c.is_ready-ready.ensures ∙ c.if-ready.true)))
    c.push.ensures.pushed

pub returns-else-ready-clause-placed : goal.returns-else-ready-clause-placed
returns-else-ready-clause-placed c =
    let ds = c.args.placed.now in
    on_ok_weaker c.push-else-ready.result
    (λ e. sym (ap (λ b. if b then ds ++ c.args.direction ∷ [] else ds)
    (ap (λ xs. is_ready c.args.calls.now xs c.args.direction) (sym c.as_slice.ensures) ∙ sym c.is_ready-ready.ensures ∙ c.if-ready.false)))
    c.push-else-ready.ensures.pushed

pub returns-else-ready-clause-left : goal.returns-else-ready-clause-left
returns-else-ready-clause-left c =
    let ds = c.args.left.now in
    on_ok_weaker c.push-else-ready.result
    (λ (e : c.push-else-ready.new.self ≡ ds ++ c.args.direction ∷ []). e
    ∙ sym (ap (λ b. if b then ds else ds ++ c.args.direction ∷ [])
    (ap (λ xs. is_ready c.args.calls.now xs c.args.direction) (sym c.as_slice.ensures) ∙ sym c.is_ready-ready.ensures ∙ c.if-ready.false)))
    c.push-else-ready.ensures.pushed
