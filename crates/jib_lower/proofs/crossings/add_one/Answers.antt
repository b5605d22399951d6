use Rattle.std.proofs.Common.{◌≡◌, ◌∙◌, ◌∷◌, ◌++◌, [], ap, if◌then◌else◌, sym}
use Rattle.std.proofs.lemmas.Result.{on_ok_weaker}
use Rattle.jib_lower.specs.Crossings.{is_in}
use Rattle.jib_lower.proofs.crossings.add_one.Goals as goal

pub returns-then-there : goal.returns-then-there
returns-then-there c =
    let ds = c.args.seen.now in
    sym (ap (λ b. if b then ds else ds ++ c.args.direction ∷ [])
    (ap (is_in c.args.direction) (sym c.as_slice.ensures) ∙ sym c.is_in-there.ensures ∙ c.if-there.true))

pub returns-else-there : goal.returns-else-there
returns-else-there c =
    let ds = c.args.seen.now in
    on_ok_weaker c.push.result
    (λ (e : c.push.new.self ≡ ds ++ c.args.direction ∷ []). e
    ∙ sym (ap (λ b. if b then ds else ds ++ c.args.direction ∷ [])
    (ap (is_in c.args.direction) (sym c.as_slice.ensures) ∙ sym c.is_in-there.ensures ∙ c.if-there.false)))
    c.push.ensures.pushed
