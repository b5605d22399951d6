use Rattle.std.proofs.Common.{◌≡◌, ◌∙◌, ◌∷◌, None, Option, Some, ap, if◌then◌else◌, sym, ℕ}
use Rattle.jib_lower.specs.Crossings.{highest_of, is_in, leads_from}
use Rattle.jib_lower.proofs.turned.turned_as.Goals as goal

pub returns-in_ok-behind : goal.returns-in_ok-behind
returns-in_ok-behind c =
    let ns = c.args.numbers.now in let xs = c.args.sized.now.instances in let ms = c.args.sized.now.mappings in
    let number : Option ℕ = Some (highest_of ns xs ms (c.args.direction ∷ leads_from c.args.crossings.now.calls c.args.called.now)) in
    ap (λ n. Some n) (c.highest_with.ensures ∙ ap (λ ds. highest_of ns xs ms (c.args.direction ∷ ds))
    (c.as_slice.ensures ∙ c.in_ok-behind.ensures ∙ ap (λ cs. leads_from cs c.args.called.now) c.as_slice-calls.ensures))
    ∙ sym (ap (λ b. if b then number else None)
    (ap (is_in c.args.direction) (sym c.as_slice-made.ensures) ∙ sym c.is_in-wanted.ensures ∙ c.if-wanted.true))

pub returns-else-wanted : goal.returns-else-wanted
returns-else-wanted c =
    let ns = c.args.numbers.now in let xs = c.args.sized.now.instances in let ms = c.args.sized.now.mappings in
    let number : Option ℕ = Some (highest_of ns xs ms (c.args.direction ∷ leads_from c.args.crossings.now.calls c.args.called.now)) in
    sym (ap (λ b. if b then number else None)
    (ap (is_in c.args.direction) (sym c.as_slice-made.ensures) ∙ sym c.is_in-wanted.ensures ∙ c.if-wanted.false))
