use Rattle.std.proofs.Common.{◌≡◌, ◌∷◌, [], ◌++◌, length, cond, bytes_eq, rules, refl, sym, ap, ◌∙◌, subst}
use Rattle.scattered.specs.Openings.{Opening}
use Rattle.scattered.specs.Latest.{latest_at, latest_with, AreStanding}
use Rattle.scattered.proofs.Stacks.{opened, latest_after}
use Rattle.scattered.proofs.standing.Standing.open.Goals as goal

pub returns-clause-stand : goal.returns-clause-stand
returns-clause-stand c =
    let names = c.args.self.now.names in
    let before = c.args.self.now.before.items in
    let name = c.args.name.now in
    let opening : Opening = record { number = length before; scattered = c.args.scattered; name = name } in
    let long : c.len-number.result ≡ length before = search rules in
    let value : c.with.result ≡ latest_with (latest_at names name) c.args.scattered (length before) =
    c.with.ensures ∙ (λ i. latest_with (c.latest-latest.ensures i) c.args.scattered (long i)) in
    λ standing h. subst (λ b. AreStanding (latest_at c.insert.new.self) b (opening ∷ standing))
    (sym (c.in_ok-push.ensures.items ∙ ap (λ latest. before ++ latest ∷ []) c.latest-latest.ensures))
    (opened (latest_at names) (latest_at c.insert.new.self) before standing opening refl
    (λ other. latest_after names c.insert.new.self name c.with.result c.in_ok-insert.ensures.updates other
    ∙ ap (λ latest. cond (bytes_eq name other) latest (latest_at names other)) value) h)
