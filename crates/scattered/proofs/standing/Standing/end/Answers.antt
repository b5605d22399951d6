use Rattle.std.proofs.Common.{◌≡◌, get_or, cond, bytes_eq, rules, sym, ap, ◌∙◌}
use Rattle.scattered.specs.Latest.{no_latest, latest_at}
use Rattle.scattered.proofs.Stacks.{end_found, nothing_ended, ended, latest_after}
use Rattle.scattered.proofs.standing.Standing.end.Goals as goal

pub returns-in-None-clause-opening : goal.returns-in-None-clause-opening
returns-in-None-clause-opening c =
    λ standing h. sym c.in-None.is ∙ ap (λ latest. latest.any) c.latest.ensures
    ∙ end_found (latest_at c.args.self.now.names) c.args.self.now.before.items standing c.args.name.now h

pub returns-in-None-clause-stand : goal.returns-in-None-clause-stand
returns-in-None-clause-stand c =
    λ standing h. nothing_ended (latest_at c.args.self.now.names) c.args.self.now.before.items standing c.args.name.now
    (sym (ap (λ latest. latest.any) c.latest.ensures) ∙ c.in-None.is) h

pub returns-in_ok-insert-in-Some-clause-opening : goal.returns-in_ok-insert-in-Some-clause-opening
returns-in_ok-insert-in-Some-clause-opening c =
    λ standing h. sym c.in-Some.is ∙ ap (λ latest. latest.any) c.latest.ensures
    ∙ end_found (latest_at c.args.self.now.names) c.args.self.now.before.items standing c.args.name.now h

pub returns-in_ok-insert-in-Some-clause-stand : goal.returns-in_ok-insert-in-Some-clause-stand
returns-in_ok-insert-in-Some-clause-stand c =
    let names = c.args.self.now.names in
    let before = c.args.self.now.before.items in
    let name = c.args.name.now in
    let was : c.unwrap_or-before.result ≡ get_or before c.in-Some.number no_latest = search rules in
    λ standing h. ended (latest_at names) (latest_at c.insert.new.self) before standing name c.in-Some.number
    (sym (ap (λ latest. latest.any) c.latest.ensures) ∙ c.in-Some.is)
    (λ other. latest_after names c.insert.new.self name c.unwrap_or-before.result c.in_ok-insert-in-Some.ensures.updates other
    ∙ ap (λ latest. cond (bytes_eq name other) latest (latest_at names other)) was) h
